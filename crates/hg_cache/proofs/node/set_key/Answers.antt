use Rattle.std.proofs.Common.{◌≡◌, ◌∙◌, get_or, set, true, ap}
use Rattle.std.proofs.lemmas.List.{get_or_default}
use Rattle.hg_cache.specs.declared.node.Node.{Node}
use Rattle.hg_cache.specs.Rings.{blank}
use Rattle.hg_cache.proofs.node.set_key.Goals as goal

pub returns : goal.returns
returns c =
    let ns = c.args.nodes.now.items in
    let p = c.args.place in
    let read : c.index.result.now ≡ get_or ns p blank = c.index.ensures ∙ get_or_default ns p c.index.result.now blank c.requires in
    ap (λ (n : Node). set ns p (record { key = c.args.key; newer = n.newer; older = n.older; is_used = true })) read
