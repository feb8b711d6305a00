use Rattle.std.proofs.Common.{◌≡◌, ◌<◌, ◌∙◌, ℕ, nat_eq, length, get_or, sym, ap, rules}
use Rattle.lru.specs.LruCache.{LruCache}
use Rattle.std.specs.Map.{lookup}
use Rattle.std.proofs.lemmas.List.{get_or_default}
use Rattle.hg_cache.specs.declared.node.Node.{Node}
use Rattle.hg_cache.specs.Rings.{blank, followed, key_at, named}
use Rattle.hg_cache.proofs.Naming.{key_found}
use Rattle.hg_cache.proofs.recency.Recency.place.Goals as goal

pub returns-then-node-key : goal.returns-then-node-key
returns-then-node-key c =
    let r = c.self.inside in
    let ns = r.nodes.items in
    let p = c.hint-place.result in
    let node : Node = c.in-Some.node.now in
    let there : p < length ns = grind rules in
    let read : get_or ns p node ≡ node = grind rules in
    let at : get_or ns p blank ≡ node = get_or_default ns p blank node there ∙ read in
    let listed = c.self.invariant.used p (ap (λ (n : Node). n.is_used) at ∙ c.if-node.true) in
    let found = key_found ns p (followed ns r.end r.count) c.self.invariant.distinct listed in
    let key : key_at ns p ≡ c.args.key = ap (λ (n : Node). n.key) at ∙ c.if-node-key.true in
    sym (ap (λ (x : LruCache ℕ ℕ). lookup (nat_eq c.args.key) x.entries) (sym c.self.view_is) ∙ ap (λ (k : ℕ). lookup (nat_eq k) (named ns (followed ns r.end r.count))) (sym key) ∙ found)
