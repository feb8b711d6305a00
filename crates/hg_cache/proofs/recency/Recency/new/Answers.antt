use Rattle.std.proofs.Common.{◌≡◌, ◌+◌, false, replicate, refl}
use Rattle.hg_cache.specs.declared.node.Node.{Node}
use Rattle.hg_cache.proofs.Steps.{fresh}
use Rattle.hg_cache.proofs.recency.Recency.new.Goals as goal

pub invariant_of-result : goal.invariant_of-result
invariant_of-result c =
    let items = c.in_ok-vec-2.field-0.items in
    let first : Node = record { key = 0; newer = c.args.most; older = c.args.most; is_used = false } in
    let same : items ≡ replicate (c.args.most + 1) first = c.in_ok-vec-2.ensures.items_if_clones_equal (λ y is. is) in
    fresh c.args.most items c.in_ok-with_capacity.field-0.entries first refl refl refl same c.requires.some c.ranges.most.fits c.in_ok-with_capacity.ensures.empty
