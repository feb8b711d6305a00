use Rattle.std.proofs.Common.{◌≡◌, ap, ◌∙◌, map, take, length, arith}
use Rattle.std.proofs.Math.Seq.{take-length}
use Rattle.hg_shards.specs.Merging.{head_of}
use Rattle.hg_shards.proofs.Leaving.{all_left, begins}
use Rattle.hg_shards.proofs.merge.Merge.new.Goals as goal

pub invariant_of-result : goal.invariant_of-result
invariant_of-result c =
    let all : c.loop-list.list-index ≡ length c.args.lists.now = omega arith in
    begins c.args.lists.now c.in_ok-given.given.items c.loop-list.heads.items c.requires (c.in_ok-given.ensures.items_if_clones_equal (λ y h. h))
    (c.loop-list.invariant ∙ ap (map (λ list. head_of list.items)) (ap (λ n. take n c.args.lists.now) all ∙ take-length c.args.lists.now))

pub returns : goal.returns
returns c = all_left c.args.lists.now c.in_ok-given.given.items (c.in_ok-given.ensures.items_if_clones_equal (λ y h. h))
