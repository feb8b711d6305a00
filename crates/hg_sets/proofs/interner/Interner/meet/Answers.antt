use Rattle.std.proofs.Common.{[]}
use Rattle.std.specs.List.Sorted.{IsStrictlyIncreasing}
use Rattle.hg_sets.proofs.Rising.{common-increasing}
use Rattle.hg_sets.proofs.interner.Interner.meet.Goals as goal

pub intern_scratch-requires-clause-rising : goal.intern_scratch-requires-clause-rising
intern_scratch-requires-clause-rising c =
    let set_rises : IsStrictlyIncreasing c.get.result.now = rw c.get.ensures (c.requires.sound.sets.rising c.args.a [] c.requires.known) in
    rw c.write_common.ensures.items (common-increasing _ _ set_rises)
