use Rattle.std.proofs.Common.{true, subst, sym, ◌∙◌}
use Rattle.std.specs.List.Sorted.{IsStrictlyIncreasing}
use Rattle.hg_model.proofs.Rising.{counted_rises}
use Rattle.hg_model.proofs.held.HeldLocks.counted.Goals as goal

pub returns-then-write-clause-rising : goal.returns-then-write-clause-rising
returns-then-write-clause-rising c =
    subst IsStrictlyIncreasing (sym (c.as_slice.ensures.value ∙ c.self.invariant.1)) (counted_rises true c.self.inside.holds.items c.self.invariant.2)
