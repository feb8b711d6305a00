use Rattle.std.proofs.Common.{◌<◌, ◌≤◌, ⊎_elim, arith}
use Rattle.hg_pages.proofs.Searching.{before_or_behind}
use Rattle.hg_pages.proofs.slot_file.SlotFile.free_slot_from.Goals as goal

pub loop-slot-preserved : goal.loop-slot-preserved
loop-slot-preserved g c = (
  omega (arith, c.loop-slot.invariant.0, c.end_of_run-end.ensures.within.0),
  λ slot le lt.
      ⊎_elim (λ (before : slot < c.loop-slot.slot). c.loop-slot.invariant.1 slot le before)
      (λ (behind : c.loop-slot.slot ≤ slot). c.end_of_run-end.ensures.named slot behind lt)
      (before_or_behind slot c.loop-slot.slot),
)
