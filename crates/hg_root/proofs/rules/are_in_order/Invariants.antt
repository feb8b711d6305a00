use Rattle.std.proofs.Common.{◌≡◌, ◌<◌, ◌+◌, ℕ, slice_get, Some}
use Rattle.hg_cells.specs.declared.report.KeptReport.{KeptReport}
use Rattle.hg_root.specs.Lawful.{IsBefore}
use Rattle.hg_root.proofs.rules.are_in_order.Given as goal

abbrev pub invariant-loop-i : goal.invariant-loop-i
invariant-loop-i l = (k : ℕ) (a b : KeptReport) → k + 1 < l.i → slice_get l.reports k ≡ Some a → slice_get l.reports (k + 1) ≡ Some b → IsBefore a b
