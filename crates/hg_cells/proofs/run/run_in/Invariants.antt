use Rattle.std.proofs.Common.{◌≡◌, ℕ, ◌<◌, ◌≤◌, Some, slice_get}
use Rattle.hg_cells.proofs.run.run_in.Given as goal

-- those so far have the cell
abbrev pub invariant-loop-next : goal.invariant-loop-next
invariant-loop-next l = (i : ℕ) → l.from ≤ i → i < l.next → slice_get l.page i ≡ Some l.cell
