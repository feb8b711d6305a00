use Rattle.std.proofs.Common.{◌≡◌, ◌<◌, ℕ, Some, map, slice_get}
use Rattle.hg_pages.specs.Tables.{IsNamed, ShownTable}
use Rattle.hg_pages.proofs.slot_file.end_of_run.Given as goal

abbrev pub invariant-loop-table : goal.invariant-loop-table
invariant-loop-table l = l.from < 1048576 → (i : ℕ) (table : ShownTable) → i < l.table-index → slice_get (map (λ t. t.now) l.tables) i ≡ Some table → ¬ IsNamed table.entries l.from
