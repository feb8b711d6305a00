use Rattle.std.proofs.Common.{◌≡◌, ◌≤◌, ℕ, length, is_some, take, None, if◌then◌else◌}
use Rattle.hg_pages.specs.Tables.{slot_in}
use Rattle.hg_pool.proofs.freezing.without.Given as goal

abbrev pub invariant-loop-i : goal.invariant-loop-i
invariant-loop-i l = record {
  looks : (q : ℕ) → slot_in l.left.entries q ≡ (if is_some (slot_in (take l.i l.pages.entries) q) then None else slot_in l.table.entries q);
  fewer : length l.left.entries ≤ length l.table.entries;
}
