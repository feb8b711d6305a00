use Rattle.std.proofs.Common.{◌≤◌, ◌-◌, map}
use Rattle.hg_pages.specs.Tables.{EachNamed, SomeNames}
use Rattle.hg_pages.proofs.slot_file.SlotFile.free_slot_from.Given as goal

abbrev pub invariant-loop-slot : goal.invariant-loop-slot
invariant-loop-slot g l = (l.from ≤ l.slot) × EachNamed (SomeNames (map (λ t. t.now) l.tables)) l.from l.slot

abbrev pub decreases-loop-slot : goal.decreases-loop-slot
decreases-loop-slot g l = 1048576 - l.slot
