use Rattle.std.proofs.Common.{take}
use Rattle.hg_pages.specs.Marks.{AreMarks}
use Rattle.hg_pages.proofs.table.Table.from_entries.Given as goal

abbrev pub invariant-loop-entry : goal.invariant-loop-entry
invariant-loop-entry l = AreMarks l.named.items (take l.entry-index l.fn.entries.items)
