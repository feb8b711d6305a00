use Rattle.std.proofs.Common.{◌≡◌, take}
use Rattle.hg_checkpoint.specs.NamedPages.{entries_of}
use Rattle.hg_checkpoint.proofs.page_table.table_of.Given as goal

abbrev pub invariant-loop-i : goal.invariant-loop-i
invariant-loop-i l = l.entries.items ≡ entries_of (take l.i l.pages)
