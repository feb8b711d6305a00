use Rattle.std.proofs.Common.{◌≡◌, take}
use Rattle.hg_checkpoint.specs.Tables.{pages_of}
use Rattle.hg_checkpoint.proofs.rows.pages_in.Given as goal

abbrev pub invariant-loop-i : goal.invariant-loop-i
invariant-loop-i l = l.pages.items ≡ pages_of (take l.i l.table.entries)
