use Rattle.hg_pages.specs.Tables.{EachNamed, IsNamed}
use Rattle.hg_pages.proofs.table.Table.end_of_named.Given as goal

abbrev pub invariant-loop-slot : goal.invariant-loop-slot
invariant-loop-slot l = EachNamed (IsNamed l.self.entries) l.from l.slot
