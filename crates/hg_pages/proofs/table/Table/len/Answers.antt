use Rattle.std.proofs.Common.{subst}
use Rattle.hg_pages.specs.Tables.{AreEntries, ShownTable}
use Rattle.hg_pages.proofs.Places.{are_entries}
use Rattle.hg_pages.proofs.table.Table.len.Goals as goal

pub returns-clause-entries : goal.returns-clause-entries
returns-clause-entries c = subst (λ (s : ShownTable). AreEntries s.entries) c.self.view_is (are_entries c.self.inside.entries.items c.self.invariant.0)
