use Rattle.std.proofs.Common.{ap, subst}
use Rattle.hg_pages.specs.Tables as tables
use Rattle.hg_pages.specs.Tables.{AreEntries}
use Rattle.hg_pool.specs.Shown.{ShownPool}
use Rattle.hg_pool.proofs.Naming.{is_nameable}
use Rattle.hg_pool.specs.Tables.{IsNameable}
use Rattle.hg_pool.proofs.pool.Pool.frozen_table.Goals as goal

pub returns-clause-nameable : goal.returns-clause-nameable
returns-clause-nameable g c =
    let p = c.self.inside.parts in
    let entries = subst AreEntries (ap (λ (t : tables.ShownTable). t.entries) c.frozen_table-table.ensures) c.len-entries.ensures.entries in
    subst (λ (s : ShownPool g.row.D.Denot). IsNameable s.slots s.frozen) c.self.view_is (is_nameable p.slots _ entries c.self.invariant.0.frozen_below c.self.invariant.0.most_slots)
