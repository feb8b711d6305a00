use Rattle.std.proofs.Common.{◌≤◌, subst}
use Rattle.hg_store.specs.Shown.{ShownStore, saved}
use Rattle.hg_desk.proofs.locked.Core.compare.Goals as goal

pub returns-clause-acked : goal.returns-clause-acked
returns-clause-acked g c honest k d lt entry has =
    subst (λ (s : ShownStore g.row.D.Denot). entry.number ≤ (saved g.D.Disk s).last entry.source) c.self.view_is
    (c.self.invariant.acked honest entry (c.compare_each.ensures.among k d lt entry has))
