use Rattle.std.proofs.Common.{refl, subst, ℕ}
use Rattle.hg_journals.specs.Attaching.{HasUpTo}
use Rattle.hg_journals.proofs.Finding.{keeps_both}
use Rattle.hg_journals.proofs.attach.of_open.Goals as goal

pub returns-clause-keeps : goal.returns-clause-keeps
returns-clause-keeps g c one other =
    let former = subst (λ (n : ℕ). HasUpTo c.args.former.journal c.args.former.base n) c.requires.joins.0 one in
    keeps_both g.D.Disk _ refl refl c.requires.joins.1 former other
