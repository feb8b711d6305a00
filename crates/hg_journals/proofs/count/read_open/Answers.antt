use Rattle.std.proofs.Common.{IsTrue, Err, ap, subst, ◌∙◌}
use Rattle.hg_journal.specs.Reading.{disk_of}
use Rattle.hg_journals.proofs.Finding.{none_found}
use Rattle.hg_journals.proofs.count.read_open.Goals as goal

pub returns-in-Err-clause-damaged : goal.returns-in-Err-clause-damaged
returns-in-Err-clause-damaged g c honest opens fits told =
    none_found c.args.base (g.D.Disk.state (disk_of c.args.journal)).contents opens.0 fits opens.1.reads.has
    (c.find_last.ensures.damaged (subst (λ d. IsTrue (g.D.Disk.reads_were_true d)) c.into_disk.ensures honest) opens (c.in-Err.is ∙ ap (λ r. Err r) told))
