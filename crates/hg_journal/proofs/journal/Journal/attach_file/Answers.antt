use Rattle.std.proofs.Common.{◌∙◌, sym}
use Rattle.hg_journal.proofs.Filing.{no_file}
use Rattle.hg_journal.proofs.Journaling.{told_damaged}
use Rattle.hg_journal.proofs.journal.Journal.attach_file.Goals as goal

pub returns-in-Err-attach_file-clause-damaged : goal.returns-in-Err-attach_file-clause-damaged
returns-in-Err-attach_file-clause-damaged g c honest same =
    no_file (g.D.Disk.state c.args.disk).contents (c.in-Err-attach_file.ensures.damaged honest (told_damaged c.in-Err-attach_file.fault (sym c.refusal_of.ensures ∙ same)))
