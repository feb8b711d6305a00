use Rattle.std.proofs.Common.{◌∙◌, map, sym}
use Rattle.hg_journal.specs.Journal.{batch_text}
use Rattle.hg_journal.proofs.Journaling.{told_damaged}
use Rattle.hg_journal.proofs.journal.Journal.attach.Goals as goal

pub returns-in-Err-attach-clause-damaged : goal.returns-in-Err-attach-clause-damaged
returns-in-Err-attach-clause-damaged g c honest same events is =
    c.in-Err-attach.ensures.damaged honest (told_damaged c.in-Err-attach.fault (sym c.refusal_of.ensures ∙ same)) (map batch_text is.batches) is.log
