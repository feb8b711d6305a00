use Rattle.hg_gate.specs.Batches.{header}
use Rattle.hg_journal.proofs.Journals as journals
use Rattle.hg_journal.proofs.laws.one_reading.Goals as goal

pub returns : goal.returns
returns c = journals.one_reading header
