use Rattle.hg_journal.proofs.Filing as filing
use Rattle.hg_journal.proofs.laws.one_file.Goals as goal

pub returns : goal.returns
returns c = filing.one_file
