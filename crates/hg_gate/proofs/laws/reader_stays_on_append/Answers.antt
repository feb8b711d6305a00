use Rattle.hg_gate.proofs.Turning.{stays_on_append}
use Rattle.hg_gate.proofs.laws.reader_stays_on_append.Goals as goal

pub returns : goal.returns
returns c = stays_on_append
