use Rattle.hg_check.proofs.Outcome.{checks_somewhere}
use Rattle.hg_check.proofs.laws.every_text_has_an_outcome.Goals as goal

pub returns : goal.returns
returns c = λ bytes. checks_somewhere bytes
