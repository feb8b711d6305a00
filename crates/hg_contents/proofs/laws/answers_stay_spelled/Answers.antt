use Rattle.hg_contents.proofs.lawful.Staying.{one_stays}
use Rattle.hg_contents.proofs.lawful.Tables.{answered}
use Rattle.hg_contents.proofs.laws.answers_stay_spelled.Goals as goal

pub returns : goal.returns
returns c = λ content n old new answer state fits accepted asks all. answered content n old new answer (one_stays content n state fits accepted).spelled asks all
