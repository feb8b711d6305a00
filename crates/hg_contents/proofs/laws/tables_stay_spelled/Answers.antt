use Rattle.hg_contents.proofs.lawful.Staying.{one_stays}
use Rattle.hg_contents.proofs.lawful.Tables.{tables}
use Rattle.hg_contents.proofs.laws.tables_stay_spelled.Goals as goal

pub returns : goal.returns
returns c = λ content n old new refused state fits accepted asks all. tables content n old new refused (one_stays content n state fits accepted).spelled asks all
