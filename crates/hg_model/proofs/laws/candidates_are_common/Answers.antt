use Rattle.hg_model.proofs.PlainWords.{candidates_are_common_lem}
use Rattle.hg_model.proofs.laws.candidates_are_common.Goals as goal

pub returns : goal.returns
returns c = candidates_are_common_lem
