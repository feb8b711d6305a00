use Rattle.hg_model.proofs.PlainWords.{sets_have_their_numbers_lem}
use Rattle.hg_model.proofs.laws.sets_have_their_numbers.Goals as goal

pub returns : goal.returns
returns c = sets_have_their_numbers_lem
