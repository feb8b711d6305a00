use Rattle.hg_model.proofs.Reported.{words_lem}
use Rattle.hg_model.proofs.laws.accesses_have_their_words.Goals as goal

pub returns : goal.returns
returns c = words_lem
