use Rattle.hg_model.proofs.PlainWords.{segments_keep_their_numbers_lem}
use Rattle.hg_model.proofs.laws.segments_keep_their_numbers.Goals as goal

pub returns : goal.returns
returns c = segments_keep_their_numbers_lem
