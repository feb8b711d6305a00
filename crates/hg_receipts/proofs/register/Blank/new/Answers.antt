use Rattle.std.proofs.Common.{[], ◌∷◌}
use Rattle.hg_receipts.proofs.Moves.{begins}
use Rattle.hg_receipts.proofs.register.Blank.new.Goals as goal

pub of_words-requires : goal.of_words-requires
of_words-requires c = begins (0 ∷ [])
