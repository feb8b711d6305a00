use Rattle.std.proofs.Common.{[], ◌∷◌}
use Rattle.hg_wire.proofs.CountLemmas.{counted_after}
use Rattle.hg_wire.proofs.tokens.three_tokens.Goals as goal

pub returns-in_err-first : goal.returns-in_err-first
returns-in_err-first c = rw c.from_residual.ensures (λ a b d. c.in_err-first.ensures a (b ∷ d ∷ []))

pub returns-in_err-second : goal.returns-in_err-second
returns-in_err-second c =
    rw c.from_residual-in_err-second.ensures (λ a b d. counted_after a (b ∷ d ∷ []) _ _ _ c.in_ok-first.ensures.0 (c.in_err-second.ensures b d))
