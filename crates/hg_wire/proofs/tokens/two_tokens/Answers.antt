use Rattle.std.proofs.Common.{sym, [], ◌∷◌}
use Rattle.hg_wire.proofs.CountLemmas.{counted_after, too_many}
use Rattle.hg_wire.proofs.tokens.two_tokens.Goals as goal

pub returns-in_err-first : goal.returns-in_err-first
returns-in_err-first c = rw c.from_residual.ensures (λ a b. c.in_err-first.ensures a (b ∷ []))

pub returns-in_err-second : goal.returns-in_err-second
returns-in_err-second c =
    rw c.from_residual-in_err-second.ensures (λ a b. counted_after a (b ∷ []) _ _ _ c.in_ok-first.ensures.0 (c.in_err-second.ensures b []))

pub returns-then-is_some : goal.returns-then-is_some
returns-then-is_some c = λ a b. counted_after a (b ∷ []) _ _ _ c.in_ok-first.ensures.0 (counted_after b [] _ _ _ c.in_ok-second.ensures.0 (too_many c.in_ok-second.rest (sym c.if-is_some.ensures)))
