use Rattle.std.proofs.Common.{⊎_elim, arith}
use Rattle.hg_options.proofs.matches.race.Goals as goal

pub returns-then-number-eq0 : goal.returns-then-number-eq0
returns-then-number-eq0 c m s above below =
    ⊎_elim (λ is. absurd (omega (arith, is.1, c.if-number-eq0.true))) (λ none. none.1 m s above below) c.wide_number-number.ensures
