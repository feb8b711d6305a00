use Rattle.std.proofs.Common.{⊎_elim, sym, ◌∙◌, arith}
use Rattle.std.proofs.lemmas.Bool.{false≢true}
use Rattle.hg_options.proofs.matches.place.Goals as goal

pub returns-clause-none : goal.returns-clause-none
returns-clause-none c = (
  λ m s above below. ⊎_elim (λ is. absurd (omega (arith, is.1, c.if-port-gt0.false))) (λ none. none.1 m s above below) c.number-port.ensures,
  λ is. false≢true (sym c.if-is_socket.false ∙ c.is_socket.ensures.1 is),
)
