use Rattle.hg_root.proofs.Rising.{RisesTo}
use Rattle.hg_root.proofs.rules.pages_rise.Given as goal

abbrev pub invariant-loop-i : goal.invariant-loop-i
invariant-loop-i l = RisesTo (λ p. p.page) l.pages l.i
