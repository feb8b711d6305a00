use Rattle.hg_verbose.specs.Holds.{SavesOfEach}
use Rattle.hg_verbose.proofs.holds.Holds.save_all.Given as goal

abbrev pub invariant-loop-i : goal.invariant-loop-i
invariant-loop-i l = SavesOfEach l.threads l.initial.self l.self
