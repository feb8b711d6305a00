use Rattle.hg_verbose.specs.Holds.{SavesOf}
use Rattle.hg_verbose.proofs.holds.Holds.save_of.Given as goal

abbrev pub invariant-loop-i : goal.invariant-loop-i
invariant-loop-i l = SavesOf l.thread l.initial.self l.self
