use Rattle.hg_pool.specs.Sound.{shown_of}
use Rattle.hg_pool.proofs.Picked.{IsPicking}
use Rattle.hg_pool.proofs.parts.Parts.pick.Given as goal

abbrev pub invariant-loop-i : goal.invariant-loop-i
invariant-loop-i g l = IsPicking (shown_of l.self) l.pages.entries l.picks.entries l.i l.from
