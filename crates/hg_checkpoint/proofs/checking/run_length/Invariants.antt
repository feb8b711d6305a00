use Rattle.std.proofs.Common.{take}
use Rattle.hg_checkpoint.specs.Runs.{LieSideBySide}
use Rattle.hg_checkpoint.proofs.checking.run_length.Given as goal

abbrev pub invariant-loop-count : goal.invariant-loop-count
invariant-loop-count l = LieSideBySide (take l.count l.pages)
