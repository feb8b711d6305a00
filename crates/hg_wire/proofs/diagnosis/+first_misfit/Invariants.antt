use Rattle.std.proofs.Common.{length}
use Rattle.hg_wire.proofs.diagnosis.+first_misfit.Given as goal

abbrev pub decreases-first_misfit : goal.decreases-first_misfit
decreases-first_misfit l = length l.widths.now
