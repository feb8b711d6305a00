use Rattle.std.proofs.Common.{length}
use Rattle.hg_wire.proofs.diagnosis.+first_empty.Given as goal

abbrev pub decreases-first_empty : goal.decreases-first_empty
decreases-first_empty l = length l.line.now
