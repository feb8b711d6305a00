use Rattle.std.proofs.Common.{length}
use Rattle.hg_wire.proofs.diagnosis.+count_tokens.Given as goal

abbrev pub decreases-count_tokens : goal.decreases-count_tokens
decreases-count_tokens l = length l.line.now
