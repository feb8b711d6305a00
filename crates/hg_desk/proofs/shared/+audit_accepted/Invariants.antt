use Rattle.std.proofs.Common.{length}
use Rattle.hg_desk.proofs.shared.+audit_accepted.Given as goal

abbrev pub decreases-audit_accepted : goal.decreases-audit_accepted
decreases-audit_accepted g l = length l.shares.now
