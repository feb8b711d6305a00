use Rattle.std.proofs.Common.{length}
use Rattle.hg_desk.proofs.shared.+audit_durable.Given as goal

abbrev pub decreases-audit_durable : goal.decreases-audit_durable
decreases-audit_durable g l = length l.shares.now
