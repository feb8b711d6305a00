use Rattle.hg_disk.proofs.Tearing.{fills_by_failed_write}
use Rattle.hg_disk.proofs.tear.Tear.fail_write.Goals as goal

pub returns-in-Fill : goal.returns-in-Fill
returns-in-Fill c = fills_by_failed_write _ c.in-Fill.byte c.args.at c.args.len c.args.torn.now.items _ c.in-Fill.is c.blot_within.ensures
