use Rattle.hg_disk.proofs.Tearing.{fills_by_write}
use Rattle.hg_disk.proofs.tear.Tear.write.Goals as goal

pub returns-in-Fill : goal.returns-in-Fill
returns-in-Fill c = fills_by_write _ _ c.in-Fill.byte c.args.left c.args.at c.args.bytes.now c.args.torn.now.items _ c.in-Fill.is c.blot_write.ensures
