use Rattle.std.proofs.Common.{sym}
use Rattle.hg_rules.proofs.Uses.{any_reading, any_writing}
use Rattle.hg_rules.proofs.table.ThreadTable.is_held.Goals as goal

pub returns-in-Reading : goal.returns-in-Reading
returns-in-Reading c = sym (any_reading c.args.self.now c.args.l c.in-Reading.readers (sym c.in-Reading.ensures)).0

pub returns-in-Writing : goal.returns-in-Writing
returns-in-Writing c = sym (any_writing c.args.self.now c.args.l (sym c.in-Writing.ensures)).0
