use Rattle.std.proofs.Common.{sym}
use Rattle.hg_rules.proofs.Uses.{any_reading, any_writing}
use Rattle.hg_rules.proofs.table.ThreadTable.is_held_for_writing.Goals as goal

pub returns-in-Reading : goal.returns-in-Reading
returns-in-Reading c = sym (any_reading c.args.self.now c.args.l c.in-Reading.field-0 (sym c.in-Reading.ensures)).1

pub returns-in-Writing : goal.returns-in-Writing
returns-in-Writing c = sym (any_writing c.args.self.now c.args.l (sym c.in-Writing.ensures)).1
