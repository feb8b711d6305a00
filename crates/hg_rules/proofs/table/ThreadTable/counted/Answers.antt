use Rattle.std.proofs.Common.{sym, ◌∙◌}
use Rattle.hg_rules.proofs.table.ThreadTable.counted.Goals as goal

pub returns-in-Some-clause-value : goal.returns-in-Some-clause-value
returns-in-Some-clause-value c = c.counted.ensures.value ∙ sym (c.in-Some.ensures.counted c.args.write)

pub returns-in-None-clause-value : goal.returns-in-None-clause-value
returns-in-None-clause-value c = sym (c.in-None.ensures.counted c.args.write)
