use Rattle.hg_sets.proofs.Remembering.{answered_ok, keeps}
use Rattle.hg_sets.proofs.table.SetTable.join.Goals as goal

pub returns-2-clause-number : goal.returns-2-clause-number
returns-2-clause-number c = answered_ok c.args.self.now c.join_anew.new.self _ _ c.join_anew.ensures.exact

pub returns-2-clause-kept : goal.returns-2-clause-kept
returns-2-clause-kept c = keeps c.args.self.now c.join_anew.new.self _ _ c.join_anew.ensures.exact
