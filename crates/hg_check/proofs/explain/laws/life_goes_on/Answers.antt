use Rattle.hg_check.proofs.GoingOn.{hidden_counted, life_goes_on}
use Rattle.hg_check.proofs.explain.laws.life_goes_on.Goals as goal

pub returns-clause-goes_on : goal.returns-clause-goes_on
returns-clause-goes_on c w form table a b lines leads = life_goes_on w form table a b 0 lines leads

pub returns-clause-counted : goal.returns-clause-counted
returns-clause-counted c w form a n lines = hidden_counted w form a n lines
