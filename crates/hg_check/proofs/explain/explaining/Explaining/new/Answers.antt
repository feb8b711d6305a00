use Rattle.std.proofs.Common.{sym, subst}
use Rattle.hg_check.specs.Running.{IsStart}
use Rattle.hg_check.proofs.explain.explaining.Explaining.new.Goals as goal

pub returns-clause-start : goal.returns-clause-start
returns-clause-start c =
    subst IsStart (sym c.behind.ensures.detector) (record { content = c.in_ok-detector.ensures.content; sets = c.in_ok-detector.ensures.sets })
