use Rattle.hg_check.proofs.LifeSinking.{takes_line}
use Rattle.hg_check.proofs.explain.explaining.ExplainingSink.offer.Goals as goal

pub returns : goal.returns
returns g c = record { takes = takes_line c.args.self.now _ c.args._output.now.calls _ c.pass.result c.requires.room.0 c.pass.ensures }
