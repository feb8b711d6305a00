use Rattle.std.proofs.Common.{refl}
use Rattle.hg_check.proofs.Sinking.{takes_line}
use Rattle.hg_check.proofs.checking.CheckingSink.offer.Goals as goal

pub returns : goal.returns
returns g c = record { takes = takes_line c.args.self.now _ c.args._output.now.calls c.args.reading.now c.apply.result c.apply.ensures.steps c.apply.ensures.fault refl refl refl }
