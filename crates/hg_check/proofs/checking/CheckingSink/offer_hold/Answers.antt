use Rattle.std.proofs.Common.{refl}
use Rattle.hg_check.proofs.Sinking.{takes_line}
use Rattle.hg_check.proofs.checking.CheckingSink.offer_hold.Goals as goal

pub returns : goal.returns
returns g c = record { takes = takes_line c.args.self.now _ c.args._output.now.calls _ c.apply_hold.result c.apply_hold.ensures.steps c.apply_hold.ensures.fault refl refl refl }
