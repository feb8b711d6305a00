use Rattle.std.proofs.Common.{refl}
use Rattle.hg_check.proofs.Sinking.{takes_line}
use Rattle.hg_check.proofs.checking.CheckingSink.offer_access.Goals as goal

pub returns : goal.returns
returns g c = record { takes = takes_line c.args.self.now _ c.args._output.now.calls _ c.apply_access.result c.apply_access.ensures.steps c.apply_access.ensures.fault refl refl refl }
