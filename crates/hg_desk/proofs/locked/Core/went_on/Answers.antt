use Rattle.hg_desk.specs.Going.{moments_of}
use Rattle.hg_desk.proofs.locked.Core.went_on.Goals as goal

pub returns : goal.returns
returns g c = (moments_of c.self.inside.steps, rw (← c.self.view_is) c.self.invariant.since)
