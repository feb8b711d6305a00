use Rattle.std.proofs.Common.{subst}
use Rattle.hg_pool.specs.Picking.{LacksSlots}
use Rattle.hg_pool.specs.Shown.{ShownPool}
use Rattle.hg_pool.proofs.pool.Pool.freeze.Goals as goal

pub returns-clause-full : goal.returns-clause-full
returns-clause-full g c told = subst (λ (p : ShownPool g.row.D.Denot). LacksSlots p) c.self.view_is (c.freeze.ensures.full told)
