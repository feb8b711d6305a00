use Rattle.std.proofs.Common.{subst}
use Rattle.hg_pool.specs.Calls.{WritesPages}
use Rattle.hg_pool.specs.Shown.{ShownPool}
use Rattle.hg_pool.specs.Sound.{shown_of}
use Rattle.hg_pool.proofs.pool.Pool.seal.Goals as goal

pub invariant_of-self : goal.invariant_of-self
invariant_of-self g c = (c.seal.ensures.sound, c.seal.ensures.reached c.self.invariant.1)

pub returns-clause-writes : goal.returns-clause-writes
returns-clause-writes g c = subst (λ (p : ShownPool g.row.D.Denot). WritesPages g.D.Disk p (shown_of c.seal.new.self) c.seal.result) c.self.view_is c.seal.ensures.writes
