use Rattle.std.proofs.Common.{subst}
use Rattle.hg_pool.specs.Calls.{MovesPages}
use Rattle.hg_pool.specs.Shown.{ShownPool}
use Rattle.hg_pool.specs.Sound.{shown_of}
use Rattle.hg_pool.proofs.pool.Pool.evict.Goals as goal

pub returns-clause-moves : goal.returns-clause-moves
returns-clause-moves g c = subst (λ (p : ShownPool g.row.D.Denot). MovesPages g.D.Disk 1 p (shown_of c.evict.new.self) c.evict.result) c.self.view_is c.evict.ensures.moves
