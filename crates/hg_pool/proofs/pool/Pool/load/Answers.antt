use Rattle.std.proofs.Common.{◌≡◌, ◌/◌, ℕ, sym, subst}
use Rattle.hg_pages.specs.Slots.{IsKnown}
use Rattle.hg_pool.specs.Kept.{AreWithin, IsWhole}
use Rattle.hg_pool.specs.Maps.{live}
use Rattle.hg_pool.specs.Shown.{ShownPool}
use Rattle.hg_pool.specs.Calls.{LoadsAgain, MovesPages}
use Rattle.hg_pool.specs.Sound.{shown_of}
use Rattle.hg_pool.proofs.pool.Pool.load.Goals as goal

pub returns-clause-within : goal.returns-clause-within
returns-clause-within g c n m a b within =
    c.load.ensures.within n m a b (subst (λ (p : ShownPool g.row.D.Denot). AreWithin p.frames n m) (sym c.self.view_is) within)

pub returns-clause-undamaged : goal.returns-clause-undamaged
returns-clause-undamaged g c h known =
    c.load.ensures.undamaged (subst (λ (p : ShownPool g.row.D.Denot). IsWhole g.D.Disk p) (sym c.self.view_is) h)
    (subst (λ (p : ShownPool g.row.D.Denot). (w : ℕ) → w / 256 ≡ c.args.page → IsKnown c.args.segments c.args.sets.now.sets (live g.D.Disk p w)) (sym c.self.view_is) known)

pub returns-clause-moves : goal.returns-clause-moves
returns-clause-moves g c = subst (λ (p : ShownPool g.row.D.Denot). MovesPages g.D.Disk 2 p (shown_of c.load.new.self) c.load.result) c.self.view_is c.load.ensures.moves

pub returns-clause-again : goal.returns-clause-again
returns-clause-again g c = subst (λ (p : ShownPool g.row.D.Denot). LoadsAgain p (shown_of c.load.new.self) c.args.page c.load.result) c.self.view_is c.load.ensures.again
