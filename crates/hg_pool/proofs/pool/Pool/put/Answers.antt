use Rattle.std.proofs.Common.{◌≡◌, ℕ, List, Some, IfOk, subst}
use Rattle.hg_cells.specs.declared.cell.Cell.{Cell}
use Rattle.hg_pages.specs.Slots.{slot_text}
use Rattle.hg_pages.specs.Tables.{slot_in}
use Rattle.hg_pool.specs.declared.job.Put.TheVariants.{Stale}
use Rattle.hg_pool.specs.Answers.{IsFrozen}
use Rattle.hg_pool.specs.Kept.{CellsFrom}
use Rattle.hg_pool.specs.Calls.{WritesPages}
use Rattle.hg_pool.specs.Shown.{ShownPool}
use Rattle.hg_pool.specs.Sound.{shown_of}
use Rattle.hg_pool.proofs.pool.Pool.put.Goals as goal

pub returns-clause-stale : goal.returns-clause-stale
returns-clause-stale g c =
    let e = c.args.page.now in
    subst (λ (p : ShownPool g.row.D.Denot). IfOk c.put.result (λ put. put ≡ Stale → (slot : ℕ) (cells : List Cell) → slot_in p.waiting e.page ≡ Some slot → IsFrozen p e.page cells → e.bytes ≡ slot_text e.page cells → ⊥)) c.self.view_is
    c.put.ensures.stale

pub invariant_of-self : goal.invariant_of-self
invariant_of-self g c = (c.put.ensures.sound, c.put.ensures.reached c.self.invariant.1)

pub returns-clause-cells : goal.returns-clause-cells
returns-clause-cells g c = subst (λ (p : ShownPool g.row.D.Denot). CellsFrom p.frames c.put.new.self.frames.entries) c.self.view_is c.put.ensures.cells

pub returns-clause-writes : goal.returns-clause-writes
returns-clause-writes g c = subst (λ (p : ShownPool g.row.D.Denot). WritesPages g.D.Disk p (shown_of c.put.new.self) c.put.result) c.self.view_is c.put.ensures.writes
