-- Words of one page that all have one cell there.
use Rattle.std.proofs.Common.{◌≡◌, ◌+◌, ◌-◌, ◌/◌, ◌%◌, ◌<◌, ◌≤◌, ◌∙◌, ℕ, Option, ap, subst, arith}
use Rattle.hg_disk.specs.declared.disk.Disk as disk
use Rattle.hg_cells.specs.declared.cell.Cell.{Cell}
use Rattle.hg_cells.specs.Cells.{IsWithin}
use Rattle.hg_cells.specs.Words.{HaveCell, IsWithinWhere}
use Rattle.hg_cache.specs.declared.frame.Frame.{Frame}
use Rattle.hg_cache.specs.Frames.{HasCell}
use Rattle.hg_pages.specs.Tables.{slot_in}
use Rattle.hg_pool.specs.Maps.{bytes_of, in_frame_or, in_slot, live, live_at}
use Rattle.hg_pool.specs.OfWords.{MayBring}
use Rattle.hg_pool.specs.Shown.{ShownPool}
use Rattle.hg_pool.proofs.Overlapping.{got}

-- words of one page that have a cell there have it in the live map
pub words_have : {D : Type 0} (g : disk.Ghosts D) (p : ShownPool D) (first count : ℕ) (cell : Cell) → count ≤ 256 - first % 256 → HasCell p.frames (first / 256) (first % 256) (first % 256 + count) cell → HaveCell (live g p) first count cell
words_have g p first count cell few has w at lt =
    let page : w / 256 ≡ first / 256 = omega (arith, few, at, lt) in
    let low : first % 256 ≤ w % 256 = omega (arith, few, at, lt) in
    let high : w % 256 < first % 256 + count = omega (arith, few, at, lt) in
    ap (λ (q : ℕ). live_at (bytes_of g p) p q (w % 256)) page
    ∙ ap (λ (o : Option Frame). in_frame_or o (in_slot (bytes_of g p) (slot_in p.live (first / 256)) (w % 256)) (w % 256)) has.1
    ∙ got has.0.cells (w % 256) cell (has.2 (w % 256) low high)

-- and it is one of the page's cells
pub page_has : {D : Type 0} (p : ShownPool D) (first count : ℕ) (cell : Cell) → 0 < count → HasCell p.frames (first / 256) (first % 256) (first % 256 + count) cell → IsWithinWhere (MayBring p) cell
page_has p first count cell some has n m within =
    subst (λ (x : Cell). IsWithin n m x) (got has.0.cells (first % 256) cell (has.2 (first % 256) (omega arith) (omega (arith, some)))) (within (first / 256) has.0 has.1 (first % 256))
