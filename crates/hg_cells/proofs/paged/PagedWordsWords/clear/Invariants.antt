use Rattle.std.proofs.Common.{◌≡◌, ◌⊎◌, ◌-◌, ◌/◌, ◌<◌, ◌≤◌, ℕ}
use Rattle.hg_cells.specs.declared.cell.Cell.TheVariants.{New}
use Rattle.hg_cells.specs.Paged.{cell_in}
use Rattle.hg_cells.proofs.paged.PagedWordsWords.clear.Given as goal

-- the words before this one are new
abbrev pub invariant-loop-word : goal.invariant-loop-word
invariant-loop-word l =
    (l.at / 4 ≤ l.word)
    × (l.word ≤ l.end)
    × ((w : ℕ) → l.at / 4 ≤ w → w < l.word → cell_in l.self w ≡ New)
    × ((w : ℕ) → (w < l.at / 4) ⊎ (l.word ≤ w) → cell_in l.self w ≡ cell_in l.fn.self w)

abbrev pub decreases-loop-word : goal.decreases-loop-word
decreases-loop-word l = l.end - l.word
