use Rattle.std.proofs.Common.{◌≡◌, ◌⊎◌, ◌+◌, ◌-◌, ◌/◌, ◌<◌, ◌≤◌, ℕ, true, is_some}
use Rattle.hg_cells.specs.Paged.{cell_in, page_of}
use Rattle.hg_cells.proofs.paged.PagedWordsWords.set_run.Given as goal

-- the words before this one have the cell
abbrev pub invariant-loop-word : goal.invariant-loop-word
invariant-loop-word l =
    (l.first ≤ l.word)
    × (l.word ≤ l.first + l.count)
    × ((w : ℕ) → l.first ≤ w → w < l.word → cell_in l.self w ≡ l.cell)
    × ((w : ℕ) → (w < l.first) ⊎ (l.word ≤ w) → cell_in l.self w ≡ cell_in l.fn.self w)
    × ((w : ℕ) → is_some (page_of l.fn.self (w / 256)) ≡ true → is_some (page_of l.self (w / 256)) ≡ true)

abbrev pub decreases-loop-word : goal.decreases-loop-word
decreases-loop-word l = l.first + l.count - l.word
