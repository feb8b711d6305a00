-- The laws of a map of words, for pages in memory.
use Rattle.std.proofs.Common.{◌≡◌, ℕ, ◌≤◌, arith}
use Rattle.hg_model.specs.declared.verdict.Refusal.TheVariants.{FullSets, OutOfMemory}
use Rattle.hg_cells.specs.declared.cell.Cell.{Cell}
use Rattle.hg_cells.specs.declared.cell.Cell.TheVariants.{New, Exclusive, SharedRead, SharedModified}
use Rattle.hg_cells.specs.Cells.{IsWithin}
use Rattle.hg_cells.specs.declared.paged.PagedWords.{PagedWords}
use Rattle.hg_cells.specs.Paged.{AreWithin, cell_in}

-- a cell within some counts is within greater ones
pub within_more : (n m more_n more_m : ℕ) (cell : Cell) → n ≤ more_n → m ≤ more_m → IsWithin n m cell → IsWithin more_n more_m cell
within_more n m more_n more_m New a b h = tt
within_more n m more_n more_m (Exclusive s) a b h = omega arith
within_more n m more_n more_m (SharedRead t l) a b h = (let x = h.0 in omega arith, let y = h.1 in omega arith)
within_more n m more_n more_m (SharedModified t l) a b h = (let x = h.0 in omega arith, let y = h.1 in omega arith)

-- more segments and sets are no obstacle
pub more_within : (words : PagedWords) (segments sets more_segments more_sets : ℕ) → segments ≤ more_segments → sets ≤ more_sets → AreWithin words segments sets → AreWithin words more_segments more_sets
more_within words segments sets more_segments more_sets a b h = λ w. within_more segments sets more_segments more_sets (cell_in words w) a b (h w)

-- each cell of a faithful map names only what is there
pub each_within : (words : PagedWords) (segments sets : ℕ) → AreWithin words segments sets → (w : ℕ) → IsWithin segments sets (cell_in words w)
each_within words segments sets h = h

-- OutOfMemory is not FullSets
pub never_full : FullSets ≡ OutOfMemory → ⊥
never_full h = absurd (cc)
