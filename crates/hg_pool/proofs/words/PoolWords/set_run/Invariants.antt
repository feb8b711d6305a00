use Rattle.std.proofs.Common.{◌≡◌, ◌⊎◌, ◌+◌, ◌-◌, ◌<◌, ◌≤◌, ℕ}
use Rattle.hg_cells.specs.Cells.{IsWithin}
use Rattle.hg_pool.specs.Kept.{IsFaithful, Went}
use Rattle.hg_pool.specs.Maps.{disk_of, live}
use Rattle.hg_pool.specs.OfWords.{IsKept, MayBring}
use Rattle.hg_pool.proofs.words.PoolWords.set_run.Given as goal

-- the words before this one have the cell
abbrev pub invariant-loop-word : goal.invariant-loop-word
invariant-loop-word g l =
    (l.first ≤ l.word)
    × (l.word ≤ l.first + l.count)
    × ((w : ℕ) → l.first ≤ w → w < l.word → live g.D.Disk l.self w ≡ l.cell)
    × ((w : ℕ) → (w < l.first) ⊎ (l.word ≤ w) → live g.D.Disk l.self w ≡ live g.D.Disk l.fn.self w)
    × ((w : ℕ) → IsKept l.fn.self w → IsKept l.self w)
    × ((n m : ℕ) → IsWithin n m l.cell → MayBring l.fn.self n m → MayBring l.self n m)
    × ((n m : ℕ) → IsWithin n m l.cell → IsFaithful g.D.Disk l.fn.self n m → IsFaithful g.D.Disk l.self n m)
    × Went g.D.Disk l.fn.self l.self
    × (g.D.Disk.failures (disk_of l.self) ≡ g.D.Disk.failures (disk_of l.fn.self))

abbrev pub decreases-loop-word : goal.decreases-loop-word
decreases-loop-word g l = l.first + l.count - l.word
