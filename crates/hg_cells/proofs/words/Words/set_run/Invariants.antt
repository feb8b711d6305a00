use Rattle.std.proofs.Common.{◌≡◌, ◌⊎◌, ◌+◌, ◌<◌, ◌≤◌, ℕ}
use Rattle.hg_cells.specs.Cells.{IsWithin}
use Rattle.hg_cells.proofs.words.Words.set_run.Given as goal

-- the words before this one have the cell
abbrev pub invariant-loop-word : goal.invariant-loop-word
invariant-loop-word g l =
    ((w : ℕ) → l.first ≤ w → w < l.word → g.Self.Words.cell_of l.self w ≡ l.cell)
    × ((w : ℕ) → (w < l.first) ⊎ (l.first + l.count ≤ w) → g.Self.Words.cell_of l.self w ≡ g.Self.Words.cell_of l.fn.self w)
    × ((w : ℕ) → g.Self.Words.is_kept l.fn.self w → g.Self.Words.is_kept l.self w)
    × ((segments sets : ℕ) → IsWithin segments sets l.cell → g.Self.Words.may_bring l.fn.self segments sets → g.Self.Words.may_bring l.self segments sets)
    × ((segments sets : ℕ) → IsWithin segments sets l.cell → g.Self.Words.is_faithful l.fn.self segments sets → g.Self.Words.is_faithful l.self segments sets)
    × g.Self.Words.went l.fn.self l.self
    × (g.Self.Words.failures l.self ≡ g.Self.Words.failures l.fn.self)
