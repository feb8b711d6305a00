use Rattle.std.proofs.Common.{◌<◌, ◌≤◌, ◌-◌, ℕ, get_or, length}
use Rattle.hg_pages.proofs.entries.count_below.Given as goal

-- those before `low` are below the page, and those from `high` on are not
abbrev pub invariant-loop-low : goal.invariant-loop-low
invariant-loop-low l =
    (l.low ≤ l.high) × (l.high ≤ length l.entries.items) × ((k : ℕ) (d : ℕ × ℕ) → k < l.low → (get_or l.entries.items k d).0 < l.page)
    × ((k : ℕ) (d : ℕ × ℕ) → l.high ≤ k → k < length l.entries.items → l.page ≤ (get_or l.entries.items k d).0)

abbrev pub decreases-loop-low : goal.decreases-loop-low
decreases-loop-low l = l.high - l.low
