-- Which clocks are needed while those of a restored graph are made. (No promise to a reader rests on this file.)
use Rattle.std.specs.Prelude.{◌≡◌, ◌⊎◌, ℕ, ◌<◌, ◌≤◌, ◌==◌, [], ◌∷◌, List, Contains, length, slice_index_or, if◌then◌else◌}
use Rattle.hg_model.specs.declared.limits.TheConstants.{THREAD_NUMBERS}
use Rattle.hg_model.specs.declared.segment.Segment.{Segment}
use Rattle.hg_model.specs.Paths.{before}
use Rattle.hg_model.specs.Segments.{present}
use Rattle.hg_graph.specs.Clocks.{IsClock}

-- These two are members, or one twice, and there are no others.
pub record AreEnds (xs : List ℕ) (a b : ℕ) : Type 0 where
  pub first : Contains xs a
  pub last : Contains xs b
  pub only : (x : ℕ) → Contains xs x → (x ≡ a) ⊎ (x ≡ b)

-- No segment below n stands behind one whose last use is earlier.
pub record AreUses (segments : List Segment) (n : ℕ) (late : List ℕ) : Type 0 where
  pub rows : length late ≡ length segments
  pub each : (g a : ℕ) → g < n → Contains (before segments g) a → g ≤ slice_index_or late a 0

-- The last use of each segment's clock: no segment behind it needs the clock. The present segments' are needed at the end.
pub record AreLastUses (segments : List Segment) (late : List ℕ) : Type 0 where
  pub uses : AreUses segments (length segments) late
  pub ends : (t : ℕ) → t < THREAD_NUMBERS → length segments ≤ slice_index_or late (present segments t) 0

-- the clocks of the segments below n that are needed from n on
pub record AreNeeded (segments : List Segment) (late : List ℕ) (n : ℕ) (clocks : List (List ℕ)) : Type 0 where
  pub rows : length clocks ≡ n
  pub each : (s : ℕ) → s < n → n ≤ slice_index_or late s 0 → IsClock segments s (slice_index_or clocks s [])

-- The clocks of the segments below n, of which those are known that stand right before n.
pub record AreBehind (segments : List Segment) (n : ℕ) (clocks : List (List ℕ)) : Type 0 where
  pub rows : length clocks ≡ n
  pub each : (a : ℕ) → Contains (before segments n) a → IsClock segments a (slice_index_or clocks a [])

-- Clocks that are needed behind segment n stay as they were.
pub record KeepsNeeded (late : List ℕ) (n : ℕ) (old new : List (List ℕ)) : Type 0 where
  pub rows : length new ≡ length old
  pub each : (s : ℕ) → n < slice_index_or late s 0 → slice_index_or new s [] ≡ slice_index_or old s []

-- Two threads have the same present segment only where that is segment 0.
abbrev pub AreApart : List ℕ → Type 0
AreApart table = (t u : ℕ) → t < THREAD_NUMBERS → u < THREAD_NUMBERS → slice_index_or table t 0 ≡ slice_index_or table u 0 → 0 < slice_index_or table t 0 → t ≡ u

-- the clock of segment p, which is the first one where p is 0
abbrev pub clock_at : List (List ℕ) → ℕ → List ℕ
clock_at clocks p = if p == 0 then 1 ∷ [] else slice_index_or clocks p []

-- At the place of each thread stands the clock of its present segment.
pub record AreMoved (table : List ℕ) (clocks moved : List (List ℕ)) : Type 0 where
  pub rows : length moved ≡ THREAD_NUMBERS
  pub each : (t : ℕ) → t < THREAD_NUMBERS → slice_index_or moved t (1 ∷ []) ≡ clock_at clocks (slice_index_or table t 0)
