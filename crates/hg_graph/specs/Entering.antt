-- Where a thread comes behind a segment of another one.
use Rattle.std.specs.Prelude.{ℕ, zero, suc, ◌-◌, Bool, false, ◌&&◌, ◌||◌, ◌==◌, nat_le, List, length, slice_index_or, if◌then◌else◌}
use Rattle.std.specs.List.{list_any}
use Rattle.hg_model.specs.declared.segment.Segment.{Segment}
use Rattle.hg_model.specs.Segments.{thread_at}
use Rattle.hg_model.specs.Paths.{reaches}

-- the least of n numbers from k on at which a test holds; k + n where there is none
abbrev pub least : ℕ → ℕ → (ℕ → Bool) → ℕ
least k zero holds = k
least k (suc n) holds = if holds k then k else least (suc k) n holds

-- segment h is of the thread of g, and s reaches it
abbrev pub is_behind : List Segment → ℕ → ℕ → ℕ → Bool
is_behind segments s g h = (thread_at segments h == thread_at segments g) && reaches segments s h

-- The first segment of the thread of g that s reaches: g itself where none before it is.
abbrev pub entry : List Segment → ℕ → ℕ → ℕ
entry segments s g = least 0 g (is_behind segments s g)

-- For proofs alone. A segment stands right behind those of `before`. The row says of each one from `from` on, and before it, whether it
-- is reached; the first is.
abbrev pub goes_on : List Bool → ℕ → List ℕ → Bool
goes_on reached from before = (length reached == 0) || list_any (λ x. nat_le from x && slice_index_or reached (x - from) false) before
