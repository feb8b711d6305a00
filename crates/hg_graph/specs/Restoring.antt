-- What restoring a graph requires of its segments.
use Rattle.std.specs.Prelude.{◌≡◌, ℕ, Bool, true, false, ◌&&◌, ◌==◌, nat_lt, List, [], ◌∷◌, length, take, slice_get, Option, Some, None, if◌then◌else◌}
use Rattle.std.specs.List.{list_any}
use Rattle.hg_model.specs.declared.limits.TheConstants.{THREAD_NUMBERS}
use Rattle.hg_model.specs.Segments.{present}
use Rattle.hg_model.specs.declared.segment.Segment.{Segment}
use Rattle.hg_model.specs.Restoring.{marks_lawfully}
use Rattle.hg_graph.specs.Graph.{names}

-- the last of these segments that is of thread t, where there is one
abbrev pub former : List Segment → ℕ → Option ℕ
former segments t = if names segments t then Some (present segments t) else None

-- The predecessors of segment n: none for segment 0, else one or two that rise, each below n.
abbrev pub are_predecessors : ℕ → List ℕ → Bool
are_predecessors n [] = n == 0
are_predecessors n (a ∷ []) = nat_lt a n
are_predecessors n (a ∷ b ∷ []) = nat_lt a b && nat_lt b n
are_predecessors n _ = false

-- the former segment, if there is one, is among these
abbrev pub has_former : Option ℕ → List ℕ → Bool
has_former None before = true
has_former (Some s) before = list_any (λ k. k == s) before

-- segment 0 is of thread 0, each other of any thread
abbrev pub has_thread : ℕ → ℕ → Bool
has_thread n t = nat_lt t (if n == 0 then 1 else THREAD_NUMBERS)

-- A segment may come after these: its predecessors are among them, and have the former segment of its thread, if there is one. Its mark
-- may stand there.
abbrev pub stands_behind : List Segment → Segment → Bool
stands_behind earlier s = has_thread (length earlier) s.thread && (are_predecessors (length earlier) s.before && (has_former (former earlier s.thread) s.before && marks_lawfully earlier s.mark s))

-- Each segment may come after those before it.
abbrev pub AreSegments : List Segment → Type 0
AreSegments segments = (k : ℕ) (s : Segment) → slice_get segments k ≡ Some s → stands_behind (take k segments) s ≡ true
