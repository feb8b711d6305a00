-- The last segment of each thread. (No promise to a reader rests on this file.)
use Rattle.std.specs.Prelude.{◌≡◌, ℕ, ◌<◌, ◌≤◌, Bool, true, ◌&&◌, List, length, Option, None, slice_index_or}
use Rattle.hg_model.specs.declared.limits.TheConstants.{THREAD_NUMBERS}
use Rattle.hg_model.specs.declared.segment.Mark.{Mark}
use Rattle.hg_model.specs.declared.segment.Mark.TheVariants.{Plain, Sent, Got}
use Rattle.hg_model.specs.declared.segment.Segment.{Segment}
use Rattle.hg_model.specs.Restoring.{is_behind_own}
use Rattle.hg_graph.specs.Restoring.{AreSegments, are_predecessors, former, has_former, has_thread}

-- the table has it at each thread's number
pub record IsLastTable (segments : List Segment) (lasts : List (Option ℕ)) : Type 0 where
  pub len : length lasts ≡ THREAD_NUMBERS
  pub each : (t : ℕ) → t < THREAD_NUMBERS → slice_index_or lasts t None ≡ former segments t

-- P holds of each list of segments whose last ones are in the table.
abbrev pub ForTable : List (Option ℕ) → (List Segment → Type 0) → Type 0
ForTable lasts P = (segments : List Segment) → IsLastTable segments lasts → P segments

-- what is sent is sent from the sender's own segment alone
abbrev pub sends_lawfully : List Segment → Mark → Segment → Bool
sends_lawfully earlier Plain s = true
sends_lawfully earlier (Sent k) s = is_behind_own earlier s.thread s.before
sends_lawfully earlier (Got k) s = true

-- the segment may stand behind these, but for the number of its message, if `last` is the former segment of its thread
abbrev pub may_stand : List Segment → Segment → Option ℕ → Bool
may_stand earlier s last =
    has_thread (length earlier) s.thread && (are_predecessors (length earlier) s.before && (has_former last s.before && sends_lawfully earlier s.mark s))

-- Their number is allowed, but one of them may not follow those before it.
abbrev pub AreNoSegments : (most : ℕ) → List Segment → Type 0
AreNoSegments most segments = 1 ≤ length segments → length segments ≤ most → ¬ AreSegments segments
