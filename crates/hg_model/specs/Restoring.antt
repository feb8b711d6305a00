-- What restoring a trace state requires of its parts.
use Rattle.std.specs.Prelude.{◌≡◌, ◌⊎◌, IfErr, ℕ, ◌≤◌, Bool, true, false, ◌&&◌, ◌||◌, ◌==◌, not, nat_lt, List, [], ◌∷◌, Result, length, take, slice_get, Some, if◌then◌else◌}
use Rattle.std.specs.List.{list_any, list_all}
use Rattle.hg_model.specs.declared.limits.TheConstants.{MOST_EVENTS, MOST_SEGMENTS, SOURCE_NUMBERS, THREAD_NUMBERS}
use Rattle.hg_model.specs.declared.held.HeldLock.{HeldLock}
use Rattle.hg_model.specs.declared.thread.ThreadState.{ThreadState}
use Rattle.hg_model.specs.declared.verdict.Refusal.{Refusal}
use Rattle.hg_model.specs.declared.verdict.Refusal.TheVariants.{Damaged, OutOfMemory}
use Rattle.hg_model.specs.Locks.{has_lock, has_lock_for_writing}
use Rattle.hg_model.specs.declared.segment.Mark.{Mark}
use Rattle.hg_model.specs.declared.segment.Mark.TheVariants.{Plain, Sent, Got}
use Rattle.hg_model.specs.declared.segment.Segment.{Segment}
use Rattle.hg_model.specs.Messages.{Messages, was_sent, was_received}
use Rattle.hg_model.specs.Segments.{thread_at}
use Rattle.hg_model.specs.Parts.{Parts}

-- the thread holds the same lock, and at least one of the two holds is for writing
abbrev pub excludes : HeldLock → ThreadState → Bool
excludes h x = if h.write then has_lock x.held h.lock else has_lock_for_writing x.held h.lock

-- a number that a thread may have, and above those of these threads
abbrev pub is_next : List ThreadState → ℕ → Bool
is_next threads t = nat_lt t THREAD_NUMBERS && list_all (λ x. nat_lt x.number t) threads

-- alive, or without a lock
abbrev pub holds_alive : ThreadState → Bool
holds_alive x = x.alive || (length x.held == 0)

-- A thread may come after these: its number is greater, it holds no lock if it is dead, and none of them excludes its locks.
abbrev pub fits : List ThreadState → ThreadState → Bool
fits threads x = is_next threads x.number && (holds_alive x && not (list_any (λ h. list_any (excludes h) threads) x.held))

-- Each thread may come after those before it.
abbrev pub AreThreads : List ThreadState → Type 0
AreThreads threads = (k : ℕ) (x : ThreadState) → slice_get threads k ≡ Some x → fits (take k threads) x ≡ true

-- there is one predecessor, and it is of this thread
abbrev pub is_behind_own : List Segment → ℕ → List ℕ → Bool
is_behind_own earlier t (a ∷ []) = thread_at earlier a == t
is_behind_own earlier t _ = false

-- A segment with this mark may come after these: a message is sent once, and its segment stands behind one of its own thread alone; it
-- is received once, behind its send.
abbrev pub marks_lawfully : List Segment → Mark → Segment → Bool
marks_lawfully earlier Plain s = true
marks_lawfully earlier (Sent k) s = not (was_sent earlier k) && is_behind_own earlier s.thread s.before
marks_lawfully earlier (Got k) s = was_sent earlier k && not (was_received earlier k)

-- Each segment has a mark with which it may come after those before it.
abbrev pub AreLawfullyMarked : List Segment → Type 0
AreLawfullyMarked segments = (k : ℕ) (s : Segment) → slice_get segments k ≡ Some s → marks_lawfully (take k segments) s.mark s ≡ true

-- The parts are in range: the counts, the threads, and a number for each source.
pub record AreInRange (p : Parts) : Type 0 where
  pub events : p.events ≤ MOST_EVENTS
  pub segments : p.segments ≤ MOST_SEGMENTS
  pub threads : AreThreads p.threads
  pub last : length p.last ≡ SOURCE_NUMBERS

-- the parts of a trace state, as it is restored from them
abbrev pub parts_of : ℕ → ℕ → List ThreadState → List ℕ → Messages → Parts
parts_of events segments threads last messages = record { events = events; segments = segments; threads = threads; last = last; messages = messages }

-- The refusal is Damaged, and P does not hold, or it is OutOfMemory.
abbrev pub RefusesUnless : Type 0 → Refusal → Type 0
RefusesUnless P r = ((r ≡ Damaged) × (P → ⊥)) ⊎ (r ≡ OutOfMemory)

-- A refusal is Damaged, and these parts are out of range, or it is OutOfMemory.
abbrev pub RefusesParts : {T : Type 0} → Parts → Result T Refusal → Type 0
RefusesParts parts answer = (p : Parts) → p ≡ parts → IfErr answer (RefusesUnless (AreInRange p))
