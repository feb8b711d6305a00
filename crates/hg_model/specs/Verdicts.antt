-- The verdict on an offered event: the trace rules and the limits, in the order in which they are tested.
use Rattle.std.specs.Prelude.{◌≡◌, ℕ, ◌+◌, ◌^◌, Bool, false, ◌&&◌, ◌||◌, not, ◌==◌, nat_lt, nat_le, List, [], ◌∷◌, length, slice_index, if◌then◌else◌}
use Rattle.std.specs.List.{list_any}
use Rattle.hg_model.specs.declared.limits.TheConstants.{GREATEST_ACCESS, GREATEST_BLOCK, GREATEST_SOURCE, GREATEST_THREAD, MOST_EVENTS, MOST_HELD, MOST_SEGMENTS}
use Rattle.hg_model.specs.declared.event.Event.{Event}
use Rattle.hg_model.specs.declared.event.Event.TheVariants.{Fork, Join, Lock, RdLock, Unlock, Read, Write, Alloc, Free, Send, Recv}
use Rattle.hg_model.specs.declared.event.Named.{Named}
use Rattle.hg_model.specs.Locks.{has_lock, has_lock_for_writing}
use Rattle.hg_model.specs.declared.thread.ThreadState.{ThreadState}
use Rattle.hg_model.specs.declared.verdict.Refusal.{Refusal}
use Rattle.hg_model.specs.declared.verdict.Refusal.TheVariants.{Gap, BadNumber, BadLength, AddressEnd, NoThread, ChildUsed, SelfJoin, ChildNotAlive, ChildHoldsLocks, AlreadyHeld, LockBusy, NotHeld, FullHeld, FullSegments, FullEvents, MessageUsed, NotSent, MessageTaken}
use Rattle.hg_model.specs.declared.verdict.Verdict.{Verdict}
use Rattle.hg_model.specs.declared.verdict.Verdict.TheVariants.{Accept, Duplicate, Refuse}
use Rattle.hg_model.specs.Messages.{at, is_taken, is_there, was_received, was_sent}
use Rattle.hg_model.specs.Contents.{Content, summary}
use Rattle.hg_model.specs.Parts.{Parts}

-- What a verdict depends on.
pub record Standing : Type 0 where
  pub events : ℕ
  pub segments : ℕ
  pub threads : List ThreadState
  pub last : ℕ → ℕ
  pub sent : ℕ → Bool
  pub received : ℕ → Bool

-- what a verdict reads of a content
abbrev pub standing_of : Content → Standing
standing_of c = record { events = c.events; segments = length c.segments; threads = c.threads; last = c.last; sent = was_sent c.segments; received = was_received c.segments }

-- what a verdict reads of the parts of a trace state
abbrev pub standing : Parts → Standing
standing p = record { events = p.events; segments = p.segments; threads = p.threads; last = slice_index p.last; sent = λ k. is_there (at p.messages k); received = λ k. is_taken (at p.messages k) }

-- the thread that acts
abbrev pub actor : Event → ℕ
actor (Fork p c) = p
actor (Join p c) = p
actor (Lock t l) = t
actor (RdLock t l) = t
actor (Unlock t l) = t
actor (Read a) = a.t
actor (Write a) = a.t
actor (Alloc b) = b.t
actor (Free b) = b.t
actor (Send t k) = t
actor (Recv t k) = t

-- a thread of this number was started, and the test holds of it
abbrev pub has_thread : List ThreadState → ℕ → (ThreadState → Bool) → Bool
has_thread threads t test = list_any (λ x. (x.number == t) && test x) threads

-- above the greatest number of a thread
abbrev pub is_bad_thread : ℕ → Bool
is_bad_thread t = nat_lt GREATEST_THREAD t

-- above the greatest number of a source
abbrev pub is_bad_source : ℕ → Bool
is_bad_source source = nat_lt GREATEST_SOURCE source

-- the source or a thread of the event has a number above the limit
abbrev pub bad_number : ℕ → Event → Bool
bad_number source (Fork p c) = is_bad_source source || is_bad_thread p || is_bad_thread c
bad_number source (Join p c) = is_bad_source source || is_bad_thread p || is_bad_thread c
bad_number source e = is_bad_source source || is_bad_thread (actor e)

-- The length is that of no access, or of no block: each has a byte at least.
abbrev pub bad_length : Event → Bool
bad_length (Read a) = (a.len == 0) || nat_lt GREATEST_ACCESS a.len
bad_length (Write a) = (a.len == 0) || nat_lt GREATEST_ACCESS a.len
bad_length (Alloc b) = (b.len == 0) || nat_lt GREATEST_BLOCK b.len
bad_length (Free b) = (b.len == 0) || nat_lt GREATEST_BLOCK b.len
bad_length _ = false

-- the bytes pass the end of the addresses
abbrev pub passes_end : ℕ → ℕ → Bool
passes_end at len = nat_lt (2 ^ 64) (at + len)

-- the bytes of the event pass the end of the addresses
abbrev pub past_address_end : Event → Bool
past_address_end (Read a) = passes_end a.at a.len
past_address_end (Write a) = passes_end a.at a.len
past_address_end (Alloc b) = passes_end b.at b.len
past_address_end (Free b) = passes_end b.at b.len
past_address_end _ = false

-- the acting thread is not alive
abbrev pub no_thread : List ThreadState → Event → Bool
no_thread threads e = not (has_thread threads (actor e) (λ x. x.alive))

-- the forked thread was used before
abbrev pub child_used : List ThreadState → Event → Bool
child_used threads (Fork p c) = list_any (λ x. x.number == c) threads
child_used threads _ = false

-- a thread joins itself
abbrev pub self_join : Event → Bool
self_join (Join p c) = p == c
self_join _ = false

-- the joined thread is not alive
abbrev pub child_not_alive : List ThreadState → Event → Bool
child_not_alive threads (Join p c) = not (has_thread threads c (λ x. x.alive))
child_not_alive threads _ = false

-- the joined thread holds a lock
abbrev pub child_holds_locks : List ThreadState → Event → Bool
child_holds_locks threads (Join p c) = has_thread threads c (λ x. nat_lt 0 (length x.held))
child_holds_locks threads _ = false

-- the thread holds the lock that it asks for, in any mode
abbrev pub already_held : List ThreadState → Event → Bool
already_held threads (Lock t l) = has_thread threads t (λ x. has_lock x.held l)
already_held threads (RdLock t l) = has_thread threads t (λ x. has_lock x.held l)
already_held threads _ = false

-- a lock is busy where some thread holds it, a read lock where some thread holds it for writing
abbrev pub lock_busy : List ThreadState → Event → Bool
lock_busy threads (Lock t l) = list_any (λ x. has_lock x.held l) threads
lock_busy threads (RdLock t l) = list_any (λ x. has_lock_for_writing x.held l) threads
lock_busy threads _ = false

-- the thread does not hold the lock that it gives up
abbrev pub not_held : List ThreadState → Event → Bool
not_held threads (Unlock t l) = not (has_thread threads t (λ x. has_lock x.held l))
not_held threads _ = false

-- the thread holds as many locks as it may
abbrev pub full_held : List ThreadState → Event → Bool
full_held threads (Lock t l) = has_thread threads t (λ x. nat_le MOST_HELD (length x.held))
full_held threads (RdLock t l) = has_thread threads t (λ x. nat_le MOST_HELD (length x.held))
full_held threads _ = false

-- the message was sent before
abbrev pub message_used : (ℕ → Bool) → Event → Bool
message_used sent (Send t k) = sent k
message_used sent _ = false

-- the message was not sent
abbrev pub not_sent : (ℕ → Bool) → Event → Bool
not_sent sent (Recv t k) = not (sent k)
not_sent sent _ = false

-- the message was received before
abbrev pub message_taken : (ℕ → Bool) → Event → Bool
message_taken received (Recv t k) = received k
message_taken received _ = false

-- the new segments would pass the limit: a fork opens two, and a join, a send and a receive one
abbrev pub full_segments : ℕ → Event → Bool
full_segments segments (Fork p c) = nat_lt MOST_SEGMENTS (segments + 2)
full_segments segments (Join p c) = nat_lt MOST_SEGMENTS (segments + 1)
full_segments segments (Send t k) = nat_lt MOST_SEGMENTS (segments + 1)
full_segments segments (Recv t k) = nat_lt MOST_SEGMENTS (segments + 1)
full_segments segments _ = false

-- 2^58 events were accepted
abbrev pub full_events : ℕ → Bool
full_events events = nat_le MOST_EVENTS events

-- Causes for a refusal are tested in this order: the event's form, the threads, the locks, the messages and limits. Here the last
-- group.
abbrev pub message_causes : Standing → Event → List (Bool × Refusal)
message_causes s e =
    (message_used s.sent e, MessageUsed) ∷ (not_sent s.sent e, NotSent) ∷ (message_taken s.received e, MessageTaken)
    ∷ (full_segments s.segments e, FullSegments) ∷ (full_events s.events, FullEvents) ∷ []

-- the causes that lie in the locks, and then those in the messages and limits
abbrev pub lock_causes : Standing → Event → List (Bool × Refusal)
lock_causes s e =
    (already_held s.threads e, AlreadyHeld) ∷ (lock_busy s.threads e, LockBusy) ∷ (not_held s.threads e, NotHeld)
    ∷ (full_held s.threads e, FullHeld) ∷ message_causes s e

-- the causes that lie in the threads, and then those in the locks, the messages and limits
abbrev pub thread_causes : Standing → Event → List (Bool × Refusal)
thread_causes s e =
    (no_thread s.threads e, NoThread) ∷ (child_used s.threads e, ChildUsed) ∷ (self_join e, SelfJoin)
    ∷ (child_not_alive s.threads e, ChildNotAlive) ∷ (child_holds_locks s.threads e, ChildHoldsLocks) ∷ lock_causes s e

-- all causes, the first in the order of testing first
abbrev pub causes : Standing → Named → List (Bool × Refusal)
causes s n =
    (bad_number n.source n.event, BadNumber) ∷ (bad_length n.event, BadLength) ∷ (past_address_end n.event, AddressEnd)
    ∷ thread_causes s n.event

-- the first cause that applies
abbrev pub first_cause : List (Bool × Refusal) → Verdict
first_cause [] = Accept
first_cause (cause ∷ later) = if cause.0 then Refuse cause.1 else first_cause later

-- A number at or below the source's last accepted one is a duplicate, and a number above the next one is a gap.
abbrev pub verdict : Standing → Named → Verdict
verdict s n =
    if nat_le n.number (s.last n.source) then Duplicate (s.last n.source)
    else if nat_lt (s.last n.source + 1) n.number then Refuse (Gap (s.last n.source + 1))
    else first_cause (causes s n)

-- The event may be the next one where a content has these parts.
abbrev pub MayBeNext : Parts → Named → Type 0
MayBeNext p n = verdict (standing p) n ≡ Accept

-- Each event of the trace is accepted after those before it.
abbrev pub IsAccepted : List Named → Type 0
IsAccepted [] = Unit {0}
IsAccepted (n ∷ past) = IsAccepted past × (verdict (standing_of (summary past)) n ≡ Accept)

-- In some standing with these threads, the event is accepted.
abbrev pub MayFollow : List ThreadState → Event → Type 0
MayFollow threads e = (s : Standing) × (n : Named) × (s.threads ≡ threads) × (n.event ≡ e) × (verdict s n ≡ Accept)
