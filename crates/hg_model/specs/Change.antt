-- What one accepted event changes, by the state table.
use Rattle.std.specs.Prelude.{ℕ, ◌+◌, Bool, true, false, ◌==◌, ◌&&◌, not, nat_lt, List, [], ◌∷◌, ◌++◌, map, filter, take, length, if◌then◌else◌, ◌*◌, Option, Some, None}
use Rattle.hg_model.specs.declared.limits.TheConstants.{MOST_REPORTS}
use Rattle.hg_model.specs.declared.event.Event.{Event}
use Rattle.hg_model.specs.declared.event.Event.TheVariants.{Fork, Join, Lock, RdLock, Unlock, Read, Write, Alloc, Free}
use Rattle.hg_model.specs.declared.event.Named.{Named}
use Rattle.hg_model.specs.declared.held.HeldLock.{HeldLock}
use Rattle.hg_model.specs.declared.thread.ThreadState.{ThreadState}
use Rattle.hg_model.specs.declared.report.Report.{Report}
use Rattle.hg_model.specs.Locks.{with_hold, without_lock, counted}
use Rattle.hg_model.specs.Segments.{of_thread, present, opened, thread_at}
use Rattle.hg_model.specs.declared.segment.Segment.{Segment}
use Rattle.hg_model.specs.Paths.{reaches}
use Rattle.hg_model.specs.History.{overlaps}
use Rattle.hg_model.specs.Sets.{with_member, common, set_of, is_empty}
use Rattle.hg_model.specs.Sharing.{shared, threads_in}
use Rattle.hg_model.specs.declared.word.WordState.{WordState}
use Rattle.hg_model.specs.declared.word.WordState.TheVariants.{New, Exclusive, SharedRead, SharedModified}
use Rattle.hg_model.specs.Reporting.{words_of}
use Rattle.hg_model.specs.declared.verdict.Verdict.{Verdict}
use Rattle.hg_model.specs.declared.verdict.Verdict.TheVariants.{Accept}
use Rattle.hg_model.specs.Contents.{Content}
use Rattle.hg_model.specs.Parts.{HasParts, Parts}
use Rattle.hg_model.specs.Verdicts.{verdict, standing, standing_of}
use Rattle.std.specs.Option.{option_and_then}

-- the threads with thread t changed
abbrev pub change : ℕ → (ThreadState → ThreadState) → List ThreadState → List ThreadState
change t f threads = map (λ x. if t == x.number then f x else x) threads

-- the thread with these locks
abbrev pub with_held : ThreadState → List HeldLock → ThreadState
with_held x hs = record { number = x.number; alive = x.alive; held = hs }

-- the threads with one more, by rising number
abbrev pub with_thread : ThreadState → List ThreadState → List ThreadState
with_thread t [] = t ∷ []
with_thread t (x ∷ xs) = if nat_lt t.number x.number then t ∷ x ∷ xs else if t.number == x.number then x ∷ xs else x ∷ with_thread t xs

-- the thread, dead
abbrev pub dead : ThreadState → ThreadState
dead x = record { number = x.number; alive = false; held = x.held }

-- the threads after one event
abbrev pub threads_after : Event → List ThreadState → List ThreadState
threads_after (Fork p c) threads = with_thread (record { number = c; alive = true; held = [] }) threads
threads_after (Join p c) threads = change c dead threads
threads_after (Lock t l) threads = change t (λ x. with_held x (with_hold (record { lock = l; write = true }) x.held)) threads
threads_after (RdLock t l) threads = change t (λ x. with_held x (with_hold (record { lock = l; write = false }) x.held)) threads
threads_after (Unlock t l) threads = change t (λ x. with_held x (without_lock l x.held)) threads
threads_after _ threads = threads

-- the locks of thread t that count for an access
abbrev pub locks_of : List ThreadState → ℕ → Bool → List ℕ
locks_of [] t write = []
locks_of (x ∷ threads) t write = if x.number == t then counted write x.held else locks_of threads t write

-- The state table: a word after an access by thread t in its segment g under the locks that count.
abbrev pub touched : List Segment → ℕ → ℕ → Bool → List ℕ → WordState → WordState
touched segments t g write locks New = Exclusive g
touched segments t g write locks (Exclusive s) =
    if reaches segments s g then Exclusive g else shared write (set_of (thread_at segments s ∷ t ∷ [])) locks
touched segments t g write locks (SharedRead threads candidates) = shared write (with_member threads t) (common candidates locks)
touched segments t g write locks (SharedModified threads candidates) = SharedModified (with_member threads t) (common candidates locks)

-- shared, written to, and no candidate lock left
abbrev pub is_racy : WordState → Bool
is_racy (SharedModified threads locks) = is_empty locks
is_racy _ = false

-- the word w after an access to len bytes from at on
abbrev pub word_after_access : Content → ℕ → ℕ → ℕ → Bool → ℕ → WordState
word_after_access c t at len write w =
    if overlaps at len w then touched c.segments t (present c.segments t) write (locks_of c.threads t write) (c.words w) else c.words w

-- the word w after one event
abbrev pub word_after : Content → Event → ℕ → WordState
word_after c (Read a) w = word_after_access c a.t a.at a.len false w
word_after c (Write a) w = word_after_access c a.t a.at a.len true w
word_after c (Alloc b) w = if overlaps b.at b.len w then New else c.words w
word_after c (Free b) w = if overlaps b.at b.len w then New else c.words w
word_after c _ w = c.words w

-- a word is reported where the access makes it racy, and it was not before
abbrev pub becomes_racy : Content → Event → ℕ → Bool
becomes_racy c e w = is_racy (word_after c e w) && not (is_racy (c.words w))

-- the reports of an access: the words that it makes racy, rising
abbrev pub reported_after : Content → Event → ℕ → Bool → ℕ → ℕ → List Report
reported_after c e t write at len =
    map (λ w. record { event = c.events + 1; write = write; thread = t; word = 4 * w; threads = threads_in (word_after c e w) }) (filter (becomes_racy c e) (words_of at len))

-- the reports of one event
abbrev pub new_reports : Content → Event → List Report
new_reports c (Read a) = reported_after c (Read a) a.t false a.at a.len
new_reports c (Write a) = reported_after c (Write a) a.t true a.at a.len
new_reports c _ = []

-- The content after one accepted event.
abbrev pub after : Content → Named → Content
after c n =
    record {
      events = c.events + 1;
      segments = c.segments ++ opened c.segments n.event;
      threads = threads_after n.event c.threads;
      words = word_after c n.event;
      reports = take MOST_REPORTS (c.reports ++ new_reports c n.event);
      total = c.total + length (new_reports c n.event);
      last = λ s. if n.source == s then c.last s + 1 else c.last s;
    }

-- The content of an empty trace.
abbrev pub empty_content : Content
empty_content = record { events = 0; segments = of_thread 0 [] ∷ []; threads = record { number = 0; alive = true; held = [] } ∷ []; words = λ w. New; reports = []; total = 0; last = λ s. 0 }

-- whether a verdict accepts
abbrev pub is_accept : Verdict → Bool
is_accept Accept = true
is_accept _ = false

-- whether the event may be the next one where a content has these parts
abbrev pub accepts : Parts → Named → Bool
accepts p n = is_accept (verdict (standing p) n)

-- A content with the old parts has the new ones after the event.
abbrev pub Follows : Parts → Named → Parts → Type 0
Follows old n new = (c : Content) → HasParts c old → HasParts (after c n) new

-- the content after an offered event, or none where it is not accepted
abbrev pub offered : Named → Content → Option Content
offered n c = if is_accept (verdict (standing_of c) n) then Some (after c n) else None

-- The content after these events, the oldest first. None where one of them is not accepted.
abbrev pub followed : Content → List Named → Option Content
followed c [] = Some c
followed c (n ∷ trace) = option_and_then (λ d. followed d trace) (offered n c)
