-- Held locks and candidate locks have a spelling: so few, and two bytes each.
use Rattle.std.proofs.Common.{ℕ, ◌≤◌, ◌<◌, ◌^◌, Bool, true, false, cond, not, nat_eq, nat_lt, List, [], ◌∷◌, length, map, filter, arith}
use Rattle.std.specs.List.{AllByRecursion}
use Rattle.std.proofs.lemmas.List.{length-map}
use Rattle.std.proofs.lemmas.List.Sums.{count_by-le-length, length-filter}
use Rattle.hg_model.specs.declared.event.Event.{Event}
use Rattle.hg_model.specs.declared.event.Event.TheVariants.{Fork, Join, Lock, RdLock, Unlock, Read, Write, Alloc, Free, Send, Recv}
use Rattle.hg_model.specs.declared.event.Named.{Named}
use Rattle.hg_model.specs.declared.held.HeldLock.{HeldLock}
use Rattle.hg_model.specs.declared.segment.Segment.{Segment}
use Rattle.hg_model.specs.declared.thread.ThreadState.{ThreadState}
use Rattle.hg_model.specs.declared.word.WordState.{WordState}
use Rattle.hg_model.specs.declared.word.WordState.TheVariants.{New, Exclusive, SharedRead, SharedModified}
use Rattle.hg_model.specs.Contents.{Content}
use Rattle.hg_model.specs.History.{overlaps}
use Rattle.hg_model.specs.Locks.{counted, with_hold}
use Rattle.hg_model.specs.Paths.{reaches}
use Rattle.hg_model.specs.Segments.{opened, present, thread_at}
use Rattle.hg_model.specs.Sets.{common, contains, set_of, with_member}
use Rattle.hg_model.specs.Sharing.{shared}
use Rattle.hg_model.specs.Change.{after, dead, empty_content, locks_of, threads_after, touched, word_after}
use Rattle.hg_records.specs.Records.{EventFits, RecordFits}
use Rattle.hg_root.specs.Grammar.{LockFits, MarkFits}
use Rattle.hg_contents.proofs.lawful.Changing.{each_added, each_changed}
use Rattle.hg_contents.proofs.lawful.Holding.{EachHolds, Holds, holds_after, holds_first}
use Rattle.hg_contents.proofs.lawful.Lists.{each_both, each_mapped}
use Rattle.hg_contents.proofs.lawful.Ordering.{each_filter}
use Rattle.hg_contents.proofs.lawful.Passing.{Passed}

-- so few locks, each of two bytes
pub record IsFew (locks : List ℕ) : Type 0 where
  pub len : length locks < 2 ^ 16
  pub each : AllByRecursion (λ l. l < 2 ^ 16) locks

-- the locks of a word
abbrev pub candidates : WordState → List ℕ
candidates (SharedRead threads locks) = locks
candidates (SharedModified threads locks) = locks
candidates _ = []

pub none_few : IsFew []
none_few = record { len = omega arith; each = tt }

filter_few : (p : ℕ → Bool) (locks : List ℕ) → IsFew locks → IsFew (filter p locks)
filter_few p locks few = record { len = (let le = few.len in omega (arith, le, length-filter p locks, count_by-le-length p locks)); each = each_filter (λ l. l < 2 ^ 16) p locks few.each }

-- ---- held locks

abbrev pub LocksFit : ThreadState → Type 0
LocksFit x = AllByRecursion LockFits x.held

held_fits : (h : HeldLock) (hs : List HeldLock) → LockFits h → AllByRecursion LockFits hs → AllByRecursion LockFits (with_hold h hs)
held_fits h [] one all = (one, tt)
held_fits h (x ∷ hs) one all = first (held_fits h hs one all.1) (nat_lt h.lock x.lock) (nat_eq h.lock x.lock)
  where
    first : AllByRecursion LockFits (with_hold h hs) → (less same : Bool) → AllByRecursion LockFits (cond less (h ∷ x ∷ hs) (cond same (h ∷ hs) (x ∷ with_hold h hs)))
    first rest true same = (one, all)
    first rest false true = (one, all.1)
    first rest false false = (all.0, rest)

locks_fit : (e : Event) (threads : List ThreadState) → EventFits e → AllByRecursion LocksFit threads → AllByRecursion LocksFit (threads_after e threads)
locks_fit (Fork p c) threads fits all = each_added LocksFit _ threads tt all
locks_fit (Join p c) threads fits all = each_changed LocksFit LocksFit c dead (λ x is same. is) (λ x is. is) threads all
locks_fit (Lock t l) threads fits all = each_changed LocksFit LocksFit t _ (λ x is same. held_fits (record { lock = l; write = true }) x.held fits.1 is) (λ x is. is) threads all
locks_fit (RdLock t l) threads fits all = each_changed LocksFit LocksFit t _ (λ x is same. held_fits (record { lock = l; write = false }) x.held fits.1 is) (λ x is. is) threads all
locks_fit (Unlock t l) threads fits all = each_changed LocksFit LocksFit t _ (λ x is same. each_filter LockFits (λ h. not (nat_eq h.lock l)) x.held is) (λ x is. is) threads all
locks_fit (Read a) threads fits all = all
locks_fit (Write a) threads fits all = all
locks_fit (Alloc b) threads fits all = all
locks_fit (Free b) threads fits all = all
locks_fit (Send t k) threads fits all = all
locks_fit (Recv t k) threads fits all = all

-- ---- the locks that count

held_few : (hs : List HeldLock) → length hs ≤ 64 → AllByRecursion LockFits hs → IsFew (map (λ h. h.lock) hs)
held_few hs few fits = record { len = omega (arith, few, length-map hs (λ h. h.lock)); each = each_mapped (λ l. l < 2 ^ 16) (λ h. h.lock) hs fits }

counted_few : (write : Bool) (hs : List HeldLock) → length hs ≤ 64 → AllByRecursion LockFits hs → IsFew (counted write hs)
counted_few true hs few fits = held_few (filter (λ h. h.write) hs) (omega (arith, few, length-filter (λ (h : HeldLock). h.write) hs, count_by-le-length (λ (h : HeldLock). h.write) hs)) (each_filter LockFits (λ h. h.write) hs fits)
counted_few false hs few fits = held_few hs few fits

locks_few : (threads : List ThreadState) (t : ℕ) (write : Bool) → AllByRecursion Holds threads → AllByRecursion LocksFit threads → IsFew (locks_of threads t write)
locks_few [] t write holds fit = none_few
locks_few (x ∷ threads) t write holds fit = pick (locks_few threads t write holds.1 fit.1) (nat_eq x.number t)
  where
    pick : IsFew (locks_of threads t write) → (b : Bool) → IsFew (cond b (counted write x.held) (locks_of threads t write))
    pick rest true = counted_few write x.held holds.0.1 fit.0
    pick rest false = rest

-- ---- words

shared_few : (write : Bool) (threads locks : List ℕ) → IsFew locks → IsFew (candidates (shared write threads locks))
shared_few true threads locks few = few
shared_few false threads locks few = few

touched_few : (segments : List Segment) (t g : ℕ) (write : Bool) (locks : List ℕ) (state : WordState) → IsFew locks → IsFew (candidates state) → IsFew (candidates (touched segments t g write locks state))
touched_few segments t g write locks New few old = none_few
touched_few segments t g write locks (Exclusive s) few old = passed (reaches segments s g)
  where
    passed : (b : Bool) → IsFew (candidates (cond b (Exclusive g) (shared write (set_of (thread_at segments s ∷ t ∷ [])) locks)))
    passed true = none_few
    passed false = shared_few write (set_of (thread_at segments s ∷ t ∷ [])) locks few
touched_few segments t g write locks (SharedRead threads held) few old = shared_few write (with_member threads t) (common held locks) (filter_few (contains locks) held old)
touched_few segments t g write locks (SharedModified threads held) few old = filter_few (contains locks) held old

either : (b : Bool) (x y : WordState) → IsFew (candidates x) → IsFew (candidates y) → IsFew (candidates (cond b x y))
either true x y one other = one
either false x y one other = other

-- the locks of threads and of words
pub record IsSpelled (c : Content) : Type 0 where
  pub holds : EachHolds c
  pub messages : AllByRecursion (λ s. MarkFits s.mark) c.segments
  pub locks : AllByRecursion LocksFit c.threads
  pub words : (w : ℕ) → IsFew (candidates (c.words w))

word_few : (c : Content) (e : Event) (w : ℕ) → IsSpelled c → IsFew (candidates (word_after c e w))
word_few c (Fork p d) w is = is.words w
word_few c (Join p d) w is = is.words w
word_few c (Send t k) w is = is.words w
word_few c (Recv t k) w is = is.words w
word_few c (Lock t l) w is = is.words w
word_few c (RdLock t l) w is = is.words w
word_few c (Unlock t l) w is = is.words w
word_few c (Read a) w is = either (overlaps a.at a.len w) _ _ (touched_few c.segments a.t (present c.segments a.t) false _ (c.words w) (locks_few c.threads a.t false is.holds is.locks) (is.words w)) (is.words w)
word_few c (Write a) w is = either (overlaps a.at a.len w) _ _ (touched_few c.segments a.t (present c.segments a.t) true _ (c.words w) (locks_few c.threads a.t true is.holds is.locks) (is.words w)) (is.words w)
word_few c (Alloc b) w is = either (overlaps b.at b.len w) New (c.words w) none_few (is.words w)
word_few c (Free b) w is = either (overlaps b.at b.len w) New (c.words w) none_few (is.words w)

-- the mark of a segment has the message of its event
opened_fit : (segments : List Segment) (e : Event) → EventFits e → AllByRecursion (λ s. MarkFits s.mark) (opened segments e)
opened_fit segments (Fork p c) fits = (tt, (tt, tt))
opened_fit segments (Join p c) fits = (tt, tt)
opened_fit segments (Lock t l) fits = tt
opened_fit segments (RdLock t l) fits = tt
opened_fit segments (Unlock t l) fits = tt
opened_fit segments (Read a) fits = tt
opened_fit segments (Write a) fits = tt
opened_fit segments (Alloc b) fits = tt
opened_fit segments (Free b) fits = tt
opened_fit segments (Send t k) fits = (fits.1, tt)
opened_fit segments (Recv t k) fits = (fits.1, tt)

pub spelled_first : IsSpelled empty_content
spelled_first = record { holds = holds_first; messages = (tt, tt); locks = (tt, tt); words = λ w. none_few }

pub spelled_after : (c : Content) (n : Named) → RecordFits n → Passed c n → IsSpelled c → IsSpelled (after c n)
spelled_after c n fits pass is = record {
  holds = holds_after c n pass is.holds;
  messages = each_both (λ s. MarkFits s.mark) c.segments (opened c.segments n.event) is.messages (opened_fit c.segments n.event fits.1.1);
  locks = locks_fit n.event c.threads fits.1.1 is.locks;
  words = λ w. word_few c n.event w is;
}
