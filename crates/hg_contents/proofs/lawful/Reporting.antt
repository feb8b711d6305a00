-- Each report is of one of the events, and its threads have the acting one.
use Rattle.std.proofs.Common.{◌≡◌, ◌⊎◌, inl, inr, ℕ, suc, ◌+◌, ◌*◌, ◌%◌, ◌^◌, ◌≤◌, ◌<◌, Bool, true, false, cond, not, ◌&&◌, ◌||◌, nat_eq, nat_lt, List, [], ◌∷◌, Contains, refl, sym, ◌∙◌, arith}
use Rattle.std.proofs.lemmas.Bool.{and_parts, eq-eqb, eqb-true, false≢true, ltb-false, ltb-true, or_cases, or_left, or_right}
use Rattle.std.specs.List.{AllByRecursion}
use Rattle.hg_model.specs.declared.event.Event.{Event}
use Rattle.hg_model.specs.declared.event.Event.TheVariants.{Fork, Join, Lock, RdLock, Unlock, Read, Write, Alloc, Free, Send, Recv}
use Rattle.hg_model.specs.declared.report.Report.{Report}
use Rattle.hg_model.specs.declared.segment.Segment.{Segment}
use Rattle.hg_model.specs.declared.word.WordState.{WordState}
use Rattle.hg_model.specs.declared.word.WordState.TheVariants.{New, Exclusive, SharedRead, SharedModified}
use Rattle.hg_model.specs.Contents.{Content}
use Rattle.hg_model.specs.History.{overlaps}
use Rattle.hg_model.specs.Paths.{reaches}
use Rattle.hg_model.specs.Reporting.{words_of}
use Rattle.hg_model.specs.Segments.{present, thread_at}
use Rattle.hg_model.specs.Sets.{contains, set_of, with_member}
use Rattle.hg_model.specs.Sharing.{shared, threads_in}
use Rattle.hg_model.specs.Verdicts.{passes_end, past_address_end}
use Rattle.hg_model.specs.Change.{becomes_racy, empty_content, is_racy, locks_of, new_reports, touched, word_after_access}
use Rattle.hg_model.proofs.PlainWords.{sets_have_their_numbers_lem}
use Rattle.hg_contents.proofs.lawful.Lists.{each_both, each_kept, each_mapped, each_taken, each_weaker}
use Rattle.hg_contents.proofs.lawful.Passing.{IsKept}

-- what holds of a report besides the bound of its threads
pub record IsMade (events : ℕ) (r : Report) : Type 0 where
  pub event : (1 ≤ r.event) × (r.event ≤ events)
  pub word : (r.word % 4 ≡ 0) × (r.word < 2 ^ 64)
  pub member : Contains r.threads r.thread

-- ---- the acting thread

with_has : (xs : List ℕ) (n : ℕ) → contains (with_member xs n) n ≡ true
with_has [] n = or_left (nat_eq n n) false (eq-eqb n n refl)
with_has (x ∷ xs) n = first (with_has xs n) (nat_lt n x)
  where
    behind : contains (with_member xs n) n ≡ true → (b : Bool) → nat_eq n x ≡ b → contains (cond b (x ∷ xs) (x ∷ with_member xs n)) n ≡ true
    behind rest true same = or_left (nat_eq x n) (contains xs n) (eq-eqb x n (sym (eqb-true n x same)))
    behind rest false other = or_right (nat_eq x n) (contains (with_member xs n) n) rest

    first : contains (with_member xs n) n ≡ true → (b : Bool) → contains (cond b (n ∷ x ∷ xs) (cond (nat_eq n x) (x ∷ xs) (x ∷ with_member xs n))) n ≡ true
    first rest true = or_left (nat_eq n n) (contains (x ∷ xs) n) (eq-eqb n n refl)
    first rest false = behind rest (nat_eq n x) refl

two_have : (s t : ℕ) → contains (set_of (s ∷ t ∷ [])) t ≡ true
two_have s t = sets_have_their_numbers_lem (s ∷ t ∷ []) t ∙ or_right (nat_eq s t) (nat_eq t t || false) (or_left (nat_eq t t) false (eq-eqb t t refl))

pub contained : (xs : List ℕ) (n : ℕ) → contains xs n ≡ true → Contains xs n
contained [] n has = absurd (false≢true has)
contained (x ∷ xs) n has = pick (contained xs n) (or_cases (nat_eq x n) (contains xs n) has)
  where
    later : Contains xs n → Contains (x ∷ xs) n
    later (k, lt, is) = (suc k, omega (arith, lt), is)

    pick : (contains xs n ≡ true → Contains xs n) → (nat_eq x n ≡ true) ⊎ (contains xs n ≡ true) → Contains (x ∷ xs) n
    pick rest (inl here) = (0, omega arith, eqb-true x n here)
    pick rest (inr there) = later (rest there)

shared_has : (write : Bool) (threads locks : List ℕ) (t : ℕ) → contains threads t ≡ true → contains (threads_in (shared write threads locks)) t ≡ true
shared_has true threads locks t has = has
shared_has false threads locks t has = has

touched_has : (segments : List Segment) (t g : ℕ) (write : Bool) (locks : List ℕ) (state : WordState) → is_racy (touched segments t g write locks state) ≡ true
    → contains (threads_in (touched segments t g write locks state)) t ≡ true
touched_has segments t g write locks New racy = absurd (false≢true racy)
touched_has segments t g write locks (Exclusive s) racy = passed (reaches segments s g) racy
  where
    passed : (b : Bool) → is_racy (cond b (Exclusive g) (shared write (set_of (thread_at segments s ∷ t ∷ [])) locks)) ≡ true
        → contains (threads_in (cond b (Exclusive g) (shared write (set_of (thread_at segments s ∷ t ∷ [])) locks))) t ≡ true
    passed true quiet = absurd (false≢true quiet)
    passed false racy = shared_has write (set_of (thread_at segments s ∷ t ∷ [])) locks t (two_have (thread_at segments s) t)
touched_has segments t g write locks (SharedRead threads candidates) racy = shared_has write (with_member threads t) _ t (with_has threads t)
touched_has segments t g write locks (SharedModified threads candidates) racy = with_has threads t

-- ---- a word that becomes racy is one of the access

not_both : (b : Bool) → (b && not b) ≡ true → ⊥
not_both true h = false≢true h
not_both false h = false≢true h

-- of a word that an access leaves or touches
pub record IsTouched (t : ℕ) (b : Bool) (state : WordState) : Type 0 where
  pub overlapped : b ≡ true
  pub member : contains (threads_in state) t ≡ true

touches : (segments : List Segment) (t g : ℕ) (write : Bool) (locks : List ℕ) (state : WordState) (b : Bool)
    → (is_racy (cond b (touched segments t g write locks state) state) && not (is_racy state)) ≡ true → IsTouched t b (cond b (touched segments t g write locks state) state)
touches segments t g write locks state true racy = record { overlapped = refl; member = touched_has segments t g write locks state (and_parts _ (not (is_racy state)) racy).0 }
touches segments t g write locks state false racy = absurd (not_both (is_racy state) racy)

word_small : (at len w : ℕ) → overlaps at len w ≡ true → passes_end at len ≡ false → 4 * w < 2 ^ 64
word_small at len w over low =
    let below = ltb-true (4 * w) (at + len) (and_parts (nat_lt at (4 * w + 4)) (nat_lt (4 * w) (at + len)) over).1 in
    let within = ltb-false (2 ^ 64) (at + len) low in
    omega (arith, below, within)

module _ (c : Content) (t at len : ℕ) (write : Bool) (low : passes_end at len ≡ false) where
  abbrev state_after : ℕ → WordState
  state_after w = word_after_access c t at len write w

  made : (w : ℕ) → (is_racy (state_after w) && not (is_racy (c.words w))) ≡ true → IsMade (c.events + 1) (record { event = c.events + 1; write = write; thread = t; word = 4 * w; threads = threads_in (state_after w) })
  made w racy =
      let touch = touches c.segments t (present c.segments t) write (locks_of c.threads t write) (c.words w) (overlaps at len w) racy in
      record {
        event = (omega arith, omega arith);
        word = (omega arith, word_small at len w touch.overlapped low);
        member = contained (threads_in (state_after w)) t touch.member;
      }

pub reports_made : (c : Content) (e : Event) → past_address_end e ≡ false → AllByRecursion (IsMade (c.events + 1)) (new_reports c e)
reports_made c (Fork p d) low = tt
reports_made c (Join p d) low = tt
reports_made c (Lock t l) low = tt
reports_made c (RdLock t l) low = tt
reports_made c (Unlock t l) low = tt
reports_made c (Read a) low = each_mapped (IsMade (c.events + 1)) _ _ (each_weaker (λ w. becomes_racy c (Read a) w ≡ true) _ (made c a.t a.at a.len false low) _ (each_kept (becomes_racy c (Read a)) (words_of a.at a.len)))
reports_made c (Write a) low = each_mapped (IsMade (c.events + 1)) _ _ (each_weaker (λ w. becomes_racy c (Write a) w ≡ true) _ (made c a.t a.at a.len true low) _ (each_kept (becomes_racy c (Write a)) (words_of a.at a.len)))
reports_made c (Alloc b) low = tt
reports_made c (Free b) low = tt
reports_made c (Send t k) low = tt
reports_made c (Recv t k) low = tt

abbrev pub AreMade : Content → Type 0
AreMade c = AllByRecursion (IsMade c.events) c.reports

pub made_first : AreMade empty_content
made_first = tt

older : (events : ℕ) (r : Report) → IsMade events r → IsMade (events + 1) r
older events r is = record { event = (is.event.0, (let le = is.event.1 in omega (arith, le))); word = is.word; member = is.member }

pub made_after : IsKept AreMade
made_after c n pass are =
    each_taken (IsMade (c.events + 1)) 65536 _ (each_both (IsMade (c.events + 1)) c.reports (new_reports c n.event) (each_weaker (IsMade c.events) (IsMade (c.events + 1)) (older c.events) c.reports are) (reports_made c n.event pass.address))
