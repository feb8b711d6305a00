-- Accepted events make small sets of threads.
use Rattle.std.proofs.Common.{◌≡◌, ℕ, zero, suc, ◌+◌, ◌-◌, ◌≤◌, Bool, true, false, cond, ◌||◌, nat_lt, nat_eq, List, [], ◌∷◌, ◌++◌, length, map, take, Some, None, refl, sym, ◌∙◌, subst, arith}
use Rattle.std.specs.List.{AllByRecursion}
use Rattle.std.specs.Option.{option_and_then}
use Rattle.std.proofs.lemmas.Bool.{eq-eqb, ltb-false, ltb-true, false≢true}
use Rattle.hg_model.specs.declared.event.Event.{Event}
use Rattle.hg_model.specs.declared.event.Event.TheVariants.{Fork, Join, Lock, RdLock, Unlock, Read, Write, Alloc, Free, Send, Recv}
use Rattle.hg_model.specs.declared.event.Named.{Named}
use Rattle.hg_model.specs.declared.report.Report.{Report}
use Rattle.hg_model.specs.declared.segment.Segment.{Segment}
use Rattle.hg_model.specs.declared.word.WordState.{WordState}
use Rattle.hg_model.specs.declared.word.WordState.TheVariants.{New, Exclusive, SharedRead, SharedModified}
use Rattle.hg_model.specs.declared.verdict.Verdict.TheVariants.{Accept}
use Rattle.hg_model.specs.Contents.{Content}
use Rattle.hg_model.specs.History.{overlaps}
use Rattle.hg_model.specs.Paths.{reaches}
use Rattle.hg_model.specs.Segments.{opened, present, thread_at}
use Rattle.hg_model.specs.Sets.{set_of, with_member}
use Rattle.hg_model.specs.Sharing.{shared, threads_in}
use Rattle.hg_model.specs.Verdicts.{actor, bad_number, is_bad_source, is_bad_thread, standing_of, verdict}
use Rattle.hg_model.specs.Change.{after, empty_content, followed, is_accept, new_reports, touched, word_after}
use Rattle.hg_model.specs.ThreadSets.{HasThreadSets, IsThreadSet, RisesFrom}
use Rattle.hg_model.proofs.Accepted.{no_cause}
use Rattle.hg_model.proofs.Following.{accept_is}

-- ---- sets

few_from : (n : ℕ) (ts : List ℕ) → n ≤ 1024 → RisesFrom n ts → length ts ≤ 1024 - n
few_from n [] within rises = omega arith
few_from n (t ∷ ts) within rises =
    let least = rises.0 in
    let most = rises.1 in
    let more = few_from (t + 1) ts (omega (arith, most)) rises.2 in
    omega (arith, least, most, more)

pub few : (ts : List ℕ) → IsThreadSet ts → length ts ≤ 1024
few ts rises = few_from 0 ts (omega arith) rises

from_less : (m n : ℕ) (ts : List ℕ) → m ≤ n → RisesFrom n ts → RisesFrom m ts
from_less m n [] less rises = tt
from_less m n (t ∷ ts) less rises = let least = rises.0 in (omega (arith, less, least), rises.1, rises.2)

with_from : (n : ℕ) (ts : List ℕ) (t : ℕ) → n ≤ t → t ≤ 1023 → RisesFrom n ts → RisesFrom n (with_member ts t)
with_from n [] t least most rises = (least, most, tt)
with_from n (x ∷ xs) t least most rises = first (λ less. with_from (x + 1) xs t less most rises.2) (nat_lt t x) refl
  where
    behind : (x + 1 ≤ t → RisesFrom (x + 1) (with_member xs t)) → (b : Bool) → nat_lt t x ≡ false → nat_eq t x ≡ b → RisesFrom n (cond b (x ∷ xs) (x ∷ with_member xs t))
    behind later true not_less same = rises
    behind later false not_less other =
        let not_below = ltb-false t x not_less in
        let apart : (t ≡ x) → ⊥ = λ same. false≢true (sym other ∙ eq-eqb t x same) in
        (rises.0, rises.1, later (omega (arith, not_below, apart)))

    first : (x + 1 ≤ t → RisesFrom (x + 1) (with_member xs t)) → (b : Bool) → nat_lt t x ≡ b → RisesFrom n (cond b (t ∷ x ∷ xs) (cond (nat_eq t x) (x ∷ xs) (x ∷ with_member xs t)))
    first later true less = let lt = ltb-true t x less in (least, most, (omega (arith, lt), rises.1, rises.2))
    first later false not_less = behind later (nat_eq t x) not_less refl

with_set : (ts : List ℕ) (t : ℕ) → t ≤ 1023 → IsThreadSet ts → IsThreadSet (with_member ts t)
with_set ts t most rises = with_from 0 ts t (omega arith) most rises

two_set : (s t : ℕ) → s ≤ 1023 → t ≤ 1023 → IsThreadSet (set_of (s ∷ t ∷ []))
two_set s t most more = with_set (with_member [] s) t more (with_set [] s most tt)

-- ---- lists

all_both : {A : Type 0} (P : A → Type 0) (xs ys : List A) → AllByRecursion P xs → AllByRecursion P ys → AllByRecursion P (xs ++ ys)
all_both P [] ys all more = more
all_both P (x ∷ xs) ys all more = (all.0, all_both P xs ys all.1 more)

all_take : {A : Type 0} (P : A → Type 0) (n : ℕ) (xs : List A) → AllByRecursion P xs → AllByRecursion P (take n xs)
all_take P zero xs all = tt
all_take P (suc n) [] all = tt
all_take P (suc n) (x ∷ xs) all = (all.0, all_take P n xs all.1)

all_map : {A B : Type 0} (P : B → Type 0) (f : A → B) (xs : List A) → ((x : A) → P (f x)) → AllByRecursion P (map f xs)
all_map P f [] each = tt
all_map P f (x ∷ xs) each = (each x, all_map P f xs each)

-- ---- numbers of an accepted event

small : (n : ℕ) → is_bad_thread n ≡ false → n ≤ 1023
small n low = let le = ltb-false 1023 n low in omega (arith, le)

neither : (a b : Bool) → (a || b) ≡ false → (a ≡ false) × (b ≡ false)
neither true b low = absurd (false≢true (sym low))
neither false b low = (refl, low)

-- the actor, and the child
pub record HasSmallNumbers (e : Event) : Type 0 where
  pub actor_is : actor e ≤ 1023
  pub opens : (segments : List Segment) → AllByRecursion (λ s. s.thread ≤ 1023) (opened segments e)

one_number : (source : ℕ) (e : Event) → (is_bad_source source || is_bad_thread (actor e)) ≡ false → actor e ≤ 1023
one_number source e low = small (actor e) (neither (is_bad_source source) (is_bad_thread (actor e)) low).1

small_numbers : (source : ℕ) (e : Event) → bad_number source e ≡ false → HasSmallNumbers e
small_numbers source (Fork p c) low =
    let first = neither (is_bad_source source || is_bad_thread p) (is_bad_thread c) low in
    let p_small = small p (neither (is_bad_source source) (is_bad_thread p) first.0).1 in
    record { actor_is = p_small; opens = λ segments. (small c first.1, (p_small, tt)) }
small_numbers source (Join p c) low =
    let first = neither (is_bad_source source || is_bad_thread p) (is_bad_thread c) low in
    let p_small = small p (neither (is_bad_source source) (is_bad_thread p) first.0).1 in
    record { actor_is = p_small; opens = λ segments. (p_small, tt) }
small_numbers source (Lock t l) low = record { actor_is = one_number source (Lock t l) low; opens = λ segments. tt }
small_numbers source (RdLock t l) low = record { actor_is = one_number source (RdLock t l) low; opens = λ segments. tt }
small_numbers source (Unlock t l) low = record { actor_is = one_number source (Unlock t l) low; opens = λ segments. tt }
small_numbers source (Read a) low = record { actor_is = one_number source (Read a) low; opens = λ segments. tt }
small_numbers source (Write a) low = record { actor_is = one_number source (Write a) low; opens = λ segments. tt }
small_numbers source (Alloc b) low = record { actor_is = one_number source (Alloc b) low; opens = λ segments. tt }
small_numbers source (Free b) low = record { actor_is = one_number source (Free b) low; opens = λ segments. tt }
small_numbers source (Send t k) low = let small = one_number source (Send t k) low in record { actor_is = small; opens = λ segments. (small, tt) }
small_numbers source (Recv t k) low = let small = one_number source (Recv t k) low in record { actor_is = small; opens = λ segments. (small, tt) }

-- ---- words

thread_small : (segments : List Segment) (s : ℕ) → AllByRecursion (λ x. x.thread ≤ 1023) segments → thread_at segments s ≤ 1023
thread_small [] s all = omega arith
thread_small (x ∷ segments) zero all = all.0
thread_small (x ∷ segments) (suc s) all = thread_small segments s all.1

shared_set : (write : Bool) (threads locks : List ℕ) → IsThreadSet threads → IsThreadSet (threads_in (shared write threads locks))
shared_set true threads locks rises = rises
shared_set false threads locks rises = rises

touched_set : (segments : List Segment) (t g : ℕ) (write : Bool) (locks : List ℕ) (state : WordState) → AllByRecursion (λ x. x.thread ≤ 1023) segments → t ≤ 1023
    → IsThreadSet (threads_in state) → IsThreadSet (threads_in (touched segments t g write locks state))
touched_set segments t g write locks New all most rises = tt
touched_set segments t g write locks (Exclusive s) all most rises = passed (reaches segments s g)
  where
    passed : (b : Bool) → IsThreadSet (threads_in (cond b (Exclusive g) (shared write (set_of (thread_at segments s ∷ t ∷ [])) locks)))
    passed true = tt
    passed false = shared_set write (set_of (thread_at segments s ∷ t ∷ [])) locks (two_set (thread_at segments s) t (thread_small segments s all) most)
touched_set segments t g write locks (SharedRead threads candidates) all most rises = shared_set write (with_member threads t) _ (with_set threads t most rises)
touched_set segments t g write locks (SharedModified threads candidates) all most rises = with_set threads t most rises

either : (b : Bool) (x y : WordState) → IsThreadSet (threads_in x) → IsThreadSet (threads_in y) → IsThreadSet (threads_in (cond b x y))
either true x y one other = one
either false x y one other = other

word_set : (c : Content) (e : Event) (w : ℕ) → HasThreadSets c → HasSmallNumbers e → IsThreadSet (threads_in (word_after c e w))
word_set c (Fork p d) w has numbers = has.words w
word_set c (Join p d) w has numbers = has.words w
word_set c (Lock t l) w has numbers = has.words w
word_set c (RdLock t l) w has numbers = has.words w
word_set c (Unlock t l) w has numbers = has.words w
word_set c (Read a) w has numbers = either (overlaps a.at a.len w) _ _ (touched_set c.segments a.t (present c.segments a.t) false _ (c.words w) has.segments numbers.actor_is (has.words w)) (has.words w)
word_set c (Write a) w has numbers = either (overlaps a.at a.len w) _ _ (touched_set c.segments a.t (present c.segments a.t) true _ (c.words w) has.segments numbers.actor_is (has.words w)) (has.words w)
word_set c (Alloc b) w has numbers = either (overlaps b.at b.len w) New (c.words w) tt (has.words w)
word_set c (Free b) w has numbers = either (overlaps b.at b.len w) New (c.words w) tt (has.words w)
word_set c (Send t k) w has numbers = has.words w
word_set c (Recv t k) w has numbers = has.words w

report_sets : (c : Content) (e : Event) → HasThreadSets c → HasSmallNumbers e → AllByRecursion (λ r. IsThreadSet r.threads) (new_reports c e)
report_sets c (Fork p d) has numbers = tt
report_sets c (Join p d) has numbers = tt
report_sets c (Lock t l) has numbers = tt
report_sets c (RdLock t l) has numbers = tt
report_sets c (Unlock t l) has numbers = tt
report_sets c (Read a) has numbers = all_map (λ (r : Report). IsThreadSet r.threads) _ _ (λ w. word_set c (Read a) w has numbers)
report_sets c (Write a) has numbers = all_map (λ (r : Report). IsThreadSet r.threads) _ _ (λ w. word_set c (Write a) w has numbers)
report_sets c (Alloc b) has numbers = tt
report_sets c (Free b) has numbers = tt
report_sets c (Send t k) has numbers = tt
report_sets c (Recv t k) has numbers = tt

-- ---- events

one_event : (c : Content) (n : Named) → verdict (standing_of c) n ≡ Accept → HasThreadSets c → HasThreadSets (after c n)
one_event c n accepted has =
    let numbers = small_numbers n.source n.event (no_cause (standing_of c) n accepted).0 in
    record {
      segments = all_both (λ (s : Segment). s.thread ≤ 1023) c.segments (opened c.segments n.event) has.segments (numbers.opens c.segments);
      words = λ w. word_set c n.event w has numbers;
      reports = all_take (λ (r : Report). IsThreadSet r.threads) 65536 _ (all_both (λ (r : Report). IsThreadSet r.threads) c.reports (new_reports c n.event) has.reports (report_sets c n.event has numbers));
    }

pub start : HasThreadSets empty_content
start = record { segments = (omega arith, tt); words = λ w. tt; reports = tt }

pub kept : (c d : Content) (trace : List Named) → followed c trace ≡ Some d → HasThreadSets c → HasThreadSets d
kept c d [] same has = subst HasThreadSets (some_is c d same) has
  where
    some_is : (x y : Content) → Some x ≡ Some y → x ≡ y
    some_is x y e = cc
kept c d (n ∷ trace) same has = chosen (λ accepted led. kept (after c n) d trace led (one_event c n accepted has)) (is_accept (verdict (standing_of c) n)) refl same
  where
    chosen : (verdict (standing_of c) n ≡ Accept → followed (after c n) trace ≡ Some d → HasThreadSets d) → (b : Bool) → is_accept (verdict (standing_of c) n) ≡ b
        → option_and_then (λ m. followed m trace) (cond b (Some (after c n)) None) ≡ Some d → HasThreadSets d
    chosen later true accepted led = later (accept_is (verdict (standing_of c) n) accepted) led
    chosen later false not_accepted led = absurd cc
