-- What an accepted event meets, and what it does to the threads.
use Rattle.std.proofs.Common.{◌≡◌, ℕ, ◌+◌, ◌<◌, ◌≤◌, Bool, true, false, cond, not, ◌||◌, ◌&&◌, nat_eq, nat_le, nat_lt, List, [], ◌∷◌, length, map, refl, sym, ap, ◌∙◌, subst, ⊎_elim, eqb-true}
use Rattle.std.proofs.lemmas.Bool.{lt-leb, le-ltb, or_cases, or_parts, or_left, or_right, and_parts, and_from, not_from_false, false≢true, not-false, false_from_ne_true}
use Rattle.std.specs.List.{list_any, AllByRecursion}
use Rattle.hg_model.specs.declared.event.Event.{Event}
use Rattle.hg_model.specs.declared.event.Event.TheVariants.{Fork, Join, Lock, RdLock, Unlock, Read, Write, Alloc, Free, Send, Recv}
use Rattle.hg_model.specs.declared.event.Named.{Named}
use Rattle.hg_model.specs.declared.thread.ThreadState.{ThreadState}
use Rattle.hg_model.specs.declared.held.HeldLock.{HeldLock}
use Rattle.hg_model.specs.declared.verdict.Refusal.{Refusal}
use Rattle.hg_model.specs.declared.verdict.Refusal.TheVariants.{Gap}
use Rattle.hg_model.specs.declared.verdict.Verdict.{Verdict}
use Rattle.hg_model.specs.declared.verdict.Verdict.TheVariants.{Accept, Duplicate, Refuse}
use Rattle.hg_model.specs.Locks.{held}
use Rattle.hg_model.specs.Sets.{with_member}
use Rattle.hg_model.specs.Segments.{segments_of, used, not_joined}
use Rattle.hg_model.specs.declared.segment.Segment.{Segment}
use Rattle.hg_model.specs.Contents.{events_of, thread_of, threads_of, summary}
use Rattle.hg_model.specs.Verdicts.{Standing, standing_of, actor, has_thread, no_thread, child_used, child_not_alive, full_held, first_cause, causes, verdict, IsAccepted, MayFollow}
use Rattle.hg_model.specs.Change.{threads_after, with_thread}
use Rattle.hg_model.proofs.Owners.{Owns, used_own}

-- no cause applies where the event is accepted
none_applies : (cs : List (Bool × Refusal)) → first_cause cs ≡ Accept → AllByRecursion (λ c. c.0 ≡ false) cs
none_applies [] h = tt
none_applies (c ∷ cs) h =
    elim c.0 as (λ b. cond b (Refuse c.1) (first_cause cs) ≡ Accept → (b ≡ false) × AllByRecursion (λ d. d.0 ≡ false) cs) [
      | true ↦ λ e. absurd (cc (e))
      | false ↦ λ e. (refl, none_applies cs e)
    ] h

duplicate_passed : (b : Bool) (n : ℕ) (v : Verdict) → cond b (Duplicate n) v ≡ Accept → v ≡ Accept
duplicate_passed true n v h = absurd (cc)
duplicate_passed false n v h = h

gap_passed : (b : Bool) (r : Refusal) (v : Verdict) → cond b (Refuse r) v ≡ Accept → v ≡ Accept
gap_passed true r v h = absurd (cc)
gap_passed false r v h = h

pub no_cause : (s : Standing) (n : Named) → verdict s n ≡ Accept → AllByRecursion (λ c. c.0 ≡ false) (causes s n)
no_cause s n h =
    none_applies (causes s n)
    (gap_passed (nat_lt (s.last n.source + 1) n.number) (Gap (s.last n.source + 1)) (first_cause (causes s n))
    (duplicate_passed (nat_le n.number (s.last n.source)) (s.last n.source) _ h))

-- where the number is the next one, the causes alone decide
pub next_is_judged : (s : Standing) (n : Named) → s.last n.source < n.number → n.number ≤ s.last n.source + 1 → first_cause (causes s n) ≡ verdict s n
next_is_judged s n above near =
    let last = s.last n.source in
    let fresh : nat_le n.number last ≡ false = lt-leb n.number last above in
    let next : nat_lt (last + 1) n.number ≡ false = le-ltb (last + 1) n.number near in
    sym (ap (λ b. cond b (Duplicate last) (cond (nat_lt (last + 1) n.number) (Refuse (Gap (last + 1))) (first_cause (causes s n)))) fresh ∙ ap (λ b. cond b (Refuse (Gap (last + 1))) (first_cause (causes s n))) next)

abbrev pub IsUsed : List Event → ℕ → Type 0
IsUsed past t = list_any (λ u. nat_eq u t) (used past) ≡ true

abbrev pub IsFresh : List Event → ℕ → Type 0
IsFresh past t = list_any (λ u. nat_eq u t) (used past) ≡ false

abbrev ChildIsUsed : List Event → Event → Type 0
ChildIsUsed past (Join p c) = IsUsed past c
ChildIsUsed past _ = Unit {0}

abbrev ChildIsFresh : List Event → Event → Type 0
ChildIsFresh past (Fork p c) = IsFresh past c
ChildIsFresh past _ = Unit {0}

used_from_thread : (test : ThreadState → Bool) (past : List Event) (us : List ℕ) (t : ℕ) → has_thread (map (thread_of past) us) t test ≡ true → list_any (λ u. nat_eq u t) us ≡ true
used_from_thread test past [] t h = h
used_from_thread test past (u ∷ us) t h =
    ⊎_elim
    (λ here. or_left (nat_eq u t) _ (and_parts (nat_eq u t) _ here).0)
    (λ later. or_right (nat_eq u t) _ (used_from_thread test past us t later))
    (or_cases (nat_eq u t && test (thread_of past u)) _ h)

numbers_of : (past : List Event) (us : List ℕ) (c : ℕ) → list_any (λ x. nat_eq x.number c) (map (thread_of past) us) ≡ list_any (λ u. nat_eq u c) us
numbers_of past [] c = refl
numbers_of past (u ∷ us) c = ap (λ b. nat_eq u c || b) (numbers_of past us c)

child_is_used : (past : List Event) (e : Event) → child_not_alive (threads_of past) e ≡ false → ChildIsUsed past e
child_is_used past (Fork p c) h = tt
child_is_used past (Join p c) h = used_from_thread (λ x. x.alive) past (used past) c (not-false (has_thread (threads_of past) c (λ x. x.alive)) h)
child_is_used past (Lock t l) h = tt
child_is_used past (RdLock t l) h = tt
child_is_used past (Unlock t l) h = tt
child_is_used past (Read a) h = tt
child_is_used past (Write a) h = tt
child_is_used past (Alloc b) h = tt
child_is_used past (Free b) h = tt
child_is_used past (Send t k) h = tt
child_is_used past (Recv t k) h = tt

child_is_fresh : (past : List Event) (e : Event) → child_used (threads_of past) e ≡ false → ChildIsFresh past e
child_is_fresh past (Fork p c) h = sym (numbers_of past (used past) c) ∙ h
child_is_fresh past (Join p c) h = tt
child_is_fresh past (Lock t l) h = tt
child_is_fresh past (RdLock t l) h = tt
child_is_fresh past (Unlock t l) h = tt
child_is_fresh past (Read a) h = tt
child_is_fresh past (Write a) h = tt
child_is_fresh past (Alloc b) h = tt
child_is_fresh past (Free b) h = tt
child_is_fresh past (Send t k) h = tt
child_is_fresh past (Recv t k) h = tt

-- the acting thread and a joined child are used, and a forked child is not
pub record Passes (past : List Event) (e : Event) : Type 0 where
  pub actor_used : IsUsed past (actor e)
  pub joined : ChildIsUsed past e
  pub forked : ChildIsFresh past e

pub passes : (trace : List Named) (n : Named) → verdict (standing_of (summary trace)) n ≡ Accept → Passes (events_of trace) n.event
passes trace n h =
    let past = events_of trace in
    let threads = (no_cause (standing_of (summary trace)) n h).1.1.1 in
    record {
      actor_used = used_from_thread (λ x. x.alive) past (used past) (actor n.event) (not-false (has_thread (threads_of past) (actor n.event) (λ x. x.alive)) threads.0);
      joined = child_is_used past n.event threads.1.1.1.0;
      forked = child_is_fresh past n.event threads.1.0;
    }

own_at : (segments : List Segment) (us : List ℕ) (t : ℕ) → AllByRecursion (Owns segments) us → list_any (λ u. nat_eq u t) us ≡ true → Owns segments t
own_at segments [] t h some = absurd (false≢true some)
own_at segments (u ∷ us) t h some =
    ⊎_elim (λ same. subst (Owns segments) (eqb-true u t same) h.0) (λ later. own_at segments us t h.1 later) (or_cases (nat_eq u t) _ some)

pub used_owns : (past : List Event) (t : ℕ) → IsUsed past t → Owns (segments_of past) t
used_owns past t h = own_at (segments_of past) (used past) t (used_own past) h

differs : (us : List ℕ) (t c : ℕ) → list_any (λ u. nat_eq u t) us ≡ true → list_any (λ u. nat_eq u c) us ≡ false → nat_eq t c ≡ false
differs us t c h none = false_from_ne_true (nat_eq t c) (λ same. false≢true (sym none ∙ (ap (λ n. list_any (λ u. nat_eq u n) us) (sym (eqb-true t c same)) ∙ h)))

-- a thread that is not used was not joined and holds nothing
abbrev pub IsBlank : List Event → ℕ → Type 0
IsBlank past c = (not_joined past c ≡ true) × (held past c ≡ [])

unchanged : {X : Type 0} (b : Bool) (x y : X) → b ≡ false → cond b x y ≡ y
unchanged b x y h = λ i. cond (h i) x y

any_with_member : (c : ℕ) (xs : List ℕ) (n : ℕ) → list_any (λ u. nat_eq u c) (with_member xs n) ≡ (nat_eq n c || list_any (λ u. nat_eq u c) xs)
any_with_member c [] n = refl
any_with_member c (x ∷ xs) n =
    elim (nat_lt n x) as (λ b. list_any (λ u. nat_eq u c) (cond b (n ∷ x ∷ xs) (cond (nat_eq n x) (x ∷ xs) (x ∷ with_member xs n))) ≡ (nat_eq n c || (nat_eq x c || list_any (λ u. nat_eq u c) xs))) [
      | true ↦ refl
      | false ↦ elim (nat_eq n x) as (λ b. nat_eq n x ≡ b → list_any (λ u. nat_eq u c) (cond b (x ∷ xs) (x ∷ with_member xs n)) ≡ (nat_eq n c || (nat_eq x c || list_any (λ u. nat_eq u c) xs))) [
        | true ↦ λ same. twice (nat_eq x c) _ ∙ ap (λ m. nat_eq m c || (nat_eq x c || list_any (λ u. nat_eq u c) xs)) (sym (eqb-true n x same))
        | false ↦ λ _. ap (λ b. nat_eq x c || b) (any_with_member c xs n) ∙ swap_or (nat_eq x c) (nat_eq n c) _
      ] refl
    ]
  where
    twice : (b a : Bool) → (b || a) ≡ (b || (b || a))
    twice true a = refl
    twice false a = refl

    swap_or : (a b d : Bool) → (a || (b || d)) ≡ (b || (a || d))
    swap_or true true d = refl
    swap_or true false d = refl
    swap_or false b d = refl

blank_step : (past : List Event) (e : Event) (c : ℕ) → Passes past e → (IsFresh past c → IsBlank past c) → IsFresh (e ∷ past) c → IsBlank (e ∷ past) c
blank_step past (Fork p d) c h before fresh = before (or_parts _ _ (sym (any_with_member c (used past) d) ∙ fresh)).1
blank_step past (Join p d) c h before fresh =
    ((λ i. cond (differs (used past) d c h.joined fresh i) false (not_joined past c)) ∙ (before fresh).0, (before fresh).1)
blank_step past (Lock t l) c h before fresh = ((before fresh).0, unchanged (nat_eq t c) _ (held past c) (differs (used past) t c h.actor_used fresh) ∙ (before fresh).1)
blank_step past (RdLock t l) c h before fresh = ((before fresh).0, unchanged (nat_eq t c) _ (held past c) (differs (used past) t c h.actor_used fresh) ∙ (before fresh).1)
blank_step past (Unlock t l) c h before fresh = ((before fresh).0, unchanged (nat_eq t c) _ (held past c) (differs (used past) t c h.actor_used fresh) ∙ (before fresh).1)
blank_step past (Read a) c h before fresh = before fresh
blank_step past (Write a) c h before fresh = before fresh
blank_step past (Alloc b) c h before fresh = before fresh
blank_step past (Free b) c h before fresh = before fresh
blank_step past (Send t k) c h before fresh = before fresh
blank_step past (Recv t k) c h before fresh = before fresh

pub fresh_is_blank : (trace : List Named) → IsAccepted trace → (c : ℕ) → IsFresh (events_of trace) c → IsBlank (events_of trace) c
fresh_is_blank [] h c fresh = (refl, refl)
fresh_is_blank (n ∷ trace) h c fresh = blank_step (events_of trace) n.event c (passes trace n h.1) (fresh_is_blank trace h.0 c) fresh

map_twice : (f g : ℕ → ThreadState) (k : ThreadState → ThreadState) → ((t : ℕ) → f t ≡ k (g t)) → (us : List ℕ) → map f us ≡ map k (map g us)
map_twice f g k h [] = refl
map_twice f g k h (u ∷ us) = λ i. h u i ∷ map_twice f g k h us i

abbrev thread_with : ℕ → Bool → List HeldLock → ThreadState
thread_with t alive hs = record { number = t; alive = alive; held = hs }

choice : (t : ℕ) (alive : Bool) (b : Bool) (hs gs : List HeldLock) → thread_with t alive (cond b hs gs) ≡ cond b (thread_with t alive hs) (thread_with t alive gs)
choice t alive true hs gs = refl
choice t alive false hs gs = refl

thread_added : (past : List Event) (us : List ℕ) (c : ℕ) → map (thread_of past) (with_member us c) ≡ with_thread (thread_of past c) (map (thread_of past) us)
thread_added past [] c = refl
thread_added past (u ∷ us) c =
    elim (nat_lt c u) as (λ b. map (thread_of past) (cond b (c ∷ u ∷ us) (cond (nat_eq c u) (u ∷ us) (u ∷ with_member us c))) ≡ cond b (map (thread_of past) (c ∷ u ∷ us)) (cond (nat_eq c u) (map (thread_of past) (u ∷ us)) (thread_of past u ∷ with_thread (thread_of past c) (map (thread_of past) us)))) [
      | true ↦ refl
      | false ↦ elim (nat_eq c u) as (λ b. map (thread_of past) (cond b (u ∷ us) (u ∷ with_member us c)) ≡ cond b (map (thread_of past) (u ∷ us)) (thread_of past u ∷ with_thread (thread_of past c) (map (thread_of past) us))) [
        | true ↦ refl
        | false ↦ λ i. thread_of past u ∷ thread_added past us c i
      ]
    ]

-- What one accepted event does to the threads.
pub threads_law : (past : List Event) (e : Event) → Passes past e → ((c : ℕ) → IsFresh past c → IsBlank past c) → threads_of (e ∷ past) ≡ threads_after e (threads_of past)
threads_law past (Fork p c) h blank =
    thread_added past (used past) c ∙ (λ i. with_thread (record { number = c; alive = (blank c h.forked).0 i; held = (blank c h.forked).1 i }) (threads_of past))
threads_law past (Join p c) h blank =
    map_twice (thread_of (Join p c ∷ past)) (thread_of past) _ (λ t. elim (nat_eq c t) as (λ b. record { number = t; alive = cond b false (not_joined past t); held = held past t } ≡ cond b (record { number = t; alive = false; held = held past t }) (thread_of past t)) [ true ↦ refl | false ↦ refl ]) (used past)
threads_law past (Lock u l) h blank =
    map_twice (thread_of (Lock u l ∷ past)) (thread_of past) _ (λ t. choice t (not_joined past t) (nat_eq u t) _ (held past t)) (used past)
threads_law past (RdLock u l) h blank =
    map_twice (thread_of (RdLock u l ∷ past)) (thread_of past) _ (λ t. choice t (not_joined past t) (nat_eq u t) _ (held past t)) (used past)
threads_law past (Unlock u l) h blank =
    map_twice (thread_of (Unlock u l ∷ past)) (thread_of past) _ (λ t. choice t (not_joined past t) (nat_eq u t) _ (held past t)) (used past)
threads_law past (Read a) h blank = refl
threads_law past (Write a) h blank = refl
threads_law past (Alloc b) h blank = refl
threads_law past (Free b) h blank = refl
threads_law past (Send t k) h blank = refl
threads_law past (Recv t k) h blank = refl

-- an acting thread that is alive and not full of locks
room_from : (threads : List ThreadState) (t : ℕ) (p q : ThreadState → Bool) → has_thread threads t p ≡ true → has_thread threads t q ≡ false → has_thread threads t (λ x. not (q x)) ≡ true
room_from [] t p q some none = absurd (false≢true some)
room_from (x ∷ threads) t p q some none =
    let parts = or_parts (nat_eq x.number t && q x) (has_thread threads t q) none in
    ⊎_elim
    (λ here. let is = and_parts (nat_eq x.number t) (p x) here in
    or_left (nat_eq x.number t && not (q x)) _ (and_from (nat_eq x.number t) (not (q x)) is.0 (not_from_false (q x) (ap (λ b. b && q x) (sym is.0) ∙ parts.0))))
    (λ later. or_right (nat_eq x.number t && not (q x)) _ (room_from threads t p q later parts.1))
    (or_cases (nat_eq x.number t && p x) _ some)

pub room_for_lock : (threads : List ThreadState) (t l : ℕ) → MayFollow threads (Lock t l) → has_thread threads t (λ x. not (nat_le 64 (length x.held))) ≡ true
room_for_lock threads t l (s, n, same, is, accepted) =
    let none = no_cause s n accepted in
    let alive : has_thread threads t (λ x. x.alive) ≡ true = not-false (has_thread threads t (λ x. x.alive)) ((λ i. no_thread (sym same i) (sym is i)) ∙ none.1.1.1.0) in
    let room : has_thread threads t (λ x. nat_le 64 (length x.held)) ≡ false = (λ i. full_held (sym same i) (sym is i)) ∙ none.1.1.1.1.1.1.1.1.1.1.1.0 in
    room_from threads t (λ x. x.alive) (λ x. nat_le 64 (length x.held)) alive room

pub room_for_read_lock : (threads : List ThreadState) (t l : ℕ) → MayFollow threads (RdLock t l) → has_thread threads t (λ x. not (nat_le 64 (length x.held))) ≡ true
room_for_read_lock threads t l (s, n, same, is, accepted) =
    let none = no_cause s n accepted in
    let alive : has_thread threads t (λ x. x.alive) ≡ true = not-false (has_thread threads t (λ x. x.alive)) ((λ i. no_thread (sym same i) (sym is i)) ∙ none.1.1.1.0) in
    let room : has_thread threads t (λ x. nat_le 64 (length x.held)) ≡ false = (λ i. full_held (sym same i) (sym is i)) ∙ none.1.1.1.1.1.1.1.1.1.1.1.0 in
    room_from threads t (λ x. x.alive) (λ x. nat_le 64 (length x.held)) alive room
