-- The reported item, the words of an access and the held locks, in plain words.
use Rattle.std.proofs.Common.{◌≡◌, ℕ, zero, suc, ◌+◌, ◌-◌, ◌*◌, ◌/◌, ◌<◌, ◌≤◌, Bool, true, false, cond, ◌&&◌, ◌||◌, nat_eq, nat_lt, Option, Some, None, List, [], ◌∷◌, ◌++◌, length, take, drop, slice_get, option_map, refl, sym, ap, ◌∙◌, subst, arith, ap₂, not, ⊎_elim, ltb-true, ltb-false, lt-ltb, eqb-true, eq-eqb}
use Rattle.std.proofs.lemmas.Bool.{false≢true, and_parts, or_cases}
use Rattle.std.proofs.lemmas.List.FromFn.{get_or-range_with_len, length-range_with_len}
use Rattle.std.proofs.lemmas.List.{append_assoc}
use Rattle.std.specs.List.{list_any, list_all, range_with_len}
use Rattle.std.specs.List.Sorted.{IsStrictlyIncreasing}
use Rattle.hg_model.specs.declared.event.Event.{Event}
use Rattle.hg_model.specs.declared.event.Event.TheVariants.{Fork, Join, Lock, RdLock, Unlock, Read, Write, Alloc, Free, Send, Recv}
use Rattle.hg_model.specs.declared.segment.Segment.{Segment}
use Rattle.hg_model.specs.declared.held.HeldLock.{HeldLock}
use Rattle.hg_model.specs.declared.word.HistoryItem.{HistoryItem}
use Rattle.hg_model.specs.Sets.{contains, is_empty}
use Rattle.hg_model.specs.History.{overlaps}
use Rattle.hg_model.specs.Reporting.{words_of}
use Rattle.hg_model.specs.Locks.{held, IsByRisingLock}
use Rattle.hg_model.specs.Sharing.{Sharing, Unshared, SharedFrom, sharing, lockset, is_race, first_race, reported_by}
use Rattle.hg_model.specs.Laws.{IsFirstRace, IsRace, IsSharingPoint, ReportsFirstRace, Shares}
use Rattle.hg_model.proofs.AllReported.{listed}
use Rattle.hg_model.proofs.PlainWords.{candidates_are_common_lem, sharing_begins_at_the_point_lem}
use Rattle.hg_model.proofs.Rising.{rising_filter, rising_with}

-- ---- a race, as a test and in plain words

none_common : (x : HistoryItem) (xs : List HistoryItem) (ls : List ℕ) → ls ≡ lockset (x ∷ xs) → is_empty ls ≡ true → (l : ℕ) → list_all (λ i. contains i.locks l) (x ∷ xs) ≡ false
none_common x xs [] same empty l = sym (candidates_are_common_lem x xs l) ∙ ap (λ ks. contains ks l) (sym same)
none_common x xs (k ∷ ls) same empty l = absurd (false≢true empty)

all_apart : (x : HistoryItem) (xs : List HistoryItem) (ls : List ℕ) → ls ≡ lockset (x ∷ xs) → ((l : ℕ) → list_all (λ i. contains i.locks l) (x ∷ xs) ≡ false) → is_empty ls ≡ true
all_apart x xs [] same apart = refl
all_apart x xs (k ∷ ls) same apart =
    let common : contains (k ∷ ls) k ≡ false = ap (λ ks. contains ks k) same ∙ candidates_are_common_lem x xs k ∙ apart k in
    absurd (false≢true (sym common ∙ ap (λ b. b || contains ls k) (eq-eqb k k refl)))

race_means : (x : HistoryItem) (xs : List HistoryItem) → is_race (x ∷ xs) ≡ true → IsRace (x ∷ xs)
race_means x xs h =
    let parts = and_parts (list_any (λ i. i.write) (x ∷ xs)) (is_empty (lockset (x ∷ xs))) h in
    record { write = parts.0; apart = none_common x xs (lockset (x ∷ xs)) refl parts.1 }

race_is : (x : HistoryItem) (xs : List HistoryItem) → IsRace (x ∷ xs) → is_race (x ∷ xs) ≡ true
race_is x xs r =
    ap (λ b. b && is_empty (lockset (x ∷ xs))) r.write ∙ all_apart x xs (lockset (x ∷ xs)) refl r.apart

-- ---- the first race behind a front

abbrev FirstFrom : List HistoryItem → List HistoryItem → Option ℕ → Type 0
FirstFrom front later None = (i : ℕ) → i < length later → is_race (front ++ take (suc i) later) ≡ false
FirstFrom front later (Some e) = (i : ℕ) × (i < length later) × (is_race (front ++ take (suc i) later) ≡ true) × ((j : ℕ) → j < i → is_race (front ++ take (suc j) later) ≡ false) × (option_map (λ x. x.event) (slice_get later i) ≡ Some e)

moved : (front : List HistoryItem) (x : HistoryItem) (later : List HistoryItem) (i : ℕ) → is_race ((front ++ x ∷ []) ++ take (suc i) later) ≡ is_race (front ++ take (suc (suc i)) (x ∷ later))
moved front x later i = ap is_race (append_assoc front (x ∷ []) (take (suc i) later))

next_first : (front : List HistoryItem) (x : HistoryItem) (later : List HistoryItem) → is_race (front ++ x ∷ []) ≡ false → (o : Option ℕ) → FirstFrom (front ++ x ∷ []) later o → FirstFrom front (x ∷ later) o
next_first front x later here None none = each
  where
    each : (i : ℕ) → i < suc (length later) → is_race (front ++ take (suc i) (x ∷ later)) ≡ false
    each zero lt = here
    each (suc i) lt = sym (moved front x later i) ∙ none i (omega arith)
next_first front x later here (Some e) (i, lt, race, before, event) = (suc i, omega arith, sym (moved front x later i) ∙ race, each, event)
  where
    each : (j : ℕ) → j < suc i → is_race (front ++ take (suc j) (x ∷ later)) ≡ false
    each zero less = here
    each (suc j) less = sym (moved front x later j) ∙ before j (omega arith)

first_from : (front later : List HistoryItem) → FirstFrom front later (first_race front later)
first_from front [] = λ i lt. absurd (omega arith)
first_from front (x ∷ later) =
    elim (is_race (front ++ x ∷ [])) as (λ b. is_race (front ++ x ∷ []) ≡ b → FirstFrom front (x ∷ later) (cond b (Some x.event) (first_race (front ++ x ∷ []) later))) [
      | true ↦ λ race. (0, omega arith, race, λ j less. absurd (omega arith), refl)
      | false ↦ λ quiet. next_first front x later quiet (first_race (front ++ x ∷ []) later) (first_from (front ++ x ∷ []) later)
    ] refl

-- ---- the sharing point is one

one_point : (segments : List Segment) (items : List HistoryItem) (k m : ℕ) → IsSharingPoint segments items k → IsSharingPoint segments items m → k < m → ⊥
one_point segments items k m p q less = false≢true (sym p.unreached ∙ q.first k less)

same_point : (segments : List Segment) (items : List HistoryItem) (k m : ℕ) → IsSharingPoint segments items k → IsSharingPoint segments items m → k ≡ m
same_point segments items k m p q =
    elim (nat_lt k m) as (λ b. nat_lt k m ≡ b → k ≡ m) [
      | true ↦ λ less. absurd (one_point segments items k m p q (ltb-true k m less))
      | false ↦ λ more. elim (nat_lt m k) as (λ b. nat_lt m k ≡ b → k ≡ m) [
        | true ↦ λ less. absurd (one_point segments items m k q p (ltb-true m k less))
        | false ↦ λ fewer. let a = ltb-false k m more in let b = ltb-false m k fewer in omega arith
      ] refl
    ] refl

drop_suc : (k : ℕ) (xs : List HistoryItem) (y : HistoryItem) (ys : List HistoryItem) → drop k xs ≡ y ∷ ys → drop (suc k) xs ≡ ys
drop_suc zero [] y ys is = absurd (cc is)
drop_suc zero (x ∷ xs) y ys is = cc is
drop_suc (suc k) [] y ys is = absurd (cc is)
drop_suc (suc k) (x ∷ xs) y ys is = drop_suc k xs y ys is

first_is : (first : HistoryItem) (later : List HistoryItem) (e : ℕ) → FirstFrom [] (first ∷ later) (Some e)
    → (i : ℕ) × IsFirstRace (first ∷ later) i × (option_map (λ x. x.event) (slice_get (first ∷ later) i) ≡ Some e)
first_is first later e (i, lt, race, before, event) =
    (i, record { within = lt; race = race_means first (take i later) race; first = λ j less r. false≢true (sym (before j less) ∙ race_is first (take j later) r) }, event)

reported : (segments : List Segment) (items : List HistoryItem) (s : Sharing) → Shares segments items s → ReportsFirstRace segments items (reported_by s)
reported segments items Unshared none = λ k i point race. none k point
reported segments items (SharedFrom previous first later) (k, point, is) = told (first_race [] (first ∷ later)) (first_from [] (first ∷ later))
  where
    behind : drop (suc k) items ≡ first ∷ later
    behind = drop_suc k items previous (first ∷ later) is

    told : (o : Option ℕ) → FirstFrom [] (first ∷ later) o → ReportsFirstRace segments items o
    told None none = λ m i other race.
        let same : m ≡ k = same_point segments items m k other point in
        let here : IsFirstRace (first ∷ later) i = subst (λ (xs : List HistoryItem). IsFirstRace xs i) (ap (λ (n : ℕ). drop (suc n) items) same ∙ behind) race in
        false≢true (sym (none i here.within) ∙ race_is first (take i later) here.race)
    told (Some e) found =
        let it = first_is first later e found in
        (k, it.0, point, subst (λ (xs : List HistoryItem). IsFirstRace xs it.0) (sym behind) it.1, ap (λ (xs : List HistoryItem). option_map (λ x. x.event) (slice_get xs it.0)) behind ∙ it.2)

pub first_race_is_reported_lem : (segments : List Segment) (items : List HistoryItem) → ReportsFirstRace segments items (reported_by (sharing segments items))
first_race_is_reported_lem segments items = reported segments items (sharing segments items) (sharing_begins_at_the_point_lem segments items)

-- ---- held locks

held_with : (b : Bool) (new old : List HeldLock) → IsByRisingLock new → IsByRisingLock old → IsByRisingLock (cond b new old)
held_with true new old n o = n
held_with false new old n o = o

pub held_rise_lem : (past : List Event) (t : ℕ) → IsByRisingLock (held past t)
held_rise_lem [] t = λ k lt. absurd (omega arith)
held_rise_lem (Lock u l ∷ past) t = held_with (nat_eq u t) _ _ (rising_with (record { lock = l; write = true }) (held past t) (held_rise_lem past t)) (held_rise_lem past t)
held_rise_lem (RdLock u l ∷ past) t = held_with (nat_eq u t) _ _ (rising_with (record { lock = l; write = false }) (held past t) (held_rise_lem past t)) (held_rise_lem past t)
held_rise_lem (Unlock u l ∷ past) t = held_with (nat_eq u t) _ _ (rising_filter (λ h. not (nat_eq h.lock l)) (held past t) (held_rise_lem past t)) (held_rise_lem past t)
held_rise_lem (Fork p c ∷ past) t = held_rise_lem past t
held_rise_lem (Join p c ∷ past) t = held_rise_lem past t
held_rise_lem (Read a ∷ past) t = held_rise_lem past t
held_rise_lem (Write a ∷ past) t = held_rise_lem past t
held_rise_lem (Alloc b ∷ past) t = held_rise_lem past t
held_rise_lem (Free b ∷ past) t = held_rise_lem past t
held_rise_lem (Send u k ∷ past) t = held_rise_lem past t
held_rise_lem (Recv u k ∷ past) t = held_rise_lem past t

-- ---- the words of an access

found_in : (from n w : ℕ) → contains (range_with_len from n) w ≡ true → (from ≤ w) × (w < from + n)
found_in from zero w h = absurd (false≢true h)
found_in from (suc n) w h =
    ⊎_elim
    (λ here. let same = eqb-true from w here in (omega arith, omega arith))
    (λ behind. let found = found_in (from + 1) n w behind in (omega (arith, found.0), omega (arith, found.1)))
    (or_cases (nat_eq from w) (contains (range_with_len (from + 1) n) w) h)

-- a word of the range is overlapped
overlapped : (at len w : ℕ) → contains (words_of at len) w ≡ true → overlaps at len w ≡ true
overlapped at len w h =
    let found = found_in (at / 4) ((at + len + 3) / 4 - at / 4) w h in
    ap₂ (λ a b. a && b) (lt-ltb at (4 * w + 4) (omega (arith, found.0, found.1))) (lt-ltb (4 * w) (at + len) (omega (arith, found.0, found.1)))

both_ways : (a b : Bool) → (a ≡ true → b ≡ true) → (b ≡ true → a ≡ true) → a ≡ b
both_ways true b there back = sym (there refl)
both_ways false true there back = back refl
both_ways false false there back = refl

rises : (from n : ℕ) → IsStrictlyIncreasing (range_with_len from n)
rises from n k lt =
    let within : k + 1 < n = rw (← length-range_with_len from n) lt in
    let here = get_or-range_with_len from n k 0 (omega arith) in
    let next = get_or-range_with_len from n (k + 1) 0 within in
    rw (here, next) (omega arith)

pub words_lem : (at len : ℕ) → IsStrictlyIncreasing (words_of at len) × ((w : ℕ) → contains (words_of at len) w ≡ overlaps at len w)
words_lem at len = (rises _ _, λ w. both_ways (contains (words_of at len) w) (overlaps at len w) (overlapped at len w) (listed at len w))
