-- A word is reported at the access that makes it racy, and at no other.
use Rattle.std.proofs.Common.{◌≡◌, ℕ, ◌<◌, Bool, true, false, cond, not, ◌&&◌, nat_eq, List, [], ◌∷◌, ◌++◌, filter, Some, None, refl, sym, ap, ◌∙◌, arith, append_assoc, append-nil, eq-eqb, ne_eqb}
use Rattle.std.proofs.lemmas.Bool.{and_parts, and_right, and_from, or_left}
use Rattle.std.proofs.lemmas.List.Folds.{list_any-append}
use Rattle.std.specs.List.{list_any, list_all, AllByRecursion}
use Rattle.hg_model.specs.declared.segment.Segment.{Segment}
use Rattle.hg_model.specs.Paths.{reaches}
use Rattle.hg_model.specs.declared.word.HistoryItem.{HistoryItem}
use Rattle.hg_model.specs.Sets.{is_empty}
use Rattle.hg_model.specs.Sharing.{Sharing, Unshared, SharedFrom, sharing, lockset, shared, owned, state_by, state, is_race, first_race, reported_by, reported_item}
use Rattle.hg_model.specs.declared.word.WordState.{WordState}
use Rattle.hg_model.specs.declared.word.WordState.TheVariants.{New, Exclusive}
use Rattle.hg_model.specs.Reporting.{is_number}
use Rattle.hg_model.specs.Change.{is_racy}
use Rattle.hg_model.proofs.Sharings.{last_item, pushed, sharing_push, has_it, lockset_append}

still_empty : (p : ℕ → Bool) (xs : List ℕ) → is_empty xs ≡ true → is_empty (filter p xs) ≡ true
still_empty p [] h = refl
still_empty p (x ∷ xs) h = cc

-- a race stays one
race_stays : (first : HistoryItem) (xs ys : List HistoryItem) → is_race (first ∷ xs) ≡ true → is_race (first ∷ (xs ++ ys)) ≡ true
race_stays first xs ys h =
    let parts = and_parts (list_any (λ j. j.write) (first ∷ xs)) (is_empty (lockset (first ∷ xs))) h in
    and_from _ _
    (list_any-append (λ (j : HistoryItem). j.write) (first ∷ xs) ys ∙ or_left _ _ parts.0)
    (ap is_empty (lockset_append first xs ys) ∙ still_empty (λ l. list_all (has_it l) ys) (lockset (first ∷ xs)) parts.1)

abbrev pub EarlierThan : ℕ → HistoryItem → Type 0
EarlierThan n i = i.event < n

pub not_now : (n e : ℕ) → e < n → nat_eq n e ≡ false
not_now n e h = ne_eqb n e (λ same. omega arith)

-- after items that are no race
first_race_push : (n : ℕ) (first : HistoryItem) (front later : List HistoryItem) (i : HistoryItem) → AllByRecursion (EarlierThan n) later → i.event ≡ n → is_race (first ∷ front) ≡ false →
    is_number n (first_race (first ∷ front) (later ++ i ∷ [])) ≡ (is_race (first ∷ (front ++ (later ++ i ∷ []))) && not (is_race (first ∷ (front ++ later))))
first_race_push n first front [] i early now calm =
    (elim (is_race (first ∷ (front ++ i ∷ []))) as (λ b. is_number n (cond b (Some i.event) None) ≡ (b && true)) [ true ↦ eq-eqb n i.event (sym now) | false ↦ refl ])
    ∙ (λ k. is_race (first ∷ (front ++ i ∷ [])) && not (sym (ap (λ q. is_race (first ∷ q)) (append-nil front) ∙ calm) k))
first_race_push n first front (x ∷ later) i early now calm =
    (elim (is_race (first ∷ (front ++ x ∷ []))) as (λ b. is_race (first ∷ (front ++ x ∷ [])) ≡ b → is_number n (cond b (Some x.event) (first_race (first ∷ (front ++ x ∷ [])) (later ++ i ∷ []))) ≡ (is_race (first ∷ (front ++ x ∷ [] ++ (later ++ i ∷ []))) && not (is_race (first ∷ (front ++ x ∷ [] ++ later))))) [
      | true ↦ λ race. not_now n x.event early.0 ∙ sym (and_right (is_race (first ∷ (front ++ x ∷ [] ++ (later ++ i ∷ [])))) _ (ap not (race_stays first (front ++ x ∷ []) later race)))
      | false ↦ λ calm'. first_race_push n first (front ++ x ∷ []) later i early.1 now calm'
    ] refl)
    ∙ (λ k. is_race (first ∷ (append_assoc front (x ∷ []) (later ++ i ∷ []) k)) && not (is_race (first ∷ (append_assoc front (x ∷ []) later k))))

abbrev pub race_by : Sharing → Bool
race_by Unshared = false
race_by (SharedFrom previous first later) = is_race (first ∷ later)

abbrev pub EarlierSharing : ℕ → Sharing → Type 0
EarlierSharing n Unshared = Unit {0}
EarlierSharing n (SharedFrom previous first later) = (first.event < n) × AllByRecursion (EarlierThan n) later

reported_pushed : (n : ℕ) (segments : List Segment) (s : Sharing) (last i : HistoryItem) → EarlierSharing n s → i.event ≡ n →
    is_number n (reported_by (pushed segments s last i)) ≡ (race_by (pushed segments s last i) && not (race_by s))
reported_pushed n segments Unshared last i early now =
    elim (reaches segments last.segment i.segment) as (λ b. is_number n (reported_by (cond b Unshared (SharedFrom last i []))) ≡ (race_by (cond b Unshared (SharedFrom last i [])) && true)) [
      | true ↦ refl
      | false ↦ elim (is_race (i ∷ [])) as (λ b. is_number n (cond b (Some i.event) None) ≡ (b && true)) [ true ↦ eq-eqb n i.event (sym now) | false ↦ refl ]
    ]
reported_pushed n segments (SharedFrom previous first later) last i early now =
    elim (is_race (first ∷ [])) as (λ b. is_race (first ∷ []) ≡ b → is_number n (cond b (Some first.event) (first_race (first ∷ []) (later ++ i ∷ []))) ≡ (is_race (first ∷ (later ++ i ∷ [])) && not (is_race (first ∷ later)))) [
      | true ↦ λ race. not_now n first.event early.0 ∙ sym (and_right (is_race (first ∷ (later ++ i ∷ []))) _ (ap not (race_stays first [] later race)))
      | false ↦ λ calm. first_race_push n first [] later i early.1 now calm
    ] refl

pub early_sharing : (n : ℕ) (segments : List Segment) (items : List HistoryItem) → AllByRecursion (EarlierThan n) items → EarlierSharing n (sharing segments items)
early_sharing n segments [] h = tt
early_sharing n segments (x ∷ []) h = tt
early_sharing n segments (x ∷ y ∷ items) h =
    elim (reaches segments x.segment y.segment) as (λ b. EarlierSharing n (cond b (sharing segments (y ∷ items)) (SharedFrom x y items))) [
      | true ↦ early_sharing n segments (y ∷ items) h.1
      | false ↦ h.1
    ]

racy_owned : (s : WordState) (items : List HistoryItem) → is_racy s ≡ false → is_racy (owned s items) ≡ false
racy_owned s [] h = h
racy_owned s (x ∷ items) h = racy_owned (Exclusive x.segment) items refl

racy_shared : (b : Bool) (threads locks : List ℕ) → is_racy (shared b threads locks) ≡ (b && is_empty locks)
racy_shared true threads locks = refl
racy_shared false threads locks = refl

racy_state : (s : Sharing) (items : List HistoryItem) → is_racy (state_by s items) ≡ race_by s
racy_state Unshared items = racy_owned New items refl
racy_state (SharedFrom previous first later) items = racy_shared (list_any (λ j. j.write) (first ∷ later)) _ (lockset (first ∷ later))

-- The reported item is the one that makes the word racy.
pub reported_push : (n : ℕ) (segments : List Segment) (items : List HistoryItem) (i : HistoryItem) → AllByRecursion (EarlierThan n) items → i.event ≡ n →
    is_number n (reported_item segments (items ++ i ∷ [])) ≡ (is_racy (state segments (items ++ i ∷ [])) && not (is_racy (state segments items)))
reported_push n segments [] i early now = refl
reported_push n segments (x ∷ items) i early now =
    ap (λ s. is_number n (reported_by s)) (sharing_push segments x items i)
    ∙ reported_pushed n segments (sharing segments (x ∷ items)) (last_item x items) i (early_sharing n segments (x ∷ items) early) now
    ∙ (λ k. sym (racy_state (sharing segments ((x ∷ items) ++ i ∷ [])) ((x ∷ items) ++ i ∷ []) ∙ ap race_by (sharing_push segments x items i)) k && not (sym (racy_state (sharing segments (x ∷ items)) (x ∷ items)) k))
