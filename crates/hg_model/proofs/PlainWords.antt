-- The computed definitions in the plain words that they stand for.
use Rattle.std.proofs.Common.{◌≡◌, ℕ, zero, suc, ◌<◌, Bool, true, false, cond, ◌||◌, ◌&&◌, nat_eq, nat_lt, List, [], ◌∷◌, ◌++◌, length, filter, slice_get, refl, sym, ap, ◌∙◌, subst, arith}
use Rattle.std.proofs.lemmas.Bool.{false≢true, eqb-true, and_right}
use Rattle.std.specs.List.{list_all, fold}
use Rattle.hg_model.specs.declared.segment.Segment.{Segment}
use Rattle.hg_model.specs.declared.word.HistoryItem.{HistoryItem}
use Rattle.hg_model.specs.Sets.{with_member, set_of, contains}
use Rattle.hg_model.specs.declared.event.Event.{Event}
use Rattle.hg_model.specs.Segments.{segments_of, opened}
use Rattle.hg_model.specs.Paths.{HasEdge, reaches}
use Rattle.hg_model.proofs.Graph.{member_below, segments_rising}
use Rattle.hg_model.specs.Sharing.{Sharing, Unshared, SharedFrom, sharing, lockset, segment_at}
use Rattle.hg_model.specs.Laws.{IsSharingPoint, Shares}

-- a sharing point with one item more in front
point_later : (segments : List Segment) (x y : HistoryItem) (items : List HistoryItem) (k : ℕ) → reaches segments x.segment y.segment ≡ true → IsSharingPoint segments (y ∷ items) k → IsSharingPoint segments (x ∷ y ∷ items) (suc k)
point_later segments x y items k reached p =
    record { within = let lt = p.within in omega arith; unreached = p.unreached; first = each }
  where
    each : (j : ℕ) → j < suc k → reaches segments (segment_at (x ∷ y ∷ items) j) (segment_at (x ∷ y ∷ items) (suc j)) ≡ true
    each zero lt = reached
    each (suc j) lt = p.first j (omega arith)

-- there is none where there is none behind the first item
none_later : (segments : List Segment) (x y : HistoryItem) (items : List HistoryItem) → reaches segments x.segment y.segment ≡ true → ((k : ℕ) → IsSharingPoint segments (y ∷ items) k → ⊥) → (k : ℕ) → IsSharingPoint segments (x ∷ y ∷ items) k → ⊥
none_later segments x y items reached none zero p = false≢true (sym p.unreached ∙ reached)
none_later segments x y items reached none (suc k) p =
    none k (record { within = let lt = p.within in omega arith; unreached = p.unreached; first = λ j lt. p.first (suc j) (omega arith) })

pub sharing_begins_at_the_point_lem : (segments : List Segment) (items : List HistoryItem) → Shares segments items (sharing segments items)
sharing_begins_at_the_point_lem segments [] = λ k p. let lt = p.within in absurd (omega arith)
sharing_begins_at_the_point_lem segments (x ∷ []) = λ k p. let lt = p.within in absurd (omega arith)
sharing_begins_at_the_point_lem segments (x ∷ y ∷ items) =
    elim (reaches segments x.segment y.segment) as (λ b. reaches segments x.segment y.segment ≡ b → Shares segments (x ∷ y ∷ items) (cond b (sharing segments (y ∷ items)) (SharedFrom x y items))) [
      | true ↦ λ reached. later reached (sharing segments (y ∷ items)) (sharing_begins_at_the_point_lem segments (y ∷ items))
      | false ↦ λ unreached. (0, record { within = omega arith; unreached = unreached; first = λ j lt. absurd (omega arith) }, refl)
    ] refl
  where
    later : reaches segments x.segment y.segment ≡ true → (s : Sharing) → Shares segments (y ∷ items) s → Shares segments (x ∷ y ∷ items) s
    later reached Unshared none = none_later segments x y items reached none
    later reached (SharedFrom previous first rest) (k, point, is) = (suc k, point_later segments x y items k reached point, is)

stays : (xs ys : List Segment) (g : ℕ) → g < length xs → slice_get (xs ++ ys) g ≡ slice_get xs g
stays [] ys g lt = absurd (omega arith)
stays (x ∷ xs) ys zero lt = refl
stays (x ∷ xs) ys (suc g) lt = stays xs ys g (omega arith)

pub segments_keep_their_numbers_lem : (past : List Event) (e : Event) (g : ℕ) → g < length (segments_of past) → slice_get (segments_of (e ∷ past)) g ≡ slice_get (segments_of past) g
segments_keep_their_numbers_lem past e g lt = stays (segments_of past) (opened (segments_of past) e) g lt

pub edges_lead_forward_lem : (past : List Event) (s g : ℕ) → HasEdge (segments_of past) s g → s < g
edges_lead_forward_lem past s g edge = member_below (segments_of past) (segments_rising past) s g edge

contains_with : (xs : List ℕ) (m n : ℕ) → contains (with_member xs m) n ≡ (contains xs n || nat_eq m n)
contains_with [] m n = or_false (nat_eq m n)
  where
    or_false : (b : Bool) → (b || false) ≡ b
    or_false true = refl
    or_false false = refl
contains_with (x ∷ xs) m n =
    elim (nat_lt m x) as (λ b. contains (cond b (m ∷ x ∷ xs) (cond (nat_eq m x) (x ∷ xs) (x ∷ with_member xs m))) n ≡ ((nat_eq x n || contains xs n) || nat_eq m n)) [
      | true ↦ turn (nat_eq m n) (nat_eq x n || contains xs n)
      | false ↦ elim (nat_eq m x) as (λ b. nat_eq m x ≡ b → contains (cond b (x ∷ xs) (x ∷ with_member xs m)) n ≡ ((nat_eq x n || contains xs n) || nat_eq m n)) [
        | true ↦ λ same. subst (λ (k : ℕ). (nat_eq x n || contains xs n) ≡ ((nat_eq x n || contains xs n) || nat_eq k n)) (sym (eqb-true m x same)) (again (nat_eq x n) (contains xs n))
        | false ↦ λ _. ap (λ b. nat_eq x n || b) (contains_with xs m n) ∙ joined (nat_eq x n) (contains xs n) (nat_eq m n)
      ] refl
    ]
  where
    turn : (a b : Bool) → (a || b) ≡ (b || a)
    turn true true = refl
    turn true false = refl
    turn false true = refl
    turn false false = refl

    again : (a b : Bool) → (a || b) ≡ ((a || b) || a)
    again true b = refl
    again false true = refl
    again false false = refl

    joined : (a b c : Bool) → (a || (b || c)) ≡ ((a || b) || c)
    joined true b c = refl
    joined false b c = refl

contains_fold : (start ns : List ℕ) (n : ℕ) → contains (fold with_member start ns) n ≡ (contains start n || contains ns n)
contains_fold start [] n = or_false (contains start n)
  where
    or_false : (b : Bool) → b ≡ (b || false)
    or_false true = refl
    or_false false = refl
contains_fold start (m ∷ ns) n =
    contains_fold (with_member start m) ns n ∙ ap (λ b. b || contains ns n) (contains_with start m n) ∙ joined (contains start n) (nat_eq m n) (contains ns n)
  where
    joined : (a b c : Bool) → ((a || b) || c) ≡ (a || (b || c))
    joined true b c = refl
    joined false b c = refl

pub sets_have_their_numbers_lem : (ns : List ℕ) (n : ℕ) → contains (set_of ns) n ≡ contains ns n
sets_have_their_numbers_lem ns n = contains_fold [] ns n

-- what a filter keeps of a set
contains_filter : (p : ℕ → Bool) (xs : List ℕ) (l : ℕ) → contains (filter p xs) l ≡ (contains xs l && p l)
contains_filter p [] l = refl
contains_filter p (x ∷ xs) l =
    elim (nat_eq x l) as (λ b. nat_eq x l ≡ b → contains (cond (p x) (x ∷ filter p xs) (filter p xs)) l ≡ ((b || contains xs l) && p l)) [
      | true ↦ λ same. here (contains_filter p xs l) (p x) (ap p (eqb-true x l same)) same
      | false ↦ λ other. elim (p x) as (λ b. contains (cond b (x ∷ filter p xs) (filter p xs)) l ≡ (contains xs l && p l)) [
        | true ↦ ap (λ b. b || contains (filter p xs) l) other ∙ contains_filter p xs l
        | false ↦ contains_filter p xs l
      ]
    ] refl
  where
    here : contains (filter p xs) l ≡ (contains xs l && p l) → (b : Bool) → b ≡ p l → nat_eq x l ≡ true → contains (cond b (x ∷ filter p xs) (filter p xs)) l ≡ p l
    here rest true is same = ap (λ c. c || contains (filter p xs) l) same ∙ is
    here rest false is same = rest ∙ and_right (contains xs l) (p l) (sym is) ∙ is

pub candidates_are_common_lem : (first : HistoryItem) (later : List HistoryItem) (l : ℕ) → contains (lockset (first ∷ later)) l ≡ list_all (λ i. contains i.locks l) (first ∷ later)
candidates_are_common_lem first later l = contains_filter (λ k. list_all (λ i. contains i.locks k) later) first.locks l
