-- The order of reports, and sorting by it.
use Rattle.std.proofs.Common.{◌≡◌, ◌⊎◌, suc, ◌+◌, ◌<◌, true, false, cond, ◌&&◌, nat_eq, nat_lt, List, [], ◌∷◌, ◌++◌, length, refl, sym, ap, ◌∙◌, inl, inr, ⊎_elim, arith, eq-eqb, eqb-true, ltb-true, lt-ltb}
use Rattle.std.proofs.lemmas.Bool.{or_left, or_right, or_cases, or_from, and_parts, and_from, and_left, ne_eqb, le-ltb, and_right}
use Rattle.std.proofs.lemmas.List.Sums.{fold-append}
use Rattle.std.specs.List.{AllByRecursion, fold}
use Rattle.hg_model.specs.declared.report.Report.{Report}
use Rattle.hg_shards.specs.Merging.{is_before, IsBefore, with_report, sorted}

-- in numbers: by event, and then by word
abbrev pub Precedes : Report → Report → Type 0
Precedes r s = (r.event < s.event) ⊎ ((r.event ≡ s.event) × (r.word < s.word))

pub precedes : (r s : Report) → IsBefore r s → Precedes r s
precedes r s h =
    ⊎_elim
    (λ less. inl (ltb-true r.event s.event less))
    (λ both. let parts = and_parts (nat_eq r.event s.event) (nat_lt r.word s.word) both in inr (eqb-true r.event s.event parts.0, ltb-true r.word s.word parts.1))
    (or_cases (nat_lt r.event s.event) (nat_eq r.event s.event && nat_lt r.word s.word) h)

pub before : (r s : Report) → Precedes r s → IsBefore r s
before r s h =
    ⊎_elim
    (λ less. or_left (nat_lt r.event s.event) _ (lt-ltb r.event s.event less))
    (λ (both : (r.event ≡ s.event) × (r.word < s.word)). or_right (nat_lt r.event s.event) _ (and_from (nat_eq r.event s.event) (nat_lt r.word s.word) (eq-eqb r.event s.event both.0) (lt-ltb r.word s.word both.1)))
    h

pub not_after : (r s : Report) → IsBefore r s → is_before s r ≡ false
not_after r s h =
    ⊎_elim
    (λ less. or_from (nat_lt s.event r.event) _ (le-ltb s.event r.event (omega arith)) (and_left (nat_eq s.event r.event) (nat_lt s.word r.word) (ne_eqb s.event r.event (λ e. omega arith))))
    (λ (both : (r.event ≡ s.event) × (r.word < s.word)).
    let same = both.0 in let less = both.1 in
    or_from (nat_lt s.event r.event) _ (le-ltb s.event r.event (omega arith)) (and_right (nat_eq s.event r.event) (nat_lt s.word r.word) (le-ltb s.word r.word (omega arith))))
    (precedes r s h)

pub before_all : (r s t : Report) → IsBefore r s → IsBefore s t → IsBefore r t
before_all r s t g h =
    before r t
    (⊎_elim
    (λ (a : r.event < s.event). ⊎_elim (λ (b : s.event < t.event). inl (omega arith)) (λ (b : (s.event ≡ t.event) × (s.word < t.word)). let e = b.0 in inl (omega arith)) (precedes s t h))
    (λ (a : (r.event ≡ s.event) × (r.word < s.word)).
    let same = a.0 in let less = a.1 in
    ⊎_elim (λ (b : s.event < t.event). inl (omega arith)) (λ (b : (s.event ≡ t.event) × (s.word < t.word)). let e = b.0 in let l = b.1 in inr (omega arith, omega arith)) (precedes s t h))
    (precedes r s g))

module _ {X : Type 0} (P : X → Type 0) where
  pub each_both : (xs ys : List X) → AllByRecursion P xs → AllByRecursion P ys → AllByRecursion P (xs ++ ys)
  each_both [] ys h k = k
  each_both (x ∷ xs) ys h k = (h.0, each_both xs ys h.1 k)

  pub each_weaker : (Q : X → Type 0) → ((x : X) → P x → Q x) → (xs : List X) → AllByRecursion P xs → AllByRecursion Q xs
  each_weaker Q f [] h = tt
  each_weaker Q f (x ∷ xs) h = (f x h.0, each_weaker Q f xs h.1)

pub each_with : (P : Report → Type 0) (reports : List Report) (r : Report) → AllByRecursion P reports → P r → AllByRecursion P (with_report reports r)
each_with P [] r h k = (k, tt)
each_with P (s ∷ reports) r h k = elim (is_before r s) as (λ b. AllByRecursion P (cond b (r ∷ s ∷ reports) (s ∷ with_report reports r))) [ true ↦ (k, h) | false ↦ (h.0, each_with P reports r h.1 k) ]

pub each_sorted : (P : Report → Type 0) (front reports : List Report) → AllByRecursion P front → AllByRecursion P reports → AllByRecursion P (fold with_report front reports)
each_sorted P front [] h k = h
each_sorted P front (r ∷ reports) h k = each_sorted P (with_report front r) reports (each_with P front r h k.0) k.1

-- the second is not before the first
abbrev pub NotAfter : Report → Report → Type 0
NotAfter r s = is_before s r ≡ false

put_first : (r : Report) (reports : List Report) → AllByRecursion (IsBefore r) reports → with_report reports r ≡ r ∷ reports
put_first r [] h = refl
put_first r (s ∷ reports) h = ap (λ b. cond b (r ∷ s ∷ reports) (s ∷ with_report reports r)) h.0

stays_first : (r : Report) (front reports : List Report) → AllByRecursion (NotAfter r) reports → fold with_report (r ∷ front) reports ≡ r ∷ fold with_report front reports
stays_first r front [] h = refl
stays_first r front (s ∷ reports) h =
    ap (λ b. fold with_report (cond b (s ∷ r ∷ front) (r ∷ with_report front s)) reports) h.0 ∙ stays_first r (with_report front s) reports h.1

-- A report that stands before all in front of it, and behind none that follow, comes first.
pub least_is_first : (r : Report) (xs ys : List Report) → AllByRecursion (IsBefore r) xs → AllByRecursion (NotAfter r) ys → sorted (xs ++ r ∷ ys) ≡ r ∷ sorted (xs ++ ys)
least_is_first r xs ys low high =
    fold-append with_report [] xs (r ∷ ys)
    ∙ ap (λ front. fold with_report front ys) (put_first r (sorted xs) (each_sorted (IsBefore r) [] xs tt low))
    ∙ stays_first r (sorted xs) ys high
    ∙ ap (λ rest. r ∷ rest) (sym (fold-append with_report [] xs ys))

length_with : (reports : List Report) (r : Report) → length (with_report reports r) ≡ suc (length reports)
length_with [] r = refl
length_with (s ∷ reports) r = elim (is_before r s) as (λ b. length (cond b (r ∷ s ∷ reports) (s ∷ with_report reports r)) ≡ suc (suc (length reports))) [ true ↦ refl | false ↦ ap suc (length_with reports r) ]

length_from : (front reports : List Report) → length (fold with_report front reports) ≡ length front + length reports
length_from front [] = omega arith
length_from front (r ∷ reports) = length_from (with_report front r) reports ∙ (let e = length_with front r in omega arith)

pub length_sorted : (reports : List Report) → length (sorted reports) ≡ length reports
length_sorted reports = length_from [] reports ∙ omega arith
