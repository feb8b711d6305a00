-- Rising lists of numbers are equal where they have the same members.
use Rattle.std.proofs.Common.{◌≡◌, ℕ, suc, ◌<◌, ◌≤◌, Bool, true, false, cond, ◌||◌, ◌&&◌, nat_eq, List, [], ◌∷◌, filter, refl, sym, ap, ◌∙◌, subst, ⊎_elim, arith, eq-eqb, eqb-true}
use Rattle.std.proofs.lemmas.Bool.{false≢true, or_left, or_right, or_cases, ne_eqb}
use Rattle.std.specs.List.{AllByRecursion}
use Rattle.hg_model.specs.Sets.{contains}
use Rattle.hg_model.proofs.Rising.{From, from_less}

pub from_filter : (p : ℕ → Bool) (n : ℕ) (xs : List ℕ) → From n xs → From n (filter p xs)
from_filter p n [] f = tt
from_filter p n (x ∷ xs) f =
    elim (p x) as (λ b. From n (cond b (x ∷ filter p xs) (filter p xs))) [
      | true ↦ (f.0, from_filter p (suc x) xs f.1)
      | false ↦ from_less n (suc x) _ (let l = f.0 in omega arith) (from_filter p (suc x) xs f.1)
    ]

-- a lesser number is no member
pub absent : (n w : ℕ) (xs : List ℕ) → From n xs → w < n → contains xs w ≡ false
absent n w [] f lt = refl
absent n w (x ∷ xs) f lt = ap (λ b. b || contains xs w) (ne_eqb x w (λ e. let l = f.0 in omega arith)) ∙ absent (suc x) w xs f.1 (let l = f.0 in omega arith)

first_among : (x y : ℕ) (ys : List ℕ) → From y (y ∷ ys) → contains (y ∷ ys) x ≡ true → y ≤ x
first_among x y ys f h =
    elim (nat_eq y x) as (λ b. nat_eq y x ≡ b → y ≤ x) [
      | true ↦ λ same. let e = eqb-true y x same in omega arith
      | false ↦ λ other. at_least x y ys f.1 (ap (λ b. b || contains ys x) (sym other) ∙ h)
    ] refl
  where
    at_least : (x y : ℕ) (ys : List ℕ) → From (suc y) ys → contains ys x ≡ true → y ≤ x
    at_least x y [] f h = absurd (false≢true h)
    at_least x y (z ∷ zs) f h =
        ⊎_elim (λ same. let e = eqb-true z x same in let l = f.0 in omega arith) (λ later. let l = at_least x z zs f.1 later in let m = f.0 in omega arith) (or_cases (nat_eq z x) _ h)

pub has_first : (x : ℕ) (xs : List ℕ) → contains (x ∷ xs) x ≡ true
has_first x xs = or_left (nat_eq x x) _ (eq-eqb x x refl)

without_first : (x : ℕ) (xs ys : List ℕ) → From (suc x) xs → From (suc x) ys → ((w : ℕ) → contains (x ∷ xs) w ≡ contains (x ∷ ys) w) → (w : ℕ) → contains xs w ≡ contains ys w
without_first x xs ys f g same w =
    elim (nat_eq x w) as (λ b. nat_eq x w ≡ b → contains xs w ≡ contains ys w) [
      | true ↦ λ is. let e = eqb-true x w is in absent (suc x) w xs f (omega arith) ∙ sym (absent (suc x) w ys g (omega arith))
      | false ↦ λ other. ap (λ b. b || contains xs w) (sym other) ∙ same w ∙ ap (λ b. b || contains ys w) other
    ] refl

pub rising_same : (n : ℕ) (xs ys : List ℕ) → From n xs → From n ys → ((w : ℕ) → contains xs w ≡ contains ys w) → xs ≡ ys
rising_same n [] [] f g same = refl
rising_same n [] (y ∷ ys) f g same = absurd (false≢true (same y ∙ has_first y ys))
rising_same n (x ∷ xs) [] f g same = absurd (false≢true (sym (same x) ∙ has_first x xs))
rising_same n (x ∷ xs) (y ∷ ys) f g same =
    let low = first_among x y ys (omega arith, g.1) (sym (same x) ∙ has_first x xs) in
    let high = first_among y x xs (omega arith, f.1) (same y ∙ has_first y ys) in
    let e : y ≡ x = omega arith in
    ap (λ zs. x ∷ zs) (rising_same (suc x) xs ys f.1 (subst (λ z. From (suc z) ys) e g.1) (without_first x xs ys f.1 (subst (λ z. From (suc z) ys) e g.1) (subst (λ z. (w : ℕ) → contains (x ∷ xs) w ≡ contains (z ∷ ys) w) e same)))
    ∙ ap (λ z. z ∷ ys) (sym e)

filter_step : (p : ℕ → Bool) (x : ℕ) (xs : List ℕ) (w : ℕ) → contains (filter p xs) w ≡ (p w && contains xs w) → (same : Bool) → nat_eq x w ≡ same → (passes : Bool) → p x ≡ passes →
    contains (cond passes (x ∷ filter p xs) (filter p xs)) w ≡ (p w && (same || contains xs w))
filter_step p x xs w h true is true passes = ap (λ b. b || contains (filter p xs) w) is ∙ sym (ap (λ b. b && true) (ap p (sym (eqb-true x w is)) ∙ passes))
filter_step p x xs w h true is false fails =
    h ∙ ap (λ b. b && contains xs w) (ap p (sym (eqb-true x w is)) ∙ fails) ∙ sym (ap (λ b. b && true) (ap p (sym (eqb-true x w is)) ∙ fails))
filter_step p x xs w h false other true passes = ap (λ b. b || contains (filter p xs) w) other ∙ h
filter_step p x xs w h false other false fails = h

and_none : (b : Bool) → false ≡ (b && false)
and_none true = refl
and_none false = refl

pub contains_filter : (p : ℕ → Bool) (xs : List ℕ) (w : ℕ) → contains (filter p xs) w ≡ (p w && contains xs w)
contains_filter p [] w = and_none (p w)
contains_filter p (x ∷ xs) w = filter_step p x xs w (contains_filter p xs w) (nat_eq x w) refl (p x) refl

-- what holds of all that are members
pub each_member : (P : ℕ → Type 0) (xs : List ℕ) → ((w : ℕ) → contains xs w ≡ true → P w) → AllByRecursion P xs
each_member P [] h = tt
each_member P (x ∷ xs) h = (h x (has_first x xs), each_member P xs (λ w later. h w (or_right (nat_eq x w) _ later)))
