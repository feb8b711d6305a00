-- Pages are picked one by one.
use Rattle.std.proofs.Common.{◌≡◌, ◌⊎◌, inl, inr, ◌+◌, ◌≤◌, ◌<◌, ◌==◌, ◌∙◌, ℕ, zero, suc, Bool, true, false, List, [], ◌∷◌, length, take, get_or, is_some, Option, Some, None, if◌then◌else◌, add-one, refl, sym, ap, subst, arith}
use Rattle.std.proofs.lemmas.List.{take_all}
use Rattle.std.specs.List.{AllByRecursion}
use Rattle.hg_pages.specs.Marks.{ArePagesRising}
use Rattle.hg_pages.specs.Tables.{IsNamed, slot_in}
use Rattle.hg_pool.specs.Answers.{IsTaken}
use Rattle.hg_pool.specs.Picking.{ArePicks}
use Rattle.hg_pool.specs.Shown.{ShownPool}
use Rattle.hg_cache.proofs.Lookups.{if_false, if_true, itself, same_number}

some_if : (b : Bool) (s : ℕ) (o : Option ℕ) → is_some (if b then Some s else o) ≡ (if b then true else is_some o)
some_if true s o = refl
some_if false s o = refl

swap : (a b c : Bool) → (if a then true else if b then true else c) ≡ (if b then true else if a then true else c)
swap true true c = refl
swap true false c = refl
swap false true c = refl
swap false false c = refl

one_entry : (es : List (ℕ × ℕ)) (i q : ℕ) → i < length es → is_some (slot_in (take (suc i) es) q) ≡ (if (get_or es i (0, 0)).0 == q then true else is_some (slot_in (take i es) q))
one_entry [] i q lt = absurd (omega arith)
one_entry (e ∷ es) zero q lt = some_if (e.0 == q) e.1 None
one_entry (e ∷ es) (suc i) q lt =
    some_if (e.0 == q) e.1 (slot_in (take (suc i) es) q)
    ∙ ap (λ (b : Bool). if e.0 == q then true else b) (one_entry es i q (omega (arith, lt)))
    ∙ swap (e.0 == q) ((get_or es i (0, 0)).0 == q) (is_some (slot_in (take i es) q))
    ∙ ap (λ (b : Bool). if (get_or es i (0, 0)).0 == q then true else b) (sym (some_if (e.0 == q) e.1 (slot_in (take i es) q)))

pub more_entries : (es : List (ℕ × ℕ)) (i q : ℕ) → i < length es → is_some (slot_in (take (i + 1) es) q) ≡ (if (get_or es i (0, 0)).0 == q then true else is_some (slot_in (take i es) q))
more_entries es i q lt = ap (λ (n : ℕ). is_some (slot_in (take n es) q)) (add-one i) ∙ one_entry es i q lt

above : (es : List (ℕ × ℕ)) (i n : ℕ) → i < length es → AllByRecursion (λ e. n < e.0) es → n < (get_or es i (0, 0)).0
above [] i n lt all = absurd (omega arith)
above (e ∷ es) zero n lt all = all.0
above (e ∷ es) (suc i) n lt all = above es i n (omega (arith, lt)) all.1

apart : (a b : ℕ) → a < b → (a == b) ≡ false
apart a b lt = by (a == b) refl
  where
    by : (t : Bool) → (a == b) ≡ t → (a == b) ≡ false
    by true test = absurd (omega (arith, lt, same_number a b test))
    by false test = test

-- no page stands twice
pub fresh : (es : List (ℕ × ℕ)) (i : ℕ) → i < length es → ArePagesRising es → is_some (slot_in (take i es) (get_or es i (0, 0)).0) ≡ false
fresh [] i lt rising = absurd (omega arith)
fresh (e ∷ es) zero lt rising = refl
fresh (e ∷ es) (suc i) lt rising =
    let key = (get_or es i (0, 0)).0 in
    let inside : i < length es = omega (arith, lt) in
    some_if (e.0 == key) e.1 (slot_in (take i es) key) ∙ if_false (e.0 == key) true (is_some (slot_in (take i es) key)) (apart e.0 key (above es i e.0 inside rising.0)) ∙ fresh es i inside rising.1

-- those before come before
earlier : (es : List (ℕ × ℕ)) (i q : ℕ) → i < length es → ArePagesRising es → is_some (slot_in (take i es) q) ≡ true → q < (get_or es i (0, 0)).0
earlier [] i q lt rising is = absurd (omega (arith, lt))
earlier (e ∷ es) zero q lt rising is = absurd (cc is)
earlier (e ∷ es) (suc i) q lt rising is = by (e.0 == q) refl (sym (some_if (e.0 == q) e.1 (slot_in (take i es) q)) ∙ is) (earlier es i q inside rising.1)
  where
    inside : i < length es
    inside = omega (arith, lt)

    by : (b : Bool) → (e.0 == q) ≡ b → (if b then true else is_some (slot_in (take i es) q)) ≡ true → (is_some (slot_in (take i es) q) ≡ true → q < (get_or es i (0, 0)).0) → q < (get_or es i (0, 0)).0
    by true test found rest = let same = same_number e.0 q test in let lt = above es i e.0 inside rising.0 in omega (arith, same, lt)
    by false test found rest = rest found

-- What holds of the picks for the first so many pages, behind which slots are searched from here on.
pub record IsPicking {D : Type 0} (p : ShownPool D) (pages picks : List (ℕ × ℕ)) (index from : ℕ) : Type 0 where
  pub among : (q : ℕ) → is_some (slot_in picks q) ≡ true → is_some (slot_in (take index pages) q) ≡ true
  pub each : (q : ℕ) → is_some (slot_in (take index pages) q) ≡ true → is_some (slot_in picks q) ≡ true
  pub free : (q slot : ℕ) → slot_in picks q ≡ Some slot → (¬ IsTaken p slot) × (slot < p.slots) × (slot < from)
  pub named : (slot : ℕ) → slot < from → slot < p.slots → IsTaken p slot ⊎ IsNamed picks slot
  pub rising : (q r s t : ℕ) → q < r → slot_in picks q ≡ Some s → slot_in picks r ≡ Some t → s < t
  pub few : length picks ≤ index

pub none_picked : {D : Type 0} (p : ShownPool D) (pages : List (ℕ × ℕ)) → IsPicking p pages [] 0 0
none_picked p pages = record {
  among = λ q is. absurd (cc is);
  each = λ q is. absurd (cc is);
  free = λ q slot is. absurd (cc is);
  named = λ slot lt within. absurd (omega (arith, lt));
  rising = λ q r s t lt is. absurd (cc is);
  few = omega arith;
}

one_more : (b : Bool) (n m : ℕ) → m ≡ n + (if b then 0 else 1) → m ≤ n + 1
one_more true n m is = omega (arith, is)
one_more false n m is = omega (arith, is)

three : (slot from free : ℕ) → slot < free + 1 → (slot < from) ⊎ (((from ≤ slot) × (slot < free)) ⊎ (slot ≡ free))
three slot from free lt = grind arith

pub picked_more : {D : Type 0} (p : ShownPool D) (pages old new : List (ℕ × ℕ)) (index from slot : ℕ) → IsPicking p pages old index from → index < length pages → ArePagesRising pages
    → ((q : ℕ) → slot_in new q ≡ (if (get_or pages index (0, 0)).0 == q then Some slot else slot_in old q)) → length new ≡ length old + (if is_some (slot_in old (get_or pages index (0, 0)).0) then 0 else 1)
    → from ≤ slot → slot < p.slots → ¬ IsTaken p slot → ((s : ℕ) → from ≤ s → s < slot → IsTaken p s) → IsPicking p pages new (index + 1) (slot + 1)
picked_more p pages old new index from slot s inside rising_pages look size from_on within not_taken between = record {
  among = λ q is. more_entries pages index q inside ∙ among q (key == q) (sym (ap is_some (look q) ∙ some_if (key == q) slot (slot_in old q)) ∙ is);
  each = λ q is. ap is_some (look q) ∙ some_if (key == q) slot (slot_in old q) ∙ each q (key == q) (sym (more_entries pages index q inside) ∙ is);
  free = λ q t is. free q t (key == q) (sym (look q) ∙ is);
  named = λ t lt below. named t below (three t from slot lt);
  rising = λ q r a b lt one two. rising q r a b lt (key == q) refl (sym (look q) ∙ one) (key == r) refl (sym (look r) ∙ two);
  few = let few = s.few in omega (arith, few, one_more (is_some (slot_in old key)) (length old) (length new) size);
}
  where
    key : ℕ
    key = (get_or pages index (0, 0)).0

    among : (q : ℕ) (b : Bool) → (if b then true else is_some (slot_in old q)) ≡ true → (if b then true else is_some (slot_in (take index pages) q)) ≡ true
    among q true is = refl
    among q false is = s.among q is

    each : (q : ℕ) (b : Bool) → (if b then true else is_some (slot_in (take index pages) q)) ≡ true → (if b then true else is_some (slot_in old q)) ≡ true
    each q true is = refl
    each q false is = s.each q is

    free : (q t : ℕ) (b : Bool) → (if b then Some slot else slot_in old q) ≡ Some t → (¬ IsTaken p t) × (t < p.slots) × (t < slot + 1)
    free q t true is = let same : slot ≡ t = cc is in (subst (λ (n : ℕ). ¬ IsTaken p n) same not_taken, omega (arith, same, within), omega (arith, same))
    free q t false is = let was = s.free q t is in (was.0, was.1, let lt = was.2 in omega (arith, lt, from_on))

    before : (q t : ℕ) → slot_in old q ≡ Some t → q < key
    before q t is = earlier pages index q inside rising_pages (s.among q (ap is_some is))

    rising : (q r a b : ℕ) → q < r → (x : Bool) → (key == q) ≡ x → (if x then Some slot else slot_in old q) ≡ Some a → (y : Bool) → (key == r) ≡ y → (if y then Some slot else slot_in old r) ≡ Some b → a < b
    rising q r a b lt true is_q one true is_r two = absurd (omega (arith, lt, same_number key q is_q, same_number key r is_r))
    rising q r a b lt true is_q one false is_r two = absurd (omega (arith, lt, same_number key q is_q, before r b two))
    rising q r a b lt false is_q one true is_r two = let same : slot ≡ b = cc two in let was = s.free q a one in let le = was.2 in omega (arith, same, le, from_on)
    rising q r a b lt false is_q one false is_r two = s.rising q r a b lt one two

    other : (r : ℕ) (t : ℕ) → slot_in old r ≡ Some t → (b : Bool) → (key == r) ≡ b → (key == r) ≡ false
    other r t is true test =
        absurd (cc (sym (fresh pages index inside rising_pages) ∙ ap (λ (n : ℕ). is_some (slot_in (take index pages) n)) (same_number key r test) ∙ s.among r (ap is_some is)))
    other r t is false test = test

    was_named : (t : ℕ) → IsTaken p t ⊎ IsNamed old t → IsTaken p t ⊎ IsNamed new t
    was_named t (inl taken) = inl taken
    was_named t (inr (r, is)) = inr (r, look r ∙ if_false (key == r) (Some slot) (slot_in old r) (other r t is (key == r) refl) ∙ is)

    named : (t : ℕ) → t < p.slots → (t < from) ⊎ (((from ≤ t) × (t < slot)) ⊎ (t ≡ slot)) → IsTaken p t ⊎ IsNamed new t
    named t below (inl before) = was_named t (s.named t before below)
    named t below (inr (inl mid)) = inl (between t mid.0 mid.1)
    named t below (inr (inr same)) = inr (key, look key ∙ if_true (key == key) (Some slot) (slot_in old key) (itself key) ∙ ap (λ (n : ℕ). Some n) (sym same))

-- all pages have one
pub all_picked : {D : Type 0} (p : ShownPool D) (pages picks : List (ℕ × ℕ)) (index from : ℕ) → IsPicking p pages picks index from → length pages ≤ index → index ≤ length pages → ArePicks p pages picks
all_picked p pages picks index from s end le =
    let whole : take index pages ≡ pages = take_all index pages end in
    record {
      among = λ q is. subst (λ (es : List (ℕ × ℕ)). is_some (slot_in es q) ≡ true) whole (s.among q is);
      each = λ q is. s.each q (subst (λ (es : List (ℕ × ℕ)). is_some (slot_in es q) ≡ true) (sym whole) is);
      slots = record {
        free = λ q slot is. let was = s.free q slot is in (was.0, was.1);
        least = λ q slot is lesser lt. let was = s.free q slot is in let high = was.2 in let below = was.1 in s.named lesser (omega (arith, lt, high)) (omega (arith, lt, below));
        rising = s.rising;
      };
      few = let few = s.few in omega (arith, few, le);
    }

-- no slot is left
pub too_few : {D : Type 0} (p : ShownPool D) (pages picks : List (ℕ × ℕ)) (index from : ℕ) → IsPicking p pages picks index from → ((slot : ℕ) → from ≤ slot → slot < p.slots → IsTaken p slot) → (slot : ℕ) → slot < p.slots → IsTaken p slot ⊎ IsNamed picks slot
too_few p pages picks index from s full slot below = by (side slot from)
  where
    side : (a b : ℕ) → (a < b) ⊎ (b ≤ a)
    side a b = grind arith

    by : (slot < from) ⊎ (from ≤ slot) → IsTaken p slot ⊎ IsNamed picks slot
    by (inl lt) = s.named slot lt below
    by (inr le) = inl (full slot le below)

-- entries taken out
pub taken_out : (left now : Option ℕ) (here gone : Bool) (table : Option ℕ) → now ≡ (if here then None else left) → left ≡ (if gone then None else table) → now ≡ (if (if here then true else gone) then None else table)
taken_out left now true gone table look was = look
taken_out left now false gone table look was = look ∙ was
