-- Entries by rising page: what a look-up finds before and behind a page.
use Rattle.std.proofs.Common.{if◌then◌else◌, ◌≡◌, ◌≢◌, ◌<◌, ◌≤◌, ◌==◌, ◌||◌, ℕ, zero, suc, Bool, true, false, List, [], ◌∷◌, ◌++◌, length, take, drop, get_or, Option, Some, None, refl, sym, ◌∙◌, ap, arith, rules}
use Rattle.std.specs.List.{AllByRecursion}
use Rattle.hg_pages.specs.Tables.{slot_in}
use Rattle.hg_pages.specs.Marks.{ArePagesRising, AreSlotsDistinct, is_named}

-- a property of each that implies a second one gives the second one of each
pub each_weaker : (P Q : (ℕ × ℕ) → Type 0) → ((e : ℕ × ℕ) → P e → Q e) → (es : List (ℕ × ℕ)) → AllByRecursion P es → AllByRecursion Q es
each_weaker P Q implies [] each = tt
each_weaker P Q implies (e ∷ es) each = (implies e each.0, each_weaker P Q implies es each.1)

-- one more in the middle, and one fewer
pub each_with : (P : (ℕ × ℕ) → Type 0) (before : List (ℕ × ℕ)) (x : ℕ × ℕ) (behind : List (ℕ × ℕ)) → AllByRecursion P (before ++ behind) → P x → AllByRecursion P (before ++ (x ∷ behind))
each_with P [] x behind each one = (one, each)
each_with P (e ∷ before) x behind each one = (each.0, each_with P before x behind each.1 one)

pub each_without : (P : (ℕ × ℕ) → Type 0) (before : List (ℕ × ℕ)) (x : ℕ × ℕ) (behind : List (ℕ × ℕ)) → AllByRecursion P (before ++ (x ∷ behind)) → AllByRecursion P (before ++ behind)
each_without P [] x behind each = each.1
each_without P (e ∷ before) x behind each = (each.0, each_without P before x behind each.1)

pub rising_with : (before : List (ℕ × ℕ)) (x : ℕ × ℕ) (behind : List (ℕ × ℕ)) → ArePagesRising (before ++ behind) → AllByRecursion (λ e. e.0 < x.0) before → AllByRecursion (λ e. x.0 < e.0) behind → ArePagesRising (before ++ (x ∷ behind))
rising_with [] x behind rising below above = (above, rising)
rising_with (e ∷ before) x behind rising below above = (each_with (λ f. e.0 < f.0) before x behind rising.0 below.0, rising_with before x behind rising.1 below.1 above)

pub rising_without : (before : List (ℕ × ℕ)) (x : ℕ × ℕ) (behind : List (ℕ × ℕ)) → ArePagesRising (before ++ (x ∷ behind)) → ArePagesRising (before ++ behind)
rising_without [] x behind rising = rising.1
rising_without (e ∷ before) x behind rising = (each_without (λ f. e.0 < f.0) before x behind rising.0, rising_without before x behind rising.1)

pub rising_behind : (n : ℕ) (es : List (ℕ × ℕ)) → ArePagesRising es → ArePagesRising (drop n es)
rising_behind zero es rising = rising
rising_behind (suc n) [] rising = tt
rising_behind (suc n) (e ∷ es) rising = rising_behind n es rising.1

pub not_equal : (a b : ℕ) → a ≢ b → (a == b) ≡ false
not_equal a b apart = grind rules

pub above_apart : (a b : ℕ) → a < b → (b == a) ≡ false
above_apart a b lt = not_equal b a (λ (same : b ≡ a). absurd (omega (arith, lt, same)))

pub below_apart : (a b : ℕ) → a < b → (a == b) ≡ false
below_apart a b lt = not_equal a b (λ (same : a ≡ b). absurd (omega (arith, lt, same)))

pub if_false : {A : Type 0} (b : Bool) (x y : A) → b ≡ false → (if b then x else y) ≡ y
if_false true x y is = absurd (cc is)
if_false false x y is = refl

pub if_true : {A : Type 0} (b : Bool) (x y : A) → b ≡ true → (if b then x else y) ≡ x
if_true true x y is = refl
if_true false x y is = absurd (cc is)

pub none_below : (page : ℕ) (es : List (ℕ × ℕ)) → AllByRecursion (λ e. e.0 < page) es → slot_in es page ≡ None
none_below page [] each = refl
none_below page (e ∷ es) each = if_false (e.0 == page) (Some e.1) (slot_in es page) (below_apart e.0 page each.0) ∙ none_below page es each.1

pub none_above : (page : ℕ) (es : List (ℕ × ℕ)) → AllByRecursion (λ e. page < e.0) es → slot_in es page ≡ None
none_above page [] each = refl
none_above page (e ∷ es) each = if_false (e.0 == page) (Some e.1) (slot_in es page) (above_apart page e.0 each.0) ∙ none_above page es each.1

-- neither before nor behind
pub none_around : (page : ℕ) (before behind : List (ℕ × ℕ)) → AllByRecursion (λ e. e.0 < page) before → AllByRecursion (λ e. page < e.0) behind → slot_in (before ++ behind) page ≡ None
none_around page [] behind below above = none_above page behind above
none_around page (e ∷ before) behind below above = if_false (e.0 == page) (Some e.1) (slot_in (before ++ behind) page) (below_apart e.0 page below.0) ∙ none_around page before behind below.1 above

swapped : {A : Type 0} (a b : Bool) (x y z : A) → (a ≡ true → b ≡ false) → (if a then x else (if b then y else z)) ≡ (if b then y else (if a then x else z))
swapped true true x y z apart = absurd (cc (apart refl))
swapped true false x y z apart = refl
swapped false true x y z apart = refl
swapped false false x y z apart = refl

pub equal : (a b : ℕ) → (a == b) ≡ true → a ≡ b
equal a b is = grind rules

-- with a page in the middle
pub slot_with : (page slot : ℕ) (before behind : List (ℕ × ℕ)) (other : ℕ) → AllByRecursion (λ e. e.0 < page) before
    → slot_in (before ++ ((page, slot) ∷ behind)) other ≡ (if page == other then Some slot else slot_in (before ++ behind) other)
slot_with page slot [] behind other below = refl
slot_with page slot (e ∷ before) behind other below =
    ap (λ (o : Option ℕ). if e.0 == other then Some e.1 else o) (slot_with page slot before behind other below.1)
    ∙ swapped (e.0 == other) (page == other) (Some e.1) (Some slot) (slot_in (before ++ behind) other) (λ (is : (e.0 == other) ≡ true). not_equal page other (λ (same : page ≡ other). absurd (omega (arith, below.0, equal e.0 other is, same))))

or_swapped : (a b c : Bool) → (a || (b || c)) ≡ (b || (a || c))
or_swapped true true c = refl
or_swapped true false c = refl
or_swapped false true c = refl
or_swapped false false c = refl

pub named_with : (x : ℕ × ℕ) (before behind : List (ℕ × ℕ)) (slot : ℕ) → is_named (before ++ (x ∷ behind)) slot ≡ (x.1 == slot || is_named (before ++ behind) slot)
named_with x [] behind slot = refl
named_with x (e ∷ before) behind slot = ap (λ (b : Bool). e.1 == slot || b) (named_with x before behind slot) ∙ or_swapped (e.1 == slot) (x.1 == slot) (is_named (before ++ behind) slot)

or_false : (a b : Bool) → (a || b) ≡ false → (a ≡ false) × (b ≡ false)
or_false true b h = absurd (cc h)
or_false false b h = (refl, h)

both_false : (a b : Bool) → a ≡ false → b ≡ false → (a || b) ≡ false
both_false true b h k = absurd (cc h)
both_false false b h k = k

flipped : (a b : ℕ) → (a == b) ≡ false → (b == a) ≡ false
flipped a b is = grind rules

pub distinct_with : (x : ℕ × ℕ) (before behind : List (ℕ × ℕ)) → AreSlotsDistinct (before ++ behind) → is_named (before ++ behind) x.1 ≡ false → AreSlotsDistinct (before ++ (x ∷ behind))
distinct_with x [] behind distinct free = (free, distinct)
distinct_with x (e ∷ before) behind distinct free =
    let parts = or_false (e.1 == x.1) (is_named (before ++ behind) x.1) free in
    (named_with x before behind e.1 ∙ both_false (x.1 == e.1) (is_named (before ++ behind) e.1) (flipped e.1 x.1 parts.0) distinct.0, distinct_with x before behind distinct.1 parts.1)

pub distinct_without : (x : ℕ × ℕ) (before behind : List (ℕ × ℕ)) → AreSlotsDistinct (before ++ (x ∷ behind)) → AreSlotsDistinct (before ++ behind) × (is_named (before ++ behind) x.1 ≡ false)
distinct_without x [] behind distinct = (distinct.1, distinct.0)
distinct_without x (e ∷ before) behind distinct =
    let rest = distinct_without x before behind distinct.1 in
    let parts = or_false (x.1 == e.1) (is_named (before ++ behind) e.1) (sym (named_with x before behind e.1) ∙ distinct.0) in
    ((parts.1, rest.0), both_false (e.1 == x.1) (is_named (before ++ behind) x.1) (flipped x.1 e.1 parts.0) rest.1)

-- a slot that is named has a page
found_first : (e : ℕ × ℕ) (es : List (ℕ × ℕ)) (page slot : ℕ) (here : Bool) → AllByRecursion (λ f. e.0 < f.0) es → (e.0 == page) ≡ here → slot_in es page ≡ Some slot → here ≡ false
found_first e es page slot false above test is = refl
found_first e es page slot true above test is = absurd (cc (sym is ∙ ap (λ (n : ℕ). slot_in es n) (sym (equal e.0 page test)) ∙ none_above e.0 es above))

named_here : (e : ℕ × ℕ) (es : List (ℕ × ℕ)) (slot : ℕ) → ArePagesRising (e ∷ es) → (here : Bool) → (e.1 == slot) ≡ here → (here || is_named es slot) ≡ true
    → (is_named es slot ≡ true → (page : ℕ) × (slot_in es page ≡ Some slot)) → (page : ℕ) × (slot_in (e ∷ es) page ≡ Some slot)
named_here e es slot rising true same named rest = (e.0, if_true (e.0 == e.0) (Some e.1) (slot_in es e.0) (grind rules) ∙ ap Some (equal e.1 slot same))
named_here e es slot rising false other named rest =
    let found = rest named in
    (found.0, if_false (e.0 == found.0) (Some e.1) (slot_in es found.0) (found_first e es found.0 slot (e.0 == found.0) rising.0 refl found.1) ∙ found.1)

pub page_of : (es : List (ℕ × ℕ)) (slot : ℕ) → ArePagesRising es → is_named es slot ≡ true → (page : ℕ) × (slot_in es page ≡ Some slot)
page_of [] slot rising named = absurd (cc named)
page_of (e ∷ es) slot rising named = named_here e es slot rising (e.1 == slot) refl named (page_of es slot rising.1)

or_last : (a : Bool) → (a || true) ≡ true
or_last true = refl
or_last false = refl

some_first : (e : ℕ × ℕ) (es : List (ℕ × ℕ)) (page slot : ℕ) (here : Bool) → (if here then Some e.1 else slot_in es page) ≡ Some slot → (slot_in es page ≡ Some slot → is_named es slot ≡ true) → is_named (e ∷ es) slot ≡ true
some_first e es page slot true is rest =
    let there : e.1 ≡ slot = cc is in
    let test : (e.1 == slot) ≡ true = grind rules in
    ap (λ (b : Bool). b || is_named es slot) test
some_first e es page slot false is rest = ap (λ (b : Bool). e.1 == slot || b) (rest is) ∙ or_last (e.1 == slot)

pub named_by : (es : List (ℕ × ℕ)) (page slot : ℕ) → slot_in es page ≡ Some slot → is_named es slot ≡ true
named_by [] page slot is = absurd (cc is)
named_by (e ∷ es) page slot is = some_first e es page slot (e.0 == page) is (named_by es page slot)

-- each of a front, and each behind it, by places
pub each_front : (P : (ℕ × ℕ) → Type 0) (xs : List (ℕ × ℕ)) (i : ℕ) → ((k : ℕ) (d : ℕ × ℕ) → k < i → P (get_or xs k d)) → i ≤ length xs → AllByRecursion P (take i xs)
each_front P xs zero each le = tt
each_front P [] (suc i) each le = absurd (omega (arith, le))
each_front P (x ∷ xs) (suc i) each le = (each 0 x (omega arith), each_front P xs i (λ k d lt. each (suc k) d (omega (arith, lt))) (omega (arith, le)))

pub each_of : (P : (ℕ × ℕ) → Type 0) (xs : List (ℕ × ℕ)) → ((k : ℕ) (d : ℕ × ℕ) → k < length xs → P (get_or xs k d)) → AllByRecursion P xs
each_of P [] each = tt
each_of P (x ∷ xs) each = (each 0 x (omega arith), each_of P xs (λ k d lt. each (suc k) d (omega (arith, lt))))

pub each_behind : (P : (ℕ × ℕ) → Type 0) (xs : List (ℕ × ℕ)) (i : ℕ) → ((k : ℕ) (d : ℕ × ℕ) → i ≤ k → k < length xs → P (get_or xs k d)) → AllByRecursion P (drop i xs)
each_behind P xs zero each = each_of P xs (λ k d lt. each k d (omega arith) lt)
each_behind P [] (suc i) each = tt
each_behind P (x ∷ xs) (suc i) each = each_behind P xs i (λ k d le lt. each (suc k) d (omega (arith, le)) (omega (arith, lt)))

pub each_at : (P : (ℕ × ℕ) → Type 0) (xs : List (ℕ × ℕ)) (k : ℕ) (d : ℕ × ℕ) → k < length xs → AllByRecursion P xs → P (get_or xs k d)
each_at P [] k d lt each = absurd (omega (arith, lt))
each_at P (x ∷ xs) zero d lt each = each.0
each_at P (x ∷ xs) (suc k) d lt each = each_at P xs k d (omega (arith, lt)) each.1

-- by places, pages don't fall
pub none_falls : (xs : List (ℕ × ℕ)) (i j : ℕ) (d : ℕ × ℕ) → ArePagesRising xs → i ≤ j → j < length xs → (get_or xs i d).0 ≤ (get_or xs j d).0
none_falls [] i j d rising le lt = absurd (omega (arith, lt))
none_falls (x ∷ xs) zero zero d rising le lt = omega arith
none_falls (x ∷ xs) zero (suc j) d rising le lt = omega (arith, each_at (λ e. x.0 < e.0) xs j d (omega (arith, lt)) rising.0)
none_falls (x ∷ xs) (suc i) zero d rising le lt = absurd (omega (arith, le))
none_falls (x ∷ xs) (suc i) (suc j) d rising le lt = none_falls xs i j d rising.1 (omega (arith, le)) (omega (arith, lt))

higher : (a b : ℕ) → a ≤ b → b ≢ a → a < b
higher a b le apart = grind arith

-- behind those below a page, where it does not stand next
pub above_next : (page : ℕ) (xs : List (ℕ × ℕ)) → ArePagesRising xs → AllByRecursion (λ e. page ≤ e.0) xs → ((d : ℕ × ℕ) → 0 < length xs → (get_or xs 0 d).0 ≢ page) → AllByRecursion (λ e. page < e.0) xs
above_next page [] rising each apart = tt
above_next page (x ∷ xs) rising each apart =
    let next : page < x.0 = higher page x.0 each.0 (apart x (omega arith)) in
    (next, each_weaker (λ e. x.0 < e.0) (λ e. page < e.0) (λ e lt. omega (arith, lt, next)) xs rising.0)
