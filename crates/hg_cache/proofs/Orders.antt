-- Which pages are in memory, and in what order of use.
use Rattle.std.proofs.Common.{◌≡◌, ◌+◌, ◌-◌, ◌≤◌, ◌==◌, ◌∙◌, ℕ, zero, suc, nat_eq, Bool, true, false, cond, List, [], ◌∷◌, ◌++◌, length, take, is_some, slice_get, Option, Some, None, if◌then◌else◌, refl, sym, ap, subst, arith}
use Rattle.std.specs.List.{AllByRecursion, IsDistinct}
use Rattle.std.specs.Map.{lookup, lookup_entry, remove_entry, keys_of}
use Rattle.std.specs.Option.{option_map_or}
use Rattle.std.specs.Set.{remove_key}
use Rattle.std.proofs.lemmas.List.{length-append}
use Rattle.std.proofs.Math.Seq.{take-append_seam}
use Rattle.lru.specs.LruCache.{promoted}
use Rattle.std.proofs.lemmas.Map.Keys.{IsDistinct-head, IsDistinct-tail}
use Rattle.hg_cache.specs.Sound.{listed}
use Rattle.hg_cache.proofs.Lookups.{entry_is, entry_none, if_false, if_true, itself, none_entry, turned}

abbrev pub last_of : List ℕ → Option ℕ
last_of [] = None
last_of (k ∷ []) = Some k
last_of (k ∷ l ∷ ks) = last_of (l ∷ ks)

some_if : {X : Type 0} (b : Bool) (x : X) (o : Option X) → is_some (if b then Some x else o) ≡ (if b then true else is_some o)
some_if true x o = refl
some_if false x o = refl

pub is_listed : {X : Type 0} (q : ℕ) (es : List (ℕ × X)) → is_some (lookup (nat_eq q) es) ≡ listed q (keys_of es)
is_listed q [] = refl
is_listed q (e ∷ es) = some_if (q == e.0) e.1 (lookup (nat_eq q) es) ∙ ap (λ (b : Bool). if q == e.0 then true else b) (is_listed q es)

pub none_listed : (q : ℕ) (ks : List ℕ) → AllByRecursion (λ k. nat_eq q k ≡ false) ks → listed q ks ≡ false
none_listed q [] all = refl
none_listed q (k ∷ ks) all = if_false (q == k) true (listed q ks) all.0 ∙ none_listed q ks all.1

pub listed_front : (q n : ℕ) (ks : List ℕ) → listed q ks ≡ true → listed q (ks ++ n ∷ []) ≡ true
listed_front q n [] is = absurd (cc is)
listed_front q n (k ∷ ks) is = here (q == k) is (listed_front q n ks)
  where
    here : (b : Bool) → (if b then true else listed q ks) ≡ true → (listed q ks ≡ true → listed q (ks ++ n ∷ []) ≡ true) → (if b then true else listed q (ks ++ n ∷ [])) ≡ true
    here true found rest = refl
    here false found rest = rest found

-- both lists have one order of pages, or the first one has one page more at its end
pub same_pages : {X Y : Type 0} (q : ℕ) (es : List (ℕ × X)) (fs : List (ℕ × Y)) → keys_of fs ≡ keys_of es → is_some (lookup (nat_eq q) fs) ≡ true → is_some (lookup (nat_eq q) es) ≡ true
same_pages q es fs same is = is_listed q es ∙ ap (λ (ks : List ℕ). listed q ks) (sym same) ∙ sym (is_listed q fs) ∙ is

pub front_pages : {X Y : Type 0} (q n : ℕ) (es : List (ℕ × X)) (fs : List (ℕ × Y)) → keys_of es ≡ keys_of fs ++ n ∷ [] → is_some (lookup (nat_eq q) fs) ≡ true → is_some (lookup (nat_eq q) es) ≡ true
front_pages q n es fs same is = is_listed q es ∙ ap (λ (ks : List ℕ). listed q ks) same ∙ listed_front q n (keys_of fs) (sym (is_listed q fs) ∙ is)

-- the last entry
pub last_get : {X : Type 0} (es : List (ℕ × X)) (k : ℕ) (e : ℕ × X) → k + 1 ≡ length es → slice_get es k ≡ Some e → last_of (keys_of es) ≡ Some e.0
last_get [] k e at is = absurd (cc is)
last_get (x ∷ []) zero e at is = let same : x ≡ e = cc is in ap (λ (y : ℕ × _). Some y.0) same
last_get (x ∷ []) (suc k) e at is = absurd (omega (arith, at))
last_get (x ∷ y ∷ es) zero e at is = absurd (omega (arith, at))
last_get (x ∷ y ∷ es) (suc k) e at is = last_get (y ∷ es) k e (omega (arith, at)) is

pub none_last : {X : Type 0} (es : List (ℕ × X)) (k : ℕ) → k ≡ length es - 1 → slice_get es k ≡ None → es ≡ []
none_last [] k at is = refl
none_last (x ∷ []) zero at is = absurd (cc is)
none_last (x ∷ []) (suc k) at is = absurd (omega (arith, at))
none_last (x ∷ y ∷ es) zero at is = absurd (cc is)
none_last (x ∷ y ∷ es) (suc k) at is = let rest : (y ∷ es) ≡ [] = none_last (y ∷ es) k (omega (arith, at)) is in absurd (cc rest)

pub got_there : {X : Type 0} (es : List (ℕ × X)) (k : ℕ) (e : ℕ × X) → slice_get es k ≡ Some e → is_some (lookup (nat_eq e.0) es) ≡ true
got_there [] k e is = absurd (cc is)
got_there (x ∷ es) zero e is =
    let same : x ≡ e = cc is in
    ap is_some (if_true (e.0 == x.0) (Some x.1) (lookup (nat_eq e.0) es) (ap (λ (y : ℕ × _). e.0 == y.0) same ∙ itself e.0))
got_there (x ∷ es) (suc k) e is = some_if (e.0 == x.0) x.1 (lookup (nat_eq e.0) es) ∙ here (e.0 == x.0) (got_there es k e is)
  where
    here : (b : Bool) → is_some (lookup (nat_eq e.0) es) ≡ true → (if b then true else is_some (lookup (nat_eq e.0) es)) ≡ true
    here true found = refl
    here false found = found

all_last : (P : ℕ → Type 0) (ks : List ℕ) (n : ℕ) → AllByRecursion P ks → last_of ks ≡ Some n → P n
all_last P [] n all is = absurd (cc is)
all_last P (k ∷ []) n all is = let same : k ≡ n = cc is in subst P same all.0
all_last P (k ∷ l ∷ ks) n all is = all_last P (l ∷ ks) n all.1 is

-- without the last one
pub removed_last : {X : Type 0} (es : List (ℕ × X)) (n : ℕ) → IsDistinct nat_eq (keys_of es) → last_of (keys_of es) ≡ Some n → keys_of es ≡ keys_of (remove_entry (nat_eq n) es) ++ n ∷ []
removed_last [] n distinct is = absurd (cc is)
removed_last {X} (e ∷ []) n distinct is =
    let same : e.0 ≡ n = cc is in
    let gone : remove_entry (nat_eq n) (e ∷ []) ≡ [] = if_true (n == e.0) [] (e ∷ []) (ap (λ (k : ℕ). n == k) same ∙ itself n) in
    ap (λ (k : ℕ). k ∷ []) same ∙ sym (ap (λ (l : List (ℕ × X)). keys_of l ++ n ∷ []) gone)
removed_last {X} (e ∷ f ∷ es) n distinct is =
    let apart : (n == e.0) ≡ false = turned n e.0 ∙ all_last (λ k. nat_eq e.0 k ≡ false) (keys_of (f ∷ es)) n (IsDistinct-head nat_eq e.0 (keys_of (f ∷ es)) distinct) is in
    let left : remove_entry (nat_eq n) (e ∷ f ∷ es) ≡ e ∷ remove_entry (nat_eq n) (f ∷ es) = if_false (n == e.0) (f ∷ es) (e ∷ remove_entry (nat_eq n) (f ∷ es)) apart in
    ap (λ (ks : List ℕ). e.0 ∷ ks) (removed_last (f ∷ es) n (IsDistinct-tail nat_eq e.0 (keys_of (f ∷ es)) distinct) is)
    ∙ sym (ap (λ (l : List (ℕ × X)). keys_of l ++ n ∷ []) left)

-- the order of use after an entry is taken out
keys_removed : {X : Type 0} (page : ℕ) (es : List (ℕ × X)) → keys_of (remove_entry (nat_eq page) es) ≡ remove_key (nat_eq page) (keys_of es)
keys_removed page [] = refl
keys_removed {X} page (e ∷ es) = here (page == e.0) (keys_removed page es)
  where
    here : (b : Bool) → keys_of (remove_entry (nat_eq page) es) ≡ remove_key (nat_eq page) (keys_of es) → keys_of (cond b es (e ∷ remove_entry (nat_eq page) es)) ≡ cond b (keys_of es) (e.0 ∷ remove_key (nat_eq page) (keys_of es))
    here true same = refl
    here false same = ap (λ (ks : List ℕ). e.0 ∷ ks) same

-- a page that was used is first
pub order_used : {X : Type 0} (page : ℕ) (es : List (ℕ × X)) → is_some (lookup (nat_eq page) es) ≡ true → keys_of (promoted (nat_eq page) es) ≡ page ∷ remove_key (nat_eq page) (keys_of es)
order_used {X} page es there = by (lookup_entry (nat_eq page) es) refl
  where
    by : (o : Option (ℕ × X)) → lookup_entry (nat_eq page) es ≡ o → keys_of (option_map_or (λ e. e ∷ remove_entry (nat_eq page) es) o es) ≡ page ∷ remove_key (nat_eq page) (keys_of es)
    by None is = absurd (cc (sym there ∙ ap is_some (entry_none page es is)))
    by (Some e) is = ap (λ (k : ℕ). k ∷ keys_of (remove_entry (nat_eq page) es)) (sym (entry_is page es e is).0) ∙ ap (λ (ks : List ℕ). page ∷ ks) (keys_removed page es)

-- a page that is not there changes nothing
pub order_unused : {X : Type 0} (page : ℕ) (es : List (ℕ × X)) → is_some (lookup (nat_eq page) es) ≡ false → promoted (nat_eq page) es ≡ es
order_unused {X} page es missing = ap (λ (o : Option (ℕ × X)). option_map_or (λ e. e ∷ remove_entry (nat_eq page) es) o es) (none_entry page es (none (lookup (nat_eq page) es) missing))
  where
    none : (o : Option X) → is_some o ≡ false → o ≡ None
    none None is = refl
    none (Some x) is = absurd (cc is)

-- the order of use where the last page left a full cache
pub order_left : (most n : ℕ) (old new : List ℕ) → old ≡ new ++ n ∷ [] → length old ≡ most → new ≡ take (most - 1) old
order_left most n old new same full =
    let size : length old ≡ length new + 1 = ap (λ (l : List ℕ). length l) same ∙ length-append new (n ∷ []) in
    let last : most - 1 ≡ length new = omega (arith, size, full) in
    sym (ap (λ (k : ℕ). take k old) last ∙ ap (λ (l : List ℕ). take (length new) l) same ∙ take-append_seam new (n ∷ []))

-- the page that was used last is first as it was
pub order_again : (page : ℕ) (rest : List ℕ) → page ∷ rest ≡ page ∷ remove_key (nat_eq page) (page ∷ rest)
order_again page rest = ap (λ (ks : List ℕ). page ∷ ks) (sym (if_true (page == page) rest (page ∷ remove_key (nat_eq page) rest) (itself page)))

-- the page that was used just before is still there
pub still_listed : (most page other : ℕ) (rest : List ℕ) (b : Bool) → 2 ≤ most → listed other (page ∷ (if b then remove_key (nat_eq page) (other ∷ rest) else take (most - 1) (other ∷ rest))) ≡ true
still_listed most page other rest b two = by (other == page) refl b
  where
    first : (ks : List ℕ) → listed other (other ∷ ks) ≡ true
    first ks = if_true (other == other) true (listed other ks) (itself other)

    rest_has : (b : Bool) → (other == page) ≡ false → listed other (if b then remove_key (nat_eq page) (other ∷ rest) else take (most - 1) (other ∷ rest)) ≡ true
    rest_has true apart =
        ap (λ (ks : List ℕ). listed other ks) (if_false (page == other) rest (other ∷ remove_key (nat_eq page) rest) (turned page other ∙ apart)) ∙ first (remove_key (nat_eq page) rest)
    rest_has false apart = let one : most - 1 ≡ suc (most - 2) = omega (arith, two) in ap (λ (k : ℕ). listed other (take k (other ∷ rest))) one ∙ first (take (most - 2) rest)

    by : (same : Bool) → (other == page) ≡ same → (b : Bool) → (if other == page then true else listed other (if b then remove_key (nat_eq page) (other ∷ rest) else take (most - 1) (other ∷ rest))) ≡ true
    by true test b = if_true (other == page) true _ test
    by false test b = if_false (other == page) true _ test ∙ rest_has b test

-- the first page is there
pub first_listed : {X : Type 0} (page : ℕ) (es : List (ℕ × X)) (rest : List ℕ) → keys_of es ≡ page ∷ rest → is_some (lookup (nat_eq page) es) ≡ true
first_listed page es rest is = is_listed page es ∙ ap (λ (ks : List ℕ). listed page ks) is ∙ if_true (page == page) true (listed page rest) (itself page)

pub first_order : {X : Type 0} (es : List (ℕ × X)) (e : ℕ × X) (page : ℕ) → slice_get es 0 ≡ Some e → e.0 ≡ page → (rest : List ℕ) × (keys_of es ≡ page ∷ rest)
first_order [] e page is at = absurd (cc is)
first_order (f ∷ es) e page is at = let same : f ≡ e = cc is in (keys_of es, ap (λ (x : ℕ × _). x.0 ∷ keys_of es) same ∙ ap (λ (k : ℕ). k ∷ keys_of es) at)

-- and stays first where it is used again
pub order_last : {X : Type 0} (most page : ℕ) (es : List (ℕ × X)) (rest : List ℕ) → keys_of es ≡ page ∷ rest
    → keys_of es ≡ page ∷ (if is_some (lookup (nat_eq page) es) then remove_key (nat_eq page) (keys_of es) else take (most - 1) (keys_of es))
order_last most page es rest is =
    is
    ∙ order_again page rest
    ∙ ap (λ (ks : List ℕ). page ∷ remove_key (nat_eq page) ks) (sym is)
    ∙ ap (λ (ks : List ℕ). page ∷ ks) (sym (if_true (is_some (lookup (nat_eq page) es)) (remove_key (nat_eq page) (keys_of es)) (take (most - 1) (keys_of es)) (first_listed page es rest is)))

-- the page that was first is there after another one came in
pub before_stays : {X : Type 0} (most page other : ℕ) (new : List (ℕ × X)) (rest : List ℕ) → 2 ≤ most → keys_of new ≡ page ∷ take (most - 1) (other ∷ rest) → is_some (lookup (nat_eq other) new) ≡ true
before_stays most page other new rest two order = is_listed other new ∙ ap (λ (ks : List ℕ). listed other ks) order ∙ still_listed most page other rest false two

-- the first page is the page of the first entry
pub first_is : {X : Type 0} (es : List (ℕ × X)) (e : ℕ × X) (page : ℕ) (rest : List ℕ) → slice_get es 0 ≡ Some e → keys_of es ≡ page ∷ rest → e.0 ≡ page
first_is [] e page rest is keys = absurd (cc is)
first_is (f ∷ es) e page rest is keys =
    let same : f ≡ e = cc is in
    let one : f.0 ≡ page = cc keys in
    sym (ap (λ (x : ℕ × _). x.0) same) ∙ one

pub no_first : {X : Type 0} (es : List (ℕ × X)) (page : ℕ) (rest : List ℕ) → slice_get es 0 ≡ None → keys_of es ≡ page ∷ rest → ⊥
no_first [] page rest is keys = absurd (cc keys)
no_first (f ∷ es) page rest is keys = absurd (cc is)
