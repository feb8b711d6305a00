-- Places with their keys.
use Rattle.std.proofs.Common.{◌≡◌, ◌<◌, ◌==◌, ◌∙◌, ℕ, suc, nat_eq, Bool, true, false, cond, List, [], ◌∷◌, ◌++◌, length, slice_get, Option, Some, None, if◌then◌else◌, refl, sym, ap}
use Rattle.std.specs.List.{AllByRecursion, IsDistinct}
use Rattle.std.specs.Option.{option_map_or}
use Rattle.std.specs.Map.{keys_of, lookup, lookup_entry, remove_entry}
use Rattle.std.proofs.lemmas.Map.Keys.{IsDistinct-cons, IsDistinct-head, IsDistinct-tail}
use Rattle.lru.specs.LruCache.{promoted}
use Rattle.hg_cache.specs.declared.node.Node.{Node}
use Rattle.hg_cache.specs.Rings.{IsApart, key_at, named, with_key}
use Rattle.hg_cache.specs.Entries.{IsFree}
use Rattle.hg_cache.specs.Sound.{listed}
use Rattle.hg_cache.proofs.Numbers.{if_false, if_true, itself, same_number, turned}
use Rattle.hg_cache.proofs.Linking.{key_with}

-- A place that is listed stands between others.
pub record Stands (p : ℕ) (ps : List ℕ) : Type 0 where
  pub before : List ℕ
  pub after : List ℕ
  pub split : ps ≡ before ++ p ∷ after

pub stands : (p : ℕ) (ps : List ℕ) → listed p ps ≡ true → Stands p ps
stands p [] is = absurd (cc is)
stands p (q ∷ qs) is = here (p == q) refl is (stands p qs)
  where
    here : (b : Bool) → (p == q) ≡ b → (if b then true else listed p qs) ≡ true → (listed p qs ≡ true → Stands p qs) → Stands p (q ∷ qs)
    here true test found rest = record { before = []; after = qs; split = ap (λ (n : ℕ). n ∷ qs) (sym (same_number p q test)) }
    here false test found rest = let s = rest found in record { before = q ∷ s.before; after = s.after; split = ap (λ (l : List ℕ). q ∷ l) s.split }

-- where it stands makes no difference
pub listed_first : (q p : ℕ) (xs ys : List ℕ) → listed q (xs ++ p ∷ ys) ≡ true → listed q (p ∷ xs ++ ys) ≡ true
listed_first q p [] ys is = is
listed_first q p (x ∷ xs) ys is = here (q == x) (q == p) is (listed_first q p xs ys)
  where
    here : (b d : Bool) → (if b then true else listed q (xs ++ p ∷ ys)) ≡ true → (listed q (xs ++ p ∷ ys) ≡ true → (if d then true else listed q (xs ++ ys)) ≡ true) → (if d then true else (if b then true else listed q (xs ++ ys))) ≡ true
    here true true found rest = refl
    here true false found rest = refl
    here false d found rest = rest found

-- another one stays without it
pub listed_without : (q p : ℕ) (xs ys : List ℕ) → (q == p) ≡ false → listed q (xs ++ p ∷ ys) ≡ true → listed q (xs ++ ys) ≡ true
listed_without q p xs ys other is = sym (if_false (q == p) true (listed q (xs ++ ys)) other) ∙ listed_first q p xs ys is

apart_not : (q : ℕ) (ps : List ℕ) → IsApart q ps → listed q ps ≡ false
apart_not q [] apart = refl
apart_not q (p ∷ ps) apart = here (q == p) refl (apart_not q ps apart.1)
  where
    here : (b : Bool) → (q == p) ≡ b → listed q ps ≡ false → (if b then true else listed q ps) ≡ false
    here true test rest = absurd (apart.0 (sym (same_number q p test)))
    here false test rest = rest

-- Nodes with the same keys name the places alike.
pub named_same : (ns new : List Node) (ps : List ℕ) → ((q : ℕ) → key_at new q ≡ key_at ns q) → named new ps ≡ named ns ps
named_same ns new [] same = refl
named_same ns new (p ∷ ps) same = λ i. (same p i, p) ∷ named_same ns new ps same i

pub named_with : (ns : List Node) (p k : ℕ) (ps : List ℕ) → p < length ns → IsApart p ps → named (with_key ns p k) ps ≡ named ns ps
named_with ns p k [] lt apart = refl
named_with ns p k (q ∷ qs) lt apart =
    let other : (q == p) ≡ false = by (q == p) refl in
    let key : key_at (with_key ns p k) q ≡ key_at ns q = key_with ns p k q lt ∙ if_false (q == p) k (key_at ns q) other in
    λ i. (key i, q) ∷ named_with ns p k qs lt apart.1 i
  where
    by : (b : Bool) → (q == p) ≡ b → (q == p) ≡ false
    by true test = absurd (apart.0 (same_number q p test))
    by false test = test

module _ (ns : List Node) where
  pub length_named : (ps : List ℕ) → length (named ns ps) ≡ length ps
  length_named [] = refl
  length_named (p ∷ ps) = ap suc (length_named ps)

  -- the place of a key has it
  pub found_key : (k p : ℕ) (ps : List ℕ) → lookup (nat_eq k) (named ns ps) ≡ Some p → (key_at ns p ≡ k) × (listed p ps ≡ true)
  found_key k p [] is = absurd (cc is)
  found_key k p (q ∷ qs) is = here (k == key_at ns q) refl is (found_key k p qs)
    where
      here : (b : Bool) → (k == key_at ns q) ≡ b → cond b (Some q) (lookup (nat_eq k) (named ns qs)) ≡ Some p → (lookup (nat_eq k) (named ns qs) ≡ Some p → (key_at ns p ≡ k) × (listed p qs ≡ true))
          → (key_at ns p ≡ k) × ((if p == q then true else listed p qs) ≡ true)
      here true test found rest =
          let same : q ≡ p = cc found in
          (sym (same_number k (key_at ns q) test ∙ ap (key_at ns) same), if_true (p == q) true (listed p qs) (ap (λ (n : ℕ). p == n) same ∙ itself p))
      here false test found rest = ((rest found).0, there (p == q) (rest found).1)
        where
          there : (d : Bool) → listed p qs ≡ true → (if d then true else listed p qs) ≡ true
          there true is = refl
          there false is = is

  -- a key that is behind another one is not it
  behind_other : (k p : ℕ) (ps : List ℕ) → AllByRecursion (λ y. nat_eq k y ≡ false) (keys_of (named ns ps)) → listed p ps ≡ true → (key_at ns p == k) ≡ false
  behind_other k p [] all is = absurd (cc is)
  behind_other k p (q ∷ qs) all is = here (p == q) refl is (behind_other k p qs all.1)
    where
      here : (b : Bool) → (p == q) ≡ b → (if b then true else listed p qs) ≡ true → (listed p qs ≡ true → (key_at ns p == k) ≡ false) → (key_at ns p == k) ≡ false
      here true test found rest = turned (key_at ns p) k ∙ ap (λ (n : ℕ). k == key_at ns n) (same_number p q test) ∙ all.0
      here false test found rest = rest found

  -- a place that is listed is its key's
  pub key_found : (p : ℕ) (ps : List ℕ) → IsDistinct nat_eq (keys_of (named ns ps)) → listed p ps ≡ true → lookup (nat_eq (key_at ns p)) (named ns ps) ≡ Some p
  key_found p [] distinct is = absurd (cc is)
  key_found p (q ∷ qs) distinct is = here (p == q) refl is (key_found p qs (IsDistinct-tail nat_eq (key_at ns q) (keys_of (named ns qs)) distinct))
    where
      here : (b : Bool) → (p == q) ≡ b → (if b then true else listed p qs) ≡ true → (listed p qs ≡ true → lookup (nat_eq (key_at ns p)) (named ns qs) ≡ Some p)
          → cond (key_at ns p == key_at ns q) (Some q) (lookup (nat_eq (key_at ns p)) (named ns qs)) ≡ Some p
      here true test found rest =
          let same = same_number p q test in
          if_true (key_at ns p == key_at ns q) (Some q) (lookup (nat_eq (key_at ns p)) (named ns qs)) (ap (λ (n : ℕ). key_at ns p == key_at ns n) (sym same) ∙ itself (key_at ns p)) ∙ ap Some (sym same)
      here false test found rest =
          let other = behind_other (key_at ns q) p qs (IsDistinct-head nat_eq (key_at ns q) (keys_of (named ns qs)) distinct) found in
          if_false (key_at ns p == key_at ns q) (Some q) (lookup (nat_eq (key_at ns p)) (named ns qs)) other ∙ rest found

  -- taken out
  pub named_without : (p : ℕ) (xs ys : List ℕ) → IsDistinct nat_eq (keys_of (named ns (xs ++ p ∷ ys))) → remove_entry (nat_eq (key_at ns p)) (named ns (xs ++ p ∷ ys)) ≡ named ns (xs ++ ys)
  named_without p [] ys distinct = if_true (key_at ns p == key_at ns p) (named ns ys) ((key_at ns p, p) ∷ remove_entry (nat_eq (key_at ns p)) (named ns ys)) (itself (key_at ns p))
  named_without p (x ∷ xs) ys distinct =
      let other = behind_other (key_at ns x) p (xs ++ p ∷ ys) (IsDistinct-head nat_eq (key_at ns x) (keys_of (named ns (xs ++ p ∷ ys))) distinct) (in_midst xs) in
      if_false (key_at ns p == key_at ns x) (named ns (xs ++ p ∷ ys)) ((key_at ns x, x) ∷ remove_entry (nat_eq (key_at ns p)) (named ns (xs ++ p ∷ ys))) other
      ∙ ap (λ (l : List (ℕ × ℕ)). (key_at ns x, x) ∷ l) (named_without p xs ys (IsDistinct-tail nat_eq (key_at ns x) (keys_of (named ns (xs ++ p ∷ ys))) distinct))
    where
      in_midst : (zs : List ℕ) → listed p (zs ++ p ∷ ys) ≡ true
      in_midst [] = if_true (p == p) true (listed p ys) (itself p)
      in_midst (z ∷ zs) = here (p == z) (in_midst zs)
        where
          here : (b : Bool) → listed p (zs ++ p ∷ ys) ≡ true → (if b then true else listed p (zs ++ p ∷ ys)) ≡ true
          here true is = refl
          here false is = is

  entry_of : (k p : ℕ) (es : List (ℕ × ℕ)) → lookup (nat_eq k) es ≡ Some p → lookup_entry (nat_eq k) es ≡ Some (k, p)
  entry_of k p [] is = absurd (cc is)
  entry_of k p (e ∷ es) is = here (k == e.0) refl is (entry_of k p es)
    where
      here : (b : Bool) → (k == e.0) ≡ b → cond b (Some e.1) (lookup (nat_eq k) es) ≡ Some p → (lookup (nat_eq k) es ≡ Some p → lookup_entry (nat_eq k) es ≡ Some (k, p)) → cond b (Some e) (lookup_entry (nat_eq k) es) ≡ Some (k, p)
      here true test found rest =
          let same : e.1 ≡ p = cc found in
          λ i. Some (sym (same_number k e.0 test) i, same i)
      here false test found rest = rest found

  -- used anew
  pub named_first : (k p : ℕ) (xs ys : List ℕ) → IsDistinct nat_eq (keys_of (named ns (xs ++ p ∷ ys))) → lookup (nat_eq k) (named ns (xs ++ p ∷ ys)) ≡ Some p → key_at ns p ≡ k
      → promoted (nat_eq k) (named ns (xs ++ p ∷ ys)) ≡ named ns (p ∷ xs ++ ys)
  named_first k p xs ys distinct found key =
      let es : List (ℕ × ℕ) = named ns (xs ++ p ∷ ys) in
      ap (λ (o : Option (ℕ × ℕ)). option_map_or (λ e. e ∷ remove_entry (nat_eq k) es) o es) (entry_of k p es found)
      ∙ ap (λ (n : ℕ). (n, p) ∷ remove_entry (nat_eq n) es) (sym key)
      ∙ ap (λ (l : List (ℕ × ℕ)). (key_at ns p, p) ∷ l) (named_without p xs ys distinct)

  -- a key that is nowhere changes nothing
  pub distinct_first : (p : ℕ) (xs ys : List ℕ) → IsDistinct nat_eq (keys_of (named ns (xs ++ p ∷ ys))) → IsDistinct nat_eq (keys_of (named ns (p ∷ xs ++ ys)))
  distinct_first p [] ys distinct = distinct
  distinct_first p (x ∷ xs) ys distinct =
      let head = IsDistinct-head nat_eq (key_at ns x) (keys_of (named ns (xs ++ p ∷ ys))) distinct in
      let rest = distinct_first p xs ys (IsDistinct-tail nat_eq (key_at ns x) (keys_of (named ns (xs ++ p ∷ ys))) distinct) in
      let parted = all_parted xs head in
      IsDistinct-cons nat_eq (key_at ns p) (key_at ns x ∷ keys_of (named ns (xs ++ ys)))
      (turned (key_at ns p) (key_at ns x) ∙ parted.0, IsDistinct-head nat_eq (key_at ns p) (keys_of (named ns (xs ++ ys))) rest)
      (IsDistinct-cons nat_eq (key_at ns x) (keys_of (named ns (xs ++ ys))) parted.1 (IsDistinct-tail nat_eq (key_at ns p) (keys_of (named ns (xs ++ ys))) rest))
    where
      all_parted : (zs : List ℕ) → AllByRecursion (λ y. nat_eq (key_at ns x) y ≡ false) (keys_of (named ns (zs ++ p ∷ ys)))
          → (nat_eq (key_at ns x) (key_at ns p) ≡ false) × AllByRecursion (λ y. nat_eq (key_at ns x) y ≡ false) (keys_of (named ns (zs ++ ys)))
      all_parted [] all = (all.0, all.1)
      all_parted (z ∷ zs) all = let rest = all_parted zs all.1 in (rest.0, (all.0, rest.1))

  -- and it is looked up as before
  pub looked_first : (q p : ℕ) (xs ys : List ℕ) → IsDistinct nat_eq (keys_of (named ns (xs ++ p ∷ ys))) → lookup (nat_eq q) (named ns (p ∷ xs ++ ys)) ≡ lookup (nat_eq q) (named ns (xs ++ p ∷ ys))
  looked_first q p [] ys distinct = refl
  looked_first q p (x ∷ xs) ys distinct =
      here (q == key_at ns p) (q == key_at ns x) refl refl (looked_first q p xs ys (IsDistinct-tail nat_eq (key_at ns x) (keys_of (named ns (xs ++ p ∷ ys))) distinct))
    where
      apart : (key_at ns x == key_at ns p) ≡ false
      apart = by xs (IsDistinct-head nat_eq (key_at ns x) (keys_of (named ns (xs ++ p ∷ ys))) distinct)
        where
          by : (zs : List ℕ) → AllByRecursion (λ y. nat_eq (key_at ns x) y ≡ false) (keys_of (named ns (zs ++ p ∷ ys))) → (key_at ns x == key_at ns p) ≡ false
          by [] all = all.0
          by (z ∷ zs) all = by zs all.1

      here : (b d : Bool) → (q == key_at ns p) ≡ b → (q == key_at ns x) ≡ d → cond b (Some p) (lookup (nat_eq q) (named ns (xs ++ ys))) ≡ lookup (nat_eq q) (named ns (xs ++ p ∷ ys))
          → cond b (Some p) (cond d (Some x) (lookup (nat_eq q) (named ns (xs ++ ys)))) ≡ cond d (Some x) (lookup (nat_eq q) (named ns (xs ++ p ∷ ys)))
      here true true first then_x rest = absurd (cc (sym apart ∙ ap (λ (n : ℕ). n == key_at ns p) (sym (same_number q (key_at ns x) then_x)) ∙ first))
      here true false first then_x rest = rest
      here false true first then_x rest = refl
      here false false first then_x rest = rest

-- a key that is not looked up has no equal
pub absent_apart : (k : ℕ) (es : List (ℕ × ℕ)) → lookup (nat_eq k) es ≡ None → AllByRecursion (λ y. nat_eq k y ≡ false) (keys_of es)
absent_apart k [] is = tt
absent_apart k (e ∷ es) is = here (k == e.0) refl is (absent_apart k es)
  where
    here : (b : Bool) → (k == e.0) ≡ b → cond b (Some e.1) (lookup (nat_eq k) es) ≡ None → (lookup (nat_eq k) es ≡ None → AllByRecursion (λ y. nat_eq k y ≡ false) (keys_of es)) → ((k == e.0) ≡ false) × AllByRecursion (λ y. nat_eq k y ≡ false) (keys_of es)
    here true test found rest = absurd (cc found)
    here false test found rest = (test, rest found)

-- a free place is apart from those that are named
pub free_apart : (ns : List Node) (p : ℕ) (ps : List ℕ) → IsFree p (named ns ps) → IsApart p ps
free_apart ns p [] free = tt
free_apart ns p (q ∷ qs) free = (free.0, free_apart ns p qs free.1)

-- A key that is nowhere is not used anew, and not taken out.
pub none_there : (k : ℕ) (es : List (ℕ × ℕ)) → lookup (nat_eq k) es ≡ None → (lookup_entry (nat_eq k) es ≡ None) × (remove_entry (nat_eq k) es ≡ es)
none_there k [] is = (refl, refl)
none_there k (e ∷ es) is = here (k == e.0) is (none_there k es)
  where
    here : (b : Bool) → cond b (Some e.1) (lookup (nat_eq k) es) ≡ None → (lookup (nat_eq k) es ≡ None → (lookup_entry (nat_eq k) es ≡ None) × (remove_entry (nat_eq k) es ≡ es))
        → (cond b (Some e) (lookup_entry (nat_eq k) es) ≡ None) × (cond b es (e ∷ remove_entry (nat_eq k) es) ≡ e ∷ es)
    here true found rest = absurd (cc found)
    here false found rest = ((rest found).0, ap (λ (l : List (ℕ × ℕ)). e ∷ l) (rest found).1)

pub none_promoted : (k : ℕ) (es : List (ℕ × ℕ)) → lookup (nat_eq k) es ≡ None → promoted (nat_eq k) es ≡ es
none_promoted k es is = ap (λ (o : Option (ℕ × ℕ)). option_map_or (λ e. e ∷ remove_entry (nat_eq k) es) o es) (none_there k es is).0

-- The first key has its place, and stays first where it is used again.
pub first_again : (k f p : ℕ) (es : List (ℕ × ℕ)) → slice_get es 0 ≡ Some (f, p) → f ≡ k → (lookup (nat_eq k) es ≡ Some p) × (promoted (nat_eq k) es ≡ es)
first_again k f p [] is at = absurd (cc is)
first_again k f p (e ∷ es) is at =
    let same : e ≡ (f, p) = cc is in
    let test : (k == e.0) ≡ true = ap (λ (x : ℕ × ℕ). k == x.0) same ∙ ap (λ (n : ℕ). k == n) at ∙ itself k in (
      if_true (k == e.0) (Some e.1) (lookup (nat_eq k) es) test ∙ ap (λ (x : ℕ × ℕ). Some x.1) same,
      ap (λ (b : Bool). option_map_or (λ x. x ∷ cond b es (e ∷ remove_entry (nat_eq k) es)) (cond b (Some e) (lookup_entry (nat_eq k) es)) (e ∷ es)) test,
    )
