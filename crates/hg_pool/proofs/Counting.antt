-- No more copies than pages that wait.
use Rattle.std.proofs.Common.{◌≡◌, ◌≤◌, ◌==◌, ℕ, suc, nat_eq, Bool, true, false, List, [], ◌∷◌, length, is_some, Option, Some, None, if◌then◌else◌, refl, sym, ap, subst, arith}
use Rattle.std.specs.List.{AllByRecursion, IsDistinct}
use Rattle.std.proofs.lemmas.Map.Keys.{IsDistinct-cons, IsDistinct-head, IsDistinct-tail}
use Rattle.std.specs.Map.{lookup, remove_entry, keys_of}
use Rattle.hg_pages.specs.Tables.{slot_in}
use Rattle.hg_cache.proofs.Lookups.{itself, looked_removed, same_number}

module _ {X : Type 0} where
  one_less : (page : ℕ) (es : List (ℕ × X)) → length es ≤ suc (length (remove_entry (nat_eq page) es))
  one_less page [] = omega arith
  one_less page (e ∷ es) = here (page == e.0) (one_less page es)
    where
      here : (b : Bool) → length es ≤ suc (length (remove_entry (nat_eq page) es)) → suc (length es) ≤ suc (length (if b then es else e ∷ remove_entry (nat_eq page) es))
      here true le = omega arith
      here false le = omega (arith, le)

  all_without : (P : ℕ → Type 0) (page : ℕ) (es : List (ℕ × X)) → AllByRecursion P (keys_of es) → AllByRecursion P (keys_of (remove_entry (nat_eq page) es))
  all_without P page [] all = tt
  all_without P page (e ∷ es) all = here (page == e.0) (all_without P page es all.1)
    where
      here : (b : Bool) → AllByRecursion P (keys_of (remove_entry (nat_eq page) es)) → AllByRecursion P (keys_of (if b then es else e ∷ remove_entry (nat_eq page) es))
      here true rest = all.1
      here false rest = (all.0, rest)

  distinct_without : (page : ℕ) (es : List (ℕ × X)) → IsDistinct nat_eq (keys_of es) → IsDistinct nat_eq (keys_of (remove_entry (nat_eq page) es))
  distinct_without page [] distinct = distinct
  distinct_without page (e ∷ es) distinct = here (page == e.0) (distinct_without page es (IsDistinct-tail nat_eq e.0 (keys_of es) distinct))
    where
      here : (b : Bool) → IsDistinct nat_eq (keys_of (remove_entry (nat_eq page) es)) → IsDistinct nat_eq (keys_of (if b then es else e ∷ remove_entry (nat_eq page) es))
      here true rest = IsDistinct-tail nat_eq e.0 (keys_of es) distinct
      here false rest =
          IsDistinct-cons nat_eq e.0 (keys_of (remove_entry (nat_eq page) es)) (all_without (λ k. nat_eq e.0 k ≡ false) page es (IsDistinct-head nat_eq e.0 (keys_of es) distinct)) rest

  -- keys that are all among the pages of a table are no more than these
  pub no_more : (ws : List (ℕ × ℕ)) (es : List (ℕ × X)) → IsDistinct nat_eq (keys_of es) → ((k : ℕ) → is_some (lookup (nat_eq k) es) ≡ true → is_some (slot_in ws k) ≡ true) → length es ≤ length ws
  no_more [] [] distinct among = omega arith
  no_more [] (e ∷ es) distinct among =
      absurd (cc (among e.0 (ap (λ (b : Bool). is_some (if b then Some e.1 else lookup (nat_eq e.0) es)) (itself e.0))))
  no_more (w ∷ ws) es distinct among =
      let rest = no_more ws (remove_entry (nat_eq w.0) es) (distinct_without w.0 es distinct)
      (λ k there. left k (w.0 == k) refl (subst (λ (o : Option X). is_some o ≡ true) (looked_removed w.0 k es distinct) there)) in
      omega (arith, rest, one_less w.0 es)
    where
      left : (k : ℕ) (b : Bool) → (w.0 == k) ≡ b → is_some (if b then None else lookup (nat_eq k) es) ≡ true → is_some (slot_in ws k) ≡ true
      left k true test there = absurd (cc there)
      left k false test there = passed (w.0 == k) test (among k there)
        where
          passed : (b : Bool) → b ≡ false → is_some (if b then Some w.1 else slot_in ws k) ≡ true → is_some (slot_in ws k) ≡ true
          passed true is found = absurd (cc is)
          passed false is found = found

  -- and fewer, where one of the pages is no key
  pub fewer : (page : ℕ) (v : X) (ws : List (ℕ × ℕ)) (es : List (ℕ × X)) → IsDistinct nat_eq (keys_of ((page, v) ∷ es)) → ((k : ℕ) → is_some (lookup (nat_eq k) es) ≡ true → is_some (slot_in ws k) ≡ true) → is_some (slot_in ws page) ≡ true
      → suc (length es) ≤ length ws
  fewer page v ws es distinct among there = no_more ws ((page, v) ∷ es) distinct (λ k is. by k (k == page) refl is)
    where
      by : (k : ℕ) (b : Bool) → (k == page) ≡ b → is_some (if b then Some v else lookup (nat_eq k) es) ≡ true → is_some (slot_in ws k) ≡ true
      by k true test is = subst (λ (n : ℕ). is_some (slot_in ws n) ≡ true) (sym (same_number k page test)) there
      by k false test is = among k is

  none_keys : (page : ℕ) (es : List (ℕ × X)) → lookup (nat_eq page) es ≡ None → AllByRecursion (λ k. nat_eq page k ≡ false) (keys_of es)
  none_keys page [] none = tt
  none_keys page (e ∷ es) none = here (page == e.0) refl none (none_keys page es)
    where
      here : (b : Bool) → (page == e.0) ≡ b → (if b then Some e.1 else lookup (nat_eq page) es) ≡ None → (lookup (nat_eq page) es ≡ None → AllByRecursion (λ k. nat_eq page k ≡ false) (keys_of es))
          → AllByRecursion (λ k. nat_eq page k ≡ false) (keys_of (e ∷ es))
      here true test is rest = absurd (cc is)
      here false test is rest = (test, rest is)

  -- a new key leaves the keys distinct
  pub distinct_new : (page : ℕ) (v : X) (es : List (ℕ × X)) → IsDistinct nat_eq (keys_of es) → lookup (nat_eq page) es ≡ None → IsDistinct nat_eq (keys_of ((page, v) ∷ es))
  distinct_new page v es distinct none = IsDistinct-cons nat_eq page (keys_of es) (none_keys page es none) distinct
