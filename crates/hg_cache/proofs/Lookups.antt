-- What is looked up of a page, after a change at one page.
use Rattle.std.proofs.Common.{◌≡◌, ◌<◌, ◌≤◌, ◌-◌, ◌==◌, ◌∙◌, ℕ, suc, nat_eq, Bool, true, false, cond, List, [], ◌∷◌, length, take, is_some, slice_get, Option, Some, None, if◌then◌else◌, refl, sym, ap, arith}
use Rattle.std.specs.Option.{option_map_or}
use Rattle.std.specs.List.{IsDistinct}
use Rattle.std.specs.Cmp.{nat_eq_equiv}
use Rattle.std.specs.Map.{lookup, lookup_entry, remove_entry, set_value, keys_of}
use Rattle.std.proofs.lemmas.List.{take_all}
use Rattle.std.proofs.lemmas.Map.{lookup-set_value, lookup-remove_entry}
use Rattle.lru.specs.LruCache.{LruCache, promoted, put_entries}
pub use Rattle.hg_cache.proofs.Numbers.{if_false, if_true, itself, same_number, turned}

module _ {X : Type 0} where
  pub looked_set : (page q : ℕ) (w : X) (es : List (ℕ × X)) → is_some (lookup (nat_eq page) es) ≡ true → lookup (nat_eq q) (set_value (nat_eq page) es w) ≡ (if page == q then Some w else lookup (nat_eq q) es)
  looked_set page q w es there = lookup-set_value nat_eq_equiv (nat_eq page) (nat_eq_equiv.congr page) q w es there

  pub looked_removed : (page q : ℕ) (es : List (ℕ × X)) → IsDistinct nat_eq (keys_of es) → lookup (nat_eq q) (remove_entry (nat_eq page) es) ≡ (if page == q then None else lookup (nat_eq q) es)
  looked_removed page q es distinct = lookup-remove_entry nat_eq_equiv (nat_eq page) (nat_eq_equiv.congr page) q es distinct

  -- the entry of a key is under it
  pub entry_is : (page : ℕ) (es : List (ℕ × X)) (e : ℕ × X) → lookup_entry (nat_eq page) es ≡ Some e → (page ≡ e.0) × (lookup (nat_eq page) es ≡ Some e.1)
  entry_is page [] e is = absurd (cc is)
  entry_is page (f ∷ es) e is = here (page == f.0) refl is (entry_is page es e)
    where
      here : (b : Bool) → (page == f.0) ≡ b → cond b (Some f) (lookup_entry (nat_eq page) es) ≡ Some e → (lookup_entry (nat_eq page) es ≡ Some e → (page ≡ e.0) × (lookup (nat_eq page) es ≡ Some e.1))
          → (page ≡ e.0) × (cond (page == f.0) (Some f.1) (lookup (nat_eq page) es) ≡ Some e.1)
      here true test found rest =
          let same : f ≡ e = cc found in
          (same_number page f.0 test ∙ (λ i. (same i).0), if_true (page == f.0) (Some f.1) (lookup (nat_eq page) es) test ∙ ap (λ (x : ℕ × X). Some x.1) same)
      here false test found rest =
          let later = rest found in
          (later.0, if_false (page == f.0) (Some f.1) (lookup (nat_eq page) es) test ∙ later.1)

  moved : (page q : ℕ) (es : List (ℕ × X)) (o : Option (ℕ × X)) → lookup_entry (nat_eq page) es ≡ o → IsDistinct nat_eq (keys_of es) → lookup (nat_eq q) (option_map_or (λ e. e ∷ remove_entry (nat_eq page) es) o es) ≡ lookup (nat_eq q) es
  moved page q es None is distinct = refl
  moved page q es (Some e) is distinct =
      let at = entry_is page es e is in
      by_page (q == e.0) refl at
    where
      by_page : (b : Bool) → (q == e.0) ≡ b → (page ≡ e.0) × (lookup (nat_eq page) es ≡ Some e.1) → cond (q == e.0) (Some e.1) (lookup (nat_eq q) (remove_entry (nat_eq page) es)) ≡ lookup (nat_eq q) es
      by_page true test at =
          let same : page ≡ q = at.0 ∙ sym (same_number q e.0 test) in
          if_true (q == e.0) (Some e.1) (lookup (nat_eq q) (remove_entry (nat_eq page) es)) test ∙ sym at.1 ∙ ap (λ (p : ℕ). lookup (nat_eq p) es) same
      by_page false test at =
          let apart : (page == q) ≡ false = turned page q ∙ ap (λ (p : ℕ). q == p) at.0 ∙ test in
          if_false (q == e.0) (Some e.1) (lookup (nat_eq q) (remove_entry (nat_eq page) es)) test ∙ looked_removed page q es distinct ∙ if_false (page == q) None (lookup (nat_eq q) es) apart

  pub looked_promoted : (page q : ℕ) (es : List (ℕ × X)) → IsDistinct nat_eq (keys_of es) → lookup (nat_eq q) (promoted (nat_eq page) es) ≡ lookup (nat_eq q) es
  looked_promoted page q es distinct = moved page q es (lookup_entry (nat_eq page) es) refl distinct

  -- a key without an entry has no value, and the other way round
  pub none_entry : (page : ℕ) (es : List (ℕ × X)) → lookup (nat_eq page) es ≡ None → lookup_entry (nat_eq page) es ≡ None
  none_entry page [] is = refl
  none_entry page (f ∷ es) is = here (page == f.0) is (none_entry page es)
    where
      here : (b : Bool) → cond b (Some f.1) (lookup (nat_eq page) es) ≡ None → (lookup (nat_eq page) es ≡ None → lookup_entry (nat_eq page) es ≡ None) → cond b (Some f) (lookup_entry (nat_eq page) es) ≡ None
      here true found rest = absurd (cc found)
      here false found rest = rest found

  pub entry_none : (page : ℕ) (es : List (ℕ × X)) → lookup_entry (nat_eq page) es ≡ None → lookup (nat_eq page) es ≡ None
  entry_none page [] is = refl
  entry_none page (f ∷ es) is = here (page == f.0) is (entry_none page es)
    where
      here : (b : Bool) → cond b (Some f) (lookup_entry (nat_eq page) es) ≡ None → (lookup_entry (nat_eq page) es ≡ None → lookup (nat_eq page) es ≡ None) → cond b (Some f.1) (lookup (nat_eq page) es) ≡ None
      here true found rest = absurd (cc found)
      here false found rest = rest found

  -- the first entry is under its key
  pub first_entry : (es : List (ℕ × X)) (e : ℕ × X) → slice_get es 0 ≡ Some e → lookup (nat_eq e.0) es ≡ Some e.1
  first_entry [] e is = absurd (cc is)
  first_entry (f ∷ es) e is =
      let same : f ≡ e = cc is in
      if_true (e.0 == f.0) (Some f.1) (lookup (nat_eq e.0) es) (ap (λ (x : ℕ × X). e.0 == x.0) same ∙ itself e.0) ∙ ap (λ (x : ℕ × X). Some x.1) same

  -- a new entry where there is room
  pub put_new : (c : LruCache ℕ X) (page : ℕ) (v : X) → lookup (nat_eq page) c.entries ≡ None → length c.entries < c.cap → put_entries nat_eq c page v ≡ (page, v) ∷ c.entries
  put_new c page v none room =
      ap (λ (o : Option (ℕ × X)). option_map_or (λ e. (e.0, v) ∷ remove_entry (nat_eq page) c.entries) o ((page, v) ∷ take (c.cap - 1) c.entries)) (none_entry page c.entries none)
      ∙ ap (λ (l : List (ℕ × X)). (page, v) ∷ l) (take_all (c.cap - 1) c.entries (omega (arith, room)))

  pub looked_new : (page q : ℕ) (v : X) (es : List (ℕ × X)) → lookup (nat_eq q) ((page, v) ∷ es) ≡ (if page == q then Some v else lookup (nat_eq q) es)
  looked_new page q v es = ap (λ (b : Bool). cond b (Some v) (lookup (nat_eq q) es)) (turned q page)

  pub length_removed : (page : ℕ) (es : List (ℕ × X)) → length (remove_entry (nat_eq page) es) ≤ length es
  length_removed page [] = omega arith
  length_removed page (e ∷ es) = here (page == e.0) (length_removed page es)
    where
      here : (b : Bool) → length (remove_entry (nat_eq page) es) ≤ length es → length (cond b es (e ∷ remove_entry (nat_eq page) es)) ≤ suc (length es)
      here true le = omega arith
      here false le = omega (arith, le)
