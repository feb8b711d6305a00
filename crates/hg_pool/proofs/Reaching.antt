-- How far the search for a free slot has come.
use Rattle.std.proofs.Common.{◌≡◌, ◌⊎◌, inl, inr, ◌≤◌, ◌<◌, ◌==◌, ℕ, Bool, true, false, List, Option, Some, None, MatchOption, Result, Ok, Err, OnOk, OnErr, if◌then◌else◌, refl, sym, ap, subst, ◌∙◌}
use Rattle.std.proofs.lemmas.Bool.{cases_lt}
use Rattle.hg_pages.specs.Tables.{IsNamed, slot_in}
use Rattle.hg_pool.specs.Answers.{IsTaken}
use Rattle.hg_pool.specs.Picking.{IsLeastFree}
use Rattle.hg_pool.specs.Shown.{ShownPool}
use Rattle.hg_cache.proofs.Lookups.{if_false, same_number}

module _ {D : Type 0} (p : ShownPool D) where
  -- a search from a slot below which each is named
  pub least_of_all : (from : ℕ) (o : Option ℕ) → ((slot : ℕ) → slot < from → IsTaken p slot)
      → MatchOption o ((slot : ℕ) → from ≤ slot → slot < p.slots → IsTaken p slot) (λ free. (from ≤ free) × (free < p.slots) × (¬ IsTaken p free) × ((slot : ℕ) → from ≤ slot → slot < free → IsTaken p slot))
      → MatchOption o ((slot : ℕ) → slot < p.slots → IsTaken p slot) (λ slot. (slot < p.slots) × IsLeastFree p slot)
  least_of_all from None below each = λ slot lt. in_all slot lt (cases_lt slot from)
    where
      in_all : (slot : ℕ) → slot < p.slots → (slot < from) ⊎ (from ≤ slot) → IsTaken p slot
      in_all slot lt (inl is) = below slot is
      in_all slot lt (inr is) = each slot is lt
  least_of_all from (Some free) below found = (found.1, (found.2, λ lesser lt. before lesser lt (cases_lt lesser from)))
    where
      before : (lesser : ℕ) → lesser < free → (lesser < from) ⊎ (from ≤ lesser) → IsTaken p lesser
      before lesser lt (inl is) = below lesser is
      before lesser lt (inr is) = found.3 lesser is lt

  -- A page got the least free slot. Its former one is free at most where the search begins, or behind.
  pub reached_moved : (live : List (ℕ × ℕ)) (page slot from : ℕ) → IsLeastFree p slot → ((s : ℕ) → s < from → (s < slot) × (slot_in p.live page ≡ Some s → IsNamed p.root s ⊎ IsNamed p.frozen s))
      → ((q : ℕ) → slot_in live q ≡ (if page == q then Some slot else slot_in p.live q)) → (s : ℕ) → s < from → IsTaken (record p { live = live }) s
  reached_moved live page slot from least below look s lt = by (least.1 s (below s lt).0)
    where
      saved : IsNamed p.root s ⊎ IsNamed p.frozen s → IsTaken (record p { live = live }) s
      saved (inl named) = inl named
      saved (inr named) = inr (inl named)

      here : (q : ℕ) (b : Bool) → (page == q) ≡ b → slot_in p.live q ≡ Some s → IsTaken (record p { live = live }) s
      here q true test is = saved ((below s lt).1 (ap (λ (n : ℕ). slot_in p.live n) (same_number page q test) ∙ is))
      here q false test is = inr (inr (inl (q, look q ∙ if_false (page == q) (Some slot) (slot_in p.live q) test ∙ is)))

      by : IsTaken p s → IsTaken (record p { live = live }) s
      by (inl named) = inl named
      by (inr (inl named)) = inr (inl named)
      by (inr (inr (inl named))) = here named.0 (page == named.0) refl named.1
      by (inr (inr (inr named))) = inr (inr (inr named))

-- the page that got the slot, and the others
pub takes_moved : {D : Type 0} (p : ShownPool D) (live : List (ℕ × ℕ)) (page slot : ℕ) → IsLeastFree p slot → ((q : ℕ) → slot_in live q ≡ (if page == q then Some slot else slot_in p.live q))
    → (q s : ℕ) → slot_in live q ≡ Some s → (slot_in p.live q ≡ Some s) ⊎ ((slot_in p.waiting q ≡ Some s) ⊎ IsLeastFree p s)
takes_moved p live page slot least look q s is = by (page == q) (sym (look q) ∙ is)
  where
    by : (b : Bool) → (if b then Some slot else slot_in p.live q) ≡ Some s → (slot_in p.live q ≡ Some s) ⊎ ((slot_in p.waiting q ≡ Some s) ⊎ IsLeastFree p s)
    by true found = let same : slot ≡ s = cc found in inr (inr (subst (λ (n : ℕ). IsLeastFree p n) same least))
    by false found = inl found

-- what follows of both outcomes of a call
pub of_either : {T E A B C : Type 0} (result : Result T E) → OnOk result A → OnErr result B → (A → C) → (B → C) → C
of_either (Ok value) a b one other = one a
of_either (Err error) a b one other = other b

-- where the table stays, and the search begins at the free slot or before
pub reached_still : {D : Type 0} (p : ShownPool D) (live : List (ℕ × ℕ)) (slot from : ℕ) → IsLeastFree p slot → ((s : ℕ) → s < from → s < slot) → live ≡ p.live → (s : ℕ) → s < from → IsTaken (record p { live = live }) s
reached_still p live slot from least below same s lt = subst (λ (es : List (ℕ × ℕ)). IsTaken (record p { live = es }) s) (sym same) (least.1 s (below s lt))
