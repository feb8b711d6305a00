-- What is kept of messages, by their places.
use Rattle.std.proofs.Common.{◌≡◌, ◌≢◌, ℕ, ◌<◌, ◌≤◌, true, false, cond, nat_eq, List, [], ◌∷◌, Option, None, Some, is_some, get_or, length, refl, sym, ap, ◌∙◌, subst, ⊎_elim, arith}
use Rattle.std.proofs.lemmas.Bool.{cases_eq, false≢true, ne_eqb, eq-eqb}
use Rattle.std.proofs.lemmas.Option.{same_Some}
use Rattle.std.proofs.lemmas.List.{get_or_read}
use Rattle.std.specs.Option.{option_map}
use Rattle.std.specs.Prelude.{IfOk, OnErr, Result, Ok, Err}
use Rattle.std.specs.declared.alloc.AllocError.{AllocError}
use Rattle.hg_graph.specs.declared.pending.Pending.{Pending}
use Rattle.hg_graph.specs.declared.pending.Slot.{Slot}
use Rattle.hg_graph.specs.Filed.{AreFiled, AreOthers, HasSlot, IsFreeIn, IsOneOther, Stay, kept_entries, no_slot, place_of, slot_at}
use Rattle.hg_graph.specs.Pending.{Notes, kept_of}

none_is_not_some : {A : Type 0} → (x : A) → None ≡ Some x → ⊥
none_is_not_some x e = false≢true (ap is_some e)

-- what is kept at the place of a message
abbrev at_place : List Slot → Option ℕ → Option Pending
at_place slots o = option_map (λ i. (slot_at slots i).kept) o

-- what is kept of a message is what its place has
kept_is : (places : List (ℕ × ℕ)) (slots : List Slot) (k : ℕ) → kept_of (kept_entries places slots) k ≡ at_place slots (place_of places k)
kept_is [] slots k = refl
kept_is (p ∷ places) slots k =
    elim (nat_eq k p.0) as (λ b. cond b (Some (slot_at slots p.1).kept) (kept_of (kept_entries places slots) k) ≡ at_place slots (cond b (Some p.1) (place_of places k))) [ true ↦ refl | false ↦ kept_is places slots k ]

pub kept_at : (places : List (ℕ × ℕ)) (slots : List Slot) (k i : ℕ) → place_of places k ≡ Some i → kept_of (kept_entries places slots) k ≡ Some (slot_at slots i).kept
kept_at places slots k i is = kept_is places slots k ∙ ap (at_place slots) is

pub not_kept : (places : List (ℕ × ℕ)) (slots : List Slot) (k : ℕ) → place_of places k ≡ None → kept_of (kept_entries places slots) k ≡ None
not_kept places slots k is = kept_is places slots k ∙ ap (at_place slots) is

-- A place behind all slots is no message's.
is_free_behind : (places : List (ℕ × ℕ)) (slots : List Slot) (i : ℕ) → AreFiled places slots → length slots ≤ i → IsFreeIn places i
is_free_behind places slots i filed past k is = let lt = (filed k i is).0 in absurd (omega arith)

-- The slots at messages' places stay as they were.
abbrev pub Keep : List (ℕ × ℕ) → List Slot → List Slot → Type 0
Keep places old new = (k i : ℕ) → place_of places k ≡ Some i → (i < length new) × (slot_at new i ≡ slot_at old i)

pub stay_keep : (places : List (ℕ × ℕ)) (old new : List Slot) → AreFiled places old → Stay old new → Keep places old new
stay_keep places old new filed stay k i is = let lt = (filed k i is).0 in let le = stay.0 in (omega arith, stay.1 i lt)

pub others_keep : (places : List (ℕ × ℕ)) (old new last : List Slot) (p : ℕ) → IsFreeIn places p → Keep places old new → AreOthers new p last → Keep places old last
others_keep places old new last p free keep others k i is =
    let one = keep k i is in
    (subst (λ n. i < n) (sym others.0) one.0, others.1 i (λ e. free k (is ∙ ap Some e)) ∙ one.1)

-- the same places, and slots that stay there
module _ (places new_places : List (ℕ × ℕ)) (old new : List Slot) (same : (k : ℕ) → place_of new_places k ≡ place_of places k) (keep : Keep places old new) where
  pub filed_still : AreFiled places old → AreFiled new_places new
  filed_still filed k i is = let one = keep k i (sym (same k) ∙ is) in (one.0, ap (λ (s : Slot). s.message) one.1 ∙ (filed k i (sym (same k) ∙ is)).1)

  pub kept_still : (k : ℕ) → kept_of (kept_entries new_places new) k ≡ kept_of (kept_entries places old) k
  kept_still k = kept_is new_places new k ∙ ap (at_place new) (same k) ∙ by (place_of places k) refl ∙ sym (kept_is places old k)
    where
      by : (o : Option ℕ) → place_of places k ≡ o → at_place new o ≡ at_place old o
      by None is = refl
      by (Some i) is = ap (λ (s : Slot). Some s.kept) (keep k i is).1

-- one place more
module _ (places new_places : List (ℕ × ℕ)) (old new : List Slot) (k p : ℕ) (m : Pending) (keep : Keep places old new) (has : HasSlot new p k m) (added : (j : ℕ) → place_of new_places j ≡ cond (nat_eq k j) (Some p) (place_of places j)) where
  pub filed_more : p < length new → AreFiled places old → AreFiled new_places new
  filed_more p_in filed j i is =
      ⊎_elim
      (λ same. let at_p : Some p ≡ Some i = sym (added j ∙ ap (λ b. cond b (Some p) (place_of places j)) (eq-eqb k j same)) ∙ is in
      let e = same_Some p i at_p in
      (subst (λ n. n < length new) e p_in, ap (λ n. (slot_at new n).message) (sym e) ∙ has.0 ∙ same))
      (λ differs. let was : place_of places j ≡ Some i = sym (added j ∙ ap (λ b. cond b (Some p) (place_of places j)) (ne_eqb k j differs)) ∙ is in
      let one = keep j i was in (one.0, ap (λ (s : Slot). s.message) one.1 ∙ (filed j i was).1))
      (cases_eq k j)

  stays_at : (j : ℕ) → at_place new (place_of places j) ≡ kept_of (kept_entries places old) j
  stays_at j = sym (kept_is places new j) ∙ kept_still places places old new (λ _. refl) keep j

  pub kept_more : Notes (kept_entries places old) k (Some m) (kept_entries new_places new)
  kept_more j =
      kept_is new_places new j ∙ ap (at_place new) (added j)
      ∙ ⊎_elim
      (λ same. ap (λ b. at_place new (cond b (Some p) (place_of places j))) (eq-eqb k j same) ∙ ap Some has.1 ∙ ap (λ b. cond b (Some m) (kept_of (kept_entries places old) j)) (sym (eq-eqb k j same)))
      (λ differs. ap (λ b. at_place new (cond b (Some p) (place_of places j))) (ne_eqb k j differs) ∙ stays_at j ∙ ap (λ b. cond b (Some m) (kept_of (kept_entries places old) j)) (sym (ne_eqb k j differs)))
      (cases_eq k j)

-- one place less
module _ (places new_places : List (ℕ × ℕ)) (old new : List Slot) (k p : ℕ) (filed : AreFiled places old) (was : place_of places k ≡ Some p) (other : IsOneOther old p new) (taken : (j : ℕ) → place_of new_places j ≡ cond (nat_eq k j) None (place_of places j)) where
  -- the slots of the other messages stay as they were
  stays : (j i : ℕ) → k ≢ j → place_of places j ≡ Some i → slot_at new i ≡ slot_at old i
  stays j i differs is = other.0.1 i (λ e. differs (sym (filed k p was).1 ∙ ap (λ n. (slot_at old n).message) (sym e) ∙ (filed j i is).1))

  pub filed_less : AreFiled new_places new
  filed_less j i is =
      ⊎_elim
      (λ same. absurd (none_is_not_some i (sym (taken j ∙ ap (λ b. cond b None (place_of places j)) (eq-eqb k j same)) ∙ is)))
      (λ differs. let at_i : place_of places j ≡ Some i = sym (taken j ∙ ap (λ b. cond b None (place_of places j)) (ne_eqb k j differs)) ∙ is in
      let one = filed j i at_i in (subst (λ n. i < n) (sym other.0.0) one.0, ap (λ (s : Slot). s.message) (stays j i differs at_i) ∙ one.1))
      (cases_eq k j)

  pub kept_less : Notes (kept_entries places old) k None (kept_entries new_places new)
  kept_less j =
      kept_is new_places new j ∙ ap (at_place new) (taken j)
      ∙ ⊎_elim
      (λ same. ap (λ b. at_place new (cond b None (place_of places j))) (eq-eqb k j same) ∙ ap (λ b. cond b None (kept_of (kept_entries places old) j)) (sym (eq-eqb k j same)))
      (λ differs. ap (λ b. at_place new (cond b None (place_of places j))) (ne_eqb k j differs) ∙ by j differs (place_of places j) refl ∙ sym (kept_is places old j) ∙ ap (λ b. cond b None (kept_of (kept_entries places old) j)) (sym (ne_eqb k j differs)))
      (cases_eq k j)
    where
      by : (j : ℕ) → k ≢ j → (o : Option ℕ) → place_of places j ≡ o → at_place new o ≡ at_place old o
      by j differs None is = refl
      by j differs (Some i) is = ap (λ (s : Slot). Some s.kept) (stays j i differs is)

-- A message that has no place is let go already.
pub none_to_let_go : (entries : List (ℕ × Pending)) (k : ℕ) → kept_of entries k ≡ None → Notes entries k None entries
none_to_let_go entries k none j =
    ⊎_elim
    (λ same. ap (kept_of entries) (sym same) ∙ none ∙ ap (λ b. cond b None (kept_of entries j)) (sym (eq-eqb k j same)))
    (λ differs. ap (λ b. cond b None (kept_of entries j)) (sym (ne_eqb k j differs)))
    (cases_eq k j)

-- Two changes at one place are one change there.
pub one_other_again : (old mid new : List Slot) (i : ℕ) → IsOneOther old i mid → IsOneOther mid i new → IsOneOther old i new
one_other_again old mid new i first second = ((second.0.0 ∙ first.0.0, λ j differs. second.0.1 j differs ∙ first.0.1 j differs), second.1 ∙ first.1)

-- what is read of the slots
pub slot_read : (slots : List Slot) (i : ℕ) (slot : Slot) → i < length slots → slot ≡ get_or slots i slot → slot ≡ slot_at slots i
slot_read slots i slot within is = get_or_read slots i slot within is no_slot

-- a slot that was added
pub new_place : (places : List (ℕ × ℕ)) (old new : List Slot) (answer : Result ℕ AllocError) → AreFiled places old → IfOk answer (λ i. (i ≡ length old) × (i < length new)) → IfOk answer (λ i. (i < length new) × IsFreeIn places i)
new_place places old new (Ok i) filed is = (is.1, is_free_behind places old i filed (let e = is.0 in omega arith))
new_place places old new (Err e) filed is = tt

pub always_err : {T E P : Type 0} → (answer : Result T E) → P → OnErr answer P
always_err (Ok x) p = tt
always_err (Err e) p = p
