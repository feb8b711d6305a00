-- Pages and their places in a map.
use Rattle.std.proofs.Common.{◌≡◌, ℕ, zero, suc, ◌<◌, false, nat_eq, List, [], ◌∷◌, map, length, get_or, Option, Some, None, is_some, option_map, refl, sym, ap, ◌∙◌, arith, eqb-true, slice_get, position, IfSome, MatchOption}
use Rattle.std.proofs.lemmas.List.{length-map}
use Rattle.std.proofs.lemmas.Bool.{false≢true}
use Rattle.std.proofs.lemmas.List.Quantifiers.{position-Some}
use Rattle.indexmap.specs.IndexMap.{IndexMap, get, keys, values}
use Rattle.hg_cells.specs.Paged.{StandsIn}

entry_at : {P : Type 0} (es : List (ℕ × P)) (i : ℕ) → i < length es → (p : P) × (slice_get es i ≡ Some (get_or (map (λ e. e.0) es) i 0, p))
entry_at [] i lt = absurd (omega arith)
entry_at (e ∷ es) zero lt = (e.1, refl)
entry_at (e ∷ es) (suc i) lt = entry_at es i (omega arith)

pub value_at : {P : Type 0} (es : List (ℕ × P)) (i : ℕ) (e : ℕ × P) → slice_get es i ≡ Some e → slice_get (map (λ x. x.1) es) i ≡ Some e.1
value_at [] i e h = absurd (cc)
value_at (x ∷ es) zero e h = ap (λ o. option_map (λ y. y.1) o) h
value_at (x ∷ es) (suc i) e h = value_at es i e h

-- where a look-up by key found it
pub found_at : {P S : Type 0} (m : IndexMap ℕ P S) (number i : ℕ) → position (nat_eq number) (keys m) ≡ Some i → slice_get (values m) i ≡ get nat_eq m number → StandsIn m number i
found_at m number i at value =
    let h = position-Some (nat_eq number) (keys m) i 0 at in
    let e = entry_at m.entries i (omega (arith, h.0, length-map m.entries (λ (x : ℕ × _). x.0))) in
    let key : get_or (keys m) i 0 ≡ number = sym (eqb-true number (get_or (keys m) i 0) h.1) in
    (e.0, e.1 ∙ ap (λ (k : ℕ). Some (k, e.0)) key, sym value ∙ value_at m.entries i (get_or (keys m) i 0, e.0) e.1)

none_from : {X : Type 0} (o : Option X) → false ≡ is_some o → o ≡ None
none_from None h = refl
none_from (Some x) h = absurd (false≢true h)

-- what a look-up by key found
pub placed : {P S : Type 0} (m : IndexMap ℕ P S) (number : ℕ) (r : Option ℕ) → r ≡ position (nat_eq number) (keys m) → is_some r ≡ is_some (get nat_eq m number) → IfSome r (λ i. slice_get (values m) i ≡ get nat_eq m number)
    → MatchOption r (get nat_eq m number ≡ None) (λ i. StandsIn m number i)
placed m number None at found value = none_from (get nat_eq m number) found
placed m number (Some i) at found value = found_at m number i (sym at) value
