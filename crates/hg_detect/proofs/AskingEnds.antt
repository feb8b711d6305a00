-- Asking a table for sets comes to its end.
use Rattle.std.proofs.Common.{◌≡◌, ◌⊎◌, ℕ, zero, suc, ◌<◌, ◌≤◌, List, [], ◌∷◌, length, get_or, Contains, Some, None, Ok, refl, inl, inr, ⊎_elim, arith}
use Rattle.std.proofs.lemmas.Bool.{cases_eq, cases_lt}
use Rattle.std.proofs.lemmas.List.{length_push}
use Rattle.hg_sets.specs.Interning.{Interns, StandsAt, Table, with_set}
use Rattle.hg_sets.specs.declared.fault.SetFault.TheVariants.{Full}
use Rattle.hg_detect.specs.Making.{Asks}

same_or_not : (xs ys : List ℕ) → (xs ≡ ys) ⊎ (xs ≡ ys → ⊥)
same_or_not [] [] = inl refl
same_or_not [] (y ∷ ys) = inr (λ e. absurd (cc))
same_or_not (x ∷ xs) [] = inr (λ e. absurd (cc))
same_or_not (x ∷ xs) (y ∷ ys) =
    ⊎_elim
    (λ first. ⊎_elim (λ rest. inl (cons_is x y xs ys first rest)) (λ other. inr (λ e. other (rest_is x y xs ys e))) (same_or_not xs ys))
    (λ other. inr (λ e. other (first_is x y xs ys e)))
    (cases_eq x y)
  where
    cons_is : (a b : ℕ) (cs ds : List ℕ) → a ≡ b → cs ≡ ds → a ∷ cs ≡ b ∷ ds
    cons_is a b cs ds p q = cc

    first_is : (a b : ℕ) (cs ds : List ℕ) → a ∷ cs ≡ b ∷ ds → a ≡ b
    first_is a b cs ds e = cc

    rest_is : (a b : ℕ) (cs ds : List ℕ) → a ∷ cs ≡ b ∷ ds → cs ≡ ds
    rest_is a b cs ds e = cc

nowhere : (s : List ℕ) (sets : List (List ℕ)) (set : List ℕ) → (s ≡ set → ⊥) → (Contains sets set → ⊥) → (k : ℕ) → k < length (s ∷ sets) → get_or (s ∷ sets) k set ≡ set → ⊥
nowhere s sets set other none zero within e = other e
nowhere s sets set other none (suc k) within e = none (k, omega arith, e)

stands_or_not : (sets : List (List ℕ)) (set : List ℕ) → ((id : ℕ) × StandsAt sets set id) ⊎ (Contains sets set → ⊥)
stands_or_not [] set = inr (λ h. absurd (omega (arith, h.1)))
stands_or_not (s ∷ sets) set =
    ⊎_elim
    (λ here. inl (0, (omega arith, here)))
    (λ other. ⊎_elim
    (λ found. inl (suc found.0, (omega (arith, found.1.0), found.1.1)))
    (λ none. inr (λ h. nowhere s sets set other none h.0 h.1 h.2))
    (stands_or_not sets set))
    (same_or_not s set)

-- asking for sets comes to its end, or the table is full
abbrev pub EndOfAsking : List (List ℕ) → Table → Type 0
EndOfAsking sets t = ((new : Table) × (Asks t sets None new × (length new.sets ≤ new.limit))) ⊎ ((new : Table) × Asks t sets (Some Full) new)

goes_on : (set : List ℕ) (sets : List (List ℕ)) (t mid : Table) (id : ℕ) → Interns t set (Ok id) mid → EndOfAsking sets mid → EndOfAsking (set ∷ sets) t
goes_on set sets t mid id h rest =
    ⊎_elim
    (λ on. inl (on.0, (inl (id, mid, h, on.1.0), on.1.1)))
    (λ full. inr (full.0, inl (id, mid, h, full.1)))
    rest

-- each set is found or added, or the table is full
pub asks_end : (sets : List (List ℕ)) (t : Table) → length t.sets ≤ t.limit → EndOfAsking sets t
asks_end [] t few = inl (t, (refl, few))
asks_end (set ∷ sets) t few =
    ⊎_elim
    (λ found. goes_on set sets t t found.0 (inl (found.0, found.1, refl, refl)) (asks_end sets t few))
    (λ none. ⊎_elim
    (λ room. goes_on set sets t (with_set t set) (length t.sets) (inr (none, (room, refl, refl))) (asks_end sets (with_set t set) (omega (arith, length_push t.sets set, room))))
    (λ full. inr (t, inr (Full, inr (none, (omega (arith, full, few), refl)), refl)))
    (cases_lt (length t.sets) t.limit))
    (stands_or_not t.sets set)
