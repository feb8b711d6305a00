-- Slots that are named by one of four tables.
use Rattle.std.proofs.Common.{◌≡◌, ◌⊎◌, inl, inr, ℕ, zero, suc, [], ◌∷◌, Some, refl, sym, subst}
use Rattle.hg_pages.specs.Tables.{IsNamed, ShownTable, SomeNames}

abbrev pub OneOf : ShownTable → ShownTable → ShownTable → ShownTable → ℕ → Type 0
OneOf a b c d slot = IsNamed a.entries slot ⊎ (IsNamed b.entries slot ⊎ (IsNamed c.entries slot ⊎ IsNamed d.entries slot))

named_in : (t u : ShownTable) (slot : ℕ) → Some t ≡ Some u → IsNamed u.entries slot → IsNamed t.entries slot
named_in t u slot is named = let same : t ≡ u = cc is in subst (λ (x : ShownTable). IsNamed x.entries slot) (sym same) named

pub one_of : (a b c d : ShownTable) (slot : ℕ) → SomeNames (a ∷ b ∷ c ∷ d ∷ []) slot → OneOf a b c d slot
one_of a b c d slot (zero, t, is, named) = inl (named_in a t slot is named)
one_of a b c d slot (suc zero, t, is, named) = inr (inl (named_in b t slot is named))
one_of a b c d slot (suc (suc zero), t, is, named) = inr (inr (inl (named_in c t slot is named)))
one_of a b c d slot (suc (suc (suc zero)), t, is, named) = inr (inr (inr (named_in d t slot is named)))
one_of a b c d slot (suc (suc (suc (suc i))), t, is, named) = absurd (cc is)

pub of_four : (a b c d : ShownTable) (slot : ℕ) → OneOf a b c d slot → SomeNames (a ∷ b ∷ c ∷ d ∷ []) slot
of_four a b c d slot (inl named) = (0, a, refl, named)
of_four a b c d slot (inr (inl named)) = (1, b, refl, named)
of_four a b c d slot (inr (inr (inl named))) = (2, c, refl, named)
of_four a b c d slot (inr (inr (inr named))) = (3, d, refl, named)
