-- Each step keeps the receipts.
use Rattle.std.proofs.Common.{◌≡◌, ◌≢◌, inl, inr, ℕ, zero, suc, List, [], ◌∷◌, ◌++◌, set, true, false, true≢false, refl, sym, ap, ◌∙◌, subst, ⊎_elim}
use mathlib.Core.Option.{Option, some, some-ne-none, some-injective}
use lib.ListN.{get_elem?}
use Rattle.atomic_table.specs.Table.{Allows, Joins, Me, Splits, keeps, opening, step}
use Rattle.atomic_table.proofs.Lists.{at_set, at_snoc}
use Rattle.hg_receipts.specs.declared.view.Acked.{Acked}
use Rattle.hg_receipts.specs.declared.view.View.{View}
use Rattle.hg_receipts.specs.Receipts.{AreAmong, Compared, IsKept, Noted, emptied, holder, joined, knower, receipts_of}

-- what the rule says of one view
abbrev Fits : ℕ → List Acked → ℕ → View → Type 0
Fits seat log by v = (v.keeps ≡ true → (by ≡ seat) × (v.all ≡ log)) × AreAmong v.has log

off : false ≡ true → ⊥
off e = true≢false (sym e)

newest : (entry : Acked) (log : List Acked) → AreAmong (entry ∷ []) (entry ∷ log)
newest entry log x (inl is) = inl is
newest entry log x (inr there) = absurd there

none_among : (log : List Acked) → AreAmong [] log
none_among log entry there = absurd there

joined_among : (these those log : List Acked) → AreAmong these log → AreAmong those log → AreAmong (these ++ those) log
joined_among [] those log these_are those_are entry is = those_are entry is
joined_among (x ∷ xs) those log these_are those_are entry (inl is) = these_are entry (inl is)
joined_among (x ∷ xs) those log these_are those_are entry (inr is) = joined_among xs those log (λ e h. these_are e (inr h)) those_are entry is

fits_set : (seat : ℕ) (log now : List Acked) (views : List View) (by : ℕ) (w : View) → ((j : ℕ) (u : View) → j ≢ by → get_elem? views j ≡ some u → Fits seat now j u) → Fits seat now by w → (j : ℕ) (u : View) → get_elem? (set views by w) j ≡ some u → Fits seat now j u
fits_set seat log now views by w others mine j u e =
    ⊎_elim
    (λ (x : (j ≡ by) × (w ≡ u)). subst (λ (y : ℕ × View). Fits seat now y.0 y.1) (λ i. (sym x.0 i, x.1 i)) mine)
    (λ (x : (j ≢ by) × (get_elem? views j ≡ some u)). others j u x.0 x.1)
    (at_set views by j w u e)

pub begins : (words : List ℕ) → IsKept (opening words [] (knower []))
begins words = (0, [], first)
  where
    first : (by : ℕ) (v : View) → get_elem? (knower [] ∷ []) by ≡ some v → Fits 0 [] by v
    first zero v e = subst (Fits 0 [] 0) (some-injective _ _ e) ((λ _. (refl, refl)), none_among [])
    first (suc by) v e = absurd (some-ne-none v (sym e))

pub notes : (slots id : ℕ) (me : Me Acked View) (all : List Acked) (i : ℕ) (f : ℕ → ℕ) (old new : ℕ) (entry : Acked) → me ≡ (knower all, [])
    → Allows IsKept slots id me i f (Noted (step slots i old new (some entry)) me)
notes slots id me all i f old new entry is = subst (λ (m : Me Acked View). Allows IsKept slots id m i f (Noted (step slots i old new (some entry)) m)) (sym is) here
  where
    w : View
    w = record { keeps = true; all = entry ∷ all; has = entry ∷ [] }

    here : Allows IsKept slots id (knower all, []) i f (Noted (step slots i old new (some entry)) (knower all, []))
    here s h homes at small =
        let mine = (h.2 id (knower all) at).0 refl in
        let log = entry ∷ h.1 in (
          w,
          keeps,
          tt,
          (
            h.0,
            log,
            fits_set h.0 h.1 log s.views id w
                (λ j u apart e. ((λ k. absurd (apart (((h.2 j u e).0 k).0 ∙ sym mine.0))), (λ x has. inr ((h.2 j u e).1 x has))))
                ((λ _. (mine.0, ap (λ (l : List Acked). entry ∷ l) mine.1)), newest entry h.1),
          ),
          refl,
        )

pub compares : (slots id : ℕ) (me : Me Acked View) (i : ℕ) (f : ℕ → ℕ) (old new : ℕ) (said : Option Acked) → ((n : ℕ) → f n ≡ n)
    → Allows IsKept slots id me i f (Compared (step slots i old new said) me)
compares slots id me i f old new said same s h homes at small =
    let v = me.0 in (
      v,
      keeps,
      tt,
      (h.0, h.1, fits_set h.0 h.1 h.1 s.views id v (λ j u apart e. h.2 j u e) (h.2 id v at)),
      (refl, λ k. subst (AreAmong v.has) (sym ((h.2 id v at).0 k).1) (h.2 id v at).1),
    )

pub hands_out : (id : ℕ) (v : View) → Splits IsKept id v (emptied v) (receipts_of v)
hands_out id v s h at = (
  h.0,
  h.1,
  λ j u e. ⊎_elim
      (λ was. fits_set h.0 h.1 h.1 s.views id (emptied v) (λ k x apart e'. h.2 k x e') ((h.2 id v at).0, none_among h.1) j u was)
      (λ (same : receipts_of v ≡ u). subst (Fits h.0 h.1 j) same ((λ k. absurd (off k)), (h.2 id v at).1))
      (at_snoc (set s.views id (emptied v)) (receipts_of v) u j e),
)

pub takes_in : (id : ℕ) (v : View) (other : ℕ) (u : View) → Joins IsKept id v other u (joined v u) (holder [])
takes_in id v other u s h at apart there =
    let w = joined v u in
    let mine = h.2 id v at in
    let theirs = ⊎_elim (λ (t : (other ≡ id) × (w ≡ u)). absurd (apart t.0)) (λ (t : (other ≢ id) × (get_elem? s.views other ≡ some u)). h.2 other u t.1) (at_set s.views id other w u there) in (
      h.0,
      h.1,
      fits_set h.0 h.1 h.1 (set s.views id w) other (holder [])
          (λ j x _ e. fits_set h.0 h.1 h.1 s.views id w (λ i y _ e'. h.2 i y e') (mine.0, joined_among u.has v.has h.1 theirs.1 mine.1) j x e)
          ((λ k. absurd (off k)), none_among h.1),
    )
