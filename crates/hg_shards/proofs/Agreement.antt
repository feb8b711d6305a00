-- Agreement of traces is lawful.
use Rattle.std.proofs.Common.{◌≡◌, ℕ, Bool, true, List, [], ◌∷◌, refl, sym, ◌∙◌, subst, inl, inr, ⊎_elim}
use Rattle.hg_model.specs.declared.event.Event.{Event}
use Rattle.hg_shards.specs.Alike.{AreAlike, AgreeWithin, DoTheSame}
use Rattle.hg_shards.specs.Laws.{AgreementIsLawful}

module _ (within : ℕ → Bool) where
  pub itself : (es : List Event) → AgreeWithin within es es
  itself [] = tt
  itself (e ∷ es) = (inl refl, itself es)

  alike_back : (e f : Event) → AreAlike within e f → AreAlike within f e
  alike_back e f h = ⊎_elim (λ (same : e ≡ f). inl (sym same)) (λ (d : DoTheSame within e f). inr (record { first = d.second; second = d.first; touches = λ w inside. sym (d.touches w inside) })) h

  back : (es fs : List Event) → AgreeWithin within es fs → AgreeWithin within fs es
  back [] [] h = tt
  back [] (f ∷ fs) h = absurd h
  back (e ∷ es) [] h = absurd h
  back (e ∷ es) (f ∷ fs) h = (alike_back e f h.0, back es fs h.1)

  alike_onward : (e f g : Event) → AreAlike within e f → AreAlike within f g → AreAlike within e g
  alike_onward e f g h k =
      ⊎_elim
      (λ (same : e ≡ f). subst (λ (x : Event). AreAlike within x g) (sym same) k)
      (λ (d : DoTheSame within e f).
      ⊎_elim
      (λ (same : f ≡ g). subst (AreAlike within e) same h)
      (λ (c : DoTheSame within f g). inr (record { first = d.first; second = c.second; touches = λ w inside. d.touches w inside ∙ c.touches w inside }))
      k)
      h

  onward : (es fs gs : List Event) → AgreeWithin within es fs → AgreeWithin within fs gs → AgreeWithin within es gs
  onward [] [] gs h k = k
  onward [] (f ∷ fs) gs h k = absurd h
  onward (e ∷ es) [] gs h k = absurd h
  onward (e ∷ es) (f ∷ fs) [] h k = absurd k
  onward (e ∷ es) (f ∷ fs) (g ∷ gs) h k = (alike_onward e f g h.0 k.0, onward es fs gs h.1 k.1)

  narrower : (less : ℕ → Bool) (es fs : List Event) → ((w : ℕ) → less w ≡ true → within w ≡ true) → AgreeWithin within es fs → AgreeWithin less es fs
  narrower less [] [] smaller h = tt
  narrower less [] (f ∷ fs) smaller h = absurd h
  narrower less (e ∷ es) [] smaller h = absurd h
  narrower less (e ∷ es) (f ∷ fs) smaller h = (
    ⊎_elim (λ (same : e ≡ f). inl same) (λ (d : DoTheSame within e f). inr (record { first = d.first; second = d.second; touches = λ w inside. d.touches w (smaller w inside) })) h.0,
    narrower less es fs smaller h.1,
  )

pub agreement_is_lawful_lem : AgreementIsLawful
agreement_is_lawful_lem = record { itself = itself; back = back; onward = onward; narrower = narrower }
