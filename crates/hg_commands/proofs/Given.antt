-- What an output was given.
use Rattle.std.proofs.Common.{◌≡◌, ℕ, List, [], ◌∷◌, ◌++◌, refl, sym, ap, subst, ◌∙◌, ⊎_elim}
use Rattle.std.proofs.lemmas.List.Elements.{All-nil, All-cons, All-weaker}
use Rattle.hg_streams.specs.declared.call.WriteCall.{WriteCall}
use Rattle.hg_streams.specs.Printed.{IsPrintedNow, WereGiven, given_to}

pub given_none : (P : List ℕ → Type 0) (calls : List WriteCall) → WereGiven P calls calls
given_none P calls = record { later = []; since = refl; each = All-nil (λ call. P (given_to call)) }

pub given_weaker : (P Q : List ℕ → Type 0) (first now : List WriteCall) → ((text : List ℕ) → P text → Q text) → WereGiven P first now → WereGiven Q first now
given_weaker P Q first now more h = record {
  later = h.later;
  since = h.since;
  each = All-weaker (λ call. P (given_to call)) (λ call. Q (given_to call)) (λ call. more (given_to call)) h.later h.each;
}

given_on : (P : List ℕ → Type 0) (first now new : List WriteCall) (call : WriteCall) → new ≡ call ∷ now → P (given_to call) → WereGiven P first now → WereGiven P first new
given_on P first now new call is says h = record {
  later = call ∷ h.later;
  since = is ∙ ap (λ t. call ∷ t) h.since;
  each = All-cons (λ x. P (given_to x)) call h.later says h.each;
}

-- after a text was printed, or failed to be
pub given_printed : (P : List ℕ → Type 0) (first now new : List WriteCall) (text : List ℕ) → IsPrintedNow now new text → P text → P [] → WereGiven P first now → WereGiven P first new
given_printed P first now new text printed says none h =
    let took = given_on P first now (WriteCall.Took text ∷ now) (WriteCall.Took text) refl says h in
    ⊎_elim
    (λ same. subst (λ t. WereGiven P first t) (sym same) h)
    (λ more. ⊎_elim
    (λ torn. given_on P first now new (WriteCall.Torn text) torn says h)
    (λ whole. ⊎_elim
    (λ a. given_on P first (WriteCall.Took text ∷ now) new WriteCall.NotFlushed a none took)
    (λ b. given_on P first (WriteCall.Took text ∷ now) new WriteCall.Flushed b none took)
    whole)
    more)
    printed

-- the calls of an output grow
pub grows : (old now new : List WriteCall) (text : List ℕ) → IsPrintedNow now new text → (later : List WriteCall) × (now ≡ later ++ old) → (later : List WriteCall) × (new ≡ later ++ old)
grows old now new text printed h =
    ⊎_elim
    (λ same. (h.0, same ∙ h.1))
    (λ more. ⊎_elim
    (λ torn. (WriteCall.Torn text ∷ h.0, torn ∙ ap (λ t. WriteCall.Torn text ∷ t) h.1))
    (λ whole. ⊎_elim
    (λ a. (WriteCall.NotFlushed ∷ WriteCall.Took text ∷ h.0, a ∙ ap (λ t. WriteCall.NotFlushed ∷ WriteCall.Took text ∷ t) h.1))
    (λ b. (WriteCall.Flushed ∷ WriteCall.Took text ∷ h.0, b ∙ ap (λ t. WriteCall.Flushed ∷ WriteCall.Took text ∷ t) h.1))
    whole)
    more)
    printed
