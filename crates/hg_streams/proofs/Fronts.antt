-- What was written when a command was broken off.
use Rattle.std.proofs.Common.{ℕ, Result, Ok, Err, OnErr, List, [], ◌∷◌, ◌++◌, refl, sym, ap, subst, ◌∙◌, ⊎_elim}
use Rattle.std.proofs.lemmas.List.{append-nil}
use Rattle.hg_streams.specs.declared.call.WriteCall.{WriteCall}
use Rattle.hg_streams.specs.Holding.{IsDue}
use Rattle.hg_streams.specs.Written.{Took, TookFront}
use Rattle.hg_streams.proofs.Printed.{appends_on, due_kept, front_by_flush, front_by_torn, front_due, front_more, front_none, took_by_flush, took_write}
use Rattle.hg_streams.specs.Printed.{IsPrintedNow}

-- whatever came of a text that is printed at once, a front of it was written
pub printed_front : (old new : List WriteCall) (text : List ℕ) → IsPrintedNow old new text → TookFront old new text
printed_front old new text h =
    ⊎_elim
    (λ none. subst (λ t. TookFront old t text) (sym none) (front_none old text))
    (λ more. ⊎_elim
    (λ was. subst (λ t. TookFront old t text) (sym was) (record { later = WriteCall.Torn text ∷ []; since = refl; earlier = refl; rest = []; front = append-nil text }))
    (λ written. ⊎_elim
    (λ was. subst (λ t. TookFront old t text) (sym was)
    (record { later = WriteCall.NotFlushed ∷ WriteCall.Took text ∷ []; since = refl; earlier = refl; rest = []; front = append-nil (text ++ []) ∙ append-nil text }))
    (λ was. subst (λ t. TookFront old t text) (sym was)
    (record { later = WriteCall.Flushed ∷ WriteCall.Took text ∷ []; since = refl; earlier = refl; rest = []; front = append-nil (text ++ []) ∙ append-nil text }))
    written)
    more)
    h

pub on_err_weaker : {T E P Q : Type 0} (r : Result T E) → (P → Q) → OnErr r P → OnErr r Q
on_err_weaker (Ok x) f h = tt
on_err_weaker (Err e) f h = f h

pub on_err_given : {T E H P Q : Type 0} (r : Result T E) → ((H → P) → Q) → (H → OnErr r P) → OnErr r Q
on_err_given (Ok x) f h = tt
on_err_given (Err e) f h = f h

-- a text that was written is due no more
due_took : (first now : List WriteCall) (text : List ℕ) → Took first now text → IsDue first now [] [] text
due_took first now text t = record { written = text; appended = t; whole = append-nil text }

pub took_front : (first now : List WriteCall) (text : List ℕ) → Took first now text → TookFront first now text
took_front first now text t = front_due first now [] [] text (due_took first now text t)

-- a text that is printed at once behind a text that was written: both, as far as they were written
pub printed_front_on : (first old new : List WriteCall) (before text : List ℕ) → Took first old before → IsPrintedNow old new text → TookFront first new (before ++ text)
printed_front_on first old new before text t h =
    let written : IsDue first (WriteCall.Took text ∷ old) [] [] (before ++ text) =
    due_took first (WriteCall.Took text ∷ old) (before ++ text) (appends_on first old (WriteCall.Took text ∷ old) before text t (took_write old text)) in
    ⊎_elim
    (λ none. subst (λ x. TookFront first x (before ++ text)) (sym none) (front_more first old before text (before ++ text) refl (took_front first old before t)))
    (λ more. ⊎_elim
    (λ was. front_by_torn first old new text text [] (before ++ text) was refl (record { written = before; appended = t; whole = ap (λ x. before ++ x) (append-nil text) }))
    (λ taken. ⊎_elim
    (λ was. front_by_flush first (WriteCall.Took text ∷ old) new [] [] (before ++ text) was written)
    (λ was. front_due first new [] [] (before ++ text)
    (due_kept first (WriteCall.Took text ∷ old) new [] [] (before ++ text) written (took_by_flush (WriteCall.Took text ∷ old) new was)))
    taken)
    more)
    h
