use Rattle.std.proofs.Common.{◌∷◌, [], List, ℕ, refl, sym, ap, subst, ◌∙◌}
use Rattle.hg_streams.specs.declared.call.WriteCall.{WriteCall}
use Rattle.hg_streams.specs.Written.{Took}
use Rattle.hg_streams.proofs.printing.print_now.Goals as goal

took_now : (old : List WriteCall) (text : List ℕ) → Took old (WriteCall.Flushed ∷ WriteCall.Took text ∷ old) text
took_now old text = record { later = WriteCall.Flushed ∷ WriteCall.Took text ∷ []; since = refl; whole = refl; all = refl }

pub returns-clause-printed : goal.returns-clause-printed
returns-clause-printed g c =
    subst (λ t. Took c.args.output.now.calls t c.args.text.now)
    (sym (c.in_ok-flush.ensures.calls ∙ ap (λ t. WriteCall.Flushed ∷ t) c.in_ok-write.ensures.calls))
    (took_now c.args.output.now.calls c.args.text.now)
