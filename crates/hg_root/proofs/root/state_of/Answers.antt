use Rattle.std.proofs.Common.{⊎_elim, ap, subst, refl, sym, ◌∙◌}
use Rattle.hg_model.specs.Parts.{Parts}
use Rattle.hg_model.specs.Restoring.{AreThreads}
use Rattle.hg_root.proofs.root.state_of.Goals as goal

pub returns-in-Ok-clause-lawful : goal.returns-in-Ok-clause-lawful
returns-in-Ok-clause-lawful c = subst AreThreads (ap (λ (p : Parts). p.threads) c.in-Ok.ensures.value) c.in-Ok.ensures.range.threads

pub returns-in-Err-Damaged-clause-damaged : goal.returns-in-Err-Damaged-clause-damaged
returns-in-Err-Damaged-clause-damaged c = λ _ threads.
    ⊎_elim
    (λ bad. bad.1 (record { events = c.requires.few_events; segments = c.requires.few_segments; threads = threads; last = c.in_ok-last.ensures.len }))
    (λ memory. let clash = sym c.in-Err-Damaged.field-0-is ∙ memory in absurd cc)
    (c.in-Err-Damaged.ensures.refusal (record { events = c.args.events; segments = c.args.segments; threads = c.args.threads.now; last = c.in_ok-last.last.items; messages = c.args.messages }) refl)
