use Rattle.std.proofs.Common.{◌≡◌, ℕ, List, Option, Some, None, sym, ap, ◌∙◌, arith}
use Rattle.hg_model.specs.declared.event.Event.{Event}
use Rattle.hg_records.specs.Records.{event_text}
use Rattle.hg_records.specs.RecordReading.{event_at}
use Rattle.hg_records.proofs.RecordLemmas.{event_again, event_takes, taken}
use Rattle.hg_records.proofs.record.read_event.Goals as goal

none_is_not_some : (x : Event × List ℕ) → ◌≡◌ {A = Option (Event × List ℕ)} None (Some x) → ⊥
none_is_not_some x e = absurd (cc)

pub returns-in-None-clause-none : goal.returns-in-None-clause-none
returns-in-None-clause-none c n rest begins =
    none_is_not_some (n, rest) (sym c.in-None.ensures ∙ (ap (λ bytes. event_at bytes) begins.1 ∙ event_again n rest begins.0))

pub overflow_sub-result : goal.overflow_sub-result
overflow_sub-result c =
    let bytes = c.args.bytes.now in
    let rest = c.in-Some.rest.now in
    (taken bytes (event_text c.in-Some.event) rest (event_takes bytes c.in-Some.event rest (λ i. omega (arith, c.type_inv.bytes i)) c.in-Some.ensures).0).0

pub returns-in-Some-clause-read : goal.returns-in-Some-clause-read
returns-in-Some-clause-read c =
    let bytes = c.args.bytes.now in
    let rest = c.in-Some.rest.now in
    let takes = event_takes bytes c.in-Some.event rest (λ i. omega (arith, c.type_inv.bytes i)) c.in-Some.ensures in
    let parts = taken bytes (event_text c.in-Some.event) rest takes.0 in
    (parts.1.0, (takes.1, parts.1.1))
