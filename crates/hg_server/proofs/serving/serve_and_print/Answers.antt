use Rattle.std.proofs.Common.{◌≡◌, ℕ, List, None, inl, inr, refl, sym, subst, OnOk}
use Rattle.std.proofs.lemmas.Result.{IfErr-at_err, on_ok_weaker}
use Rattle.hg_model.specs.declared.verdict.Refusal.{Refusal}
use Rattle.hg_store.specs.Shown.{live}
use Rattle.hg_streams.proofs.Printed.{appends_on, front_more}
use Rattle.hg_streams.specs.Faults.{HasWriteCause}
use Rattle.hg_streams.proofs.Fronts.{printed_front, took_front}
use Rattle.hg_desk.specs.Going.{WentOn, began, moments_of}
use Rattle.hg_desk.proofs.Going.{ran_nowhere, went_nowhere}
use Rattle.hg_server.specs.Serving.{ready_text, served_text, serving_text}
use Rattle.hg_server.specs.Settling.{IsServingFault, IsSettled, StopsFor}
use Rattle.hg_server.proofs.Acknowledged.{none_durable}
use Rattle.hg_server.proofs.Leaving.{if_err_weaker, output_fault, serving_fault, took_failed}
use Rattle.hg_server.proofs.serving.serve_and_print.Goals as goal

pub returns-in-Err-clause-acked : goal.returns-in-Err-clause-acked
returns-in-Err-clause-acked g c = none_durable g.D.Disk c.args.store c.args.store c.new-in-Err.result c.new-in-Err.ensures

pub returns-in-Err-clause-cause : goal.returns-in-Err-clause-cause
returns-in-Err-clause-cause g c =
    let old = c.args.output.now.calls in
    let new = c.announce.new.output.calls in
    output_fault g.D.Disk c.args.store.devices (moments_of c.new.result) c.args.store c.lacking.result old old new c.in-Err.refusal refl c.requires.settled (inr c.lacking.ensures.cut)
    (IfErr-at_err (HasWriteCause old new) c.in-Err.is c.announce.ensures.cause)

pub returns-in-Err-ended-clause-cause : goal.returns-in-Err-ended-clause-cause
returns-in-Err-ended-clause-cause g c =
    let settings = c.args.door.now.settings in
    let start = c.args.store.devices in
    let served = c.serve_by-store.result in
    let old = c.args.output.now.calls in
    let mid = c.announce.new.output.calls in
    let none = took_failed old mid (ready_text settings) c.in-Ok.ensures.printed in
    let stops = IfErr-at_err (StopsFor g.D.Disk start (moments_of served.steps) served.store served.taken) c.in-Err-ended.is c.serve_by-store.ensures.cause in
    subst (λ (r : Refusal). IsServingFault g.D.Disk start (moments_of served.steps) served.store served.taken old mid r) (sym c.from.ensures)
    (serving_fault g.D.Disk start (moments_of served.steps) served.store served.taken old mid c.in-Err-ended.fault none stops)

pub returns-in-Ok-ended-clause-cause : goal.returns-in-Ok-ended-clause-cause
returns-in-Ok-ended-clause-cause g c =
    let settings = c.args.door.now.settings in
    let start = c.args.store.devices in
    let served = c.serve_by-store.result in
    let old = c.args.output.now.calls in
    let mid = c.announce.new.output.calls in
    let new = c.print_end-ended.new.output.calls in
    let none = took_failed old mid (ready_text settings) c.in-Ok.ensures.printed in
    let settled = subst (λ r. OnOk r (IsSettled g.D.Disk served.store)) c.in-Ok-ended.is c.serve_by-store.ensures.settled in
    let whole = subst (λ r. OnOk r (served.taken.cut ≡ None)) c.in-Ok-ended.is c.serve_by-store.ensures.taken in
    if_err_weaker (HasWriteCause mid new) (IsServingFault g.D.Disk start (moments_of served.steps) served.store served.taken old new) c.print_end-ended.result
    (λ (r : Refusal). output_fault g.D.Disk start (moments_of served.steps) served.store served.taken old mid new r none settled (inl whole))
    c.print_end-ended.ensures.cause

pub print_end-ended-requires : goal.print_end-ended-requires
print_end-ended-requires g c =
    let settled = subst (λ r. OnOk r (IsSettled g.D.Disk c.serve_by-store.result.store)) c.in-Ok-ended.is c.serve_by-store.ensures.settled in
    record { works = settled.works }

pub returns-in-Err-clause-went : goal.returns-in-Err-clause-went
returns-in-Err-clause-went g c =
    subst (λ list. WentOn g.D.Disk (began g.D.Disk c.args.store) (moments_of list) c.args.store) (sym c.new.ensures) (went_nowhere g.D.Disk c.args.store c.requires.settled.backs)

pub returns-in-Err-clause-ran : goal.returns-in-Err-clause-ran
returns-in-Err-clause-ran g c = ran_nowhere g.D.Disk c.args.store c.new.result c.new.ensures c.requires.settled.backs

pub returns-in-Err-clause-front : goal.returns-in-Err-clause-front
returns-in-Err-clause-front g c =
    let settings = c.args.door.now.settings in
    let line : List ℕ = ready_text settings in
    let old = c.args.output.now.calls in
    let new = c.announce.new.output.calls in
    front_more old new line (served_text settings.connections (live g.D.Disk c.args.store)) (serving_text settings (live g.D.Disk c.args.store)) refl
    (printed_front old new line c.announce.ensures.calls)

pub returns-in-Err-ended-clause-front : goal.returns-in-Err-ended-clause-front
returns-in-Err-ended-clause-front g c =
    let settings = c.args.door.now.settings in
    let line : List ℕ = ready_text settings in
    let old = c.args.output.now.calls in
    let mid = c.announce.new.output.calls in
    let last = live g.D.Disk c.serve_by-store.result.store in
    front_more old mid line (served_text settings.connections last) (serving_text settings last) refl
    (took_front old mid line c.in-Ok.ensures.printed)

pub returns-in-Ok-ended-clause-printed : goal.returns-in-Ok-ended-clause-printed
returns-in-Ok-ended-clause-printed g c =
    let settings = c.args.door.now.settings in
    let old = c.args.output.now.calls in
    let mid = c.announce.new.output.calls in
    let last = live g.D.Disk c.serve_by-store.result.store in
    on_ok_weaker c.print_end-ended.result
    (λ printed. appends_on old mid c.print_end-ended.new.output.calls (ready_text settings) (served_text settings.connections last)
    c.in-Ok.ensures.printed printed)
    c.print_end-ended.ensures.printed

pub returns-in-Ok-ended-clause-front : goal.returns-in-Ok-ended-clause-front
returns-in-Ok-ended-clause-front g c =
    let settings = c.args.door.now.settings in
    let old = c.args.output.now.calls in
    let mid = c.announce.new.output.calls in
    c.print_end-ended.ensures.front old (ready_text settings)
    c.in-Ok.ensures.printed
