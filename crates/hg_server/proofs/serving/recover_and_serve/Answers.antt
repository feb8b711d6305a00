use Rattle.std.proofs.Common.{◌≡◌, ◌∙◌, None, ap, inl, inr, refl, sym, subst, IsTrue, OnErr, OnOk}
use Rattle.std.proofs.lemmas.Result.{IfErr-at_err}
use Rattle.hg_store.specs.Shown.{live}
use Rattle.hg_store.proofs.Refusals.{is_not_opened, opened_with}
use Rattle.hg_streams.specs.Written.{Took, TookFront}
use Rattle.hg_desk.specs.Going.{moments_of}
use Rattle.hg_server.specs.Serving.{Served, serving_by}
use Rattle.hg_server.specs.Settling.{IsServingFault, IsSettled}
use Rattle.hg_server.specs.Acknowledged.{AcksAreDurable, EventsAreRecorded}
use Rattle.hg_server.proofs.Acknowledged.{leaves}
use Rattle.hg_server.specs.declared.handing.Taken.{Taken}
use Rattle.hg_server.proofs.Leaving.{accounted, leaves_run, opened_settled, served, stopped_early, was_opened, whole_accounts}
use Rattle.hg_server.proofs.serving.recover_and_serve.Goals as goal

pub serve_and_print-store-requires-clause-settled : goal.serve_and_print-store-requires-clause-settled
serve_and_print-store-requires-clause-settled g c κs within = opened_settled g.D.Disk c.args.devices c.in-Ok.store c.in-Ok.ensures.idle (λ honest. c.in-Ok.ensures.content honest)

pub returns-in-Err-clause-early : goal.returns-in-Err-clause-early
returns-in-Err-clause-early g c = inl (record {
  cause = is_not_opened g.D.Disk c.args.devices c.in-Err.refused.1 c.in-Err.refused.0 c.profile.result c.profile.ensures c.in-Err.ensures.refusal
      c.in-Err.ensures.damaged c.in-Err.ensures.full c.in-Err.ensures.full_slots c.in-Err.ensures.device c.in-Err.ensures.files;
  none = c.none.ensures;
  quiet = refl;
  looked = λ honest. c.in-Err.ensures.images honest;
})

pub returns-in-Err-ended-clause-early : goal.returns-in-Err-ended-clause-early
returns-in-Err-ended-clause-early g c =
    let settings = c.args.door.now.settings in
    let start = c.in-Ok.store in
    let served = c.serve_and_print-store.result in
    let old = c.args.output.now.calls in
    let new = c.serve_and_print-store.new.output.calls in
    let cause = IfErr-at_err (IsServingFault g.D.Disk start.devices (moments_of served.steps) served.store served.taken old new) c.in-Err-ended.is c.serve_and_print-store.ensures.cause in
    let wrote = subst (λ r. OnErr r (TookFront old new (serving_by g.D.Disk settings served.store))) c.in-Err-ended.is c.serve_and_print-store.ensures.front in
    inr (stopped_early g.D.Disk c.args.devices start served.store (moments_of served.steps) c.serve_and_print-store.ensures.went settings c.between-course.result c.of-opened.result
    c.into_devices.result served.taken old new c.in-Err-ended.refusal (opened_with g.D.Disk start settings.frames c.profile.result c.profile.ensures c.in-Ok.ensures.limits)
    c.between-course.ensures.opened c.of-opened.ensures (ap moments_of c.between-course.ensures.steps) c.between-course.ensures.left c.between-course.ensures.taken c.into_devices.ensures
    c.in-Ok.ensures.device (λ honest. c.in-Ok.ensures.content honest) (λ honest. c.in-Ok.ensures.images honest) cause
    (accounted g.D.Disk settings c.between-course.result served.talks served.taken c.between-course.ensures.talks c.between-course.ensures.taken c.serve_and_print-store.ensures.accounts)
    (leaves_run g.D.Disk start served.store c.between-course.result c.of-opened.result served.steps c.between-course.ensures.opened c.of-opened.ensures c.between-course.ensures.steps c.serve_and_print-store.ensures.ran)
    wrote
    (leaves g.D.Disk (λ s. AcksAreDurable g.D.Disk s served.store) start c.between-course.result c.of-opened.result served.talks c.between-course.ensures.opened c.of-opened.ensures
    c.between-course.ensures.talks c.serve_and_print-store.ensures.acked))

pub returns-in-Ok-ended-clause-well : goal.returns-in-Ok-ended-clause-well
returns-in-Ok-ended-clause-well g c =
    let settings = c.args.door.now.settings in
    let start = c.in-Ok.store in
    let result = c.serve_and_print-store.result in
    let now = result.store in
    let went = c.serve_and_print-store.ensures.went in
    let course = c.between-course.result in
    let accounts = accounted g.D.Disk settings course result.talks result.taken c.between-course.ensures.talks c.between-course.ensures.taken c.serve_and_print-store.ensures.accounts in
    let whole = subst (λ r. OnOk r (result.taken.cut ≡ None)) c.in-Ok-ended.is c.serve_and_print-store.ensures.taken in
    let all = whole_accounts g.D.Disk settings course (ap (λ (t : Taken). t.cut) c.between-course.ensures.taken ∙ whole) accounts in
    record {
      all_taken = all.0;
      all_held = all.1 ∙ all.0;
      printed = subst (λ r. OnOk r (Took c.args.output.now.calls c.serve_and_print-store.new.output.calls (serving_by g.D.Disk settings now))) c.in-Ok-ended.is c.serve_and_print-store.ensures.printed;
      began = was_opened g.D.Disk c.args.devices start now (moments_of result.steps) went settings.frames course c.of-opened.result
          (opened_with g.D.Disk start settings.frames c.profile.result c.profile.ensures c.in-Ok.ensures.limits) c.between-course.ensures.opened c.of-opened.ensures (ap moments_of c.between-course.ensures.steps);
      served = subst (λ ms. IsTrue g.D.Disk.is_honest → Served g.D.Disk c.args.devices ms now.devices (live g.D.Disk now)) (sym (ap moments_of c.between-course.ensures.steps))
          (served g.D.Disk c.args.devices start now (moments_of result.steps) went (λ honest. c.in-Ok.ensures.content honest) (λ honest. c.in-Ok.ensures.images honest));
      driven = leaves_run g.D.Disk start now course c.of-opened.result result.steps c.between-course.ensures.opened c.of-opened.ensures c.between-course.ensures.steps c.serve_and_print-store.ensures.ran;
      settled = subst (λ r. OnOk r (IsSettled g.D.Disk now)) c.in-Ok-ended.is c.serve_and_print-store.ensures.settled;
      acked = leaves g.D.Disk (λ s. AcksAreDurable g.D.Disk s now) start course c.of-opened.result result.talks c.between-course.ensures.opened c.of-opened.ensures c.between-course.ensures.talks
          c.serve_and_print-store.ensures.acked;
      recorded = leaves g.D.Disk (λ s. EventsAreRecorded g.D.Disk s now) start course c.of-opened.result result.talks c.between-course.ensures.opened c.of-opened.ensures c.between-course.ensures.talks
          (subst (λ r. OnOk r (EventsAreRecorded g.D.Disk start now result.talks)) c.in-Ok-ended.is c.serve_and_print-store.ensures.recorded);
    }
