use Rattle.std.proofs.Common.{◌≡◌, ◌<◌, None, Option, inr, refl, true, sym, subst}
use Rattle.hg_store.specs.Images.{failures_of}
use Rattle.hg_store.specs.Shown.{saved}
use Rattle.hg_desk.specs.Going.{Began, RanFrom, WentOn, began, moments_of}
use Rattle.hg_desk.proofs.Going.{ran_nowhere, went_nowhere}
use Rattle.hg_server.specs.Settling.{IsSettled, SettlesOrBreaks, StopsFor}
use Rattle.hg_server.specs.declared.fault.ServingFault.{ServingFault}
use Rattle.hg_server.specs.declared.handing.Cut.TheVariants.{Unrecorded}
use Rattle.hg_server.specs.Acknowledged.{TalksAreDurable}
use Rattle.hg_server.proofs.Acknowledged.{none_durable, still_durable, still_recorded}
use Rattle.hg_server.proofs.Leaving.{if_err_weaker, stops_for}
use Rattle.hg_server.proofs.serving.serve_by.Goals as goal

pub returns-in-Err-clause-went : goal.returns-in-Err-clause-went
returns-in-Err-clause-went g c =
    subst (λ s. WentOn g.D.Disk (began g.D.Disk c.args.store) (moments_of c.new.result) s) (sym c.in-Err.ensures.err.0)
    (subst (λ list. WentOn g.D.Disk (began g.D.Disk c.args.store) (moments_of list) c.args.store) (sym c.new.ensures) (went_nowhere g.D.Disk c.args.store c.requires.settled.backs))

pub returns-in-Err-clause-ran : goal.returns-in-Err-clause-ran
returns-in-Err-clause-ran g c =
    subst (λ s. RanFrom g.D.Disk (began g.D.Disk c.args.store) c.new.result s) (sym c.in-Err.ensures.err.0)
    (ran_nowhere g.D.Disk c.args.store c.new.result c.new.ensures c.requires.settled.backs)

pub returns-clause-ran : goal.returns-clause-ran
returns-clause-ran g c =
    let start = began g.D.Disk c.args.store in
    c.settle-ended.ensures.ran start (c.take_in-back.ensures.ran start c.requires.start)

pub returns-in-Err-clause-cause : goal.returns-in-Err-clause-cause
returns-in-Err-clause-cause g c = inr (inr (subst (λ s. IsSettled g.D.Disk s) (sym c.in-Err.ensures.err.0) c.requires.settled, (Unrecorded, c.lacking.ensures.cut, refl)))

pub returns-in-Err-clause-acked : goal.returns-in-Err-clause-acked
returns-in-Err-clause-acked g c = none_durable g.D.Disk c.args.store c.in-Err.store c.new-in-Err.result c.new-in-Err.ensures

pub returns-clause-acked : goal.returns-clause-acked
returns-clause-acked g c honest =
    let mid = saved g.D.Disk c.take_in-back.result.0.store in
    let left = saved g.D.Disk c.settle-ended.new.store in
    let talks = c.take_in-back.result.1 in
    subst (λ (o : Option Began). TalksAreDurable g.D.Disk o left talks) c.requires.start
    (still_durable g.D.Disk g.A.Opening.start mid left talks (c.settle-ended.ensures.kept honest) (c.take_in-back.ensures.durable honest))

pub returns-clause-recorded : goal.returns-clause-recorded
returns-clause-recorded g c =
    let taken_in = c.take_in-back.result in
    let settled = c.settle-ended in
    still_recorded g.D.Disk settled.result (taken_in.2.cut ≡ None) g.A.Opening.start g.A.Column.opening c.args.store taken_in.0.store settled.new.store taken_in.1 c.requires.start c.requires.opening.0
    settled.ensures.content settled.ensures.whole (λ honest. c.take_in-back.ensures.recorded honest)

pub returns-clause-went : goal.returns-clause-went
returns-clause-went g c =
    let start = began g.D.Disk c.args.store in
    c.settle-ended.ensures.went start (c.take_in-back.ensures.since start c.requires.start)

pub returns-clause-cause : goal.returns-clause-cause
returns-clause-cause g c =
    let start = c.args.store in
    let mid = c.take_in-back.result.0.store in
    let new = c.settle-ended.new.store in
    let taken = c.take_in-back.result.2 in
    let before = moments_of c.take_in-back.result.0.steps in
    let moments = moments_of c.settle-ended.new.steps in
    let went = c.take_in-back.ensures.since (began g.D.Disk start) c.requires.start in
    let failed : mid.is_broken ≡ true → failures_of g.D.Disk start.devices < failures_of g.D.Disk mid.devices = λ is. went.broken c.requires.settled.works is in
    if_err_weaker (SettlesOrBreaks g.D.Disk mid new taken) (StopsFor g.D.Disk start.devices moments new taken) c.settle-ended.result
    (λ (told : ServingFault). stops_for g.D.Disk start.devices mid new moments before taken told c.settle-ended.ensures.moment failed)
    c.settle-ended.ensures.cause
