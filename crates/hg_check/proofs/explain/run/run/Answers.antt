use Rattle.std.proofs.Common.{sym, subst}
use Rattle.std.proofs.lemmas.Result.{err_from_is_err_and}
use Rattle.hg_streams.proofs.Inputs.{none_failed}
use Rattle.hg_streams.proofs.Printed.{always_err}
use Rattle.hg_detect.specs.Memory.{content_of}
use Rattle.hg_check.specs.Telling.{HasRun}
use Rattle.hg_check.proofs.LifeWhole.{broke, broke_cause, has_run}
use Rattle.hg_check.proofs.explain.run.run.Goals as goal

pub read-requires : goal.read-requires
read-requires g c = record { room = (c.requires.fresh.ready, c.requires.room); settled = tt }

pub returns-in_err-stop-clause-front : goal.returns-in_err-stop-clause-front
returns-in_err-stop-clause-front g c =
    always_err _ (broke c.args.input.now.calls c.read.new.input.calls c.args.explaining.now c.read.new.sink c.args.output.now.calls c.read.new.output.calls c.in_err-stop.field-0.0 c.requires.fresh c.in_err-stop.ensures)

pub returns-in_err-stop-clause-cause : goal.returns-in_err-stop-clause-cause
returns-in_err-stop-clause-cause g c =
    let q = err_from_is_err_and c.from_residual.result c.from_residual.ensures.1 in
    rw (q.1, q.2)
    (broke_cause c.args.input.now.calls c.read.new.input.calls c.args.explaining.now c.read.new.sink c.args.output.now.calls c.read.new.output.calls c.in_err-stop.field-0.0 c.in_err-stop.ensures)

pub returns-clause-ends : goal.returns-clause-ends
returns-clause-ends g c =
    let d = c.args.explaining.now.detector in
    subst (λ end. HasRun d.sets (content_of d) c.args.explaining.now.asked.word c.args.explaining.now.asked.form c.args.input.now.calls c.read.new.input.calls c.args.output.now.calls c.read.new.output.calls c.args.explaining.now.held.items
    c.read.new.sink.held.items (content_of c.read.new.sink.detector) c.read.new.sink.more end) (sym c.ended.ensures)
    (has_run c.args.input.now.calls c.read.new.input.calls c.args.explaining.now c.read.new.sink c.args.output.now.calls c.read.new.output.calls c.in_ok-stop.stop c.requires.fresh c.in_ok-stop.ensures)

pub returns-clause-memory : goal.returns-clause-memory
returns-clause-memory g c =
    none_failed c.args.input.now.calls c.read.new.input.calls c.in_ok-stop.ensures.later c.in_ok-stop.ensures.since c.in_ok-stop.ensures.intact
