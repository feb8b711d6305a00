use Rattle.std.proofs.Common.{[], ◌++◌, refl}
use Rattle.std.proofs.lemmas.Result.{err_from_is_err_and}
use Rattle.hg_check.specs.Printing.{check_text, last_line}
use Rattle.hg_check.proofs.Fronts.{wrote_settled}
use Rattle.hg_check.proofs.Whole.{cause_by_memory}
use Rattle.hg_streams.specs.Texts.{line_text, reports_text}
use Rattle.hg_streams.proofs.Printed.{always_err, cause_by_flush, cause_by_write, due_flushed, due_line, front_by_flush, front_due, front_more, took_by_flush}
use Rattle.hg_parts.proofs.Ending.{reports_known}
use Rattle.hg_parts.proofs.commands.run_check.Goals as goal

pub returns-clause-prints : goal.returns-clause-prints
returns-clause-prints g c =
    let old = c.args.output.now.calls in
    let came = c.in_ok-end.ensures.came in
    let line = line_text (last_line came.last c.in_ok-end.end) in
    let reports = reports_text 1 came.last.reports in (
      record {
        last = came.last;
        leads = came.leads;
        printed = due_flushed old c.write_out.new.output.calls c.flush.new.self.calls c.write_out.new.held.items (reports ++ line) c.in_ok-write_out.ensures.none
            (c.in_ok-write_out.ensures.printed old [] (reports ++ line)
            (due_line old c.run.new.output.calls c.run.new.sink.checking.held.items c.hold_last_line.new.held.items line reports (c.in_ok-hold_last_line.ensures.ok came.last came.stands) came.due))
            (took_by_flush c.write_out.new.output.calls c.flush.new.self.calls c.in_ok-flush.ensures.calls);
        written = c.write_out.new.output.calls;
        flushed = c.in_ok-flush.ensures.calls;
      },
      c.has_races-has_races.ensures came.last (reports_known c.in_ok-end.end came.last c.run.new.sink.checking.judge came.stands),
    )

pub returns-in_err-hold_last_line-clause-cause : goal.returns-in_err-hold_last_line-clause-cause
returns-in_err-hold_last_line-clause-cause g c =
    let came = c.in_ok-end.ensures.came in
    let q = err_from_is_err_and c.from_residual-in_err-hold_last_line.result c.from_residual-in_err-hold_last_line.ensures.1 in
    rw (q.1, q.2)
    (cause_by_memory c.args.input.now.calls c.run.new.input.calls c.args.output.now.calls c.run.new.output.calls c.run.new.sink.checking.held.items [] (reports_text 1 came.last.reports) c.in_err-hold_last_line.field-0.0 came.intact came.due
    c.in_err-hold_last_line.ensures.cause)

pub returns-in_err-write_out-clause-cause : goal.returns-in_err-write_out-clause-cause
returns-in_err-write_out-clause-cause g c =
    let came = c.in_ok-end.ensures.came in
    let q = err_from_is_err_and c.from_residual-in_err-write_out.result c.from_residual-in_err-write_out.ensures.1 in
    rw (q.1, q.2)
    (cause_by_write c.args.input.now.calls c.run.new.input.calls c.args.output.now.calls c.run.new.output.calls c.write_out.new.output.calls c.run.new.sink.checking.held.items [] (reports_text 1 came.last.reports) c.in_err-write_out.field-0.0
    came.intact came.due c.in_err-write_out.ensures.cause c.in_err-write_out.ensures.fault)

pub returns-in_err-flush-clause-cause : goal.returns-in_err-flush-clause-cause
returns-in_err-flush-clause-cause g c =
    let old = c.args.output.now.calls in
    let came = c.in_ok-end.ensures.came in
    let line = line_text (last_line came.last c.in_ok-end.end) in
    let reports = reports_text 1 came.last.reports in
    let q = err_from_is_err_and c.from_residual-in_err-flush.result c.from_residual-in_err-flush.ensures.1 in
    rw (q.1, q.2)
    (cause_by_flush c.args.input.now.calls c.run.new.input.calls old c.write_out.new.output.calls c.flush.new.self.calls c.write_out.new.held.items [] (reports ++ line) c.in_err-flush.field-0.0 came.intact
    (c.in_ok-write_out.ensures.printed old [] (reports ++ line)
    (due_line old c.run.new.output.calls c.run.new.sink.checking.held.items c.hold_last_line.new.held.items line reports (c.in_ok-hold_last_line.ensures.ok came.last came.stands) came.due))
    c.in_err-flush.ensures.cause c.in_err-flush.ensures.calls)

pub returns-in_err-hold_last_line-clause-front : goal.returns-in_err-hold_last_line-clause-front
returns-in_err-hold_last_line-clause-front g c =
    let old = c.args.output.now.calls in
    let came = c.in_ok-end.ensures.came in
    let line = line_text (last_line came.last c.in_ok-end.end) in
    let reports = reports_text 1 came.last.reports in
    always_err _ (wrote_settled check_text c.args.input.now.calls c.run.new.input.calls old c.run.new.output.calls came.last c.in_ok-end.end came.leads
    (front_more old c.run.new.output.calls reports line (reports ++ line) refl
    (front_due old c.run.new.output.calls c.run.new.sink.checking.held.items [] reports came.due)))

pub returns-in_err-write_out-clause-front : goal.returns-in_err-write_out-clause-front
returns-in_err-write_out-clause-front g c =
    let old = c.args.output.now.calls in
    let came = c.in_ok-end.ensures.came in
    let line = line_text (last_line came.last c.in_ok-end.end) in
    let reports = reports_text 1 came.last.reports in
    always_err _ (wrote_settled check_text c.args.input.now.calls c.run.new.input.calls old c.write_out.new.output.calls came.last c.in_ok-end.end came.leads
    (c.in_err-write_out.ensures.front old [] (reports ++ line)
    (due_line old c.run.new.output.calls c.run.new.sink.checking.held.items c.hold_last_line.new.held.items line reports (c.in_ok-hold_last_line.ensures.ok came.last came.stands) came.due)))

pub returns-in_err-flush-clause-front : goal.returns-in_err-flush-clause-front
returns-in_err-flush-clause-front g c =
    let old = c.args.output.now.calls in
    let came = c.in_ok-end.ensures.came in
    let line = line_text (last_line came.last c.in_ok-end.end) in
    let reports = reports_text 1 came.last.reports in
    always_err _ (wrote_settled check_text c.args.input.now.calls c.run.new.input.calls old c.flush.new.self.calls came.last c.in_ok-end.end came.leads
    (front_by_flush old c.write_out.new.output.calls c.flush.new.self.calls c.write_out.new.held.items [] (reports ++ line) c.in_err-flush.ensures.calls
    (c.in_ok-write_out.ensures.printed old [] (reports ++ line)
    (due_line old c.run.new.output.calls c.run.new.sink.checking.held.items c.hold_last_line.new.held.items line reports (c.in_ok-hold_last_line.ensures.ok came.last came.stands) came.due))))
