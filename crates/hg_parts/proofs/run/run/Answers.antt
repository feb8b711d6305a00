use denote.Param.Send.{IsSync}
use Rattle.std.proofs.Common.{rules, sym, subst}
use Rattle.std.proofs.lemmas.Result.{err_from_is_err_and}
use Rattle.hg_streams.proofs.Printed.{always_err}
use Rattle.hg_parts.specs.Running.{Came}
use Rattle.hg_parts.proofs.Ending.{broke, broke_printing, came, checking_of, may_begin}
use Rattle.hg_parts.proofs.run.run.Goals as goal

pub read_side_by_side-requires-clause-room : goal.read_side_by_side-requires-clause-room
read_side_by_side-requires-clause-room g c κs within =
    let clock : IsSync g.row.T = search (rules, c.type_bounds) parts 8 in
    (record { shared = clock.shared }, may_begin c.args.sink.now.checking c.requires.fresh)

pub returns-in_err-stop-clause-front : goal.returns-in_err-stop-clause-front
returns-in_err-stop-clause-front g c =
    always_err _ (broke checking_of c.args.input.now.calls c.read_side_by_side.new.input.calls c.args.sink.now c.read_side_by_side.new.sink c.args.output.now.calls c.read_side_by_side.new.output.calls c.in_err-stop.field-0.0 c.requires.fresh c.in_err-stop.ensures).0

pub returns-in_err-stop-clause-cause : goal.returns-in_err-stop-clause-cause
returns-in_err-stop-clause-cause g c =
    let q = err_from_is_err_and c.from_residual.result c.from_residual.ensures.1 in
    rw (q.1, q.2)
    (broke checking_of c.args.input.now.calls c.read_side_by_side.new.input.calls c.args.sink.now c.read_side_by_side.new.sink c.args.output.now.calls c.read_side_by_side.new.output.calls c.in_err-stop.field-0.0 c.requires.fresh c.in_err-stop.ensures).1

pub returns-in_err-print-clause-front : goal.returns-in_err-print-clause-front
returns-in_err-print-clause-front g c =
    always_err _ (broke_printing checking_of c.args.input.now.calls c.read_side_by_side.new.input.calls c.args.sink.now c.read_side_by_side.new.sink c.print.new.self c.args.output.now.calls c.read_side_by_side.new.output.calls c.print.new.output.calls
    c.in_ok-stop.stop c.in_err-print.field-0.0 c.requires.fresh c.in_ok-stop.ensures c.in_err-print.ensures.prints c.in_err-print.ensures.cause).0

pub returns-in_err-print-clause-cause : goal.returns-in_err-print-clause-cause
returns-in_err-print-clause-cause g c =
    let q = err_from_is_err_and c.from_residual-in_err-print.result c.from_residual-in_err-print.ensures.1 in
    rw (q.1, q.2)
    (broke_printing checking_of c.args.input.now.calls c.read_side_by_side.new.input.calls c.args.sink.now c.read_side_by_side.new.sink c.print.new.self c.args.output.now.calls c.read_side_by_side.new.output.calls c.print.new.output.calls
    c.in_ok-stop.stop c.in_err-print.field-0.0 c.requires.fresh c.in_ok-stop.ensures c.in_err-print.ensures.prints c.in_err-print.ensures.cause).1

pub returns-clause-came : goal.returns-clause-came
returns-clause-came g c =
    subst (λ end. Came c.args.input.now.calls c.read_side_by_side.new.input.calls c.args.output.now.calls c.print.new.output.calls c.print.new.self end) (sym c.ended.ensures)
    (came checking_of c.args.input.now.calls c.read_side_by_side.new.input.calls c.args.sink.now c.read_side_by_side.new.sink c.print.new.self c.args.output.now.calls c.read_side_by_side.new.output.calls c.print.new.output.calls
    c.in_ok-stop.stop _ c.requires.fresh c.in_ok-stop.ensures c.in_ok-print.ensures.rest c.in_ok-print.ensures.prints)
