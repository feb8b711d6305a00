use Rattle.std.proofs.Common.{◌≡◌, None, Some, Ok, Err, sym, ap, subst, arith}
use Rattle.hg_reading.specs.Taking.{Pushes}
use Rattle.hg_reading.proofs.Pushing.{pushes_front, pushes_pass, room_second, stops_front}
use Rattle.hg_reading.proofs.side_by_side.push_side_by_side.Goals as goal

pub returns-in_err-end-clause-pushes : goal.returns-in_err-end-clause-pushes
returns-in_err-end-clause-pushes g c =
    let same : c.from_residual.result ≡ Err c.in_err-end.field-0.0 = grind arith in
    subst (λ x. Pushes g.S.Sink.takes c.args.reader.now c.args.sink.now c.args.output.now.calls c.args.piece.now x c.offer_lines.new.reader c.offer_lines.new.sink c.offer_lines.new.output.calls) (sym same)
    (stops_front g.S.Sink.takes c.args.reader.now c.args.sink.now c.offer_lines.new.sink c.args.output.now.calls c.offer_lines.new.output.calls c.args.piece.now c.split_at.result.0.now c.split_at.result.1.now
    (Err c.in_err-end.field-0.0) c.split_at.ensures.by_index.0 c.in_err-end.ensures)

pub returns-in-Some-clause-pushes : goal.returns-in-Some-clause-pushes
returns-in-Some-clause-pushes g c =
    let pushed = subst (λ x. Pushes g.S.Sink.takes c.args.reader.now c.args.sink.now c.args.output.now.calls c.split_at.result.0.now (Ok x) c.offer_lines.new.reader c.offer_lines.new.sink c.offer_lines.new.output.calls)
    c.in-Some.is c.in_ok-end.ensures in
    stops_front g.S.Sink.takes c.args.reader.now c.args.sink.now c.offer_lines.new.sink c.args.output.now.calls c.offer_lines.new.output.calls c.args.piece.now c.split_at.result.0.now c.split_at.result.1.now
    (Ok (Some c.in-Some.end)) c.split_at.ensures.by_index.0 pushed

pub push_alone-requires-2-clause-room : goal.push_alone-requires-2-clause-room
push_alone-requires-2-clause-room g c =
    let none : c.in_ok-end.field-0 ≡ None = grind arith in
    let passed = pushes_pass g.S.Sink.takes c.args.reader.now c.args.sink.now c.args.output.now.calls c.split_at.result.0.now (Ok c.in_ok-end.field-0) c.offer_lines.new.reader c.offer_lines.new.sink
    c.offer_lines.new.output.calls (ap Ok none) c.in_ok-end.ensures in
    room_second g.S.Sink.takes g.S.Sink.may_take g.met.S.Sink.room g.met.S.Sink.fewer c.args.reader.now c.offer_lines.new.reader c.args.sink.now c.offer_lines.new.sink
    c.args.output.now.calls c.offer_lines.new.output.calls c.args.piece.now c.split_at.result.0.now c.split_at.result.1.now c.split_at.ensures.by_index.0 passed c.requires.room

pub returns-clause-pushes : goal.returns-clause-pushes
returns-clause-pushes g c =
    let none : c.in_ok-end.field-0 ≡ None = grind arith in
    let passed = pushes_pass g.S.Sink.takes c.args.reader.now c.args.sink.now c.args.output.now.calls c.split_at.result.0.now (Ok c.in_ok-end.field-0) c.offer_lines.new.reader c.offer_lines.new.sink
    c.offer_lines.new.output.calls (ap Ok none) c.in_ok-end.ensures in
    pushes_front g.S.Sink.takes g.met.S.Sink.on c.args.reader.now c.offer_lines.new.reader c.push_alone-2.new.reader c.args.sink.now c.offer_lines.new.sink c.push_alone-2.new.sink
    c.args.output.now.calls c.offer_lines.new.output.calls c.push_alone-2.new.output.calls c.args.piece.now c.split_at.result.0.now c.split_at.result.1.now c.push_alone-2.result c.split_at.ensures.by_index.0 passed
    c.push_alone-2.ensures.pushes
