use Rattle.std.proofs.Common.{◌≡◌, length, Err, None, Ok, Some, ap, sym, subst, arith}
use Rattle.hg_reading.specs.Taking.{Pushes}
use Rattle.hg_reading.specs.Whole.{TakesText}
use Rattle.hg_reading.proofs.Pushing.{pushes_pass}
use Rattle.hg_reading.proofs.Runs.{room_behind}
use Rattle.hg_reading.proofs.Texts.{stops_in_text, takes_whole}
use Rattle.hg_reading.proofs.kept.offer_text.Goals as goal

pub returns-in_err-end : goal.returns-in_err-end
returns-in_err-end g c =
    let same : c.from_residual.result ≡ Err c.in_err-end.field-0.0 = grind arith in
    subst (λ x. TakesText g.S.Sink.takes g.S.Sink.settled c.args.text.now c.args.sink.now c.args.output.now.calls x c.take_piece.new.sink c.take_piece.new.output.calls) (sym same)
    (stops_in_text g.S.Sink.takes g.S.Sink.settled c.args.text.now c.args.reader c.take_piece.new.reader c.args.sink.now c.take_piece.new.sink c.args.output.now.calls c.take_piece.new.output.calls (Err c.in_err-end.field-0.0)
    c.requires.start (λ is. cc) c.in_err-end.ensures.pushes)

pub returns-in-Some : goal.returns-in-Some
returns-in-Some g c =
    let is : c.in_ok-end.field-0 ≡ Some c.in-Some.end = c.in-Some.is in
    stops_in_text g.S.Sink.takes g.S.Sink.settled c.args.text.now c.args.reader c.take_piece.new.reader c.args.sink.now c.take_piece.new.sink c.args.output.now.calls c.take_piece.new.output.calls (Ok (Some c.in-Some.end))
    c.requires.start (λ is. cc)
    (subst (λ x. Pushes g.S.Sink.takes c.args.reader c.args.sink.now c.args.output.now.calls c.args.text.now (Ok x) c.take_piece.new.reader c.take_piece.new.sink c.take_piece.new.output.calls) is c.in_ok-end.ensures.pushes)

pub finish-requires-clause-room : goal.finish-requires-clause-room
finish-requires-clause-room g c =
    let none : c.in_ok-end.field-0 ≡ None = grind arith in
    let passes = pushes_pass g.S.Sink.takes c.args.reader c.args.sink.now c.args.output.now.calls c.args.text.now (Ok c.in_ok-end.field-0) c.take_piece.new.reader c.take_piece.new.sink c.take_piece.new.output.calls
    (ap Ok none) c.in_ok-end.ensures.pushes in
    room_behind g.S.Sink.takes g.met.S.Sink.on g.S.Sink.may_take g.met.S.Sink.room g.met.S.Sink.fewer c.args.reader c.take_piece.new.reader c.args.sink.now c.take_piece.new.sink
    c.args.output.now.calls c.take_piece.new.output.calls c.args.text.now (length c.args.text.now) 1 (omega arith) passes c.requires.room

pub returns : goal.returns
returns g c =
    let none : c.in_ok-end.field-0 ≡ None = grind arith in
    let passes = pushes_pass g.S.Sink.takes c.args.reader c.args.sink.now c.args.output.now.calls c.args.text.now (Ok c.in_ok-end.field-0) c.take_piece.new.reader c.take_piece.new.sink c.take_piece.new.output.calls
    (ap Ok none) c.in_ok-end.ensures.pushes in
    takes_whole g.S.Sink.takes g.S.Sink.settled g.met.S.Sink.on c.args.text.now c.args.reader c.take_piece.new.reader c.args.sink.now c.take_piece.new.sink c.finish.new.sink
    c.args.output.now.calls c.take_piece.new.output.calls c.finish.new.output.calls c.finish.result c.requires.start passes c.finish.ensures.takes c.finish.ensures.settled
