use Rattle.std.proofs.Common.{◌≡◌, [], Ok, None, ap, arith}
use Rattle.hg_reading.proofs.Pushing.{pushes_pass, room_left}
use Rattle.hg_reading.proofs.Runs.{pushes_settled}
use Rattle.hg_reading.proofs.whole.take_piece.Goals as goal

pub settle-requires : goal.settle-requires
settle-requires g c =
    let none : c.in_ok-end.field-0 ≡ None = grind arith in
    let passed = pushes_pass g.S.Sink.takes c.args.reader.now c.args.sink.now c.args.output.now.calls c.args.piece.now (Ok c.in_ok-end.field-0) c.push_alone.new.reader c.push_alone.new.sink
    c.push_alone.new.output.calls (ap Ok none) c.in_ok-end.ensures.pushes in
    record {
      room = room_left g.S.Sink.takes g.S.Sink.may_take g.met.S.Sink.room g.met.S.Sink.fewer c.args.reader.now c.push_alone.new.reader c.args.sink.now c.push_alone.new.sink
          c.args.output.now.calls c.push_alone.new.output.calls c.args.piece.now [] passed c.requires.room;
    }

pub returns-in-None-clause-pushes : goal.returns-in-None-clause-pushes
returns-in-None-clause-pushes g c =
    let none : c.in_ok-end.field-0 ≡ None = grind arith in
    let passed = pushes_pass g.S.Sink.takes c.args.reader.now c.args.sink.now c.args.output.now.calls c.args.piece.now (Ok c.in_ok-end.field-0) c.push_alone.new.reader c.push_alone.new.sink
    c.push_alone.new.output.calls (ap Ok none) c.in_ok-end.ensures.pushes in
    pushes_settled g.S.Sink.takes g.met.S.Sink.on c.args.reader.now c.push_alone.new.reader c.args.sink.now c.push_alone.new.sink c.settle.new.self c.args.output.now.calls c.push_alone.new.output.calls
    c.settle.new.output.calls c.args.piece.now c.settle.result passed c.settle.ensures.takes
