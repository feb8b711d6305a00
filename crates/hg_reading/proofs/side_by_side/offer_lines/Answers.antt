use Rattle.std.proofs.Common.{◌≡◌, ℕ, ◌+◌, length, None, Some, Ok, Err, sym, ap, subst, arith}
use Rattle.hg_reading.specs.Taking.{Pushes}
use Rattle.hg_reading.proofs.Pushing.{pushes_front, pushes_pass, room_second, stops_front}
use Rattle.hg_reading.proofs.side_by_side.offer_lines.Goals as goal

pub returns-in_err-end : goal.returns-in_err-end
returns-in_err-end g c =
    let same : c.from_residual.result ≡ Err c.in_err-end.field-0.0 = grind arith in
    subst (λ x. Pushes g.S.Sink.takes c.args.reader.now c.args.sink.now c.args.output.now.calls c.args.text.now x c.offer_beside.new.reader c.offer_beside.new.sink c.offer_beside.new.output.calls) (sym same)
    (stops_front g.S.Sink.takes c.args.reader.now c.args.sink.now c.offer_beside.new.sink c.args.output.now.calls c.offer_beside.new.output.calls c.args.text.now c.split_at.result.0.now c.split_at.result.1.now
    (Err c.in_err-end.field-0.0) c.split_at.ensures.by_index.0 c.in_err-end.ensures.pushes)

pub returns-in-Some : goal.returns-in-Some
returns-in-Some g c =
    let pushed = subst (λ x. Pushes g.S.Sink.takes c.args.reader.now c.args.sink.now c.args.output.now.calls c.split_at.result.0.now (Ok x) c.offer_beside.new.reader c.offer_beside.new.sink c.offer_beside.new.output.calls)
    c.in-Some.is c.in_ok-end.ensures.pushes in
    stops_front g.S.Sink.takes c.args.reader.now c.args.sink.now c.offer_beside.new.sink c.args.output.now.calls c.offer_beside.new.output.calls c.args.text.now c.split_at.result.0.now c.split_at.result.1.now
    (Ok (Some c.in-Some.end)) c.split_at.ensures.by_index.0 pushed

pub offer_groups-requires-clause-room : goal.offer_groups-requires-clause-room
offer_groups-requires-clause-room g c κs within =
    let none : c.in_ok-end.field-0 ≡ None = grind arith in
    let passed = pushes_pass g.S.Sink.takes c.args.reader.now c.args.sink.now c.args.output.now.calls c.split_at.result.0.now (Ok c.in_ok-end.field-0) c.offer_beside.new.reader c.offer_beside.new.sink
    c.offer_beside.new.output.calls (ap Ok none) c.in_ok-end.ensures.pushes in
    let size : length c.split_at.result.1.now ≡ length c.split_at-2.result.0.now + length c.split_at-2.result.1.now = omega (arith, c.split_at-2.ensures.front_len, c.split_at-2.ensures.back_len) in
    subst (λ (k : ℕ). g.S.Sink.may_take c.offer_beside.new.sink k) size
    (room_second g.S.Sink.takes g.S.Sink.may_take g.met.S.Sink.room g.met.S.Sink.fewer c.args.reader.now c.offer_beside.new.reader c.args.sink.now c.offer_beside.new.sink
    c.args.output.now.calls c.offer_beside.new.output.calls c.args.text.now c.split_at.result.0.now c.split_at.result.1.now c.split_at.ensures.by_index.0 passed c.requires.room)

pub returns : goal.returns
returns g c =
    let none : c.in_ok-end.field-0 ≡ None = grind arith in
    let passed = pushes_pass g.S.Sink.takes c.args.reader.now c.args.sink.now c.args.output.now.calls c.split_at.result.0.now (Ok c.in_ok-end.field-0) c.offer_beside.new.reader c.offer_beside.new.sink
    c.offer_beside.new.output.calls (ap Ok none) c.in_ok-end.ensures.pushes in
    pushes_front g.S.Sink.takes g.met.S.Sink.on c.args.reader.now c.offer_beside.new.reader c.offer_groups.new.reader c.args.sink.now c.offer_beside.new.sink c.offer_groups.new.sink
    c.args.output.now.calls c.offer_beside.new.output.calls c.offer_groups.new.output.calls c.args.text.now c.split_at.result.0.now c.split_at.result.1.now c.offer_groups.result c.split_at.ensures.by_index.0 passed
    (subst (λ x. Pushes g.S.Sink.takes c.offer_beside.new.reader c.offer_beside.new.sink c.offer_beside.new.output.calls x c.offer_groups.result c.offer_groups.new.reader c.offer_groups.new.sink c.offer_groups.new.output.calls)
    (sym c.split_at-2.ensures.by_index.0) c.offer_groups.ensures)

pub offer_beside-requires-clause-room : goal.offer_beside-requires-clause-room
offer_beside-requires-clause-room g c κs within =
    let first = length c.split_at.result.0.now in
    let later = length c.split_at.result.1.now in
    let split : length c.args.text.now ≡ first + later = omega (arith, c.split_at.ensures.front_len, c.split_at.ensures.back_len) in
    g.met.S.Sink.fewer c.args.sink.now first later (subst (λ (k : ℕ). g.S.Sink.may_take c.args.sink.now k) split c.requires.room)

pub offer_groups-requires-clause-lines : goal.offer_groups-requires-clause-lines
offer_groups-requires-clause-lines g c κs within =
    let none : c.in_ok-end.field-0 ≡ None = grind arith in
    let passed = pushes_pass g.S.Sink.takes c.args.reader.now c.args.sink.now c.args.output.now.calls c.split_at.result.0.now (Ok c.in_ok-end.field-0) c.offer_beside.new.reader c.offer_beside.new.sink
    c.offer_beside.new.output.calls (ap Ok none) c.in_ok-end.ensures.pushes in
    omega (arith, passed.counted, c.requires.lines, c.split_at.ensures.front_len, c.split_at.ensures.back_len, c.split_at-2.ensures.front_len, c.split_at-2.ensures.back_len)
