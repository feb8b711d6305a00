use Rattle.std.proofs.Common.{◌≡◌, ℕ, ◌+◌, ◌++◌, length, None, Some, Ok, Err, refl, sym, ap, ◌∙◌, subst, arith}
use Rattle.std.proofs.lemmas.List.{length-append}
use Rattle.hg_reading.specs.Taking.{Pushes}
use Rattle.hg_reading.proofs.Pushing.{none_behind, pushes_front, pushes_pass, room_second, stops_front}
use Rattle.hg_reading.proofs.side_by_side.+offer_groups.Goals as goal

pub returns-in_err-end : goal.returns-in_err-end
returns-in_err-end g t c =
    let same : c.from_residual.result ≡ Err c.in_err-end.field-0.0 = grind arith in
    let all = c.args.left.due.now ++ c.args.left.rest.now in
    subst (λ x. Pushes g.S.Sink.takes c.args.reader.now c.args.sink.now c.args.output.now.calls all x c.offer_beside.new.reader c.offer_beside.new.sink c.offer_beside.new.output.calls) (sym same)
    (stops_front g.S.Sink.takes c.args.reader.now c.args.sink.now c.offer_beside.new.sink c.args.output.now.calls c.offer_beside.new.output.calls all c.args.left.due.now c.args.left.rest.now
    (Err c.in_err-end.field-0.0) refl c.in_err-end.ensures.pushes)

pub returns-in-Some : goal.returns-in-Some
returns-in-Some g t c =
    let pushed = subst (λ x. Pushes g.S.Sink.takes c.args.reader.now c.args.sink.now c.args.output.now.calls c.args.left.due.now (Ok x) c.offer_beside.new.reader c.offer_beside.new.sink c.offer_beside.new.output.calls)
    c.in-Some.is c.in_ok-end.ensures.pushes in
    stops_front g.S.Sink.takes c.args.reader.now c.args.sink.now c.offer_beside.new.sink c.args.output.now.calls c.offer_beside.new.output.calls (c.args.left.due.now ++ c.args.left.rest.now) c.args.left.due.now c.args.left.rest.now
    (Ok (Some c.in-Some.end)) refl pushed

pub offer_groups-requires-clause-room : goal.offer_groups-requires-clause-room
offer_groups-requires-clause-room g t c κs within =
    let none : c.in_ok-end.field-0 ≡ None = grind arith in
    let passed = pushes_pass g.S.Sink.takes c.args.reader.now c.args.sink.now c.args.output.now.calls c.args.left.due.now (Ok c.in_ok-end.field-0) c.offer_beside.new.reader c.offer_beside.new.sink
    c.offer_beside.new.output.calls (ap Ok none) c.in_ok-end.ensures.pushes in
    let may = subst (λ (k : ℕ). g.S.Sink.may_take c.args.sink.now k) (sym (length-append c.args.left.due.now c.args.left.rest.now)) c.requires.room in
    let size : length c.args.left.rest.now ≡ length c.split_at.result.0.now + length c.split_at.result.1.now = omega (arith, c.split_at.ensures.front_len, c.split_at.ensures.back_len) in
    subst (λ (k : ℕ). g.S.Sink.may_take c.offer_beside.new.sink k) size
    (room_second g.S.Sink.takes g.S.Sink.may_take g.met.S.Sink.room g.met.S.Sink.fewer c.args.reader.now c.offer_beside.new.reader c.args.sink.now c.offer_beside.new.sink
    c.args.output.now.calls c.offer_beside.new.output.calls (c.args.left.due.now ++ c.args.left.rest.now) c.args.left.due.now c.args.left.rest.now refl passed may)

pub returns : goal.returns
returns g t c =
    let none : c.in_ok-end.field-0 ≡ None = grind arith in
    let all = c.args.left.due.now ++ c.args.left.rest.now in
    let passed = pushes_pass g.S.Sink.takes c.args.reader.now c.args.sink.now c.args.output.now.calls c.args.left.due.now (Ok c.in_ok-end.field-0) c.offer_beside.new.reader c.offer_beside.new.sink
    c.offer_beside.new.output.calls (ap Ok none) c.in_ok-end.ensures.pushes in
    pushes_front g.S.Sink.takes g.met.S.Sink.on c.args.reader.now c.offer_beside.new.reader c.offer_groups.new.reader c.args.sink.now c.offer_beside.new.sink c.offer_groups.new.sink
    c.args.output.now.calls c.offer_beside.new.output.calls c.offer_groups.new.output.calls all c.args.left.due.now c.args.left.rest.now c.offer_groups.result refl passed
    (subst (λ x. Pushes g.S.Sink.takes c.offer_beside.new.reader c.offer_beside.new.sink c.offer_beside.new.output.calls x c.offer_groups.result c.offer_groups.new.reader c.offer_groups.new.sink c.offer_groups.new.output.calls)
    (sym c.split_at.ensures.by_index.0) c.offer_groups.ensures)

pub offer_groups-requires-clause-lines : goal.offer_groups-requires-clause-lines
offer_groups-requires-clause-lines g t c κs within =
    let none : c.in_ok-end.field-0 ≡ None = grind arith in
    let passed = pushes_pass g.S.Sink.takes c.args.reader.now c.args.sink.now c.args.output.now.calls c.args.left.due.now (Ok c.in_ok-end.field-0) c.offer_beside.new.reader c.offer_beside.new.sink
    c.offer_beside.new.output.calls (ap Ok none) c.in_ok-end.ensures.pushes in
    omega (arith, passed.counted, c.requires.lines, c.split_at.ensures.front_len, c.split_at.ensures.back_len)

pub returns-then-is_empty : goal.returns-then-is_empty
returns-then-is_empty g t c =
    subst (λ x. Pushes g.S.Sink.takes c.args.reader.now c.args.sink.now c.args.output.now.calls x c.offer_parts.result c.offer_parts.new.reader c.offer_parts.new.sink c.offer_parts.new.output.calls)
    (none_behind c.args.left.due.now c.args.left.rest.now (sym c.is_empty.ensures ∙ c.if-is_empty.true)) c.offer_parts.ensures
