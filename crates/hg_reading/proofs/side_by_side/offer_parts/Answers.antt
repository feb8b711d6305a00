use Rattle.std.proofs.Common.{◌≡◌, ℕ, ◌+◌, [], ◌∷◌, length, drop, None, Some, Ok, Err, sym, ap, ◌∙◌, subst, arith}
use Rattle.std.proofs.lemmas.List.{drop_more}
use Rattle.hg_reading.specs.Queueing.{AreHeld}
use Rattle.hg_reading.specs.Taking.{Passes, Pushes}
use Rattle.hg_reading.proofs.Passing.{passes_first}
use Rattle.hg_reading.proofs.Pushing.{held_next, passes_longer, passes_then, pushes_pass, pushes_then, room_left, stops_front, stops_then}
use Rattle.hg_reading.proofs.side_by_side.offer_parts.Goals as goal

pub loop-part-init : goal.loop-part-init
loop-part-init g c = record {
  passes = passes_first g.S.Sink.takes c.args.reader.now c.args.sink.now c.args.output.now.calls c.args.text.now (g.met.S.Sink.none c.args.sink.now c.args.output.now.calls);
  held = c.requires.held;
}

pub offer_part-requires-clause-room : goal.offer_part-requires-clause-room
offer_part-requires-clause-room g c κs within =
    let first = c.split_at.result.0.now in
    let rest = c.loop-part.rest.now in
    let may = room_left g.S.Sink.takes g.S.Sink.may_take g.met.S.Sink.room g.met.S.Sink.fewer c.args.reader.now c.loop-part.reader c.args.sink.now c.loop-part.sink c.args.output.now.calls c.loop-part.output.calls
    c.args.text.now rest c.loop-part.invariant.passes c.requires.room in
    let split : length rest ≡ length first + length c.split_at.result.1.now = omega (arith, c.split_at.ensures.front_len, c.split_at.ensures.back_len) in
    g.met.S.Sink.fewer c.loop-part.sink (length first) (length c.split_at.result.1.now) (subst (λ (k : ℕ). g.S.Sink.may_take c.loop-part.sink k) split may)

pub returns-in_err-end : goal.returns-in_err-end
returns-in_err-end g c =
    let same : c.from_residual.result ≡ Err c.in_err-end.field-0.0 = grind arith in
    subst (λ x. Pushes g.S.Sink.takes c.args.reader.now c.args.sink.now c.args.output.now.calls c.args.text.now x c.offer_part.new.reader c.offer_part.new.sink c.offer_part.new.output.calls) (sym same)
    (stops_then g.S.Sink.takes g.met.S.Sink.on c.args.reader.now c.loop-part.reader c.args.sink.now c.loop-part.sink c.offer_part.new.sink c.args.output.now.calls c.loop-part.output.calls c.offer_part.new.output.calls
    c.args.text.now c.loop-part.rest.now (Err c.in_err-end.field-0.0) c.loop-part.invariant.passes
    (stops_front g.S.Sink.takes c.loop-part.reader c.loop-part.sink c.offer_part.new.sink c.loop-part.output.calls c.offer_part.new.output.calls c.loop-part.rest.now c.split_at.result.0.now c.split_at.result.1.now
    (Err c.in_err-end.field-0.0) c.split_at.ensures.by_index.0 c.in_err-end.ensures))

pub returns-in-Some : goal.returns-in-Some
returns-in-Some g c =
    let pushed = subst (λ x. Pushes g.S.Sink.takes c.loop-part.reader c.loop-part.sink c.loop-part.output.calls c.split_at.result.0.now (Ok x) c.offer_part.new.reader c.offer_part.new.sink c.offer_part.new.output.calls)
    c.in-Some.is c.in_ok-end.ensures in
    stops_then g.S.Sink.takes g.met.S.Sink.on c.args.reader.now c.loop-part.reader c.args.sink.now c.loop-part.sink c.offer_part.new.sink c.args.output.now.calls c.loop-part.output.calls c.offer_part.new.output.calls
    c.args.text.now c.loop-part.rest.now (Ok (Some c.in-Some.end)) c.loop-part.invariant.passes
    (stops_front g.S.Sink.takes c.loop-part.reader c.loop-part.sink c.offer_part.new.sink c.loop-part.output.calls c.offer_part.new.output.calls c.loop-part.rest.now c.split_at.result.0.now c.split_at.result.1.now
    (Ok (Some c.in-Some.end)) c.split_at.ensures.by_index.0 pushed)

pub loop-part-preserved : goal.loop-part-preserved
loop-part-preserved g c =
    let none : c.in_ok-end.field-0 ≡ None = grind arith in
    let first = c.split_at.result.0.now in
    let later = c.split_at.result.1.now in
    let rest = c.loop-part.rest.now in
    let parted : drop c.loop-part.part-index c.args.parts.now ≡ c.part-item.result ∷ drop (c.loop-part.part-index + 1) c.args.parts.now =
    drop_more c.args.parts.now c.loop-part.part-index c.part-item.result c.loop-part-test.true ∙ ap (λ p. p ∷ drop (c.loop-part.part-index + 1) c.args.parts.now) (sym c.part-item.is) in
    let passed = pushes_pass g.S.Sink.takes c.loop-part.reader c.loop-part.sink c.loop-part.output.calls first (Ok c.in_ok-end.field-0) c.offer_part.new.reader c.offer_part.new.sink c.offer_part.new.output.calls (ap Ok none)
    c.in_ok-end.ensures in
    let longer = passes_longer g.S.Sink.takes c.loop-part.reader c.offer_part.new.reader c.loop-part.sink c.offer_part.new.sink c.loop-part.output.calls c.offer_part.new.output.calls first [] later passed in
    record {
      passes = passes_then g.S.Sink.takes g.met.S.Sink.on c.args.reader.now c.loop-part.reader c.offer_part.new.reader c.args.sink.now c.loop-part.sink c.offer_part.new.sink
          c.args.output.now.calls c.loop-part.output.calls c.offer_part.new.output.calls c.args.text.now rest later c.loop-part.invariant.passes
          (subst (λ x. Passes g.S.Sink.takes c.loop-part.reader c.loop-part.sink c.loop-part.output.calls x c.offer_part.new.reader c.offer_part.new.sink c.offer_part.new.output.calls later)
          (sym c.split_at.ensures.by_index.0) longer);
      held = held_next g.S.Queue.Queue.held c.part-item.result (drop (c.loop-part.part-index + 1) c.args.parts.now) rest first later (subst (λ ps. AreHeld g.S.Queue.Queue.held ps rest) parted c.loop-part.invariant.held)
          c.split_at.ensures.front c.split_at.ensures.back;
    }

pub push_alone-requires-clause-room : goal.push_alone-requires-clause-room
push_alone-requires-clause-room g c =
    room_left g.S.Sink.takes g.S.Sink.may_take g.met.S.Sink.room g.met.S.Sink.fewer c.args.reader.now c.loop-part.reader c.args.sink.now c.loop-part.sink c.args.output.now.calls c.loop-part.output.calls
    c.args.text.now c.loop-part.rest.now c.loop-part.invariant.passes c.requires.room

pub returns : goal.returns
returns g c =
    pushes_then g.S.Sink.takes g.met.S.Sink.on c.args.reader.now c.loop-part.reader c.push_alone.new.reader c.args.sink.now c.loop-part.sink c.push_alone.new.sink
    c.args.output.now.calls c.loop-part.output.calls c.push_alone.new.output.calls c.args.text.now c.loop-part.rest.now c.push_alone.result c.loop-part.invariant.passes c.push_alone.ensures.pushes
