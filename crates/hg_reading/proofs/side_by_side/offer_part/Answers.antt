use Rattle.std.proofs.Common.{◌≡◌, ℕ, ◌+◌, ◌-◌, ◌≤◌, length, drop, None, Some, Ok, Err, sym, ap, subst, arith}
use Rattle.hg_wire.specs.Streams.{LinesRead}
use Rattle.hg_reading.specs.Queueing.{IsOffered, readings_behind}
use Rattle.hg_reading.specs.Taking.{Passes, Pushes}
use Rattle.hg_reading.proofs.Parsing.{rest_is}
use Rattle.hg_reading.proofs.Pushing.{part_passes, part_stops, pushes_then, room_left}
use Rattle.hg_reading.proofs.side_by_side.offer_part.Goals as goal

pub offer_queue-requires-clause-room : goal.offer_queue-requires-clause-room
offer_queue-requires-clause-room g c =
    let due = length (g.S.Queue.Queue.held c.args.part.now.queue).readings in
    let few : due ≤ length c.args.text.now = omega (arith, c.requires.held.queued.few, c.requires.held.queued.within) in
    let split : length c.args.text.now ≡ due + (length c.args.text.now - due) = omega (arith, few) in
    g.met.S.Sink.fewer c.args.sink.now due (length c.args.text.now - due) (subst (λ (k : ℕ). g.S.Sink.may_take c.args.sink.now k) split c.requires.room)

pub returns-in_err-end : goal.returns-in_err-end
returns-in_err-end g c =
    let same : c.from_residual.result ≡ Err c.in_err-end.field-0.0 = grind arith in
    subst (λ x. Pushes g.S.Sink.takes c.args.reader.now c.args.sink.now c.args.output.now.calls c.args.text.now x c.args.reader.now c.offer_queue.new.self c.offer_queue.new.output.calls) (sym same)
    (part_stops g.S.Sink.takes c.args.reader.now c.args.sink.now c.offer_queue.new.self c.args.output.now.calls c.offer_queue.new.output.calls c.args.text.now (g.S.Queue.Queue.held c.args.part.now.queue)
    c.args.part.now.extent.lines c.args.part.now.extent.bytes c.lines.result (Err c.in_err-end.field-0.0) (c.is_between_lines.ensures.0 c.if-not-is_between_lines.false) c.lines.ensures c.requires.held.queued c.in_err-end.ensures.takes)

pub returns-in-Some : goal.returns-in-Some
returns-in-Some g c =
    let offered = subst (λ x. IsOffered g.S.Sink.takes c.args.sink.now c.args.output.now.calls (readings_behind c.lines.result (g.S.Queue.Queue.held c.args.part.now.queue)) (Ok x) c.offer_queue.new.self c.offer_queue.new.output.calls)
    c.in-Some.is c.in_ok-end.ensures.takes in
    part_stops g.S.Sink.takes c.args.reader.now c.args.sink.now c.offer_queue.new.self c.args.output.now.calls c.offer_queue.new.output.calls c.args.text.now (g.S.Queue.Queue.held c.args.part.now.queue)
    c.args.part.now.extent.lines c.args.part.now.extent.bytes c.lines.result (Ok (Some c.in-Some.end)) (c.is_between_lines.ensures.0 c.if-not-is_between_lines.false) c.lines.ensures c.requires.held.queued offered

pub push_alone-requires-2-clause-room : goal.push_alone-requires-2-clause-room
push_alone-requires-2-clause-room g c =
    let none : c.in_ok-end.field-0 ≡ None = grind arith in
    let passes = part_passes g.S.Sink.takes c.args.reader.now c.args.sink.now c.offer_queue.new.self c.args.output.now.calls c.offer_queue.new.output.calls c.args.text.now (g.S.Queue.Queue.held c.args.part.now.queue)
    c.args.part.now.extent.lines c.args.part.now.extent.bytes c.lines.result (Ok c.in_ok-end.field-0) (c.is_between_lines.ensures.0 c.if-not-is_between_lines.false) c.lines.ensures c.requires.held.queued c.in_ok-end.ensures.takes (ap Ok none) in
    subst (λ x. g.S.Sink.may_take c.offer_queue.new.self (length x)) (sym (rest_is c.args.part.now.extent.bytes c.args.text.now))
    (room_left g.S.Sink.takes g.S.Sink.may_take g.met.S.Sink.room g.met.S.Sink.fewer c.args.reader.now _ c.args.sink.now c.offer_queue.new.self c.args.output.now.calls c.offer_queue.new.output.calls
    c.args.text.now (drop c.args.part.now.extent.bytes c.args.text.now) passes c.requires.room)

pub returns : goal.returns
returns g c =
    let none : c.in_ok-end.field-0 ≡ None = grind arith in
    let passes = part_passes g.S.Sink.takes c.args.reader.now c.args.sink.now c.offer_queue.new.self c.args.output.now.calls c.offer_queue.new.output.calls c.args.text.now (g.S.Queue.Queue.held c.args.part.now.queue)
    c.args.part.now.extent.lines c.args.part.now.extent.bytes c.lines.result (Ok c.in_ok-end.field-0) (c.is_between_lines.ensures.0 c.if-not-is_between_lines.false) c.lines.ensures c.requires.held.queued c.in_ok-end.ensures.takes (ap Ok none) in
    let counted = subst (λ (q : LinesRead). Passes g.S.Sink.takes c.args.reader.now c.args.sink.now c.args.output.now.calls c.args.text.now q c.offer_queue.new.self c.offer_queue.new.output.calls (drop c.args.part.now.extent.bytes c.args.text.now))
    (sym c.count_lines.ensures) passes in
    let placed = subst (λ x. Passes g.S.Sink.takes c.args.reader.now c.args.sink.now c.args.output.now.calls c.args.text.now c.count_lines.new.self c.offer_queue.new.self c.offer_queue.new.output.calls x)
    (sym (rest_is c.args.part.now.extent.bytes c.args.text.now)) counted in
    pushes_then g.S.Sink.takes g.met.S.Sink.on c.args.reader.now c.count_lines.new.self c.push_alone-2.new.reader c.args.sink.now c.offer_queue.new.self c.push_alone-2.new.sink
    c.args.output.now.calls c.offer_queue.new.output.calls c.push_alone-2.new.output.calls c.args.text.now _ c.push_alone-2.result placed
    c.push_alone-2.ensures.pushes
