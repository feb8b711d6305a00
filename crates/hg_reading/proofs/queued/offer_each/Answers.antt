use Rattle.std.proofs.Common.{◌≡◌, ℕ, ◌+◌, ◌<◌, drop, slice_index_or, None, Some, Ok, Err, sym, subst, rules, arith, ◌^◌}
use Rattle.hg_reading.specs.declared.queued.Queued.TheVariants.{Passed}
use Rattle.hg_reading.specs.Queueing.{IsOffered, reading_queued, readings_queued}
use Rattle.hg_reading.proofs.Queueing.{IsOfferedTo, offered_at, offered_on, offered_stop, room_for_next}
use Rattle.hg_reading.proofs.queued.offer_each.Goals as goal

pub offer-requires-clause-lines : goal.offer-requires-clause-lines
offer-requires-clause-lines g c =
    let so_far = offered_at g.S.Sink.takes c.args.lines c.args.queued.now c.args.sink.now c.loop-it.sink c.args.output.now.calls c.loop-it.output.calls c.loop-it.lines c.loop-it.it-index (Passed 0) c.loop-it-test.true c.loop-it.invariant in
    omega (arith, so_far.counted, c.requires.lines)

pub offer-requires-clause-room : goal.offer-requires-clause-room
offer-requires-clause-room g c =
    let next = slice_index_or c.args.queued.now c.loop-it.it-index (Passed 0) in
    let so_far = offered_at g.S.Sink.takes c.args.lines c.args.queued.now c.args.sink.now c.loop-it.sink c.args.output.now.calls c.loop-it.output.calls c.loop-it.lines c.loop-it.it-index (Passed 0) c.loop-it-test.true c.loop-it.invariant in
    room_for_next g.S.Sink.takes g.S.Sink.may_take g.met.S.Sink.room g.met.S.Sink.fewer c.args.lines c.args.queued.now c.args.sink.now c.loop-it.sink c.args.output.now.calls c.loop-it.output.calls c.loop-it.lines
    next (drop (c.loop-it.it-index + 1) c.args.queued.now) so_far c.requires.room

pub returns-in_err-end : goal.returns-in_err-end
returns-in_err-end g c =
    let next = slice_index_or c.args.queued.now c.loop-it.it-index (Passed 0) in
    let so_far = offered_at g.S.Sink.takes c.args.lines c.args.queued.now c.args.sink.now c.loop-it.sink c.args.output.now.calls c.loop-it.output.calls c.loop-it.lines c.loop-it.it-index (Passed 0) c.loop-it-test.true c.loop-it.invariant in
    let same : c.from_residual.result ≡ Err c.in_err-end.field-0.0 = grind arith in
    subst (λ x. IsOffered g.S.Sink.takes c.args.sink.now c.args.output.now.calls (readings_queued c.args.lines c.args.queued.now) x c.offer.new.sink c.offer.new.output.calls) (sym same)
    (offered_stop g.S.Sink.takes g.met.S.Sink.on c.args.lines c.args.queued.now c.args.sink.now c.loop-it.sink c.offer.new.sink c.args.output.now.calls c.loop-it.output.calls c.offer.new.output.calls c.loop-it.lines
    next (drop (c.loop-it.it-index + 1) c.args.queued.now) (Err c.in_err-end.field-0.0) so_far c.in_err-end.ensures (λ e. absurd (cc)))

pub returns-in-Some : goal.returns-in-Some
returns-in-Some g c =
    let next = slice_index_or c.args.queued.now c.loop-it.it-index (Passed 0) in
    let so_far = offered_at g.S.Sink.takes c.args.lines c.args.queued.now c.args.sink.now c.loop-it.sink c.args.output.now.calls c.loop-it.output.calls c.loop-it.lines c.loop-it.it-index (Passed 0) c.loop-it-test.true c.loop-it.invariant in
    let step = subst (λ x. g.S.Sink.takes c.loop-it.sink c.loop-it.output.calls (reading_queued c.loop-it.lines next) (Ok x) c.offer.new.sink c.offer.new.output.calls) c.in-Some.is c.in_ok-end.ensures in
    offered_stop g.S.Sink.takes g.met.S.Sink.on c.args.lines c.args.queued.now c.args.sink.now c.loop-it.sink c.offer.new.sink c.args.output.now.calls c.loop-it.output.calls c.offer.new.output.calls c.loop-it.lines
    next (drop (c.loop-it.it-index + 1) c.args.queued.now) (Ok (Some c.in-Some.end)) so_far step (λ e. absurd (cc))

pub overflow_add-lines : goal.overflow_add-lines
overflow_add-lines g c =
    let so_far = offered_at g.S.Sink.takes c.args.lines c.args.queued.now c.args.sink.now c.loop-it.sink c.args.output.now.calls c.loop-it.output.calls c.loop-it.lines c.loop-it.it-index (Passed 0) c.loop-it-test.true c.loop-it.invariant in
    let fits : c.loop-it.lines + c.lines-lines.result < 2 ^ 64 = omega (arith, so_far.counted, c.requires.lines, c.lines-lines.ensures) in
    search rules

pub loop-it-preserved : goal.loop-it-preserved
loop-it-preserved g c =
    let next = slice_index_or c.args.queued.now c.loop-it.it-index (Passed 0) in
    let so_far = offered_at g.S.Sink.takes c.args.lines c.args.queued.now c.args.sink.now c.loop-it.sink c.args.output.now.calls c.loop-it.output.calls c.loop-it.lines c.loop-it.it-index (Passed 0) c.loop-it-test.true c.loop-it.invariant in
    let none : c.in_ok-end.field-0 ≡ None = grind arith in
    let step = subst (λ x. g.S.Sink.takes c.loop-it.sink c.loop-it.output.calls (reading_queued c.loop-it.lines next) (Ok x) c.offer.new.sink c.offer.new.output.calls) none c.in_ok-end.ensures in
    subst (λ (m : ℕ). IsOfferedTo g.S.Sink.takes c.args.lines c.args.queued.now c.args.sink.now c.args.output.now.calls c.offer.new.sink c.offer.new.output.calls (c.loop-it.lines + m) (drop (c.loop-it.it-index + 1) c.args.queued.now))
    (sym c.lines-lines.ensures)
    (offered_on g.S.Sink.takes g.met.S.Sink.on c.args.lines c.args.queued.now c.args.sink.now c.loop-it.sink c.offer.new.sink c.args.output.now.calls c.loop-it.output.calls c.offer.new.output.calls c.loop-it.lines
    next (drop (c.loop-it.it-index + 1) c.args.queued.now) so_far step)
