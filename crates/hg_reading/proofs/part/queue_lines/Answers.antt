use Rattle.std.proofs.Common.{ℕ, ◌+◌, ◌-◌, ◌≤◌, length, drop, sym, ap, ◌∙◌, subst, arith}
use Rattle.std.proofs.lemmas.List.{length-drop}
use Rattle.hg_reading.specs.Queueing.{IsQueued, Lines}
use Rattle.hg_reading.proofs.Parsing.{IsParsedTo, parsed_all, parsed_on, rest_is}
use Rattle.hg_reading.proofs.Queueing.{behind_more, is_event}
use Rattle.hg_reading.proofs.part.queue_lines.Goals as goal

pub push-requires-clause-event : goal.push-requires-clause-event
push-requires-clause-event g c = is_event c.in-Line.it c.in-Line.ensures.0 c.in-Line.ensures.1

pub push-requires-clause-line : goal.push-requires-clause-line
push-requires-clause-line g c =
    omega (arith, c.lines-lines.ensures, c.loop-it.invariant.exact, c.in-Line.ensures.2.rising, ap (λ p. p.lines) c.loop-it.invariant.stands)

pub loop-it-preserved : goal.loop-it-preserved
loop-it-preserved g c =
    let old = g.Q.Queue.held c.loop-it.queue in
    let now = g.Q.Queue.held c.push.new.self in
    let passed = c.lines-lines.result - c.loop-it.extent.lines - 1 in
    subst (IsParsedTo c.args.text.now now c.lines-lines.result (c.loop-it.extent.bytes + c.in-Line.used) c.next_line.new.reader) (sym (rest_is c.in-Line.used c.loop-it.rest.now))
    (subst (λ n. IsParsedTo c.args.text.now now n (c.loop-it.extent.bytes + c.in-Line.used) c.next_line.new.reader (drop c.in-Line.used c.loop-it.rest.now)) (sym c.lines-lines.ensures)
    (parsed_on c.args.text.now old now c.loop-it.extent.lines c.loop-it.extent.bytes c.loop-it.reader c.next_line.new.reader c.loop-it.rest.now c.in-Line.ensures.0 c.in-Line.used passed
    c.loop-it.invariant c.in-Line.ensures.2 (ap (λ (n : ℕ). n - c.loop-it.extent.lines - 1) c.lines-lines.ensures)
    (behind_more old now passed c.in-Line.it c.in-Line.ensures.0 c.if-not-push.ensures.pushed c.in-Line.ensures.1) (ap (λ (k : Lines). k.count) c.if-not-push.ensures.pushed)))

pub returns-then-is_between_lines : goal.returns-then-is_between_lines
returns-then-is_between_lines g c =
    subst (λ n. IsQueued c.args.text.now (g.Q.Queue.held c.loop-it.queue) n (length c.args.text.now)) (sym c.lines.ensures)
    (parsed_all c.args.text.now (g.Q.Queue.held c.loop-it.queue) c.loop-it.extent.lines c.loop-it.extent.bytes c.loop-it.reader c.next_line.new.reader c.loop-it.rest.now c.loop-it.invariant c.in-End.ensures
    (c.is_between_lines.ensures.0 c.if-is_between_lines.true))

pub overflow_add-extent : goal.overflow_add-extent
overflow_add-extent g c =
    let front = c.loop-it.invariant.front in
    let size = ap length c.loop-it.invariant.left ∙ length-drop c.loop-it.extent.bytes c.args.text.now in
    let within : c.loop-it.extent.bytes + c.in-Line.used ≤ length c.args.text.now = omega (arith, front.within, c.in-Line.ensures.2.within, size) in
    omega arith

pub returns-then-not-push : goal.returns-then-not-push
returns-then-not-push g c =
    subst (λ held. IsQueued c.args.text.now held c.loop-it.extent.lines c.loop-it.extent.bytes) (sym c.if-not-push.ensures.same) c.loop-it.invariant.front
