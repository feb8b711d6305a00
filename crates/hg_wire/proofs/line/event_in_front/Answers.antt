use Rattle.std.proofs.Common.{◌++◌, ◌∙◌, ap, drop}
use Rattle.hg_wire.specs.Verbs.{row_of, verb_of}
use Rattle.hg_wire.proofs.EventLemmas.{event_follows}
use Rattle.hg_wire.proofs.OperandLemmas.{operands_follow}
use Rattle.hg_wire.proofs.line.event_in_front.Goals as goal

pub returns-in-Pair-clause-event : goal.returns-in-Pair-clause-event
returns-in-Pair-clause-event c =
    let operands = operands_follow 16 _ _ _ _ _ _ c.in_ok-first.ensures.operand c.in_ok-second.ensures.operand in
    let begins = c.in_ok-kind.ensures.verb ∙ ap (λ kind. (row_of (verb_of kind)).text ++ drop c.in_ok-kind.end c.args.bytes.now) c.in-Pair.is in
    event_follows c.in-Pair.verb _ _ _ _ _ _ begins operands c.in_ok-pair_event.ensures

pub returns-clause-event : goal.returns-clause-event
returns-clause-event c =
    let operands =
    operands_follow 16 _ _ _ _ _ _ c.in_ok-first.ensures.operand (operands_follow 64 _ _ _ _ _ _ c.in_ok-second.ensures.operand c.in_ok-third.ensures.operand) in
    event_follows (verb_of c.in_ok-kind.kind) _ _ _ _ _ _ c.in_ok-kind.ensures.verb operands c.in_ok-sized_event.ensures
