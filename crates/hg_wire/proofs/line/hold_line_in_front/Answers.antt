use Rattle.std.proofs.Common.{arith, [], ◌∷◌}
use Rattle.hg_wire.specs.Holds.{verb_on}
use Rattle.hg_wire.specs.Verbs.{AllFit}
use Rattle.hg_wire.proofs.EventLemmas.{event_follows, event_line, makes_hold, operands_fit}
use Rattle.hg_wire.proofs.OperandLemmas.{operands_follow}
use Rattle.hg_wire.proofs.line.hold_line_in_front.Goals as goal

pub returns : goal.returns
returns c =
    let k = c.in_ok-kind.kind in
    let operands = operands_follow 16 _ _ _ _ _ _ c.in_ok-t.ensures.operand c.in_ok-l.ensures.operand in
    let fit : AllFit (16 ∷ 16 ∷ []) (c.in_ok-t.t ∷ c.in_ok-l.l ∷ []) = operands_fit (16 ∷ 16 ∷ []) operands.tokens (c.in_ok-t.t ∷ c.in_ok-l.l ∷ []) operands.operands in
    let makes = makes_hold k c.in_ok-t.t c.in_ok-l.l fit.0 fit.1.0 in
    let event = event_follows (verb_on k) _ _ _ _ _ _ c.in_ok-kind.ensures.verb operands makes in
    event_line c.args.bytes.now _ _ c.in_ok-used.used event c.in_ok-used.ensures.ends
    (omega (arith, c.in_ok-kind.ensures.near, c.in_ok-t.ensures.near, c.in_ok-l.ensures.near, c.in_ok-used.ensures.within))
