use Rattle.std.proofs.Common.{arith, [], ◌∷◌}
use Rattle.hg_wire.specs.Verbs.{verb_of, AllFit}
use Rattle.hg_wire.specs.declared.verb.VerbKind.TheVariants as kind
use Rattle.hg_wire.proofs.EventLemmas.{event_follows, event_line, makes_access, operands_fit}
use Rattle.hg_wire.proofs.OperandLemmas.{operands_follow}
use Rattle.hg_wire.proofs.line.access_line_in_front.Goals as goal

pub returns : goal.returns
returns c =
    let w = c.in_ok-is_write.is_write in
    let operands = operands_follow 16 _ _ _ _ _ _ c.in_ok-t.ensures.operand (operands_follow 64 _ _ _ _ _ _ c.in_ok-at.ensures.operand c.in_ok-len.ensures.operand) in
    let fit : AllFit (16 ∷ 64 ∷ 16 ∷ []) (c.in_ok-t.t ∷ c.in_ok-at.at ∷ c.in_ok-len.len ∷ []) = operands_fit (16 ∷ 64 ∷ 16 ∷ []) operands.tokens (c.in_ok-t.t ∷ c.in_ok-at.at ∷ c.in_ok-len.len ∷ []) operands.operands in
    let makes = makes_access w c.in_ok-t.t c.in_ok-at.at c.in_ok-len.len fit.0 fit.1.0 (omega arith) in
    let event = event_follows (verb_of (kind.Access w)) _ _ _ _ _ _ c.in_ok-is_write.ensures.verb operands makes in
    event_line c.args.bytes.now _ _ c.in_ok-used.used event c.in_ok-used.ensures.ends
    (omega (arith, c.in_ok-is_write.ensures.near, c.in_ok-t.ensures.near, c.in_ok-at.ensures.near, c.in_ok-len.ensures.near, c.in_ok-used.ensures.within))
