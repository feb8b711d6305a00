use Rattle.std.proofs.Common.{arith, drop, [], ◌∷◌}
use Rattle.hg_wire.proofs.OperandLemmas.{one_operand, refit_operands}
use Rattle.hg_wire.proofs.operands.short_at.Goals as goal

pub returns-clause-operand : goal.returns-clause-operand
returns-clause-operand c =
    let bytes = c.args.bytes.now in
    let found = c.in_ok-value in
    let rest = drop found.end bytes in
    refit_operands (64 ∷ []) (16 ∷ []) (drop c.args.from bytes) (found.value ∷ []) rest (omega arith, tt)
    (one_operand bytes c.args.from found.value rest (omega arith) (omega arith) found.ensures.number)
