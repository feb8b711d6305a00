use Rattle.std.proofs.Common.{ℕ, drop, arith}
use Rattle.std.proofs.lemmas.Option.{IfSome_then}
use Rattle.hg_wire.proofs.OperandLemmas.{one_operand}
use Rattle.hg_wire.proofs.operands.long_at.Goals as goal

pub returns-clause-operand : goal.returns-clause-operand
returns-clause-operand c =
    let bytes = c.args.bytes.now in
    IfSome_then _ c.number_at.ensures.number (λ (found : ℕ × ℕ) h. one_operand bytes c.args.from found.0 (drop found.1 bytes) (omega arith) (omega arith) h)
