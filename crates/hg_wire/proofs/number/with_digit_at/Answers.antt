use Rattle.std.proofs.Common.{sym, ◌∙◌, arith}
use Rattle.hg_wire.proofs.RunLemmas.{run_on}
use Rattle.hg_wire.proofs.number.with_digit_at.Goals as goal

pub returns : goal.returns
returns c =
    λ start h. run_on 16 16 start c.args.bytes.now c.args.at c.args.number _ (omega arith) (omega arith) (c.value_of_hexadecimal_digit-digit.ensures.digit c.if-digit-gt15.false ∙ sym c.from.ensures) (omega arith) h
