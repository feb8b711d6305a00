use Rattle.std.proofs.Common.{sym, ◌∙◌, arith}
use Rattle.hg_wire.proofs.RunLemmas.{run_on}
use Rattle.hg_wire.proofs.number.with_decimal_digit_at.Goals as goal

pub returns : goal.returns
returns c =
    λ start h. run_on 10 19 start c.args.bytes.now c.args.at c.args.number _ (omega arith) (omega arith) (c.value_of_decimal_digit-digit.ensures c.if-digit-gt9.false ∙ sym c.from.ensures) (omega arith) h
