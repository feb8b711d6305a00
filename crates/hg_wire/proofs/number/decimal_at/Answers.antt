use Rattle.std.proofs.Common.{sym, ◌∙◌, drop, arith}
use Rattle.hg_wire.proofs.RunLemmas.{run_on}
use Rattle.hg_wire.proofs.number.decimal_at.Goals as goal

pub loop-at-preserved : goal.loop-at-preserved
loop-at-preserved c =
    let digit = c.value_of_decimal_digit-digit.ensures c.if-digit-gt9.false ∙ sym c.from.ensures in (
      omega arith,
      omega arith,
      run_on 10 19 (drop c.args.from c.args.bytes.now) c.args.bytes.now c.loop-at.at c.loop-at.value c.from.result (omega arith) (omega arith) digit (omega arith) c.loop-at.invariant.2,
    )
