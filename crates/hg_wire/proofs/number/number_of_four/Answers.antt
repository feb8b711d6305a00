use Rattle.std.proofs.Common.{sym, subst, arith}
use Rattle.hg_wire.specs.InFront.{IsFourDigits}
use Rattle.hg_wire.proofs.RunLemmas.{four_digits}
use Rattle.hg_wire.proofs.number.number_of_four.Goals as goal

pub returns : goal.returns
returns c =
    let a = c.value_of_hexadecimal_digit-a in
    let b = c.value_of_hexadecimal_digit-b in
    let third = c.value_of_hexadecimal_digit-c in
    let d = c.value_of_hexadecimal_digit-d in
    subst (IsFourDigits c.args.a c.args.b c.args.c c.args.d) (sym c.from.ensures)
    (four_digits c.args.a c.args.b c.args.c c.args.d a.result b.result third.result d.result (a.ensures.digit, a.ensures.none) (b.ensures.digit, b.ensures.none)
    (third.ensures.digit, third.ensures.none) (d.ensures.digit, d.ensures.none) (omega arith))
