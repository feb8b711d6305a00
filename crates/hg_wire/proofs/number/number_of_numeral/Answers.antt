use Rattle.std.proofs.Common.{◌≤◌, length, arith, ap, sym, ◌∙◌}
use Rattle.std.proofs.lemmas.Bool.Decides.{nat_tests}
use Rattle.hg_wire.specs.Lines.{fitting}
use Rattle.hg_wire.proofs.WholeLemmas.{room_for_digit, read_grows, read_whole, fits_ok}
use Rattle.hg_wire.proofs.number.number_of_numeral.Goals as goal

pub overflow_mul-value : goal.overflow_mul-value
overflow_mul-value c =
    let room = room_for_digit c.args.base c.loop-byte.byte-index c.loop-byte.value c.value_of_digit-digit.result c.loop-byte.invariant.small c.requires.digits c.if-digit-base.false (omega arith) in
    rw c.from.ensures (omega (arith, room.0, room.1))

pub overflow_add-value : goal.overflow_add-value
overflow_add-value c =
    let room = room_for_digit c.args.base c.loop-byte.byte-index c.loop-byte.value c.value_of_digit-digit.result c.loop-byte.invariant.small c.requires.digits c.if-digit-base.false (omega arith) in
    rw (c.from.ensures, c.from-in-loop-byte.ensures) (omega (arith, room.0, room.1))

pub loop-byte-preserved : goal.loop-byte-preserved
loop-byte-preserved c =
    rw (c.from.ensures, c.from-in-loop-byte.ensures) (read_grows c.args.base c.args.digits.now c.loop-byte.byte-index c.loop-byte.value c.value_of_digit-digit.result
    c.requires.digits (omega arith) (omega arith) c.value_of_digit-digit.ensures c.if-digit-base.false c.loop-byte.invariant)

pub returns : goal.returns
returns c =
    let some : 1 ≤ length c.args.digits.now = grind (arith, nat_tests) in
    let whole = read_whole c.args.base c.args.most c.args.digits.now c.loop-byte.byte-index c.loop-byte.value (omega arith) some (omega arith) c.loop-byte.invariant in
    fits_ok _ _ c.loop-byte.value c.try_from.ensures c.ok.ensures.value ∙ ap (fitting 64) (sym whole)
