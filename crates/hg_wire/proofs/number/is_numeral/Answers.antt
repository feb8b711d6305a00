use Rattle.std.proofs.Common.{◌∙◌, sym, ◌≤◌, length, arith}
use Rattle.std.proofs.lemmas.Bool.Decides.{nat_tests}
use Rattle.hg_wire.proofs.DiagnosisLemmas.{numeral_test}
use Rattle.hg_wire.proofs.number.is_numeral.Goals as goal

pub returns : goal.returns
returns c =
    let some : 1 ≤ length c.args.digits.now = grind (arith, nat_tests) in
    c.are_digits.ensures ∙ sym (numeral_test c.args.base c.args.most c.args.digits.now some c.if-digits-most.false)
