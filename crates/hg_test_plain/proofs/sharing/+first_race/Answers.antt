use Rattle.std.proofs.Common.{sym, ◌∙◌, arith}
use Rattle.std.proofs.lemmas.Result.{IfOk-weaker}
use Rattle.hg_test_plain.proofs.RaceSteps.{goes_on}
use Rattle.hg_test_plain.proofs.sharing.+first_race.Goals as goal

pub returns : goal.returns
returns t c =
    let calm = c.in_ok-is_race.ensures in
    IfOk-weaker c.first_race.result _ _ (λ r h. h ∙ sym (goes_on c.args.first.now c.args.later.now c.args.count (omega arith) (sym calm ∙ c.if-branch.false))) c.first_race.ensures
