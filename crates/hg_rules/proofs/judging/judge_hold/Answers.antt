use Rattle.std.proofs.Common.{◌≡◌, ◌≤◌, ◌<◌, ◌+◌, ◌∙◌, arith, slice_index}
use Rattle.hg_model.specs.Holding.{hold_named}
use Rattle.hg_model.specs.Verdicts.{standing}
use Rattle.hg_model.proofs.Accepted.{next_is_judged}
use Rattle.hg_rules.proofs.judging.judge_hold.Goals as goal

pub returns : goal.returns
returns c =
    let n = hold_named c.args.source c.args.number c.args.hold in
    let last : c.last-before.result ≡ slice_index c.args.state.now.last c.args.source = c.last-before.ensures in
    let above : slice_index c.args.state.now.last c.args.source < c.args.number = let l = c.if-number-before.false in omega (arith, last) in
    let near : c.args.number ≤ slice_index c.args.state.now.last c.args.source + 1 = let l = c.if-number-before-gt1.false in omega (arith, last) in
    c.judge_on_lock.ensures n.number ∙ next_is_judged (standing c.args.state.now) n above near
