use Rattle.std.proofs.Common.{◌≡◌, ◌≤◌, ◌<◌, ◌+◌, ◌∙◌, arith, slice_index}
use Rattle.hg_model.specs.declared.event.Event.TheVariants.{Read}
use Rattle.hg_model.specs.declared.event.Named.{Named}
use Rattle.hg_model.specs.Verdicts.{standing}
use Rattle.hg_model.proofs.Accepted.{next_is_judged}
use Rattle.hg_rules.proofs.judging.judge_read.Goals as goal

pub returns : goal.returns
returns c =
    let n : Named = record { source = c.args.source; number = c.args.number; event = Read c.args.access.now } in
    let last : c.last-before.result ≡ slice_index c.args.state.now.last c.args.source = c.last-before.ensures in
    let above : slice_index c.args.state.now.last c.args.source < c.args.number = let l = c.if-number-before.false in omega (arith, last) in
    let near : c.args.number ≤ slice_index c.args.state.now.last c.args.source + 1 = let l = c.if-number-before-gt1.false in omega (arith, last) in
    c.judge_access.ensures.read n.number ∙ next_is_judged (standing c.args.state.now) n above near
