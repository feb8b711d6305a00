use Rattle.std.proofs.Common.{◌++◌, ◌∙◌, ap, arith}
use Rattle.std.proofs.lemmas.Result.{on_ok_weaker}
use Rattle.hg_check.proofs.Lines.{more_line}
use Rattle.hg_check.proofs.explain.event_line.hold_more.Goals as goal

pub returns-clause-ok : goal.returns-clause-ok
returns-clause-ok c =
    on_ok_weaker c.hold_all.result
    (λ e. e ∙ ap (λ t. c.args.held.now.items ++ t) (more_line c.args.more _ _ (omega (arith, c.if-more-eq0.false)) (c.as_bytes.ensures.value ∙ c.format.ensures.text) c.as_slice.ensures))
    c.hold_all.ensures.ok
