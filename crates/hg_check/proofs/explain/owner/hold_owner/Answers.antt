use Rattle.std.proofs.Common.{refl}
use Rattle.std.proofs.lemmas.Result.{on_ok_weaker}
use Rattle.hg_check.proofs.Owners.{by_mark, by_none}
use Rattle.hg_check.proofs.explain.owner.hold_owner.Goals as goal

pub returns-then-entry-owner-clause-ok : goal.returns-then-entry-owner-clause-ok
returns-then-entry-owner-clause-ok c =
    by_none c.args.held.now.items c.hold_two.new.held.items c.args.detector.now.segments c.graph.result.now c.args.owner c.args.next c.in_ok-entry.entry c.if-owner-next.false c.graph.ensures c.in_ok-entry.ensures.value c.if-entry-owner.true
    c.in_ok-hold_two.ensures.ok

pub returns-clause-ok : goal.returns-clause-ok
returns-clause-ok c =
    on_ok_weaker c.hold_message.result
    (λ e. by_mark c.args.held.now.items c.hold_two.new.held.items c.hold_message.new.held.items c.args.detector.now.segments c.graph.result.now c.segments.result.now _ _ c.args.owner c.args.next c.in_ok-entry.entry c.if-owner-next.false
    c.graph.ensures c.segments.ensures.value c.in_ok-entry.ensures.value c.if-entry-owner.false c.in_ok-entry.ensures.within refl c.in_ok-hold_two.ensures.ok e)
    c.hold_message.ensures.ok
