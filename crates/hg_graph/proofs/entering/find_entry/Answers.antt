use Rattle.std.proofs.Common.{◌<◌, ◌+◌, length, sym, ◌∙◌, subst, arith}
use Rattle.hg_graph.proofs.Behind.{behind_both, enters, enters_next, entry_early, entry_found, not_behind_reached, not_behind_thread, other_thread, reached_is, same_thread, Enters}
use Rattle.hg_graph.proofs.entering.find_entry.Goals as goal
use Rattle.hg_graph.proofs.entering.find_entry.Goals.{else-is_reached-via-then-is_reached+else-segments-at, else-is_reached-via-else-is_reached}

pub returns-then-to-from-clause-value : goal.returns-then-to-from-clause-value
returns-then-to-from-clause-value c = entry_early c.args.segments.now c.requires.rising c.args.from c.args.to c.if-to-from.true

pub loop-at-init : goal.loop-at-init
loop-at-init c = enters c.args.segments.now c.requires.rising c.args.from c.args.to _ (omega (arith, c.if-to-from.false)) c.in_ok-reached.ensures.items

pub returns-then-segments-at-clause-value : goal.returns-then-segments-at-clause-value
returns-then-segments-at-clause-value c =
    let segments = c.args.segments.now in
    let lt : c.loop-at.at < length segments = omega (arith, c.loop-at-test.true, c.requires.within) in
    let is = reached_is segments c.requires.rising c.args.from c.args.to c.loop-at.at c.loop-at.reached.items _ _ _ _ c.loop-at.invariant lt c.deref.ensures.value c.as_slice.ensures c.goes_on-is_reached.ensures in
    entry_found segments c.args.from c.args.to c.loop-at.at c.loop-at.reached.items c.loop-at.invariant c.loop-at-test.true
    (behind_both segments c.args.from c.args.to c.loop-at.at (same_thread segments c.loop-at.at c.args.to _ _ lt c.requires.within c.if-segments-at.true) (sym is ∙ c.if-is_reached.true))

pub loop-at-preserved : goal.loop-at-preserved
loop-at-preserved c =
    let segments = c.args.segments.now in
    let lt : c.loop-at.at < length segments = omega (arith, c.loop-at-test.true, c.requires.within) in
    let is = reached_is segments c.requires.rising c.args.from c.args.to c.loop-at.at c.loop-at.reached.items _ _ _ _ c.loop-at.invariant lt c.deref.ensures.value c.as_slice.ensures c.goes_on-is_reached.ensures in
    subst (Enters segments c.args.from c.args.to (c.loop-at.at + 1)) (sym c.in_ok-push.ensures.items)
    (enters_next segments c.requires.rising c.args.from c.args.to c.loop-at.at c.loop-at.reached.items _ c.loop-at.invariant c.loop-at-test.true is
    (elim c.else-is_reached.branch [
      | else-is_reached-via-then-is_reached+else-segments-at w ↦ not_behind_thread segments c.args.from c.args.to c.loop-at.at (other_thread segments c.loop-at.at c.args.to _ _ lt c.requires.within w.if-segments-at.false)
      | else-is_reached-via-else-is_reached w ↦ not_behind_reached segments c.args.from c.args.to c.loop-at.at (sym is ∙ w.if-is_reached.false)
    ]))
