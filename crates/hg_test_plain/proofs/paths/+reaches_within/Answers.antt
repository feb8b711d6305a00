use Rattle.std.proofs.Common.{sym, ◌∙◌}
use Rattle.hg_test_plain.proofs.Reaching.{reached_by, reached_by_none}
use Rattle.hg_test_plain.proofs.paths.+reaches_within.Goals as goal

pub returns-then-reaches_within : goal.returns-then-reaches_within
returns-then-reaches_within t c =
    reached_by c.args.segments.now c.args.edges c.args.from c.args.to c.loop-middle.middle-index 0 c.before-middle-items.result.now
    c.before-middle-items.ensures c.if-edges-eq0.false c.loop-middle-test.true (sym c.if-reaches_within.true ∙ c.reaches_within.ensures)

pub returns : goal.returns
returns t c =
    reached_by_none c.args.segments.now c.args.edges c.args.from c.args.to c.loop-middle.middle-index c.before-middle-items.result.now
    c.before-middle-items.ensures c.if-edges-eq0.false c.if-from-to.false c.loop-middle-test.false c.loop-middle.invariant
