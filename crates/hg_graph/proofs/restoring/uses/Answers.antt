use Rattle.std.proofs.Common.{arith}
use Rattle.hg_graph.proofs.Lawful.{lawful_rising}
use Rattle.hg_graph.proofs.Needing.{uses_more, uses_none}
use Rattle.hg_graph.proofs.restoring.uses.Goals as goal

pub loop-number-init : goal.loop-number-init
loop-number-init c = uses_none c.args.segments.now c.in_ok-late.late.items (lawful_rising c.args.segments.now c.requires.lawful) (c.in_ok-late.ensures.items_if_clones_equal (λ y h. h))

pub index_mut-requires : goal.index_mut-requires
index_mut-requires c =
    let rows = c.loop-number.invariant.rows in
    let first = c.ends-a.ensures.first in
    omega (arith, c.loop-number.late.ok.0, c.loop-number-test.true)

pub index_mut-requires-in-loop-number : goal.index_mut-requires-in-loop-number
index_mut-requires-in-loop-number c =
    let rows = c.loop-number.invariant.rows in
    let last = c.ends-a.ensures.last in
    omega (arith, c.loop-number.late.ok.0, c.loop-number-test.true)

pub loop-number-preserved : goal.loop-number-preserved
loop-number-preserved c =
    let first = c.ends-a.ensures.first in
    let last = c.ends-a.ensures.last in
    uses_more c.args.segments.now c.loop-number.number c.ends-a.result.0 c.ends-a.result.1 c.loop-number.late.items c.loop-number.invariant c.ends-a.ensures.ends (omega (arith, c.loop-number-test.true)) (omega (arith, c.loop-number-test.true))
