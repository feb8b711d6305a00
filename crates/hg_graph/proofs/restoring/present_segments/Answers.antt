use Rattle.std.proofs.Common.{◌≡◌, refl, arith}
use Rattle.hg_model.specs.Segments.{thread_at}
use Rattle.hg_graph.proofs.Lawful.{first_table, tabled, thread_small}
use Rattle.hg_graph.proofs.Sweeping.{thread_read}
use Rattle.hg_graph.proofs.restoring.present_segments.Goals as goal

pub loop-number-init : goal.loop-number-init
loop-number-init c = first_table c.args.segments.now c.in_ok-table.table.items 1024 refl (c.in_ok-table.ensures.items_if_clones_equal (λ y h. h))

pub index_mut-requires : goal.index_mut-requires
index_mut-requires c =
    let of_it : c.from.result ≡ thread_at c.args.segments.now c.loop-number.number = thread_read c.args.segments.now c.loop-number.number _ _ c.loop-number-test.true c.from.ensures in
    let small = thread_small c.args.segments.now c.requires.lawful c.loop-number.number c.loop-number-test.true in
    let rows = c.loop-number.invariant.rows in
    omega arith

pub loop-number-preserved : goal.loop-number-preserved
loop-number-preserved c =
    let of_it : c.from.result ≡ thread_at c.args.segments.now c.loop-number.number = thread_read c.args.segments.now c.loop-number.number _ _ c.loop-number-test.true c.from.ensures in
    let small = thread_small c.args.segments.now c.requires.lawful c.loop-number.number c.loop-number-test.true in
    tabled c.args.segments.now c.loop-number.number c.from.result c.loop-number.table.items c.loop-number.invariant c.loop-number-test.true of_it (omega arith)
