use Rattle.std.proofs.Common.{◌<◌, ◌≤◌, get_or, length, arith}
use Rattle.std.proofs.lemmas.Option.{slice_get-get_or}
use Rattle.hg_root.specs.declared.parts.PageSlot.{PageSlot}
use Rattle.hg_checkpoint.proofs.Runs.{gap, one_more}
use Rattle.hg_checkpoint.proofs.checking.run_length.Goals as goal

abbrev none : PageSlot
none = record { page = 0; slot = 0 }

pub returns-then-pages-count : goal.returns-then-pages-count
returns-then-pages-count c =
    let pages = c.args.pages.now in
    let count = c.loop-count.count in
    record {
      some = omega (arith, c.loop-count.auto.count);
      within = omega (arith, c.loop-count-test.true, c.min-most.ensures);
      most = omega (arith, c.loop-count-test.true, c.min-most.ensures);
      run = c.loop-count.invariant;
      longest = λ inside room.
          gap pages count (get_or pages 0 none) (get_or pages count none) (slice_get-get_or pages 0 none (omega (arith, c.requires))) (slice_get-get_or pages count none inside) c.if-pages-count.true;
    }

pub loop-count-preserved : goal.loop-count-preserved
loop-count-preserved c =
    let pages = c.args.pages.now in
    let count = c.loop-count.count in
    let some : 1 ≤ count = omega (arith, c.loop-count.auto.count) in
    let inside : count < length pages = omega (arith, c.loop-count-test.true, c.min-most.ensures) in
    one_more pages count (get_or pages 0 none) (get_or pages count none) some (slice_get-get_or pages 0 none (omega (arith, c.requires))) (slice_get-get_or pages count none inside) c.if-pages-count.false c.loop-count.invariant
