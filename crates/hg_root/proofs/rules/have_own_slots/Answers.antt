use Rattle.std.proofs.Common.{true, false, refl, arith}
use Rattle.hg_root.specs.declared.parts.PageSlot.{PageSlot}
use Rattle.hg_root.proofs.Each.{one_more, own_all, read_at, twice}
use Rattle.hg_root.proofs.rules.have_own_slots.Goals as goal

abbrev none : PageSlot
none = record { page = 0; slot = 0 }

pub returns-then-index : goal.returns-then-index
returns-then-index c = (
  λ yes. absurd cc,
  λ all.
      let small = c.requires c.loop-page.page-index none c.loop-page-test.true in
      absurd (twice c.args.pages.now c.loop-page.page-index none c.loop-page.taken.items c.args.most c.loop-page-test.true small
      (read_at c.loop-page.taken.items _ c.index.result.now false true (let len = c.loop-page.invariant.len in omega (arith, small, len)) c.index.ensures c.if-index.true) c.loop-page.invariant all),
)

pub loop-page-preserved : goal.loop-page-preserved
loop-page-preserved c =
    let small = c.requires c.loop-page.page-index none c.loop-page-test.true in
    one_more c.args.pages.now c.loop-page.page-index none c.loop-page.taken.items c.args.most c.loop-page-test.true small
    (read_at c.loop-page.taken.items _ c.index.result.now false false (let len = c.loop-page.invariant.len in omega (arith, small, len)) c.index.ensures c.if-index.false) c.loop-page.invariant

pub returns : goal.returns
returns c = (λ yes. own_all c.args.pages.now c.loop-page.page-index c.loop-page.taken.items c.args.most c.loop-page-test.false c.loop-page.invariant, λ all. refl)
