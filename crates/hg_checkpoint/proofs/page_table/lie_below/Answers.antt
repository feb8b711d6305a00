use Rattle.std.proofs.Common.{◌<◌, refl, arith}
use Rattle.hg_root.specs.declared.parts.PageSlot.{PageSlot}
use Rattle.hg_root.proofs.Each.{each_all, each_more}
use Rattle.hg_checkpoint.proofs.page_table.lie_below.Goals as goal

abbrev none : PageSlot
none = record { page = 0; slot = 0 }

pub loop-page-preserved : goal.loop-page-preserved
loop-page-preserved c = each_more (λ p. p.slot < c.args.slots) c.args.pages.now c.loop-page.page-index none c.loop-page-test.true (omega arith) c.loop-page.invariant

pub returns : goal.returns
returns c = (λ yes. each_all (λ p. p.slot < c.args.slots) c.args.pages.now c.loop-page.page-index c.loop-page-test.false c.loop-page.invariant, λ all. refl)
