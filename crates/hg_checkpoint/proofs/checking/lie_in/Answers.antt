use Rattle.std.proofs.Common.{◌≤◌, ◌+◌, ◌*◌, length, refl}
use Rattle.hg_pages.specs.Files.{disk_of}
use Rattle.hg_root.specs.declared.parts.PageSlot.{PageSlot}
use Rattle.hg_root.proofs.Each.{each_all, each_more}
use Rattle.hg_checkpoint.proofs.checking.lie_in.Goals as goal

abbrev none : PageSlot
none = record { page = 0; slot = 0 }

pub loop-page-preserved : goal.loop-page-preserved
loop-page-preserved g c =
    let size = length (g.D.Disk.state (disk_of c.args.file.now)).contents in
    each_more (λ p. 3080 * p.slot + 3080 ≤ size) c.args.pages.now c.loop-page.page-index none c.loop-page-test.true (c.has_slot.ensures.0 c.if-not-has_slot.false) c.loop-page.invariant

pub returns : goal.returns
returns g c =
    let size = length (g.D.Disk.state (disk_of c.args.file.now)).contents in
    (λ yes. each_all (λ p. 3080 * p.slot + 3080 ≤ size) c.args.pages.now c.loop-page.page-index c.loop-page-test.false c.loop-page.invariant, λ all. refl)
