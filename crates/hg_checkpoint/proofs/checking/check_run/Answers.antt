use Rattle.std.proofs.Common.{◌≡◌, ◌∙◌, Err, get_or, sym, arith}
use Rattle.std.proofs.lemmas.Bool.{false≢true}
use Rattle.std.proofs.lemmas.Option.{slice_get-get_or}
use Rattle.hg_pages.specs.Files.{known}
use Rattle.hg_pages.specs.declared.fault.SlotFault.TheVariants.{Damaged}
use Rattle.hg_root.specs.declared.parts.PageSlot.{PageSlot}
use Rattle.hg_checkpoint.proofs.Runs.{each_here, each_there, none_outside}
use Rattle.hg_checkpoint.proofs.checking.check_run.Goals as goal

abbrev none : PageSlot
none = record { page = 0; slot = 0 }

pub returns-in_err-read_run-clause-damaged : goal.returns-in_err-read_run-clause-damaged
returns-in_err-read_run-clause-damaged g c honest told all =
    let pages = c.args.pages.now in
    let same : c.in_err-read_run.field-0.0 ≡ Damaged = grind arith in
    none_outside c.args.segments c.args.sets.now.sets (known g.D.Disk c.args.file.now) pages (get_or pages 0 none) c.requires.some (slice_get-get_or pages 0 none c.requires.some) c.requires.run
    (c.in_err-read_run.ensures.damaged (λ i. Err (same i))) all

pub returns-then-not-has_each_page-clause-damaged : goal.returns-then-not-has_each_page-clause-damaged
returns-then-not-has_each_page-clause-damaged g c honest told all =
    let pages = c.args.pages.now in
    let each = each_here c.args.segments c.args.sets.now.sets c.read_run.new.run (known g.D.Disk c.args.file.now) pages (get_or pages 0 none) (slice_get-get_or pages 0 none c.requires.some) c.requires.run (c.in_ok-read_run.ensures.read honest) all in
    false≢true (sym c.if-not-has_each_page.true ∙ c.has_each_page.ensures.1 each)

pub returns-clause-stands : goal.returns-clause-stands
returns-clause-stands g c honest =
    let pages = c.args.pages.now in
    each_there c.args.segments c.args.sets.now.sets c.read_run.new.run (known g.D.Disk c.args.file.now) pages (get_or pages 0 none) (slice_get-get_or pages 0 none c.requires.some) c.requires.run (c.in_ok-read_run.ensures.read honest)
    (c.has_each_page.ensures.0 c.if-not-has_each_page.false)
