use Rattle.std.proofs.Common.{◌≡◌, ◌+◌, ◌∙◌, Err, IsTrue, List, ℕ, get_or, length, sym, subst, arith}
use Rattle.hg_pages.specs.Files.{disk_of, known}
use Rattle.hg_model.specs.declared.verdict.Refusal.TheVariants.{Damaged}
use Rattle.hg_root.proofs.Each.{each_all, each_more}
use Rattle.hg_root.specs.declared.parts.PageSlot.{PageSlot}
use Rattle.hg_checkpoint.specs.NamedPages.{HasSomePage}
use Rattle.hg_checkpoint.proofs.Calling.{at_most, read_on}
use Rattle.hg_saved.specs.Words.{TakesPage}
use Rattle.hg_saved.proofs.Taking.{all_taken, one_more}
use Rattle.hg_saved.proofs.pages.take_pages.Goals as goal

abbrev none : PageSlot
none = record { page = 0; slot = 0 }

pub returns-in_err-take_page-clause-damaged : goal.returns-in_err-take_page-clause-damaged
returns-in_err-take_page-clause-damaged g c honest told all =
    let same : c.in_err-take_page.field-0.0 ≡ Damaged = grind arith in
    let index = c.loop-page.page-index in
    c.in_err-take_page.ensures.damaged honest (λ i. Err (same i))
    (subst (λ (l : List ℕ). HasSomePage c.args.segments c.args.sets.now.sets l (get_or c.args.pages.now index none)) (sym c.loop-page.invariant.read.known) (all index none c.loop-page-test.true))

pub returns-in_err-take_page-clause-read : goal.returns-in_err-take_page-clause-read
returns-in_err-take_page-clause-read g c =
    let index = c.loop-page.page-index in
    let old = c.args.file.now in
    at_most g.D.Disk (index + 1) (length c.args.pages.now) old c.take_page.new.file (omega (arith, c.loop-page-test.true))
    (read_on g.D.Disk index 1 old c.loop-page.file c.take_page.new.file c.loop-page.invariant.read c.take_page.ensures.read)

pub loop-page-preserved : goal.loop-page-preserved
loop-page-preserved g c =
    let segments = c.args.segments in
    let sets = c.args.sets.now.sets in
    let pages = c.args.pages.now in
    let index = c.loop-page.page-index in
    let old = c.args.file.now in
    let before = c.loop-page.invariant in
    let taken : IsTrue (g.D.Disk.reads_were_true (disk_of c.take_page.new.file)) → TakesPage segments sets (known g.D.Disk old) (get_or pages index none) c.loop-page.words c.take_page.new.words =
    λ honest. subst (λ (l : List ℕ). TakesPage segments sets l (get_or pages index none) c.loop-page.words c.take_page.new.words) before.read.known (c.in_ok-take_page.ensures.taken honest) in
    record {
      taken = λ honest. one_more segments sets (known g.D.Disk old) pages index none c.args.words.now c.loop-page.words c.take_page.new.words c.loop-page-test.true (taken honest) (before.taken (c.take_page.ensures.read.any_moment.kept honest));
      within = λ was. c.in_ok-take_page.ensures.within (before.within was);
      stands = λ honest.
          let one = taken honest in
          each_more (HasSomePage segments sets (known g.D.Disk old)) pages index none c.loop-page-test.true (one.0, one.1) (before.stands (c.take_page.ensures.read.any_moment.kept honest));
      read = read_on g.D.Disk index 1 old c.loop-page.file c.take_page.new.file before.read c.take_page.ensures.read;
      failures = c.in_ok-take_page.ensures.device ∙ before.failures;
    }

pub returns-clause-taken : goal.returns-clause-taken
returns-clause-taken g c honest =
    all_taken c.args.segments c.args.sets.now.sets (known g.D.Disk c.args.file.now) c.args.pages.now c.loop-page.page-index c.args.words.now c.loop-page.words c.loop-page-test.false (c.loop-page.invariant.taken honest)

pub returns-clause-stands : goal.returns-clause-stands
returns-clause-stands g c honest =
    each_all (HasSomePage c.args.segments c.args.sets.now.sets (known g.D.Disk c.args.file.now)) c.args.pages.now c.loop-page.page-index c.loop-page-test.false (c.loop-page.invariant.stands honest)
