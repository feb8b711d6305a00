use Rattle.std.proofs.Common.{◌≡◌, All, Err, List, ℕ, length, sym, subst, arith, rules}
use Rattle.hg_pages.specs.Files.{known}
use Rattle.hg_model.specs.declared.verdict.Refusal.TheVariants.{Damaged}
use Rattle.hg_root.specs.Roots.{parts_of}
use Rattle.hg_root.specs.declared.parts.PageSlot.{PageSlot}
use Rattle.hg_checkpoint.specs.NamedPages.{HasSomePage}
use Rattle.hg_checkpoint.proofs.Pages.{each_stands, standing}
use Rattle.hg_saved.proofs.Taking.{words_by}
use Rattle.hg_saved.proofs.pages.words_of.Goals as goal

pub returns-in_err-take_pages-clause-damaged : goal.returns-in_err-take_pages-clause-damaged
returns-in_err-take_pages-clause-damaged g c honest told has =
    let root = c.args.root.now in
    let slots = known g.D.Disk c.args.file.now in
    let same : c.in_err-take_pages.field-0.0 ≡ Damaged = grind arith in
    let segments : c.len-segments.result ≡ length root.segments.items = search rules in
    c.in_err-take_pages.ensures.damaged honest (λ i. Err (same i))
    (subst (λ (n : ℕ). All (HasSomePage n root.sets.sets slots) c.deref.result.now) (sym segments)
    (subst (λ (l : List PageSlot). All (HasSomePage (length root.segments.items) root.sets.sets slots) l) (sym c.deref.ensures.value) (each_stands (parts_of root) slots has)))

pub returns-clause-cells : goal.returns-clause-cells
returns-clause-cells g c honest =
    let root = c.args.root.now in
    let slots = known g.D.Disk c.args.file.now in
    let segments : c.len-segments.result ≡ length root.segments.items = search rules in
    words_by (parts_of root) slots c.len-segments.result c.deref.result.now c.in_ok-words.words c.take_pages.new.words segments c.deref.ensures.value c.in_ok-words.ensures.fresh (c.in_ok-take_pages.ensures.taken honest)

pub returns-clause-stands : goal.returns-clause-stands
returns-clause-stands g c honest =
    let root = c.args.root.now in
    let slots = known g.D.Disk c.args.file.now in
    let segments : c.len-segments.result ≡ length root.segments.items = search rules in
    standing (parts_of root) slots c.requires.pages
    (subst (λ (n : ℕ). All (HasSomePage n root.sets.sets slots) root.pages.items) segments
    (subst (λ (l : List PageSlot). All (HasSomePage c.len-segments.result root.sets.sets slots) l) c.deref.ensures.value (c.in_ok-take_pages.ensures.stands honest)))
