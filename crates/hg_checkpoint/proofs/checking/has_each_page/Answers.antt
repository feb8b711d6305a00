use Rattle.std.proofs.Common.{get_or, refl, arith}
use Rattle.std.proofs.lemmas.Bool.{false≢true}
use Rattle.std.proofs.lemmas.Option.{slice_get-get_or, slice_get_within}
use Rattle.hg_root.specs.declared.parts.PageSlot.{PageSlot}
use Rattle.hg_checkpoint.specs.Runs.{HasPageAt}
use Rattle.hg_checkpoint.proofs.Runs.{place_more}
use Rattle.hg_checkpoint.proofs.checking.has_each_page.Goals as goal

abbrev none : PageSlot
none = record { page = 0; slot = 0 }

pub returns-then-not-read_page : goal.returns-then-not-read_page
returns-then-not-read_page c = (
  λ no. absurd (false≢true no),
  λ each.
      let pages = c.args.pages.now in
      let place = c.loop-place.place in
      let page = each place (get_or pages place none) (slice_get-get_or pages place none (omega (arith, c.loop-place-test.true))) in
      absurd (c.if-not-read_page.ensures.no refl page.0 page.1 page.2),
)

pub loop-place-preserved : goal.loop-place-preserved
loop-place-preserved c =
    let is = c.if-not-read_page.ensures.yes refl in
    place_more (HasPageAt c.args.segments c.args.sets.now.sets c.args.run.now) c.args.pages.now c.loop-place.place none (omega (arith, c.loop-place-test.true)) (c.read_page.new.cells, is.0, is.1) c.loop-place.invariant

pub returns : goal.returns
returns c = (λ _ place p is. c.loop-place.invariant place p (omega (arith, c.loop-place-test.false, slice_get_within c.args.pages.now place p is)) is, λ _. refl)
