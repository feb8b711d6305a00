use Rattle.std.proofs.Common.{◌≡◌, ◌+◌, ◌*◌, ◌/◌, ◌<◌, ℕ, true, is_some, subst, sym, arith}
use Rattle.hg_cells.specs.Paged.{page_of}
use Rattle.hg_saved.proofs.Putting.{first_word, one_more}
use Rattle.hg_saved.proofs.pages.put_page.Goals as goal

pub loop-place-init : goal.loop-place-init
loop-place-init c =
    let page = c.args.page in
    let first : 256 * page / 256 ≡ page = omega arith in (
      subst (λ (n : ℕ). is_some (page_of c.keep.new.self n) ≡ true) first (c.in_ok-keep.ensures.kept (256 * page) (first_word page)),
      record { inside = λ i none. absurd (omega (arith, none)); outside = λ w apart. c.keep.ensures.cells w },
    )

pub loop-place-preserved : goal.loop-place-preserved
loop-place-preserved c =
    let page = c.args.page in
    let place = c.loop-place.place in
    let small : place < 256 = omega (arith, c.loop-place-test.true) in
    let word = page * 256 + place in
    let at : word / 256 ≡ page = omega (arith, small) in (
      subst (λ (n : ℕ). is_some (page_of c.set.new.self n) ≡ true) at (c.set.ensures.kept word (subst (λ (n : ℕ). is_some (page_of c.loop-place.words n) ≡ true) (sym at) c.loop-place.invariant.0)),
      one_more page c.args.cells.now place word c.get.result c.args.words.now c.loop-place.words c.set.new.self small (omega arith) c.get.ensures.cell c.loop-place.invariant.1 c.set.ensures.cells,
    )
