use Rattle.std.proofs.Common.{◌≡◌, ◌+◌, ◌<◌, ◌^◌, rules, arith, ◌∙◌}
use Rattle.hg_parts.specs.Numbers.{number_at}
use Rattle.hg_parts.proofs.Numbers.{line_at_place}
use Rattle.hg_parts.proofs.judging.ending_of.Goals as goal

pub line_at-requires : goal.line_at-requires
line_at-requires c =
    let b = c.args.batch.now in
    let at = line_at_place b.runs.items b.greatest c.args.stop.now.place b.lines c.requires.within b.numbered in
    let number : number_at c.deref.result.now c.place_in-place.result ≡ at.line.line = (λ i. number_at (c.deref.ensures.value i) (c.place_in-place.ensures i)) ∙ at.number in
    let below = at.below in
    let fits = c.requires.fits in
    omega (arith, number, below, fits)

pub overflow_add-result : goal.overflow_add-result
overflow_add-result c =
    let b = c.args.batch.now in
    let at = line_at_place b.runs.items b.greatest c.args.stop.now.place b.lines c.requires.within b.numbered in
    let number : number_at c.deref.result.now c.place_in-place.result ≡ at.line.line = (λ i. number_at (c.deref.ensures.value i) (c.place_in-place.ensures i)) ∙ at.number in
    let below = at.below in
    let fits = c.requires.fits in
    let is = c.line_at.ensures in
    let sum : c.args.lines + c.line_at.result < 2 ^ 64 = omega (arith, number, below, fits, is) in
    search rules
