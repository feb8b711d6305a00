use Rattle.std.proofs.Common.{arith, refl}
use Rattle.std.proofs.lemmas.Bool.{false≢true}
use Rattle.std.proofs.lemmas.List.{length-map}
use Rattle.hg_root.specs.declared.parts.PageSlot.{PageSlot}
use Rattle.hg_root.proofs.Rising.{rises_not, rises_on}
use Rattle.hg_root.proofs.rules.pages_rise.Goals as goal

abbrev none : PageSlot
none = record { page = 0; slot = 0 }

pub returns-then-pages-i : goal.returns-then-pages-i
returns-then-pages-i c = (λ yes. absurd (false≢true yes), λ rises. absurd (rises_not (λ x. x.page) c.args.pages.now c.loop-i.i none (omega arith) c.loop-i-test.true c.if-pages-i.true rises))

pub loop-i-preserved : goal.loop-i-preserved
loop-i-preserved c = rises_on (λ x. x.page) c.args.pages.now c.loop-i.i none (omega arith) c.loop-i-test.true c.if-pages-i.false c.loop-i.invariant

pub returns : goal.returns
returns c = (λ _ k lt. c.loop-i.invariant k (omega (arith, length-map c.args.pages.now (λ (x : PageSlot). x.page))), λ _. refl)
