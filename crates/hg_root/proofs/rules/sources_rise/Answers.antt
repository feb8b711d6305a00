use Rattle.std.proofs.Common.{arith, refl}
use Rattle.std.proofs.lemmas.Bool.{false≢true}
use Rattle.std.proofs.lemmas.List.{length-map}
use Rattle.hg_root.specs.declared.parts.SourceCount.{SourceCount}
use Rattle.hg_root.proofs.Rising.{rises_not, rises_on}
use Rattle.hg_root.proofs.rules.sources_rise.Goals as goal

abbrev none : SourceCount
none = record { source = 0; last = 0 }

pub returns-then-sources-i : goal.returns-then-sources-i
returns-then-sources-i c = (λ yes. absurd (false≢true yes), λ rises. absurd (rises_not (λ x. x.source) c.args.sources.now c.loop-i.i none (omega arith) c.loop-i-test.true c.if-sources-i.true rises))

pub loop-i-preserved : goal.loop-i-preserved
loop-i-preserved c = rises_on (λ x. x.source) c.args.sources.now c.loop-i.i none (omega arith) c.loop-i-test.true c.if-sources-i.false c.loop-i.invariant

pub returns : goal.returns
returns c = (λ _ k lt. c.loop-i.invariant k (omega (arith, length-map c.args.sources.now (λ (x : SourceCount). x.source))), λ _. refl)
