use Rattle.std.proofs.Common.{arith}
use Rattle.hg_root.specs.declared.parts.SourceCount.{SourceCount}
use Rattle.hg_root.proofs.Each.{front_sum}
use Rattle.hg_root.proofs.rules.add_up.Goals as goal

abbrev none : SourceCount
none = record { source = 0; last = 0 }

pub returns-then-source-events : goal.returns-then-source-events
returns-then-source-events c = (λ yes. absurd cc, λ is. absurd (omega (arith, is, c.loop-source.invariant.sum, c.loop-source.invariant.within, c.if-source-events.true, front_sum (λ s. s.last) c.args.sources.now c.loop-source.source-index none c.loop-source-test.true)))
