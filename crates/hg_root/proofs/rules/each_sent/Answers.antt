use Rattle.std.proofs.Common.{◌≤◌, refl, arith}
use Rattle.hg_root.specs.declared.parts.SourceCount.{SourceCount}
use Rattle.hg_root.proofs.Each.{each_all, each_more}
use Rattle.hg_root.proofs.rules.each_sent.Goals as goal

abbrev none : SourceCount
none = record { source = 0; last = 0 }

pub loop-source-preserved : goal.loop-source-preserved
loop-source-preserved c = each_more (λ s. (s.source ≤ 1023) × (1 ≤ s.last)) c.args.sources.now c.loop-source.source-index none c.loop-source-test.true (omega arith, omega arith) c.loop-source.invariant

pub returns : goal.returns
returns c = (λ yes. each_all (λ s. (s.source ≤ 1023) × (1 ≤ s.last)) c.args.sources.now c.loop-source.source-index c.loop-source-test.false c.loop-source.invariant, λ all. refl)
