use Rattle.std.proofs.Common.{refl, arith}
use Rattle.hg_shards.proofs.Routing.{routed_none}
use Rattle.hg_shards.proofs.routes.Routes.new.Goals as goal

pub invariant_of-result : goal.invariant_of-result
invariant_of-result c = record { some = let some = c.requires in let len = c.loop.invariant.0 in let end = c.loop-test.false in omega (arith, some, len, end) }

pub returns-clause-none : goal.returns-clause-none
returns-clause-none c = routed_none _ c.loop.counter refl c.in_ok-with_capacity-2.ensures.items c.loop.invariant.1
