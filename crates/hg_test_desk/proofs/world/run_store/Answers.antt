use Rattle.std.proofs.Common.{ap, refl}
use Rattle.hg_test_desk.proofs.world.run_store.Goals as goal

pub run_over-requires-clause-opening : goal.run_over-requires-clause-opening
run_over-requires-clause-opening c = (ap (λ content. content.events) c.in-Some.ensures.has, refl)
