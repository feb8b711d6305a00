use Rattle.std.proofs.Common.{ℕ, List, sym, subst}
use Rattle.hg_pool.specs.Shown.{Frame}
use Rattle.hg_pool.specs.Kept.{AreWithin}
use Rattle.hg_test_pools.proofs.checkpoint.begin.Goals as goal

pub returns : goal.returns
returns g c n m within = c.write_waiting.ensures n m (subst (λ (frames : List (ℕ × Frame)). AreWithin frames n m) (sym c.freeze.ensures.frames) within)
