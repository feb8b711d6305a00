use Rattle.hg_test_pools.proofs.checkpoint.checkpoint.Goals as goal

pub returns : goal.returns
returns g c n m within = c.begin.ensures n m (c.end.ensures n m within)
