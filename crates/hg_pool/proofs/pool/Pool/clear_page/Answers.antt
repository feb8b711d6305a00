use Rattle.hg_pool.proofs.pool.Pool.clear_page.Goals as goal

pub returns-else-from-eq0-clause-within : goal.returns-else-from-eq0-clause-within
returns-else-from-eq0-clause-within g c n m within = c.fill_page.ensures.within n m tt within
