use Rattle.hg_pool.proofs.pool.Pool.keep.Goals as goal

pub invariant_of-self : goal.invariant_of-self
invariant_of-self g c = (c.keep_page.ensures.sound, c.keep_page.ensures.reached c.self.invariant.1)
