use Rattle.hg_pool.proofs.pool.Pool.root_opened.Goals as goal

pub invariant_of-self : goal.invariant_of-self
invariant_of-self g c = (c.root_opened.ensures.sound, c.root_opened.ensures.reached c.self.invariant.1)
