use Rattle.hg_pool.proofs.pool.Pool.update.Goals as goal

pub invariant_of-self : goal.invariant_of-self
invariant_of-self g c = (c.update.ensures.sound, c.update.ensures.reached c.self.invariant.1)
