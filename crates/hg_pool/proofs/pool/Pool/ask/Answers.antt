use Rattle.std.proofs.Common.{sym, subst}
use Rattle.hg_pool.specs.Kept.{AreWithin}
use Rattle.hg_pool.specs.Shown.{ShownPool}
use Rattle.hg_pool.proofs.pool.Pool.ask.Goals as goal

pub invariant_of-self : goal.invariant_of-self
invariant_of-self g c = (c.ask.ensures.sound, c.ask.ensures.reached c.self.invariant.1)

pub invariant_of-self-2 : goal.invariant_of-self-2
invariant_of-self-2 g c = (c.ask.ensures.sound, c.ask.ensures.reached c.self.invariant.1)

pub returns-in_err-answer-clause-within : goal.returns-in_err-answer-clause-within
returns-in_err-answer-clause-within g c n m within = c.ask.ensures.within n m (subst (λ (p : ShownPool g.row.D.Denot). AreWithin p.frames n m) (sym c.self.view_is) within)

pub returns-then-not-is_settled-clause-within : goal.returns-then-not-is_settled-clause-within
returns-then-not-is_settled-clause-within g c n m within = c.ask.ensures.within n m (subst (λ (p : ShownPool g.row.D.Denot). AreWithin p.frames n m) (sym c.self.view_is) within)

pub returns-clause-within : goal.returns-clause-within
returns-clause-within g c n m within = c.ask.ensures.within n m (subst (λ (p : ShownPool g.row.D.Denot). AreWithin p.frames n m) (sym c.self.view_is) within)
