use Rattle.std.proofs.Common.{◌≡◌, ◌∙◌, Ok, Err, Result, is_some, sym, ap, subst, arith}
use Rattle.std.specs.Prelude.{◌≢◌, IfErr}
use Rattle.hg_model.specs.declared.verdict.Refusal.{Refusal}
use Rattle.hg_model.specs.declared.verdict.Refusal.TheVariants.{Damaged}
use Rattle.hg_pool.specs.Shown.{ShownPool}
use Rattle.hg_pool.proofs.Stepping.{stays_on, true_on}
use Rattle.hg_pool.proofs.pool.Pool.load_both.Goals as goal

pub returns-clause-stays : goal.returns-clause-stays
returns-clause-stays g c = stays_on g.D.Disk c.args.self.now c.load.new.self c.load-2.new.self c.load.ensures.moves.stays c.load-2.ensures.moves.stays

pub returns-clause-within : goal.returns-clause-within
returns-clause-within g c n m a b within = c.load-2.ensures.within n m a b (c.load.ensures.within n m a b within)

pub returns-in_err-load-clause-undamaged : goal.returns-in_err-load-clause-undamaged
returns-in_err-load-clause-undamaged g c h =
    let same : c.from_residual.result ≡ Err c.in_err-load.field-0.0 = grind arith in
    subst (λ (x : Result (Unit {0}) Refusal). IfErr x (λ r. r ≢ Damaged)) (sym same) (c.in_err-load.ensures.undamaged h.0 (λ w is. h.1 w))

pub returns-clause-undamaged : goal.returns-clause-undamaged
returns-clause-undamaged g c h =
    let there = true_on g.D.Disk c.args.self.now c.load.new.self c.args.segments c.args.sets.now.sets c.load.ensures.moves.stays h in
    c.load-2.ensures.undamaged there.0 (λ w is. there.1 w)

no_ok : (r : Refusal) → ◌≡◌ {A = Result (Unit {0}) Refusal} (Err r) (Ok tt) → ⊥
no_ok r is = absurd (cc)

pub returns-in_err-load-clause-again : goal.returns-in_err-load-clause-again
returns-in_err-load-clause-again g c there = absurd (no_ok c.in_err-load.field-0.0 (c.in_err-load.ensures.again there.0).0)

pub returns-clause-again : goal.returns-clause-again
returns-clause-again g c there =
    let one = c.in_ok-load.ensures.again there.0 in
    let two = c.load-2.ensures.again (ap is_some (one.1.1 c.args.last) ∙ there.1) in
    (two.0, (two.1.0 ∙ ap (λ (p : ShownPool g.row.D.Denot). record p { frames = c.load-2.new.self.frames }) one.1.0, λ q. two.1.1 q ∙ one.1.1 q))
