use Rattle.std.proofs.Common.{◌≡◌, ◌≢◌, Bool, Result, Err, IfErr, arith, subst, sym}
use Rattle.hg_model.specs.declared.verdict.Refusal.{Refusal}
use Rattle.hg_model.specs.declared.verdict.Refusal.TheVariants.{Damaged}
use Rattle.hg_journal.proofs.journal.Journal.find.Goals as goal

pub returns-in_err-turn-clause-whole : goal.returns-in_err-turn-clause-whole
returns-in_err-turn-clause-whole g c lead seen honest h =
    let is : c.from_residual.result ≡ Err c.in_err-turn.field-0.0 = grind arith in
    subst (λ (r : Result Bool Refusal). IfErr r (λ e. e ≢ Damaged)) (sym is) (c.in_err-turn.ensures.whole lead seen honest h)
