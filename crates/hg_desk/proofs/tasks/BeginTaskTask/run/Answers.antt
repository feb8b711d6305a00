use Rattle.std.proofs.Common.{rules, ◌≡◌, ◌∙◌, ◌∷◌, inl, inr, ℕ, List, Result, Err, ap, refl, sym, subst}
use Rattle.hg_store.specs.declared.steps.StepFault.{StepFault}
use Rattle.hg_store.specs.declared.steps.Step.TheVariants.{Freeze}
use Rattle.hg_store.specs.declared.steps.StepResult.TheVariants.{Frozen}
use Rattle.hg_desk.specs.Told.{FreezesBehind, Listed, by_freeze}
use Rattle.hg_desk.proofs.tasks.BeginTaskTask.run.Goals as goal

pub returns-in_err-count-clause-steps : goal.returns-in_err-count-clause-steps
returns-in_err-count-clause-steps g c = record {
  mid = c.commit.new.core;
  told_mid = c.commit.new.share;
  committed = c.commit.result;
  commit = c.commit.ensures;
  freeze = subst (λ (r : Result ℕ StepFault). FreezesBehind g.D.Disk r c.commit.new.core c.commit.new.core c.commit.new.share c.commit.new.share c.from_residual.result) (sym c.in_err-count.was) (refl, refl, search rules);
}

pub returns-in_err-freeze-clause-steps : goal.returns-in_err-freeze-clause-steps
returns-in_err-freeze-clause-steps g c =
    let told : c.from_residual-in_err-freeze.result ≡ Err c.in_err-freeze.field-0.0 = search rules in record {
      mid = c.commit.new.core;
      told_mid = c.commit.new.share;
      committed = c.commit.result;
      commit = c.commit.ensures;
      freeze = subst (λ (r : Result ℕ StepFault). FreezesBehind g.D.Disk r c.commit.new.core c.freeze.new.self c.commit.new.share c.freeze.new.share c.from_residual-in_err-freeze.result) (sym c.in_ok-count.was) (c.freeze.result, c.freeze.ensures, told ∙ ap (by_freeze c.in_ok-count.count) (sym c.in_err-freeze.was));
    }

pub returns-in_err-count-clause-promise : goal.returns-in_err-count-clause-promise
returns-in_err-count-clause-promise g c = (search rules, search rules, inl c.commit.ensures.1.steps)

pub returns-in_err-freeze-clause-promise : goal.returns-in_err-freeze-clause-promise
returns-in_err-freeze-clause-promise g c = (
  search rules,
  search rules,
  inr (c.freeze.result, c.freeze.ensures.steps ∙ ap (λ (l : List Listed). record { step = Freeze; result = Frozen c.freeze.result } ∷ l) c.commit.ensures.1.steps),
)

pub returns-clause-promise : goal.returns-clause-promise
returns-clause-promise g c = (
  search rules,
  search rules,
  inr (c.freeze.result, c.freeze.ensures.steps ∙ ap (λ (l : List Listed). record { step = Freeze; result = Frozen c.freeze.result } ∷ l) c.commit.ensures.1.steps),
)
