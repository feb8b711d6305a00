-- A list of steps goes on by one step, whatever the devices are.
use Rattle.std.proofs.Common.{◌≡◌, ◌∷◌, [], ◌++◌, List, refl, sym, ap, ◌∙◌, subst, map}
use Rattle.std.proofs.lemmas.List.{map-append}
use Rattle.hg_disk.specs.declared.disk.Disk as disk
use Rattle.hg_store.specs.declared.steps.Step.{Step}
use Rattle.hg_store.specs.declared.steps.StepResult.{StepResult}
use Rattle.hg_store.specs.Images.{failures_of}
use Rattle.hg_store.specs.Doing.{StepDone, fails_by}
use Rattle.hg_store.specs.Runs.{LeadsOn, StepsDone, Told, begins}
use Rattle.hg_store.specs.Shown.{ShownStore}

module _ {D : Type 0} (g : disk.Ghosts D) (s new : ShownStore D) (step : Step) (result : StepResult) where
  begins_more : (told : Told D) → begins (told ++ (s, result) ∷ []) new ≡ begins told s
  begins_more [] = refl
  begins_more (a ∷ told) = refl

  leads_more : (steps : List Step) (told : Told D) → LeadsOn g steps told s → StepDone g s new step result → failures_of g new.devices ≡ fails_by result (failures_of g s.devices)
      → LeadsOn g (steps ++ step ∷ []) (told ++ (s, result) ∷ []) new
  leads_more [] [] leads done failed = (done, failed, tt)
  leads_more [] (a ∷ told) leads done failed = absurd leads
  leads_more (x ∷ steps) [] leads done failed = absurd leads
  leads_more (x ∷ steps) (a ∷ told) leads done failed = (
    subst (λ (end : ShownStore D). StepDone g a.0 end x a.1) (sym (begins_more told)) leads.0,
    subst (λ (end : ShownStore D). failures_of g end.devices ≡ fails_by a.1 (failures_of g a.0.devices)) (sym (begins_more told)) leads.1,
    leads_more steps told leads.2 done failed,
  )

  pub steps_more : (old : ShownStore D) (steps : List Step) (told : Told D) → StepsDone g old s steps told → StepDone g s new step result → failures_of g new.devices ≡ fails_by result (failures_of g s.devices)
      → StepsDone g old new (steps ++ step ∷ []) (told ++ (s, result) ∷ [])
  steps_more old steps told so_far done failed = record { first = begins_more told ∙ so_far.first; each = leads_more steps told so_far.each done failed }

  -- the steps go on by one, whose answer is pushed
  pub steps_turn : {A : Type 0} (began : A → ShownStore D) (answered : A → StepResult) (old : ShownStore D) (steps more : List Step) (answers new_answers : List A) (a : A)
      → more ≡ steps ++ step ∷ [] → new_answers ≡ answers ++ a ∷ [] → began a ≡ s → answered a ≡ result
      → StepsDone g old s steps (map (λ (x : A). (began x, answered x)) answers) → StepDone g s new step result → failures_of g new.devices ≡ fails_by result (failures_of g s.devices)
      → StepsDone g old new more (map (λ (x : A). (began x, answered x)) new_answers)
  steps_turn {A} began answered old steps more answers new_answers a is pushed then told so_far done failed =
      let tell : A → ShownStore D × StepResult = λ x. (began x, answered x) in
      let all : map tell new_answers ≡ map tell answers ++ (s, result) ∷ [] =
      ap (λ (xs : List A). map tell xs) pushed ∙ map-append tell answers (a ∷ []) ∙ ap (λ (x : ShownStore D × StepResult). map tell answers ++ x ∷ []) (cc) in
      subst (λ (xs : List Step). StepsDone g old new xs (map tell new_answers)) (sym is)
      (subst (λ (xs : Told D). StepsDone g old new (steps ++ step ∷ []) xs) (sym all) (steps_more old steps (map tell answers) so_far done failed))
