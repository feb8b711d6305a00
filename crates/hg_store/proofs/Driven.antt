-- A list of steps that were made is a run.
use Rattle.std.proofs.Common.{◌≡◌, ◌∷◌, [], List, IsTrue, sym, subst}
use Rattle.hg_disk.specs.declared.disk.Disk as disk
use Rattle.hg_store.specs.declared.steps.Step.{Step}
use Rattle.hg_store.specs.declared.steps.StepResult.{StepResult}
use Rattle.hg_store.specs.Runs.{DriveDone, Made, MadeAlong, Makes, StepsDone, made, steps_of, told_to}
use Rattle.hg_store.specs.Shown.{ShownStore}
use Rattle.hg_store.specs.Store.{Backs}
use Rattle.hg_store.proofs.Runs.{drive_more, drive_none}
use Rattle.hg_store.proofs.Stepping.{steps_more}

module _ {D : Type 0} (g : disk.Ghosts D) where
  -- one step more was made
  pub made_then : (first old new : ShownStore D) (earlier later : List (Made D)) (step : Step) (answer : StepResult) → later ≡ made old step answer ∷ earlier
      → Makes g old new step answer → (IsTrue g.is_honest → Backs g new) → MadeAlong g first earlier old → MadeAlong g first later new
  made_then first old new earlier later step answer is makes backs along = subst (λ (list : List (Made D)). MadeAlong g first list new) (sym is) (makes, backs, along)

  -- whatever the devices are
  pub made_steps : (first now : ShownStore D) (list : List (Made D)) → MadeAlong g first list now → StepsDone g first now (steps_of list) (told_to list)
  made_steps first now [] is = record { first = is; each = tt }
  made_steps first now (m ∷ earlier) is =
      steps_more g m.began now m.step m.answer first (steps_of earlier) (told_to earlier) (made_steps first m.began earlier is.2) is.0.done is.0.failures

  -- over honest devices
  pub made_drive : IsTrue g.is_honest → (first now : ShownStore D) (list : List (Made D)) → Backs g first → MadeAlong g first list now
      → DriveDone g first now (steps_of list) (told_to list)
  made_drive honest first now [] backs is = subst (λ (s : ShownStore D). DriveDone g first s [] []) (sym is) (drive_none g first backs)
  made_drive honest first now (m ∷ earlier) backs is =
      drive_more g m.began now m.step m.answer first (steps_of earlier) (told_to earlier) (made_drive honest first m.began earlier backs is.2) is.0.done
      (is.0.content honest) (is.1 honest) (is.0.images honest)
