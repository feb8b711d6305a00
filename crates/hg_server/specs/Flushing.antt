-- What the flusher is told, and how its checkpoints end.
use Rattle.std.specs.Prelude.{◌≡◌, ◌≤◌, List, [], ◌∷◌, Bool, true, false, Ok}
use Rattle.hg_store.specs.declared.steps.Step.{Step}
use Rattle.hg_store.specs.declared.steps.Step.TheVariants as step
use Rattle.hg_store.specs.declared.steps.StepResult.{StepResult}
use Rattle.hg_store.specs.declared.steps.StepResult.TheVariants.{Opened}
use Rattle.hg_desk.specs.Told.{Listed, Told}

-- Whether this step may open a root, and whether this answer says that one was opened.
abbrev pub may_open : Step → Bool
may_open step.OpenRoot = true
may_open _ = false

abbrev pub opened : StepResult → Bool
opened (Opened (Ok number)) = true
opened _ = false

-- a step that opened a root
abbrev pub opens : Step → StepResult → Bool
opens step.OpenRoot result = opened result
opens _ result = false

-- a step that gives up the events that the newest root counts
abbrev pub retires : Step → Bool
retires step.Retire = true
retires _ = false

-- Each of these steps, the newest first, that opened a root has one that retires right behind it. `is_retired` says whether one that
-- retires comes behind the newest of them.
abbrev pub AreRetired : (is_retired : Bool) → List Listed → Type 0
AreRetired is_retired [] = Unit {0}
AreRetired is_retired (made ∷ earlier) = (opens made.step made.result ≡ true → is_retired ≡ true) × AreRetired (retires made.step) earlier

-- Each root that was opened through a share has its retirement, if that was so before.
abbrev pub StayRetired : (told new : Told) → Type 0
StayRetired told new = AreRetired false told.steps → AreRetired false new.steps

-- A share is told of no accepted event, and its count of durable events never falls.
abbrev pub IsToldOfNone : (told new : Told) → Type 0
IsToldOfNone told new = (new.accepted ≡ told.accepted) × (told.durable ≤ new.durable)

-- The same, and each root that was opened has its retirement.
abbrev pub EndsCheckpoints : (told new : Told) → Type 0
EndsCheckpoints told new = (new.accepted ≡ told.accepted) × (told.durable ≤ new.durable) × StayRetired told new
