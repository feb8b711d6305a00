-- Runs of steps with their answers.
use Rattle.std.specs.Prelude.{◌≡◌, ◌++◌, ◌||◌, ℕ, List, [], ◌∷◌, length, Bool, true, false, IsTrue, Some, Ok, Err, Result, Vec, cond, map}
use Rattle.hg_model.specs.declared.verdict.Refusal.{Refusal}
use Rattle.hg_model.specs.declared.verdict.Refusal.TheVariants.{Broken, DeviceFault}
use Rattle.hg_model.specs.Contents.{Content}
use Rattle.hg_model.specs.Change.{followed}
use Rattle.hg_disk.specs.declared.disk.Disk as disk
use Rattle.hg_contents.specs.Runs.{Run, accepted}
use Rattle.hg_images.specs.Runs.{StandsFor}
use Rattle.hg_checkpoint.specs.declared.cause.Cause.TheVariants as cause
use Rattle.hg_store.specs.Doing.{ContentDone, StandDuring, StepDone, Tells, fails_by, in_doubt_during}
use Rattle.hg_store.specs.Images.{EachImage, failures_of}
use Rattle.hg_store.specs.Shown.{ShownStore, live, saved}
use Rattle.hg_store.specs.Steps.{OfferAnswers, if_accepted}
use Rattle.hg_store.specs.Store.{Backs}
use Rattle.hg_store.specs.declared.drive.StepAnswer.{StepAnswer}
use Rattle.hg_store.specs.declared.steps.Step.{Step}
use Rattle.hg_store.specs.declared.steps.Step.TheVariants as step
use Rattle.hg_store.specs.declared.steps.StepFault.{StepFault}
use Rattle.hg_store.specs.declared.steps.StepFault.TheVariants.{Refused}
use Rattle.hg_store.specs.declared.steps.StepResult.{StepResult}
use Rattle.hg_store.specs.declared.steps.StepResult.TheVariants as told

abbrev pub is_device_fault : Refusal → Bool
is_device_fault DeviceFault = true
is_device_fault _ = false

-- The run after one more answer. The steps of a checkpoint, evictions, loads and retirements do not change it.
abbrev pub run_after : Run → Step → StepResult → Run
run_after run (step.Offer n) (told.Offered result) = record { acknowledged = run.acknowledged; pending = run.pending ++ if_accepted n result; in_doubt = run.in_doubt }
run_after run step.Commit (told.Committed (Ok count)) = record { acknowledged = accepted run; pending = []; in_doubt = run.in_doubt }
run_after run step.Commit (told.Committed (Err refusal)) = record { acknowledged = run.acknowledged; pending = run.pending; in_doubt = run.in_doubt || is_device_fault refusal }
run_after run _ _ = run

-- for each step the store when it began, and its answer
abbrev pub Told : Type 0 → Type 0
Told D = List (ShownStore D × StepResult)

abbrev pub run_of : {D : Type 0} → Run → List Step → Told D → Run
run_of run [] told = run
run_of run (step ∷ steps) [] = run
run_of run (step ∷ steps) (a ∷ told) = run_of (run_after run step a.1) steps told

-- the answers of a commit, if the accepted events of the run lead to this content, from a broken store or a working one
abbrev pub CommitAnswers : Content → Bool → Result ℕ Refusal → Type 0
CommitAnswers c is_broken (Ok count) = (is_broken ≡ false) × (count ≡ c.events)
CommitAnswers c is_broken (Err refusal) = refusal ≡ cond is_broken Broken DeviceFault

-- a broken store refuses with Broken
abbrev pub IfBroken : {X : Type 0} → Bool → Result X StepFault → Type 0
IfBroken is_broken result = is_broken ≡ true → result ≡ Err (Refused cause.Broken)

-- the answers of a retirement, by a broken store or a working one
abbrev pub RetireAnswers : Bool → Result Bool Refusal → Type 0
RetireAnswers is_broken (Ok retired) = is_broken ≡ false
RetireAnswers is_broken (Err refusal) = refusal ≡ cond is_broken Broken DeviceFault

-- The answers that a step may get after this run, from a broken store or a working one.
abbrev pub Lawful : Content → Run → Bool → Step → StepResult → Type 0
Lawful start run is_broken (step.Offer n) result = Tells told.Offered result (λ r. (c : Content) × (followed start (accepted run) ≡ Some c) × OfferAnswers c is_broken (length run.pending) n r)
Lawful start run is_broken step.Commit result = Tells told.Committed result (λ r. (c : Content) × (followed start (accepted run) ≡ Some c) × CommitAnswers c is_broken r)
Lawful start run is_broken step.Freeze result = Tells told.Frozen result (IfBroken is_broken)
Lawful start run is_broken step.TakeJob result = Tells told.Taken result (IfBroken is_broken)
Lawful start run is_broken (step.Put page) result = Tells told.Put result (IfBroken is_broken)
Lawful start run is_broken step.SealPages result = Tells told.Sealed result (IfBroken is_broken)
Lawful start run is_broken step.PrepareRoot result = Tells told.Prepared result (IfBroken is_broken)
Lawful start run is_broken step.WriteRoot result = Tells told.Written result (IfBroken is_broken)
Lawful start run is_broken step.OpenRoot result = Tells told.Opened result (IfBroken is_broken)
Lawful start run is_broken step.Evict result = Tells told.Evicted result (IfBroken is_broken)
Lawful start run is_broken (step.Load page) result = Tells told.Loaded result (IfBroken is_broken)
Lawful start run is_broken step.Retire result = Tells told.Retired result (RetireAnswers is_broken)

-- the store when the first of these steps began; without steps, the store at the end
abbrev pub begins : {D : Type 0} → Told D → ShownStore D → ShownStore D
begins [] end = end
begins (a ∷ told) end = a.0

-- Each step has one answer, and leads from the store when it began to the store when the next step began, or to the end.
-- The failed device calls in it are those that its answer tells.
abbrev pub LeadsOn : {D : Type 0} → disk.Ghosts D → List Step → Told D → ShownStore D → Type 0
LeadsOn g [] [] end = Unit {0}
LeadsOn g (step ∷ steps) (a ∷ told) end =
    StepDone g a.0 (begins told end) step a.1 × (failures_of g (begins told end).devices ≡ fails_by a.1 (failures_of g a.0.devices)) × LeadsOn g steps told end
LeadsOn g [] (a ∷ told) end = ⊥
LeadsOn g (step ∷ steps) [] end = ⊥

-- A list of steps was run on the store, on any devices.
pub record StepsDone {D : Type 0} (g : disk.Ghosts D) (old new : ShownStore D) (steps : List Step) (told : Told D) : Type 0 where
  -- the first step began where the list did
  pub first : begins told new ≡ old
  pub each : LeadsOn g steps told new

-- Each step has a lawful answer, and leads from the store when it began to the store when the next step began, or to the
-- end. Each image during a step stands for the run so far.
abbrev pub Covered : {D : Type 0} → disk.Ghosts D → Content → Run → List Step → Told D → ShownStore D → Type 0
Covered g start run [] [] end = Unit {0}
Covered g start run (step ∷ steps) (a ∷ told) end =
    Lawful start run a.0.is_broken step a.1 × StepDone g a.0 (begins told end) step a.1 × ContentDone g a.0 (begins told end) step a.1
    × EachImage g a.0.devices (begins told end).devices (StandsFor start run (in_doubt_during step run.in_doubt)) × Covered g start (run_after run step a.1) steps told end
Covered g start run [] (a ∷ told) end = ⊥
Covered g start run (step ∷ steps) [] end = ⊥

-- The run has the contents of the store.
pub record IsAt {D : Type 0} (g : disk.Ghosts D) (start : Content) (run : Run) (s : ShownStore D) : Type 0 where
  pub acknowledged : followed start run.acknowledged ≡ Some (saved g s)
  pub accepted_is : followed start (accepted run) ≡ Some (live g s)
  pub pending : run.pending ≡ s.pending
  pub in_doubt : run.in_doubt ≡ s.in_doubt
  pub backed : Backs g s

-- the run before the first step
abbrev pub before : {D : Type 0} → ShownStore D → Run
before s = record { acknowledged = []; pending = s.pending; in_doubt = s.in_doubt }

-- A list of steps was run on the store, from its durable content on.
pub record DriveDone {D : Type 0} (g : disk.Ghosts D) (old new : ShownStore D) (steps : List Step) (told : Told D) : Type 0 where
  -- the store has the content of the run
  pub run : IsAt g (saved g old) (run_of (before old) steps told) new
  -- the first step began where the list did
  pub first : begins told new ≡ old
  pub covered : Covered g (saved g old) (before old) steps told new

-- what the answers of a list of steps tell
abbrev pub told_of : {D : Type 0} → List (StepAnswer D) → Told D
told_of answers = map (λ a. (a.began.value, a.result)) answers

module _ {D : Type 0} (g : disk.Ghosts D) where
  -- The steps, and then the last one, got these answers.
  abbrev pub HasDriven : {Z : Type 0} → (old new : ShownStore D) → List Step → Step → Vec (StepAnswer D) Z → Type 0
  HasDriven old new done last answers = DriveDone g old new (done ++ last ∷ []) (told_of answers.items)

  -- On any devices the steps, and then the last one, were answered so.
  abbrev pub HasStepped : {Z : Type 0} → (old new : ShownStore D) → List Step → Step → Vec (StepAnswer D) Z → Type 0
  HasStepped old new done last answers = StepsDone g old new (done ++ last ∷ []) (told_of answers.items)

-- A step that was made: the store when it began, and its answer.
pub record Made (D : Type 0) : Type 0 where
  pub began : ShownStore D
  pub step : Step
  pub answer : StepResult

abbrev pub made : {D : Type 0} → ShownStore D → Step → StepResult → Made D
made began step answer = record { began = began; step = step; answer = answer }

-- the steps of a list that has the newest one first, in the order in which they were made
abbrev pub steps_of : {D : Type 0} → List (Made D) → List Step
steps_of [] = []
steps_of (m ∷ earlier) = steps_of earlier ++ m.step ∷ []

-- what they were told, in that order
abbrev pub told_to : {D : Type 0} → List (Made D) → Told D
told_to [] = []
told_to (m ∷ earlier) = told_to earlier ++ (m.began, m.answer) ∷ []

module _ {D : Type 0} (g : disk.Ghosts D) where
  -- One step of a store is made: what it does and answers, and how many device calls fail in it; over honest devices also its
  -- content, and what each image has meanwhile.
  pub record Makes (old new : ShownStore D) (step : Step) (answer : StepResult) : Type 0 where
    pub done : StepDone g old new step answer
    pub failures : failures_of g new.devices ≡ fails_by answer (failures_of g old.devices)
    pub content : IsTrue g.is_honest → ContentDone g old new step answer
    pub images : IsTrue g.is_honest → StandDuring g step old new

  -- These steps, the newest first, were made from the first store to the one now. Each leads from the store when it began to the
  -- store when the next one began, or to the one now.
  abbrev pub MadeAlong : ShownStore D → List (Made D) → ShownStore D → Type 0
  MadeAlong first [] now = now ≡ first
  MadeAlong first (m ∷ earlier) now = Makes m.began now m.step m.answer × (IsTrue g.is_honest → Backs g now) × MadeAlong first earlier m.began
