-- A run goes on by one step.
use Rattle.std.proofs.Common.{◌≡◌, inl, inr, ◌∷◌, [], ◌++◌, ◌||◌, ◌∙◌, ℕ, List, Bool, true, false, Some, Ok, Err, Result, cond, map, refl, sym, ap, subst, append_assoc}
use Rattle.std.proofs.lemmas.List.{append-nil, map-append}
use Rattle.hg_model.specs.declared.event.Named.{Named}
use Rattle.hg_model.specs.declared.verdict.Refusal.{Refusal}
use Rattle.hg_model.specs.declared.verdict.Refusal.TheVariants.{Broken, DeviceFault}
use Rattle.hg_model.specs.Contents.{Content}
use Rattle.hg_model.specs.Change.{followed}
use Rattle.hg_detect.specs.Shown as detect
use Rattle.hg_detect.specs.declared.detector.Answer.{Answer}
use Rattle.hg_disk.specs.declared.disk.Disk as disk
use Rattle.hg_pool.specs.Maps as pools
use Rattle.hg_pool.specs.Shown as pool
use Rattle.hg_images.specs.Choices.{Stands}
use Rattle.hg_images.specs.Images.{Image}
use Rattle.hg_contents.specs.Runs.{Run, accepted}
use Rattle.hg_images.specs.Runs.{StandsFor}
use Rattle.hg_contents.proofs.Following.{followed_append}
use Rattle.hg_checkpoint.specs.declared.cause.Cause.{Cause}
use Rattle.hg_store.specs.declared.devices.Devices.{Devices}
use Rattle.hg_store.specs.declared.steps.Step.{Step}
use Rattle.hg_store.specs.declared.steps.Step.TheVariants as step
use Rattle.hg_store.specs.declared.steps.StepFault.{StepFault}
use Rattle.hg_store.specs.declared.steps.StepFault.TheVariants.{Refused, WrongPhase}
use Rattle.hg_store.specs.declared.steps.StepResult.{StepResult}
use Rattle.hg_store.specs.declared.steps.StepResult.TheVariants as told
use Rattle.hg_store.specs.Answers.{IsAllowed}
use Rattle.hg_store.specs.Doing.{ContentDone, StepDone, in_doubt_during}
use Rattle.hg_store.specs.Images.{EachImage}
use Rattle.hg_store.specs.Runs.{CommitAnswers, Covered, DriveDone, IfBroken, IsAt, Lawful, RetireAnswers, Told, before, begins, is_device_fault, run_after, run_of}
use Rattle.hg_store.specs.Shown.{ShownStore, live, saved}
use Rattle.hg_store.specs.Steps.{CommitDone, ContentOffered, OfferDone, RetireDone, if_accepted}
use Rattle.hg_store.specs.Store.{Backs}

-- an image that stands for the contents of a store stands for the run
stands_for : (start durable live : Content) (run : Run) (in_doubt : Bool) (image : Image) → followed start run.acknowledged ≡ Some durable → followed start (accepted run) ≡ Some live
    → Stands durable live in_doubt image → StandsFor start run in_doubt image
stands_for start durable live run in_doubt image acked all (inl is) = (durable, is, inl acked)
stands_for start durable live run in_doubt image acked all (inr is) = (live, is.1, inr (is.0, all))

-- a commit that is refused leaves doubt, but where the store was broken before
refused_doubts : (broken doubt : Bool) (refusal : Refusal) → refusal ≡ cond broken Broken DeviceFault → (doubt || is_device_fault refusal) ≡ cond broken doubt true
refused_doubts true true refusal is = refl
refused_doubts true false refusal is = ap is_device_fault is
refused_doubts false true refusal is = refl
refused_doubts false false refusal is = ap is_device_fault is

-- a broken store refuses a step of a checkpoint, an eviction and a load so
refuses : {D X : Type 0} (s : ShownStore D) (Allowed : Type 0) (Causes : Cause → Type 0) (result : Result X StepFault) → IsAllowed s Allowed Causes result → IfBroken s.is_broken result
refuses s Allowed Causes (Ok value) is broken = absurd (cc (sym is.0 ∙ broken))
refuses s Allowed Causes (Err (WrongPhase p)) is broken = absurd (cc (sym is.0 ∙ broken))
refuses s Allowed Causes (Err (Refused r)) (inl is) broken = ap (λ (x : Cause). Err (Refused x)) is.1
refuses s Allowed Causes (Err (Refused r)) (inr is) broken = absurd (cc (sym is.0 ∙ broken))

module _ {D : Type 0} (g : disk.Ghosts D) where
  weaker : (old new : Devices D) (P Q : Image → Type 0) → ((image : Image) → P image → Q image) → EachImage g old new P → EachImage g old new Q
  weaker old new P Q more all = record { journal0 = all.journal0; journal1 = all.journal1; slots = all.slots; root0 = all.root0; root1 = all.root1; each = λ image may. more image (all.each image may) }

  commit_lawful : (s new : ShownStore D) (result : Result ℕ Refusal) → CommitDone g s new result → CommitAnswers (live g s) s.is_broken result
  commit_lawful s new (Ok count) done = (done.answer.worked, done.answer.answer)
  commit_lawful s new (Err refusal) done = done.answer.answer

  retire_lawful : (s new : ShownStore D) (result : Result Bool Refusal) → RetireDone s new result → RetireAnswers s.is_broken result
  retire_lawful s new (Ok retired) done = done.answer.worked
  retire_lawful s new (Err refusal) done = done.answer.answer

  module _ (start : Content) where
    is_lawful : (run : Run) (s new : ShownStore D) (step : Step) (result : StepResult) → IsAt g start run s → StepDone g s new step result → Lawful start run s.is_broken step result
    is_lawful run s new (step.Offer n) result at done = (done.0, done.1, (live g s, at.accepted_is, rw at.pending done.2.answer))
    is_lawful run s new step.Commit result at done = (done.0, done.1, (live g s, at.accepted_is, commit_lawful s new done.0 done.2))
    is_lawful run s new step.Freeze result at done = (done.0, done.1, refuses s _ _ done.0 done.2.done.allowed)
    is_lawful run s new step.TakeJob result at done = (done.0, done.1, refuses s _ _ done.0 done.2.allowed)
    is_lawful run s new (step.Put page) result at done = (done.0, done.1, refuses s _ _ done.0 done.2.done.allowed)
    is_lawful run s new step.SealPages result at done = (done.0, done.1, refuses s _ _ done.0 done.2.done.allowed)
    is_lawful run s new step.PrepareRoot result at done = (done.0, done.1, refuses s _ _ done.0 done.2.done.allowed)
    is_lawful run s new step.WriteRoot result at done = (done.0, done.1, refuses s _ _ done.0 done.2.done.allowed)
    is_lawful run s new step.OpenRoot result at done = (done.0, done.1, refuses s _ _ done.0 done.2.done.allowed)
    is_lawful run s new step.Evict result at done = (done.0, done.1, refuses s _ _ done.0 done.2.allowed)
    is_lawful run s new (step.Load page) result at done = (done.0, done.1, refuses s _ _ done.0 done.2.allowed)
    is_lawful run s new step.Retire result at done = (done.0, done.1, retire_lawful s new done.0 done.2)

    -- the content of a detector that did not change
    saved_same : (s new : ShownStore D) → new.committed ≡ s.committed → saved g s ≡ saved g new
    saved_same s new same = ap (λ (d : detect.ShownDetector (pool.ShownPool D)). detect.content (pools.live g) d) (sym same)

    -- a step that leaves the events
    at_same : (run : Run) (s new : ShownStore D) → IsAt g start run s → new.committed ≡ s.committed → live g new ≡ live g s → new.pending ≡ s.pending → new.in_doubt ≡ s.in_doubt → Backs g new → IsAt g start run new
    at_same run s new at committed content pending doubt backed = record {
      acknowledged = at.acknowledged ∙ ap (λ (c : Content). Some c) (saved_same s new committed);
      accepted_is = at.accepted_is ∙ ap (λ (c : Content). Some c) (sym content);
      pending = at.pending ∙ sym pending;
      in_doubt = at.in_doubt ∙ sym doubt;
      backed = backed;
    }

    after_offer : (run : Run) (s new : ShownStore D) (n : Named) (result : Result Answer Refusal) → IsAt g start run s → OfferDone g s new n result → ContentOffered g s new n result → Backs g new
        → IsAt g start (run_after run (step.Offer n) (told.Offered result)) new
    after_offer run s new n result at done content backed = record {
      acknowledged = at.acknowledged ∙ ap (λ (c : Content). Some c) (saved_same s new done.same.committed);
      accepted_is = ap (λ (es : List Named). followed start es) (sym (append_assoc run.acknowledged run.pending (if_accepted n result)))
          ∙ followed_append (accepted run) (if_accepted n result) start (live g s) at.accepted_is ∙ content.leads;
      pending = ap (λ (es : List Named). es ++ if_accepted n result) at.pending ∙ sym done.pending;
      in_doubt = at.in_doubt ∙ sym done.same.in_doubt;
      backed = backed;
    }

    after_commit : (run : Run) (s new : ShownStore D) (result : Result ℕ Refusal) → IsAt g start run s → CommitDone g s new result → live g new ≡ live g s → Backs g new
        → IsAt g start (run_after run step.Commit (told.Committed result)) new
    after_commit run s new (Ok count) at done content backed = record {
      acknowledged = at.accepted_is ∙ ap (λ (d : detect.ShownDetector (pool.ShownPool D)). Some (detect.content (pools.live g) d)) (sym done.answer.committed);
      accepted_is = ap (λ (es : List Named). followed start es) (append-nil (accepted run)) ∙ at.accepted_is ∙ ap (λ (c : Content). Some c) (sym content);
      pending = sym done.answer.pending;
      in_doubt = at.in_doubt ∙ sym done.answer.certain;
      backed = backed;
    }
    after_commit run s new (Err refusal) at done content backed = record {
      acknowledged = at.acknowledged ∙ ap (λ (c : Content). Some c) (saved_same s new done.answer.committed);
      accepted_is = at.accepted_is ∙ ap (λ (c : Content). Some c) (sym content);
      pending = at.pending ∙ sym done.answer.pending;
      in_doubt = ap (λ (b : Bool). b || is_device_fault refusal) at.in_doubt ∙ refused_doubts s.is_broken s.in_doubt refusal done.answer.answer ∙ sym done.answer.doubt;
      backed = backed;
    }

    -- what was offered, by the one answer that there is
    offered_is : (s new : ShownStore D) (n : Named) (result : StepResult) (r : Result Answer Refusal) → result ≡ told.Offered r → ContentDone g s new (step.Offer n) result → ContentOffered g s new n r
    offered_is s new n result r is content =
        let same : told.Offered r ≡ told.Offered content.0 = sym is ∙ content.1 in
        let equal : r ≡ content.0 = cc in
        subst (λ (x : Result Answer Refusal). ContentOffered g s new n x) (sym equal) content.2

    is_after : (run : Run) (s new : ShownStore D) (step : Step) (result : StepResult) → IsAt g start run s → StepDone g s new step result → ContentDone g s new step result → Backs g new → IsAt g start (run_after run step result) new
    is_after run s new (step.Offer n) result at done content backed =
        subst (λ (r : StepResult). IsAt g start (run_after run (step.Offer n) r) new) (sym done.1) (after_offer run s new n done.0 at done.2 (offered_is s new n result done.0 done.1 content) backed)
    is_after run s new step.Commit result at done content backed =
        subst (λ (r : StepResult). IsAt g start (run_after run step.Commit r) new) (sym done.1) (after_commit run s new done.0 at done.2 content backed)
    is_after run s new step.Freeze result at done content backed = at_same run s new at done.2.done.committed content.2.live done.2.done.pending done.2.done.in_doubt backed
    is_after run s new step.TakeJob result at done content backed = subst (λ (x : ShownStore D). IsAt g start run x) (sym done.2.same) at
    is_after run s new (step.Put page) result at done content backed = at_same run s new at done.2.done.committed content done.2.done.pending done.2.done.in_doubt backed
    is_after run s new step.SealPages result at done content backed = at_same run s new at done.2.done.committed content done.2.done.pending done.2.done.in_doubt backed
    is_after run s new step.PrepareRoot result at done content backed = at_same run s new at done.2.done.committed content done.2.done.pending done.2.done.in_doubt backed
    is_after run s new step.WriteRoot result at done content backed = at_same run s new at done.2.done.committed content done.2.done.pending done.2.done.in_doubt backed
    is_after run s new step.OpenRoot result at done content backed = at_same run s new at done.2.done.committed content.2.live done.2.done.pending done.2.done.in_doubt backed
    is_after run s new step.Evict result at done content backed = at_same run s new at done.2.moves.same.committed content done.2.moves.pending done.2.moves.same.in_doubt backed
    is_after run s new (step.Load page) result at done content backed = at_same run s new at done.2.moves.same.committed content.2.live done.2.moves.pending done.2.moves.same.in_doubt backed
    is_after run s new step.Retire result at done content backed = at_same run s new at done.2.same.committed content done.2.same.pending done.2.same.in_doubt backed

    module _ (s new : ShownStore D) (step : Step) (result : StepResult) where
      begins_more : (told : Told D) → begins (told ++ (s, result) ∷ []) new ≡ begins told s
      begins_more [] = refl
      begins_more (a ∷ told) = refl

      covered_more : (run : Run) (steps : List Step) (told : Told D) → Covered g start run steps told s → Lawful start (run_of run steps told) s.is_broken step result → StepDone g s new step result → ContentDone g s new step result
          → EachImage g s.devices new.devices (StandsFor start (run_of run steps told) (in_doubt_during step (run_of run steps told).in_doubt))
          → Covered g start run (steps ++ step ∷ []) (told ++ (s, result) ∷ []) new
      covered_more run [] [] cov lawful done content images = (lawful, done, content, images, tt)
      covered_more run [] (a ∷ told) cov lawful done content images = absurd cov
      covered_more run (x ∷ steps) [] cov lawful done content images = absurd cov
      covered_more run (x ∷ steps) (a ∷ told) cov lawful done content images = (
        cov.0,
        subst (λ (end : ShownStore D). StepDone g a.0 end x a.1) (sym (begins_more told)) cov.1,
        subst (λ (end : ShownStore D). ContentDone g a.0 end x a.1) (sym (begins_more told)) cov.2,
        subst (λ (end : ShownStore D). EachImage g a.0.devices end.devices (StandsFor start run (in_doubt_during x run.in_doubt))) (sym (begins_more told)) cov.3,
        covered_more (run_after run x a.1) steps told cov.4 lawful done content images,
      )

      run_more : (run : Run) (steps : List Step) (told : Told D) → Covered g start run steps told s → run_of run (steps ++ step ∷ []) (told ++ (s, result) ∷ []) ≡ run_after (run_of run steps told) step result
      run_more run [] [] cov = refl
      run_more run [] (a ∷ told) cov = absurd cov
      run_more run (x ∷ steps) [] cov = absurd cov
      run_more run (x ∷ steps) (a ∷ told) cov = run_more (run_after run x a.1) steps told cov.4

  module _ (s new : ShownStore D) (step : Step) (result : StepResult) where
    -- what the images have while the step is made
    abbrev pub Leaves : Type 0
    Leaves = EachImage g s.devices new.devices (Stands (saved g s) (live g s) (in_doubt_during step s.in_doubt))

    pub drive_more : (old : ShownStore D) (steps : List Step) (told : Told D) → DriveDone g old s steps told → StepDone g s new step result → ContentDone g s new step result → Backs g new → Leaves
        → DriveDone g old new (steps ++ step ∷ []) (told ++ (s, result) ∷ [])
    drive_more old steps told so_far done content backed leaves =
        let start : Content = saved g old in
        let run : Run = run_of (before old) steps told in
        let at : IsAt g start run s = so_far.run in
        let then : IsAt g start (run_after run step result) new = is_after start run s new step result at done content backed in
        let images : EachImage g s.devices new.devices (StandsFor start run (in_doubt_during step run.in_doubt)) =
        weaker s.devices new.devices (Stands (saved g s) (live g s) (in_doubt_during step s.in_doubt)) (StandsFor start run (in_doubt_during step run.in_doubt))
        (λ image is. rw at.in_doubt (stands_for start (saved g s) (live g s) run (in_doubt_during step s.in_doubt) image at.acknowledged at.accepted_is is))
        leaves in
        record {
          run = subst (λ (r : Run). IsAt g start r new) (sym (run_more start s new step result (before old) steps told so_far.covered)) then;
          first = begins_more start s new step result told ∙ so_far.first;
          covered = covered_more start s new step result (before old) steps told so_far.covered (is_lawful start run s new step result at done) done content images;
        }

    -- a run goes on by one step, whose answer is pushed
    pub drive_turn : {A : Type 0} (began : A → ShownStore D) (answered : A → StepResult) (old : ShownStore D) (steps more : List Step) (answers new_answers : List A) (a : A)
        → more ≡ steps ++ step ∷ [] → new_answers ≡ answers ++ a ∷ [] → began a ≡ s → answered a ≡ result
        → DriveDone g old s steps (map (λ (x : A). (began x, answered x)) answers) → StepDone g s new step result → ContentDone g s new step result → Backs g new → Leaves
        → DriveDone g old new more (map (λ (x : A). (began x, answered x)) new_answers)
    drive_turn {A} began answered old steps more answers new_answers a is pushed then told so_far done content backed leaves =
        let tell : A → ShownStore D × StepResult = λ x. (began x, answered x) in
        let all : map tell new_answers ≡ map tell answers ++ (s, result) ∷ [] =
        ap (λ (xs : List A). map tell xs) pushed ∙ map-append tell answers (a ∷ []) ∙ ap (λ (x : ShownStore D × StepResult). map tell answers ++ x ∷ []) (cc) in
        subst (λ (xs : List Step). DriveDone g old new xs (map tell new_answers)) (sym is)
        (subst (λ (xs : Told D). DriveDone g old new (steps ++ step ∷ []) xs) (sym all) (drive_more old steps (map tell answers) so_far done content backed leaves))

  -- before the first step
  pub drive_none : (s : ShownStore D) → Backs g s → DriveDone g s s [] []
  drive_none s backs = record {
    run = record { acknowledged = refl; accepted_is = backs.live; pending = refl; in_doubt = refl; backed = backs };
    first = refl;
    covered = tt;
  }
