-- Steps of a store as they are listed.
use Rattle.std.proofs.Common.{◌≡◌, ℕ, Bool, true, List, Result, IsTrue, refl, sym, ap, subst, ◌∙◌}
use Rattle.hg_streams.specs.declared.call.WriteCall.{WriteCall}
use Rattle.hg_model.specs.declared.event.Named.{Named}
use Rattle.hg_model.specs.declared.verdict.Refusal.{Refusal}
use Rattle.hg_detect.specs.Shown as detect
use Rattle.hg_detect.specs.declared.detector.Answer.{Answer}
use Rattle.hg_disk.specs.declared.disk.Disk as disk
use Rattle.hg_journal.specs.Journal.{failed_after}
use Rattle.hg_pool.specs.Maps as pools
use Rattle.hg_pool.specs.Shown as pool
use Rattle.hg_store.specs.declared.steps.Step.{Step}
use Rattle.hg_store.specs.declared.steps.Step.TheVariants as step
use Rattle.hg_store.specs.declared.steps.StepResult.{StepResult}
use Rattle.hg_store.specs.declared.steps.StepResult.TheVariants as told
use Rattle.hg_store.specs.Images.{FailuresBecome}
use Rattle.hg_store.specs.Runs.{Made, Makes, made}
use Rattle.hg_store.specs.Shown.{ShownStore}
use Rattle.hg_store.specs.Steps.{CommitDone, ContentOffered, OfferDone, RetireDone}
use Rattle.hg_store.specs.Store.{StandMeanwhile}
use Rattle.hg_commands.specs.Instants.{Instant, instant_behind}

-- the moment behind a step
pub moment_is : {D : Type 0} (began s m : ShownStore D) (moment : Instant D) (listed : Made D) (step : Step) (answer : StepResult) (calls : List WriteCall)
    → moment ≡ instant_behind listed m calls → listed ≡ made began step answer → began ≡ s → moment ≡ instant_behind (made s step answer) m calls
moment_is {D} began s m moment listed step answer calls is listed_is began_is =
    is ∙ ap (λ (x : Made D). instant_behind x m calls) (listed_is ∙ ap (λ (x : ShownStore D). made x step answer) began_is)

module _ {D : Type 0} (g : disk.Ghosts D) where
  pub makes_offer : (s m : ShownStore D) (n : Named) (r : Result Answer Refusal) → OfferDone g s m n r → (IsTrue g.is_honest → ContentOffered g s m n r)
      → FailuresBecome g s.devices m.devices (failed_after r) → (IsTrue g.is_honest → StandMeanwhile g s m s.in_doubt) → Makes g s m (step.Offer n) (told.Offered r)
  makes_offer s m n r done content failed images = record { done = (r, refl, done); failures = failed; content = λ honest. (r, refl, content honest); images = images }

  pub makes_commit : (s m : ShownStore D) (r : Result ℕ Refusal) → CommitDone g s m r → FailuresBecome g s.devices m.devices (failed_after r) → (IsTrue g.is_honest → StandMeanwhile g s m true)
      → Makes g s m step.Commit (told.Committed r)
  makes_commit s m r done failed images = record {
    done = (r, refl, done);
    failures = failed;
    content = λ honest. ap (λ (d : detect.ShownDetector (pool.ShownPool D)). detect.content (pools.live g) d) done.detector;
    images = images;
  }

  pub makes_retire : (s m : ShownStore D) (r : Result Bool Refusal) → RetireDone s m r → FailuresBecome g s.devices m.devices (failed_after r) → (IsTrue g.is_honest → StandMeanwhile g s m s.in_doubt)
      → Makes g s m step.Retire (told.Retired r)
  makes_retire s m r done failed images = record {
    done = (r, refl, done);
    failures = failed;
    content = λ honest. ap (λ (d : detect.ShownDetector (pool.ShownPool D)). detect.content (pools.live g) d) done.same.detector;
    images = images;
  }
