-- A store goes on by an eviction and by a load.
use Rattle.std.proofs.Common.{◌≡◌, ◌∙◌, ◌+◌, ◌*◌, ◌/◌, inl, inr, ℕ, Bool, true, false, All, Some, refl, sym, ap, subst, ⊎_elim, arith}
use Rattle.std.proofs.lemmas.Bool.{cases_lt, false≢true}
use Rattle.std.specs.Prelude.{◌≢◌}
use Rattle.hg_model.specs.declared.verdict.Refusal.{Refusal}
use Rattle.hg_model.specs.declared.verdict.Refusal.TheVariants as refusal
use Rattle.hg_model.specs.Contents.{Content}
use Rattle.hg_model.specs.History.{overlaps}
use Rattle.hg_sets.specs.Interning.{Table}
use Rattle.hg_cells.specs.Words.{after_refusal}
use Rattle.hg_cells.proofs.Overlaps.{not_overlapped, overlapped}
use Rattle.hg_detect.specs.Engine.{AtPresent}
use Rattle.hg_detect.specs.Shown as detect
use Rattle.hg_disk.specs.State.{IsImage}
use Rattle.hg_disk.specs.declared.disk.Disk as disk
use Rattle.hg_pool.specs.Answers.{IsTrueCause}
use Rattle.hg_pool.specs.Kept.{IsFaithful, Went}
use Rattle.hg_pool.specs.Maps as pools
use Rattle.hg_pool.specs.Shown as pool
use Rattle.hg_root.specs.Grammar.{SetFits}
use Rattle.hg_images.specs.Choices.{Basis}
use Rattle.hg_contents.specs.States.{IsLawfulState}
use Rattle.hg_checkpoint.specs.Phases as checkpoints
use Rattle.hg_checkpoint.specs.Told.{refusal_of}
use Rattle.hg_checkpoint.specs.declared.cause.Cause.{Cause}
use Rattle.hg_checkpoint.specs.declared.cause.Cause.TheVariants as cause
use Rattle.hg_store.specs.Kept.{Parts, Standing, shown_of}
use Rattle.hg_store.specs.Paging.{IsOfEvicting, IsOfLoading, IsOfPool}
use Rattle.hg_store.specs.Shown.{live}
use Rattle.hg_store.proofs.Going as going
use Rattle.hg_store.proofs.Going.{with_detector}
use Rattle.hg_store.proofs.Staying.{works_on}

-- why a pool refuses
pub of_pool : {D : Type 0} (p : pool.ShownPool D) (r : Refusal) → IsTrueCause p r → IsOfPool r
of_pool p (refusal.Gap k) told = told
of_pool p refusal.BadNumber told = told
of_pool p refusal.BadLength told = told
of_pool p refusal.AddressEnd told = told
of_pool p refusal.NoThread told = told
of_pool p refusal.ChildUsed told = told
of_pool p refusal.SelfJoin told = told
of_pool p refusal.ChildNotAlive told = told
of_pool p refusal.ChildHoldsLocks told = told
of_pool p refusal.Broken told = tt
of_pool p refusal.Damaged told = tt
of_pool p refusal.AlreadyHeld told = told
of_pool p refusal.LockBusy told = told
of_pool p refusal.NotHeld told = told
of_pool p refusal.FullHeld told = told
of_pool p refusal.FullSegments told = told
of_pool p refusal.MessageUsed told = told
of_pool p refusal.NotSent told = told
of_pool p refusal.MessageTaken told = told
of_pool p refusal.FullEvents told = told
of_pool p refusal.FullPending told = told
of_pool p refusal.FullSets told = told
of_pool p refusal.FullSlots told = tt
of_pool p refusal.OutOfMemory told = tt
of_pool p refusal.DeviceFault told = tt

module _ {D : Type 0} (after : pool.ShownPool D) where
  -- the cause of a refused eviction
  pub of_evicting : (c : Cause) (r : Refusal) → refusal_of c ≡ r → (r ≡ refusal.Broken → ⊥) → r ≢ refusal.Damaged → IsTrueCause after r → IsOfEvicting after c
  of_evicting cause.Broken r is never undamaged told = absurd (never (sym is))
  of_evicting cause.Damaged r is never undamaged told = absurd (undamaged (sym is))
  of_evicting cause.DeviceFault r is never undamaged told = tt
  of_evicting cause.FullEvents r is never undamaged told = subst (λ (x : Refusal). IsTrueCause after x) (sym is) told
  of_evicting cause.FullSlots r is never undamaged told = subst (λ (x : Refusal). IsTrueCause after x) (sym is) told
  of_evicting cause.OutOfMemory r is never undamaged told = tt

  -- the cause of a refused load
  pub of_loading : (c : Cause) (r : Refusal) → refusal_of c ≡ r → (r ≡ refusal.Broken → ⊥) → IsTrueCause after r → IsOfLoading after c
  of_loading cause.Broken r is never told = absurd (never (sym is))
  of_loading cause.Damaged r is never told = tt
  of_loading cause.DeviceFault r is never told = tt
  of_loading cause.FullEvents r is never told = subst (λ (x : Refusal). IsTrueCause after x) (sym is) told
  of_loading cause.FullSlots r is never told = subst (λ (x : Refusal). IsTrueCause after x) (sym is) told
  of_loading cause.OutOfMemory r is never told = tt

-- how many calls have failed, by the cause
failed_by_cause : (c : Cause) (n : ℕ) → after_refusal (refusal_of c) n ≡ checkpoints.failed_in c + n
failed_by_cause cause.Broken n = omega arith
failed_by_cause cause.Damaged n = omega arith
failed_by_cause cause.DeviceFault n = omega arith
failed_by_cause cause.FullEvents n = omega arith
failed_by_cause cause.FullSlots n = omega arith
failed_by_cause cause.OutOfMemory n = omega arith

pub failed_is : (c : Cause) (r : Refusal) (n : ℕ) → refusal_of c ≡ r → after_refusal r n ≡ checkpoints.failed_in c + n
failed_is c r n is = subst (λ (x : Refusal). after_refusal x n ≡ checkpoints.failed_in c + n) is (failed_by_cause c n)

none_failed : (c : Cause) (n : ℕ) → (c ≡ cause.DeviceFault → ⊥) → after_refusal (refusal_of c) n ≡ n
none_failed cause.Broken n never = refl
none_failed cause.Damaged n never = refl
none_failed cause.DeviceFault n never = absurd (never refl)
none_failed cause.FullEvents n never = refl
none_failed cause.FullSlots n never = refl
none_failed cause.OutOfMemory n never = refl

-- a cause and the refusal of its name
pub device_refused : (c : Cause) (r : Refusal) → refusal_of c ≡ r → c ≡ cause.DeviceFault → r ≡ refusal.DeviceFault
device_refused c r is device = sym is ∙ ap refusal_of device

pub damage_refused : (c : Cause) (r : Refusal) → refusal_of c ≡ r → r ≢ refusal.Damaged → c ≢ cause.Damaged
damage_refused c r is undamaged damaged = undamaged (sym is ∙ ap refusal_of damaged)

-- a pool that works goes on to work, where no device failed
pub still_works : {D : Type 0} (g : disk.Ghosts D) (old new : pool.ShownPool D) → Went g old new → (c : Cause) (r : Refusal) → refusal_of c ≡ r
    → g.failures (pools.disk_of new) ≡ after_refusal r (g.failures (pools.disk_of old)) → pools.is_broken old ≡ false → (c ≡ cause.DeviceFault → ⊥) → pools.is_broken new ≡ false
still_works g old new went c r is failed works never =
    works_on g old new went (failed ∙ ap (λ (x : Refusal). after_refusal x (g.failures (pools.disk_of old))) (sym is) ∙ none_failed c (g.failures (pools.disk_of old)) never) works

-- a word that the first byte of a page overlaps lies in the page
pub in_page : (page w : ℕ) → overlaps (page * 1024) 1 w ≡ true → w / 256 ≡ page
in_page page w over =
    ⊎_elim
    (λ low. absurd (false≢true (sym (not_overlapped (page * 1024) 1 w (inl (omega (arith, low)))) ∙ over)))
    (λ upto. ⊎_elim
    (λ here. omega (arith, upto, here))
    (λ above. absurd (false≢true (sym (not_overlapped (page * 1024) 1 w (inr (omega (arith, above)))) ∙ over)))
    (cases_lt w (page * 256 + 1)))
    (cases_lt w (page * 256))

-- the first byte of a page overlaps its first word
pub first_word : (page : ℕ) → overlaps (page * 1024) 1 (page * 256) ≡ true
first_word page = overlapped (page * 1024) 1 (page * 256) (omega arith) (omega arith) (omega arith)

-- the page of the first word
pub page_of_first : (page : ℕ) → page * 256 / 256 ≡ page
page_of_first page = omega arith

module _ {D : Type 0} (g : disk.Ghosts D) (bytes : (d : D) → IsImage (g.state d) (g.state d).contents) (s : Parts D g) (basis : Basis) (is : Standing g s basis) (works : s.is_broken ≡ false) where
  -- the words of the detector alone have changed
  pub loaded : (d : detect.ShownDetector (pool.ShownPool D)) (broken : Bool) → Went g s.detector.words d.words → AtPresent (IsFaithful g) d → d.sets ≡ s.detector.sets → detect.content (pools.live g) d ≡ live g (shown_of g s)
      → Standing g (with_detector g bytes s basis is works d s.pending broken) basis
  loaded d broken went faithful sets content =
      going.standing g bytes s basis is works d s.pending broken went faithful
      (subst IsLawfulState (sym content) is.state)
      (subst (λ (t : Table). All SetFits t.sets) (sym sets) is.spelled)
      (is.keeps.live ∙ ap (λ (c : Content). Some c) (sym content))
