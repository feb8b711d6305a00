-- A store goes on by an offer.
use Rattle.std.proofs.Common.{◌≡◌, ◌∙◌, inl, inr, List, [], ◌∷◌, ◌++◌, length, Bool, false, Result, Ok, Err, Some, None, refl, sym, ap, subst, if◌then◌else◌}
use Rattle.std.specs.Prelude.{IsTrue}
use Rattle.std.specs.Option.{option_and_then}
use Rattle.std.proofs.lemmas.Bool.{true≢false}
use Rattle.hg_model.specs.declared.event.Named.{Named}
use Rattle.hg_model.specs.declared.verdict.Refusal.{Refusal}
use Rattle.hg_model.specs.declared.verdict.Refusal.TheVariants as refusal
use Rattle.hg_cells.specs.Words.{after_refusal}
use Rattle.hg_model.specs.declared.verdict.Verdict.{Verdict}
use Rattle.hg_model.specs.declared.verdict.Verdict.TheVariants.{Accept}
use Rattle.hg_model.specs.Contents.{Content}
use Rattle.hg_model.specs.Change.{after, followed, is_accept}
use Rattle.hg_model.specs.Verdicts.{standing_of, verdict}
use Rattle.hg_records.specs.Records.{RecordFits}
use Rattle.hg_detect.specs.Engine.{AtPresent, LacksRoom}
use Rattle.hg_detect.specs.Making.{AsksBy, sets_asked}
use Rattle.hg_detect.specs.Shown as detect
use Rattle.hg_detect.specs.declared.detector.Answer.{Answer}
use Rattle.hg_disk.specs.State.{IsImage}
use Rattle.hg_disk.specs.declared.disk.Disk as disk
use Rattle.hg_pool.specs.Answers.{IsFull, IsTrueCause}
use Rattle.hg_pool.specs.Kept.{IsFaithful, Went}
use Rattle.hg_pool.specs.OfWords.{ReadsTrue}
use Rattle.hg_pool.specs.Maps as pools
use Rattle.hg_pool.specs.Shown as pool
use Rattle.hg_images.specs.Choices.{Basis}
use Rattle.hg_contents.specs.States.{IsLawfulState}
use Rattle.hg_contents.proofs.Following.{followed_append}
use Rattle.hg_contents.proofs.lawful.Sharing.{live_known}
use Rattle.hg_contents.proofs.lawful.Staying.{one_stays}
use Rattle.hg_contents.proofs.lawful.Tables.{answered}
use Rattle.hg_store.specs.Kept.{Parts, Standing, shown_of}
use Rattle.hg_store.specs.Shown.{ShownStore, live, saved}
use Rattle.hg_store.specs.Steps.{ContentOffered, IsOfRoom, if_accepted}
use Rattle.hg_store.proofs.Going.{standing, with_detector}
use Rattle.hg_store.proofs.Staying.{works_on}

-- one event that is accepted
pub followed_one : (c : Content) (n : Named) → verdict (standing_of c) n ≡ Accept → followed c (n ∷ []) ≡ Some (after c n)
followed_one c n is = ap (λ (v : Verdict). option_and_then (λ (d : Content). Some d) (if is_accept v then Some (after c n) else None)) is

-- the content where the rules do not accept the event
pub content_kept : {D : Type 0} (g : disk.Ghosts D) (s old : ShownStore D) (n : Named) (v : Verdict) (result : Result Answer Refusal) → s ≡ old → verdict (standing_of (live g s)) n ≡ v → ¬ (v ≡ Accept) → if_accepted n result ≡ [] → ContentOffered g old old n result
content_kept {D} g s old n v result same is never none = subst (λ (x : ShownStore D). ContentOffered g x x n result) same (record {
  leads = ap (λ (l : List Named). followed (live g s) l) none;
  sets = λ taken. absurd (never (sym is ∙ taken.accepted));
  undamaged = λ taken. absurd (never (sym is ∙ taken.accepted));
})

of_pages : {D : Type 0} (p : pool.ShownPool D) (r : Refusal) → (r ≡ refusal.Broken → ⊥) → IsTrueCause p r → IsOfRoom r
of_pages p (refusal.Gap k) never cause = absurd cause
of_pages p refusal.BadNumber never cause = absurd cause
of_pages p refusal.BadLength never cause = absurd cause
of_pages p refusal.AddressEnd never cause = absurd cause
of_pages p refusal.NoThread never cause = absurd cause
of_pages p refusal.ChildUsed never cause = absurd cause
of_pages p refusal.SelfJoin never cause = absurd cause
of_pages p refusal.ChildNotAlive never cause = absurd cause
of_pages p refusal.ChildHoldsLocks never cause = absurd cause
of_pages p refusal.Broken never cause = absurd (never refl)
of_pages p refusal.Damaged never cause = inr (inr (inr (inl refl)))
of_pages p refusal.AlreadyHeld never cause = absurd cause
of_pages p refusal.LockBusy never cause = absurd cause
of_pages p refusal.NotHeld never cause = absurd cause
of_pages p refusal.FullHeld never cause = absurd cause
of_pages p refusal.FullSegments never cause = absurd cause
of_pages p refusal.MessageUsed never cause = absurd cause
of_pages p refusal.NotSent never cause = absurd cause
of_pages p refusal.MessageTaken never cause = absurd cause
of_pages p refusal.FullEvents never cause = absurd cause
of_pages p refusal.FullPending never cause = absurd cause
of_pages p refusal.FullSets never cause = absurd cause
of_pages p refusal.FullSlots never cause = inr (inr (inl refl))
of_pages p refusal.OutOfMemory never cause = inr (inl refl)
of_pages p refusal.DeviceFault never cause = inr (inr (inr (inr refl)))

-- why an event that the rules accept is refused
pub of_room : {D : Type 0} (p : pool.ShownPool D) (r : Refusal) → (r ≡ refusal.Broken → ⊥) → LacksRoom (IsTrueCause p) r → IsOfRoom r
of_room p r never (inl full) = inl full
of_room p r never (inr (inl none)) = inr (inl none)
of_room p r never (inr (inr cause)) = of_pages p r never cause

-- no slot is free where that is told
pub is_full : {D : Type 0} (p : pool.ShownPool D) (r : Refusal) → LacksRoom (IsTrueCause p) r → r ≡ refusal.FullSlots → IsFull p
is_full p r (inl full) is = absurd (cc (sym full ∙ is))
is_full p r (inr (inl none)) is = absurd (cc (sym none ∙ is))
is_full p r (inr (inr cause)) is = subst (λ (x : Refusal). IsTrueCause p x) is cause

-- a pool that works does not answer that it is broken
pub not_broken : {D : Type 0} (g : disk.Ghosts D) (old new : pool.ShownPool D) → Went g old new → (r : Refusal) → g.failures (pools.disk_of new) ≡ after_refusal r (g.failures (pools.disk_of old))
    → pools.is_broken old ≡ false → LacksRoom (IsTrueCause new) r → r ≡ refusal.Broken → ⊥
not_broken g old new went r failed works (inl full) is = absurd (cc (sym full ∙ is))
not_broken g old new went r failed works (inr (inl none)) is = absurd (cc (sym none ∙ is))
not_broken g old new went r failed works (inr (inr cause)) is =
    true≢false (sym (subst IsTrue (works_on g old new went (failed ∙ ap (λ (x : Refusal). after_refusal x (g.failures (pools.disk_of old))) is) works) (subst (λ (x : Refusal). IsTrueCause new x) is cause)))

-- the pages of a store can be read back
pub reads_true : {D : Type 0} (g : disk.Ghosts D) (s : Parts D g) (basis : Basis) → Standing g s basis → ReadsTrue g s.detector.words (length s.detector.segments) s.detector.sets.sets
reads_true g s basis is = (
  is.faithful.whole,
  λ w. live_known (live g (shown_of g s)) (length s.detector.segments) s.detector.sets.sets (pools.live g s.detector.words w) w is.state refl (is.faithful.within w),
)

module _ {D : Type 0} (g : disk.Ghosts D) (bytes : (d : D) → IsImage (g.state d) (g.state d).contents) (s : Parts D g) (basis : Basis) (is : Standing g s basis) (works : s.is_broken ≡ false)
    (d : detect.ShownDetector (pool.ShownPool D)) (n : Named) (broken : Bool) (accepts : verdict (standing_of (live g (shown_of g s))) n ≡ Accept) (fits : RecordFits n) (went : Went g s.detector.words d.words) (faithful : AtPresent (IsFaithful g) d) where
  pub accepted : (pending : List Named) → pending ≡ s.pending ++ n ∷ [] → detect.content (pools.live g) d ≡ after (live g (shown_of g s)) n → AsksBy s.detector.sets (sets_asked (live g (shown_of g s)) n.event) (Ok tt) d.sets
      → Standing g (with_detector g bytes s basis is works d pending broken) basis
  accepted pending more content asks =
      let now = live g (shown_of g s) in
      standing g bytes s basis is works d pending broken went faithful
      (subst IsLawfulState (sym content) (one_stays now n is.state fits accepts))
      (answered now n s.detector.sets d.sets (Ok tt) (one_stays now n is.state fits accepts).spelled asks is.spelled)
      (ap (λ (p : List Named). followed (saved g (shown_of g s)) p) more ∙ followed_append s.pending (n ∷ []) (saved g (shown_of g s)) now is.keeps.live
      ∙ followed_one now n accepts ∙ ap (λ (c : Content). Some c) (sym content))

  pub refused : (r : Refusal) → detect.content (pools.live g) d ≡ live g (shown_of g s) → AsksBy s.detector.sets (sets_asked (live g (shown_of g s)) n.event) (Err r) d.sets
      → Standing g (with_detector g bytes s basis is works d s.pending broken) basis
  refused r content asks =
      let now = live g (shown_of g s) in
      standing g bytes s basis is works d s.pending broken went faithful
      (subst IsLawfulState (sym content) is.state)
      (answered now n s.detector.sets d.sets (Err r) (one_stays now n is.state fits accepts).spelled asks is.spelled)
      (is.keeps.live ∙ ap (λ (c : Content). Some c) (sym content))
