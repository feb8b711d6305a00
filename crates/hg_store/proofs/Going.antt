-- A store goes on while calls of its pool come.
use Rattle.std.proofs.Common.{◌≡◌, inl, inr, ℕ, List, Bool, false, All, Some, refl, sym, subst, ◌∙◌}
use Rattle.std.proofs.lemmas.Bool.{false≢true}
use Rattle.hg_model.specs.declared.event.Named.{Named}
use Rattle.hg_model.specs.Change.{followed}
use Rattle.hg_detect.specs.Engine.{AtPresent}
use Rattle.hg_detect.specs.Shown as detect
use Rattle.hg_disk.specs.State.{IsImage}
use Rattle.hg_disk.specs.Moments.{LeavesOnly}
use Rattle.hg_disk.specs.declared.disk.Disk as disk
use Rattle.hg_disk.proofs.Moments.{weaker}
use Rattle.hg_pool.specs.Kept.{IsFaithful, Went}
use Rattle.hg_pool.specs.Maps as pools
use Rattle.hg_pool.specs.Shown as pool
use Rattle.hg_root.specs.Grammar.{SetFits}
use Rattle.hg_contents.specs.Choices.{Choice, HasSlots}
use Rattle.hg_images.specs.Choices.{Basis, HaveEvents, Stands}
use Rattle.hg_contents.specs.States.{IsLawfulState}
use Rattle.hg_checkpoint.specs.declared.phase.Phase.{Phase}
use Rattle.hg_checkpoint.specs.declared.phase.Phase.TheVariants as phase
use Rattle.hg_checkpoint.proofs.Between.{calls_between}
use Rattle.hg_checkpoint.proofs.Staying.{slots_stay}
use Rattle.hg_store.specs.Images.{EachImage}
use Rattle.hg_store.specs.Kept.{IsFreezing, IsInProgress, IsRooting, IsWorking, Parts, Standing, devices_of, shown_of}
use Rattle.hg_store.specs.Shown.{live, saved}
use Rattle.hg_store.specs.Store.{view_of}
use Rattle.hg_store.proofs.Moments.{Moved, each_image, journals_still, keeps_after, none_moved}

-- in no doubt, the journals have the durable events, whatever else waits
other_pending : (basis : Basis) (pending others : List Named) (in_doubt : Bool) (one other : List ℕ) → in_doubt ≡ false → HaveEvents basis pending in_doubt one other → HaveEvents basis others in_doubt one other
other_pending basis pending others in_doubt one other certain (inl is) = inl is
other_pending basis pending others in_doubt one other certain (inr doubt) = absurd (false≢true (sym certain ∙ doubt.0))

-- what is in progress, by the phase
pub progress_at : {D : Type 0} (g : disk.Ghosts D) (s : Parts D g) (basis : Basis) (is : Standing g s basis) (works : s.is_broken ≡ false) (at : Phase) → s.checkpointer.phase ≡ at → IsInProgress g at s basis
progress_at g s basis is works at same = subst (λ (p : Phase). IsInProgress g p s basis) same (is.works works).progress

module _ {D : Type 0} (g : disk.Ghosts D) (bytes : (d : D) → IsImage (g.state d) (g.state d).contents) (s : Parts D g) (basis : Basis) (is : Standing g s basis) (works : s.is_broken ≡ false) where
  both_slots : (next : Choice) (new : pool.ShownPool D) → next ≡ basis.now → Went g s.detector.words new → LeavesOnly g (pools.disk_of s.detector.words) (pools.disk_of new) (λ slots. HasSlots basis.now slots × HasSlots next slots)
  both_slots next new same went =
      let w = is.works works in
      subst (λ (choice : Choice). LeavesOnly g (pools.disk_of s.detector.words) (pools.disk_of new) (λ slots. HasSlots basis.now slots × HasSlots choice slots)) (sym same)
      (weaker g (pools.disk_of s.detector.words) (pools.disk_of new) (HasSlots basis.now) (λ slots. HasSlots basis.now slots × HasSlots basis.now slots)
      (slots_stay g bytes s.detector.words new basis.now.checkpoint basis.now.former went w.stands.names w.stands.slots) (λ image has. (has, has)))

  -- the slots alone are called
  pub moved : (pending : List Named) (new : pool.ShownPool D) → Went g s.detector.words new → Moved g basis pending s.in_doubt (shown_of g s).devices (devices_of g s.journals new s.checkpointer)
  moved pending new went = record {
    journals = journals_still g (shown_of g s).devices (HaveEvents basis pending s.in_doubt)
        (λ one other is_one is_other. other_pending basis s.pending pending s.in_doubt one other (is.works works).certain (is.keeps.journals one other is_one is_other));
    roots = none_moved g basis (view_of g (shown_of g s)) (saved g (shown_of g s)) (shown_of g s).devices refl is.keeps;
    slots = both_slots basis.next new (is.works works).rests.one_choice went;
  }

  pub images : (new : pool.ShownPool D) → Went g s.detector.words new → EachImage g (shown_of g s).devices (devices_of g s.journals new s.checkpointer) (Stands (saved g (shown_of g s)) (live g (shown_of g s)) s.in_doubt)
  images new went =
      each_image g basis s.pending s.in_doubt (shown_of g s).devices (devices_of g s.journals new s.checkpointer) (moved s.pending new went) (saved g (shown_of g s)) (live g (shown_of g s)) is.keeps.gives is.keeps.live

  abbrev pub with_detector : detect.ShownDetector (pool.ShownPool D) → List Named → Bool → Parts D g
  with_detector d pending broken = record {
    journals = s.journals;
    detector = d;
    checkpointer = s.checkpointer;
    committed = s.committed;
    frozen = s.frozen;
    pending = pending;
    durable = s.durable;
    counted = s.counted;
    counting = s.counting;
    is_broken = broken;
    in_doubt = s.in_doubt;
  }

  module _ (d : detect.ShownDetector (pool.ShownPool D)) (pending : List Named) (broken : Bool) (went : Went g s.detector.words d.words) where
    freezing : IsFreezing g s basis → IsFreezing g (with_detector d pending broken) basis
    freezing f = record {
      was = f.was;
      content = f.content;
      state = f.state;
      front = f.front;
      draft = (calls_between g bytes s.checkpointer s.detector.words d.words went).draft basis.now.checkpoint _ _ f.draft;
    }

    rooting : IsRooting g s basis → IsRooting g (with_detector d pending broken) basis
    unfolding freezing
    rooting r = record {
      freezing = freezing r.freezing;
      next = r.next;
      is_next = (calls_between g bytes s.checkpointer s.detector.words d.words went).next basis.now.checkpoint r.next r.is_next;
      content = r.content;
    }

    in_progress : (at : Phase) → IsInProgress g at s basis → IsInProgress g at (with_detector d pending broken) basis
    in_progress phase.Idle p = tt
    in_progress phase.Flushing p = freezing p
    in_progress phase.Sealed p = rooting p
    in_progress phase.Prepared p = rooting p
    in_progress phase.Written p = rooting p

    working : IsWorking g s basis → IsWorking g (with_detector d pending broken) basis
    working w = record {
      certain = w.certain;
      rests = w.rests;
      journals = w.journals;
      stands = (calls_between g bytes s.checkpointer s.detector.words d.words went).stands basis.now.checkpoint basis.now.former w.stands;
      number = w.number;
      counted = w.counted;
      progress = in_progress s.checkpointer.phase w.progress;
    }

    pub standing : AtPresent (IsFaithful g) d → IsLawfulState (detect.content (pools.live g) d) → All SetFits d.sets.sets → followed (saved g (shown_of g s)) pending ≡ Some (detect.content (pools.live g) d)
        → Standing g (with_detector d pending broken) basis
    standing faithful state spelled leads = record {
      keeps = keeps_after g basis pending s.in_doubt (shown_of g s).devices (devices_of g s.journals d.words s.checkpointer) (moved pending d.words went) (saved g (shown_of g s)) (detect.content (pools.live g) d)
          is.keeps.gives leads s.durable is.keeps.count;
      faithful = faithful;
      state = state;
      spelled = spelled;
      works = λ _. working (is.works works);
    }
