-- A store whose journals were read.
use Rattle.std.proofs.Common.{◌≡◌, ℕ, List, sym, subst}
use Rattle.hg_disk.specs.State.{DiskState, IsImage}
use Rattle.hg_disk.specs.Moments.{AddsNoImage}
use Rattle.hg_disk.specs.declared.disk.Disk as disk
use Rattle.hg_disk.proofs.Moments.{may_leave, stays, still}
use Rattle.hg_journals.specs.declared.pair.JournalPair.{JournalPair}
use Rattle.hg_journals.specs.Pairs as journals
use Rattle.hg_images.specs.Choices.{Basis}
use Rattle.hg_images.specs.Stores.{IsLeft}
use Rattle.hg_checkpoint.specs.declared.phase.Phase.{Phase}
use Rattle.hg_checkpoint.specs.declared.phase.Phase.TheVariants as phase
use Rattle.hg_store.specs.declared.devices.Devices.{Devices}
use Rattle.hg_store.specs.Images.{EachImage, states_of}
use Rattle.hg_store.specs.Kept.{IsFreezing, IsInProgress, IsRooting, Parts, Standing}

-- journals that were read leave what they were
pub images_left : {D : Type 0} (g : disk.Ghosts D) (old : Devices D) (journal0 journal1 : D) → AddsNoImage g old.journal0 journal0 → AddsNoImage g old.journal1 journal1
    → EachImage g old (record old { journal0 = journal0; journal1 = journal1 }) (IsLeft (states_of g old))
images_left g old journal0 journal1 one two = record {
  journal0 = (one.later, one.has_gone, one.kept);
  journal1 = (two.later, two.has_gone, two.kept);
  slots = stays g old.slots;
  root0 = stays g old.root0;
  root1 = stays g old.root1;
  each = λ image may. record {
    journal0 = may_leave g old.journal0 journal0 (IsImage (g.state old.journal0)) image.journal0 one may.journal0;
    journal1 = may_leave g old.journal1 journal1 (IsImage (g.state old.journal1)) image.journal1 two may.journal1;
    slots = still g old.slots image.slots may.slots;
    root0 = still g old.root0 image.root0 may.root0;
    root1 = still g old.root1 image.root1 may.root1;
  };
}

-- no device was called
pub images_same : {D : Type 0} (g : disk.Ghosts D) (old : Devices D) → EachImage g old old (IsLeft (states_of g old))
images_same g old = record {
  journal0 = stays g old.journal0;
  journal1 = stays g old.journal1;
  slots = stays g old.slots;
  root0 = stays g old.root0;
  root1 = stays g old.root1;
  each = λ image may. record {
    journal0 = still g old.journal0 image.journal0 may.journal0;
    journal1 = still g old.journal1 image.journal1 may.journal1;
    slots = still g old.slots image.slots may.slots;
    root0 = still g old.root0 image.root0 may.root0;
    root1 = still g old.root1 image.root1 may.root1;
  };
}

module _ {D : Type 0} (g : disk.Ghosts D) (s : Parts D g) (basis : Basis) (is : Standing g s basis) (pair : JournalPair D g) where
  abbrev with_journals : Parts D g
  with_journals = record {
    journals = pair;
    detector = s.detector;
    checkpointer = s.checkpointer;
    committed = s.committed;
    frozen = s.frozen;
    pending = s.pending;
    durable = s.durable;
    counted = s.counted;
    counting = s.counting;
    is_broken = s.is_broken;
    in_doubt = s.in_doubt;
  }

  freezing : IsFreezing g s basis → IsFreezing g with_journals basis
  freezing f = record { was = f.was; state = f.state; content = f.content; front = f.front; draft = f.draft }

  rooting : IsRooting g s basis → IsRooting g with_journals basis
  unfolding freezing
  rooting r = record { freezing = freezing r.freezing; next = r.next; is_next = r.is_next; content = r.content }

  in_progress : (at : Phase) → IsInProgress g at s basis → IsInProgress g at with_journals basis
  in_progress phase.Idle p = tt
  in_progress phase.Flushing p = freezing p
  in_progress phase.Sealed p = rooting p
  in_progress phase.Prepared p = rooting p
  in_progress phase.Written p = rooting p

  pub read_on : g.state (journals.first_of pair) ≡ g.state (journals.first_of s.journals) → g.state (journals.second_of pair) ≡ g.state (journals.second_of s.journals)
      → (journals.Keeps s.journals basis.base basis.events → journals.Keeps pair basis.base basis.events) → Standing g with_journals basis
  read_on first second keeps = record {
    keeps = record {
      gives = is.keeps.gives;
      live = is.keeps.live;
      count = is.keeps.count;
      journals = λ one other is_one is_other. is.keeps.journals one other (subst (λ (t : DiskState). IsImage t one) first is_one) (subst (λ (t : DiskState). IsImage t other) second is_other);
      roots = is.keeps.roots;
      slots = is.keeps.slots;
    };
    faithful = is.faithful;
    state = is.state;
    spelled = is.spelled;
    works = λ works.
        let w = is.works works in
        record {
          certain = w.certain;
          rests = w.rests;
          journals = keeps w.journals;
          stands = w.stands;
          number = w.number;
          counted = w.counted;
          progress = in_progress s.checkpointer.phase w.progress;
        };
  }
