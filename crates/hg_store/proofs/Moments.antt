-- What a crash may leave of the devices from one moment to another, from one fact on each kind of device.
use Rattle.std.proofs.Common.{◌≡◌, ℕ, List, Bool, Some}
use Rattle.hg_model.specs.declared.event.Named.{Named}
use Rattle.hg_model.specs.Contents.{Content}
use Rattle.hg_model.specs.Change.{followed}
use Rattle.hg_disk.specs.State.{IsImage}
use Rattle.hg_disk.specs.Moments.{LeavesOnly}
use Rattle.hg_disk.specs.declared.disk.Disk as disk
use Rattle.hg_disk.proofs.Moments.{at_end, left_at_end, may_leave, stays, still}
use Rattle.hg_images.specs.Choices.{Basis, GivesDurable, HasBothSlots, HasEitherRoots, HaveEvents, Stands}
use Rattle.hg_images.specs.Images.{Image}
use Rattle.hg_images.specs.Stores as stores
use Rattle.hg_journals.specs.Journals.{HaveJournals}
use Rattle.hg_journals.specs.Pairs as pairs
use Rattle.hg_journals.specs.declared.pair.JournalPair.{JournalPair}
use Rattle.hg_journals.proofs.Imaging.{stays as pair_stays}
use Rattle.hg_images.proofs.Joining.{joint_images}
use Rattle.hg_checkpoint.specs.Standing.{EachOf}
use Rattle.hg_store.specs.declared.devices.Devices.{Devices}
use Rattle.hg_store.specs.Images.{EachImage, read_of, states_of}

module _ {D : Type 0} (g : disk.Ghosts D) where
  -- From one moment to another each kind of device had this basis.
  pub record Moved (basis : Basis) (pending : List Named) (in_doubt : Bool) (old new : Devices D) : Type 0 where
    pub journals : pairs.EachImage g old.journal0 new.journal0 old.journal1 new.journal1 (HaveEvents basis pending in_doubt)
    pub roots : EachOf g old.root0 new.root0 old.root1 new.root1 (HasEitherRoots basis)
    pub slots : LeavesOnly g old.slots new.slots (HasBothSlots basis)

  module _ (basis : Basis) (pending : List Named) (in_doubt : Bool) (old new : Devices D) (moved : Moved basis pending in_doubt old new) (d live : Content) (gives : GivesDurable basis d) (leads : followed d pending ≡ Some live) where
    pub each_image : EachImage g old new (Stands d live in_doubt)
    each_image = record {
      journal0 = moved.journals.first_goes;
      journal1 = moved.journals.second_goes;
      slots = (moved.slots.later, moved.slots.has_gone, moved.slots.kept);
      root0 = moved.roots.first_goes;
      root1 = moved.roots.second_goes;
      each = λ image may. joint_images basis pending in_doubt d live image gives leads (record {
        journals = moved.journals.each image.journal0 image.journal1 may.journal0 may.journal1;
        roots = moved.roots.each image.root0 image.root1 may.root0 may.root1;
        slots = may_leave g old.slots new.slots (HasBothSlots basis) image.slots moved.slots may.slots;
      });
    }

    pub keeps_after : (durable : ℕ) → durable ≡ d.events → stores.KeepsContent basis (record { devices = states_of g new; live = live; pending = pending; durable = durable; in_doubt = in_doubt }) d
    keeps_after durable count = record {
      gives = gives;
      live = leads;
      count = count;
      journals = λ one other is_one is_other. moved.journals.each one other (left_at_end g old.journal0 new.journal0 one moved.journals.first_goes is_one) (left_at_end g old.journal1 new.journal1 other moved.journals.second_goes is_other);
      roots = λ one other is_one is_other. moved.roots.each one other (left_at_end g old.root0 new.root0 one moved.roots.first_goes is_one) (left_at_end g old.root1 new.root1 other moved.roots.second_goes is_other);
      slots = at_end g old.slots new.slots (HasBothSlots basis) moved.slots;
    }

  -- devices that were not called
  pub none_moved : (basis : Basis) (s : stores.View) (d : Content) (devices : Devices D) → s.devices ≡ states_of g devices → stores.KeepsContent basis s d → EachOf g devices.root0 devices.root0 devices.root1 devices.root1 (HasEitherRoots basis)
  none_moved basis s d devices same keeps = record {
    first_goes = stays g devices.root0;
    second_goes = stays g devices.root1;
    each = λ one other may_one may_other. rw same at keeps.roots one other (still g devices.root0 one may_one) (still g devices.root1 other may_other);
  }

  pub journals_still : (devices : Devices D) (P : List ℕ → List ℕ → Type 0) → ((one other : List ℕ) → IsImage (g.state devices.journal0) one → IsImage (g.state devices.journal1) other → P one other)
      → pairs.EachImage g devices.journal0 devices.journal0 devices.journal1 devices.journal1 P
  journals_still devices P each = record {
    first_goes = stays g devices.journal0;
    second_goes = stays g devices.journal1;
    each = λ one other may_one may_other. each one other (still g devices.journal0 one may_one) (still g devices.journal1 other may_other);
  }

  -- what each image of a pair keeps
  pub kept_images : (pair : JournalPair D g) (base : ℕ) (events : List Named) → pairs.Keeps pair base events → (one other : List ℕ) → IsImage (g.state (pairs.first_of pair)) one → IsImage (g.state (pairs.second_of pair)) other
      → HaveJournals base events one other
  kept_images pair base events keeps one other is_one is_other =
      let first = pairs.first_of pair in
      let second = pairs.second_of pair in
      (pair_stays g pair base events keeps).each one other (left_at_end g first first one (stays g first) is_one) (left_at_end g second second other (stays g second) is_other)

  -- the same of more than it is known of
  pub journals_weaker : (a b c d : D) (P Q : List ℕ → List ℕ → Type 0) → ((one other : List ℕ) → P one other → Q one other) → pairs.EachImage g a b c d P → pairs.EachImage g a b c d Q
  journals_weaker a b c d P Q implies has = record {
    first_goes = has.first_goes;
    second_goes = has.second_goes;
    each = λ one other may_one may_other. implies one other (has.each one other may_one may_other);
  }

  pub all_still : (devices : Devices D) (P : Image → Type 0) → ((image : Image) → stores.IsLeft (states_of g devices) image → P image) → EachImage g devices devices P
  all_still devices P each = record {
    journal0 = stays g devices.journal0;
    journal1 = stays g devices.journal1;
    slots = stays g devices.slots;
    root0 = stays g devices.root0;
    root1 = stays g devices.root1;
    each = λ image may. each image (record {
      journal0 = still g devices.journal0 image.journal0 may.journal0;
      journal1 = still g devices.journal1 image.journal1 may.journal1;
      slots = still g devices.slots image.slots may.slots;
      root0 = still g devices.root0 image.root0 may.root0;
      root1 = still g devices.root1 image.root1 may.root1;
    });
  }

  -- what the devices read is left
  pub read_is_left : ((d : D) → IsImage (g.state d) (g.state d).contents) → (devices : Devices D) → stores.IsLeft (states_of g devices) (read_of g devices)
  read_is_left bytes devices = record {
    journal0 = bytes devices.journal0;
    journal1 = bytes devices.journal1;
    slots = bytes devices.slots;
    root0 = bytes devices.root0;
    root1 = bytes devices.root1;
  }
