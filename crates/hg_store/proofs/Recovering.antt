-- A store that is recovered: what its devices leave meanwhile, and the content that it has.
use Rattle.std.proofs.Common.{◌≡◌, ◌∙◌, inl, inr, ◌+◌, ℕ, List, get_or, All, Option, Some, None, Result, Ok, Err, refl, sym, ap, subst, arith}
use Rattle.std.specs.Prelude.{IfSome}
use Rattle.hg_model.specs.declared.event.Named.{Named}
use Rattle.hg_model.specs.Contents.{Content}
use Rattle.hg_contents.specs.Images.{start_of}
use Rattle.hg_model.specs.declared.verdict.Refusal.{Refusal}
use Rattle.hg_detect.specs.Shown as detect
use Rattle.hg_disk.specs.Calls.{CallsAtMost}
use Rattle.hg_disk.specs.State.{DiskState, IsImage, settled}
use Rattle.hg_disk.specs.Moments.{LeavesOnly}
use Rattle.hg_disk.specs.declared.disk.Disk as disk
use Rattle.hg_disk.proofs.Moments.{at_end, may_leave, stays, still}
use Rattle.hg_disk.proofs.Staying.{same, then}
use Rattle.hg_journals.specs.Journals.{HaveJournals}
use Rattle.hg_journals.specs.Pairs as journals
use Rattle.hg_journals.specs.declared.pair.JournalPair.{JournalPair}
use Rattle.hg_journals.proofs.Imaging.{reads}
use Rattle.hg_journals.proofs.Keeping.{once}
use Rattle.hg_pages.specs.Slots.{HasBytes}
use Rattle.hg_pool.specs.Kept.{Went}
use Rattle.hg_pool.specs.Maps as pools
use Rattle.hg_pool.specs.Shown as pool
use Rattle.hg_checkpoint.specs.Tables.{NamesOf}
use Rattle.hg_root.specs.Checkpoints.{Checkpoint, HasCheckpoint}
use Rattle.hg_root.specs.Finding.{WasRead}
use Rattle.hg_root.specs.declared.pair.RootPair.{RootPair}
use Rattle.hg_contents.specs.Choices.{HasSlots}
use Rattle.hg_images.specs.Images.{HasContent, Image, LeadFrom}
use Rattle.hg_images.specs.Stores.{IsLeft}
use Rattle.hg_store.specs.declared.devices.Devices.{Devices}
use Rattle.hg_store.specs.Images.{EachImage, EachReadsOrFailed, FilesReadSame, FilesWereRead, HasContentOf, HasContentOfOne, IsOnlyRead, KeepsCheckpoint, KeepsFiles, KeepsSlot, KeepsSlots, ReadsSlots, Recovers, read_of, states_of}
use Rattle.hg_recovery.specs.Answers.{CountedBy}
use Rattle.hg_recovery.specs.Rooting.{HasRootThat, IsRooted, NamesAbove}
use Rattle.hg_store.specs.Recovering.{LacksSlots, ReadsSameOrFault, Settled, Stay, made_of}
use Rattle.hg_store.specs.Shown.{ShownStore}
use Rattle.hg_recovery.proofs.Rooting.{settled_leaves}

-- other calls failed before
pub counted_so : (r : Refusal) (old new a b more : ℕ) → CountedBy r old new → a ≡ old + more → b ≡ new + more → CountedBy r a b
counted_so r old new a b more is one two = omega (arith, is, one, two)

one_image : (s : DiskState) (image : List ℕ) → s ≡ settled s.contents → IsImage s image → image ≡ s.contents
one_image s image is left =
    let left' : IsImage (settled s.contents) image = subst (λ (t : DiskState). IsImage t image) is left in
    left'.clean refl

module _ {D : Type 0} (g : disk.Ghosts D) where
  -- what a pair keeps is what its disks had, which were only read
  pub kept_of : (pair : JournalPair D g) (base : ℕ) (events : List Named) → journals.Keeps pair base events → (journal0 journal1 : D) → g.state (journals.first_of pair) ≡ g.state journal0
      → g.state (journals.second_of pair) ≡ g.state journal1 → HaveJournals base events (g.state journal0).contents (g.state journal1).contents
  kept_of pair base events keeps journal0 journal1 first second =
      subst (λ (s : DiskState). HaveJournals base events s.contents (g.state journal1).contents) first
      (subst (λ (s : DiskState). HaveJournals base events (g.state (journals.first_of pair)).contents s.contents) second (reads g pair base events keeps))

  -- a call between equal disks
  pub moved : (a b c d : D) (P : List ℕ → Type 0) → b ≡ a → d ≡ c → LeavesOnly g b d P → LeavesOnly g a c P
  moved a b c d P one two leaves = subst (λ (x : D). LeavesOnly g x c P) one (subst (λ (y : D). LeavesOnly g b y P) two leaves)

  -- reads between equal disks
  pub read_on : (a b c d : D) → b ≡ a → d ≡ c → LeavesOnly g b d (IsImage (g.state b)) → LeavesOnly g a c (IsImage (g.state a))
  read_on a b c d one two leaves = subst (λ (x : D). LeavesOnly g x c (IsImage (g.state x))) one (subst (λ (y : D). LeavesOnly g b y (IsImage (g.state b))) two leaves)

  module _ (old new : Devices D) (at : Settled g old old) where
    -- the devices were read
    pub read_alone : Stay g old new → EachImage g old new (HasContentOf (read_of g old))
    read_alone stay = record {
      journal0 = (stay.journal0.later, stay.journal0.has_gone, stay.journal0.kept);
      journal1 = (stay.journal1.later, stay.journal1.has_gone, stay.journal1.kept);
      slots = (stay.slots.later, stay.slots.has_gone, stay.slots.kept);
      root0 = (stay.root0.later, stay.root0.has_gone, stay.root0.kept);
      root1 = (stay.root1.later, stay.root1.has_gone, stay.root1.kept);
      each = λ image may c has.
          let journal0 : image.journal0 ≡ (g.state old.journal0).contents =
          one_image (g.state old.journal0) image.journal0 at.journal0 (may_leave g old.journal0 new.journal0 (IsImage (g.state old.journal0)) image.journal0 stay.journal0 may.journal0) in
          let journal1 : image.journal1 ≡ (g.state old.journal1).contents =
          one_image (g.state old.journal1) image.journal1 at.journal1 (may_leave g old.journal1 new.journal1 (IsImage (g.state old.journal1)) image.journal1 stay.journal1 may.journal1) in
          let slots : image.slots ≡ (g.state old.slots).contents =
          one_image (g.state old.slots) image.slots at.slots (may_leave g old.slots new.slots (IsImage (g.state old.slots)) image.slots stay.slots may.slots) in
          let root0 : image.root0 ≡ (g.state old.root0).contents =
          one_image (g.state old.root0) image.root0 at.root0 (may_leave g old.root0 new.root0 (IsImage (g.state old.root0)) image.root0 stay.root0 may.root0) in
          let root1 : image.root1 ≡ (g.state old.root1).contents =
          one_image (g.state old.root1) image.root1 at.root1 (may_leave g old.root1 new.root1 (IsImage (g.state old.root1)) image.root1 stay.root1 may.root1) in
          let same : read_of g old ≡ image = λ i. record { journal0 = sym journal0 i; journal1 = sym journal1 i; slots = sym slots i; root0 = sym root0 i; root1 = sym root1 i } in
          subst (λ (x : Image). HasContent x c) same has;
    }

    -- the pages of a checkpoint were read, and slots that it does not name were written
    pub with_pages : (most number : ℕ) (d : detect.ShownDetector (pool.ShownPool D)) (roots : RootPair D)
        → (rooted : IsRooted g most (g.state old.root0).contents (g.state old.root1).contents (g.state old.slots).contents d roots number)
        → LeavesOnly g old.journal0 new.journal0 (IsImage (g.state old.journal0)) → LeavesOnly g old.journal1 new.journal1 (IsImage (g.state old.journal1)) → LeavesOnly g old.slots new.slots (HasSlots rooted.now)
        → LeavesOnly g old.root0 new.root0 (IsImage (g.state old.root0)) → LeavesOnly g old.root1 new.root1 (IsImage (g.state old.root1))
        → EachImage g old new (HasContentOf (read_of g old))
    with_pages most number d roots rooted journal0 journal1 slots root0 root1 = record {
      journal0 = (journal0.later, journal0.has_gone, journal0.kept);
      journal1 = (journal1.later, journal1.has_gone, journal1.kept);
      slots = (slots.later, slots.has_gone, slots.kept);
      root0 = (root0.later, root0.has_gone, root0.kept);
      root1 = (root1.later, root1.has_gone, root1.kept);
      each = λ image may c has.
          let same_journal0 : (g.state old.journal0).contents ≡ image.journal0 =
          sym (one_image (g.state old.journal0) image.journal0 at.journal0 (may_leave g old.journal0 new.journal0 (IsImage (g.state old.journal0)) image.journal0 journal0 may.journal0)) in
          let same_journal1 : (g.state old.journal1).contents ≡ image.journal1 =
          sym (one_image (g.state old.journal1) image.journal1 at.journal1 (may_leave g old.journal1 new.journal1 (IsImage (g.state old.journal1)) image.journal1 journal1 may.journal1)) in
          let same_root0 : (g.state old.root0).contents ≡ image.root0 =
          sym (one_image (g.state old.root0) image.root0 at.root0 (may_leave g old.root0 new.root0 (IsImage (g.state old.root0)) image.root0 root0 may.root0)) in
          let same_root1 : (g.state old.root1).contents ≡ image.root1 =
          sym (one_image (g.state old.root1) image.root1 at.root1 (may_leave g old.root1 new.root1 (IsImage (g.state old.root1)) image.root1 root1 may.root1)) in
          let stand = may_leave g old.slots new.slots (HasSlots rooted.now) image.slots slots may.slots in
          let before : HasCheckpoint rooted.now.checkpoint (g.state old.root0).contents (g.state old.root1).contents image.slots = record { former = rooted.now.former; newest = rooted.has_roots; stand = stand } in record {
            checkpoint = rooted.now.checkpoint;
            stands = subst (λ (l : List ℕ). HasCheckpoint rooted.now.checkpoint l image.root1 image.slots) same_root0
                (subst (λ (l : List ℕ). HasCheckpoint rooted.now.checkpoint (g.state old.root0).contents l image.slots) same_root1 before);
            base = has.base;
            events = has.events;
            journals = subst (λ (l : List ℕ). HaveJournals has.base has.events l image.journal1) same_journal0 (subst (λ (l : List ℕ). HaveJournals has.base has.events (g.state old.journal0).contents l) same_journal1 has.journals);
            gives = subst (λ (s : Content). LeadFrom s has.base has.events c) (rooted.only has.checkpoint has.stands) has.gives;
          };
    }

  -- each device has what it read, so it leaves that
  pub left_self : (old mid : Devices D) → ((d : D) → IsImage (g.state d) (g.state d).contents) → Settled g old mid → IsLeft (states_of g old) (read_of g mid)
  left_self old mid bytes at = record {
    journal0 = subst (λ (l : List ℕ). IsImage (g.state old.journal0) l) (sym (ap (λ (s : DiskState). s.contents) at.journal0)) (bytes old.journal0);
    journal1 = subst (λ (l : List ℕ). IsImage (g.state old.journal1) l) (sym (ap (λ (s : DiskState). s.contents) at.journal1)) (bytes old.journal1);
    slots = subst (λ (l : List ℕ). IsImage (g.state old.slots) l) (sym (ap (λ (s : DiskState). s.contents) at.slots)) (bytes old.slots);
    root0 = subst (λ (l : List ℕ). IsImage (g.state old.root0) l) (sym (ap (λ (s : DiskState). s.contents) at.root0)) (bytes old.root0);
    root1 = subst (λ (l : List ℕ). IsImage (g.state old.root1) l) (sym (ap (λ (s : DiskState). s.contents) at.root1)) (bytes old.root1);
  }

  -- and reads what it read
  pub reads_same : (old mid : Devices D) → Settled g old mid → read_of g mid ≡ read_of g old
  reads_same old mid at = λ i. record {
    journal0 = ap (λ (s : DiskState). s.contents) at.journal0 i;
    journal1 = ap (λ (s : DiskState). s.contents) at.journal1 i;
    slots = ap (λ (s : DiskState). s.contents) at.slots i;
    root0 = ap (λ (s : DiskState). s.contents) at.root0 i;
    root1 = ap (λ (s : DiskState). s.contents) at.root1 i;
  }

  -- an image that was there has its own content
  of_left : (old : Devices D) (image : Image) → IsLeft (states_of g old) image → HasContentOfOne g old image
  of_left old image left = (image, left, λ c has. has)

  pub stay_images : (old new : Devices D) → Stay g old new → EachImage g old new (HasContentOfOne g old)
  stay_images old new stay = record {
    journal0 = (stay.journal0.later, stay.journal0.has_gone, stay.journal0.kept);
    journal1 = (stay.journal1.later, stay.journal1.has_gone, stay.journal1.kept);
    slots = (stay.slots.later, stay.slots.has_gone, stay.slots.kept);
    root0 = (stay.root0.later, stay.root0.has_gone, stay.root0.kept);
    root1 = (stay.root1.later, stay.root1.has_gone, stay.root1.kept);
    each = λ image may. of_left old image (record {
      journal0 = may_leave g old.journal0 new.journal0 (IsImage (g.state old.journal0)) image.journal0 stay.journal0 may.journal0;
      journal1 = may_leave g old.journal1 new.journal1 (IsImage (g.state old.journal1)) image.journal1 stay.journal1 may.journal1;
      slots = may_leave g old.slots new.slots (IsImage (g.state old.slots)) image.slots stay.slots may.slots;
      root0 = may_leave g old.root0 new.root0 (IsImage (g.state old.root0)) image.root0 stay.root0 may.root0;
      root1 = may_leave g old.root1 new.root1 (IsImage (g.state old.root1)) image.root1 stay.root1 may.root1;
    });
  }

  -- nothing was called since the sync
  pub only_synced : (old new : Devices D) → Stay g old new → Recovers g old new
  only_synced old new stay = record {
    synced = new;
    before = stay_images old new stay;
    behind = record {
      journal0 = stays g new.journal0;
      journal1 = stays g new.journal1;
      slots = stays g new.slots;
      root0 = stays g new.root0;
      root1 = stays g new.root1;
      each = λ image may. of_left old image (record {
        journal0 = at_end g old.journal0 new.journal0 (IsImage (g.state old.journal0)) stay.journal0 image.journal0 (still g new.journal0 image.journal0 may.journal0);
        journal1 = at_end g old.journal1 new.journal1 (IsImage (g.state old.journal1)) stay.journal1 image.journal1 (still g new.journal1 image.journal1 may.journal1);
        slots = at_end g old.slots new.slots (IsImage (g.state old.slots)) stay.slots image.slots (still g new.slots image.slots may.slots);
        root0 = at_end g old.root0 new.root0 (IsImage (g.state old.root0)) stay.root0 image.root0 (still g new.root0 image.root0 may.root0);
        root1 = at_end g old.root1 new.root1 (IsImage (g.state old.root1)) stay.root1 image.root1 (still g new.root1 image.root1 may.root1);
      });
    };
  }

  pub synced_first : (old mid new : Devices D) → ((d : D) → IsImage (g.state d) (g.state d).contents) → Stay g old mid → Settled g old mid → EachImage g mid new (HasContentOf (read_of g mid)) → Recovers g old new
  synced_first old mid new bytes stay at behind = record {
    synced = mid;
    before = stay_images old mid stay;
    behind = record {
      journal0 = behind.journal0;
      journal1 = behind.journal1;
      slots = behind.slots;
      root0 = behind.root0;
      root1 = behind.root1;
      each = λ image may. (read_of g mid, left_self old mid bytes at, behind.each image may);
    };
  }

-- The content of the devices, by what their journals keep and by their newest checkpoint.
pub gives_of : (image : Image) (c : Content) (base : ℕ) (events : List Named) (start : Content) → (has : HasContent image c) → HaveJournals base events image.journal0 image.journal1 → start_of has.checkpoint ≡ start
    → LeadFrom start base events c
gives_of image c base events start has keeps is =
    let same = once image.journal0 image.journal1 has.base base has.events events has.journals keeps in
    subst (λ (s : Content). LeadFrom s base events c) is
    (subst (λ (es : List Named). LeadFrom (start_of has.checkpoint) base es c) same.1 (subst (λ (n : ℕ). LeadFrom (start_of has.checkpoint) n has.events c) same.0 has.gives))

-- What a recovery keeps of the files
module _ {D : Type 0} (g : disk.Ghosts D) where
  -- a device that was not called
  pub uncalled : (old new : D) → new ≡ old → IsOnlyRead g old new
  uncalled old new is = subst (λ (d : D). IsOnlyRead g old d) (sym is) (record { state = refl; images = same g old })

  pub uncalled_root : (old new : D) → new ≡ old → WasRead g old new
  uncalled_root old new is = subst (λ (d : D). WasRead g old d) (sym is) (record { state = refl; any_moment = same g old; calls = omega arith })

  -- reads of a root between equal disks
  pub root_read : (a b c d : D) → b ≡ a → d ≡ c → WasRead g b d → WasRead g a c
  root_read a b c d one two read = subst (λ (x : D). WasRead g x c) one (subst (λ (y : D). WasRead g b y) two read)

  -- reads up to an equal disk
  pub read_to : (old mid new : D) → new ≡ mid → IsOnlyRead g old mid → IsOnlyRead g old new
  read_to old mid new is read = subst (λ (d : D). IsOnlyRead g old d) (sym is) read

  module _ (bytes : (d : D) → IsImage (g.state d) (g.state d).contents) where
    slots_kept : (file : List ℕ) (words now : pool.ShownPool D) (c : Option Checkpoint) → g.state (pools.disk_of words) ≡ settled file → Went g words now → NamesOf words.root c
        → IfSome c (λ k. All (λ p. KeepsSlot g file (pools.disk_of now) p.slot) k.root.pages)
    slots_kept file words now None at went names = tt
    slots_kept file words now (Some k) at went names = λ i d lt text has.
        let p = get_or k.root.pages i d in
        let P = HasBytes p.slot text in
        let leaves = at_end g (pools.disk_of words) (pools.disk_of now) P (went.root_kept p.slot text (p.page, names i d lt) (settled_leaves P file (g.state (pools.disk_of words)) at has)) in
        (leaves (g.state (pools.disk_of now)).contents (bytes (pools.disk_of now)), leaves)

    -- the slots that the newest root names keep their bytes while the events behind it are followed
    pub checkpoint_kept : (most number : ℕ) (old : Devices D) (d : detect.ShownDetector (pool.ShownPool D)) (roots : RootPair D)
        → IsRooted g most (g.state old.root0).contents (g.state old.root1).contents (g.state old.slots).contents d roots number
        → g.state (pools.disk_of d.words) ≡ settled (g.state old.slots).contents → (now : pool.ShownPool D) → Went g d.words now → (slots : D) → slots ≡ pools.disk_of now
        → KeepsCheckpoint g (read_of g old) slots
    checkpoint_kept most number old d roots rooted at now went slots is = (
      rooted.now.checkpoint,
      record { former = rooted.now.former; newest = rooted.has_roots; stand = rooted.has_slots },
      subst (λ (x : D). IfSome rooted.now.checkpoint (λ k. All (λ p. KeepsSlot g (g.state old.slots).contents x p.slot) k.root.pages)) (sym is)
          (slots_kept (g.state old.slots).contents d.words now rooted.now.checkpoint at went rooted.started.names),
    )

  -- a sync failed, or all succeeded and nothing was called since
  pub files_synced : (old new : Devices D) → Stay g old new → EachReadsOrFailed g old new → KeepsFiles g old new
  files_synced old new stay each = record {
    journal0 = record { bytes = each.journal0; images = stay.journal0 };
    journal1 = record { bytes = each.journal1; images = stay.journal1 };
    root0 = record { bytes = each.root0; images = stay.root0 };
    root1 = record { bytes = each.root1; images = stay.root1 };
  }

  pub slots_synced : (old new : Devices D) → Stay g old new → EachReadsOrFailed g old new → KeepsSlots g old new
  slots_synced old new stay each = inl (record { bytes = each.slots; images = stay.slots })

  -- after the syncs the files were read
  module _ (old mid new : Devices D) (at : Settled g old mid) where
    pub same_read : FilesWereRead g mid new → FilesReadSame g old new
    same_read read = record {
      journal0 = ap (λ (s : DiskState). s.contents) (read.journal0.state ∙ at.journal0);
      journal1 = ap (λ (s : DiskState). s.contents) (read.journal1.state ∙ at.journal1);
      root0 = ap (λ (s : DiskState). s.contents) (read.root0.state ∙ at.root0);
      root1 = ap (λ (s : DiskState). s.contents) (read.root1.state ∙ at.root1);
    }

    module _ (stay : Stay g old mid) where
      pub files_read : FilesWereRead g mid new → KeepsFiles g old new
      files_read read =
          let now = same_read read in
          record {
            journal0 = record { bytes = inl now.journal0; images = then g old.journal0 mid.journal0 new.journal0 stay.journal0 read.journal0.images };
            journal1 = record { bytes = inl now.journal1; images = then g old.journal1 mid.journal1 new.journal1 stay.journal1 read.journal1.images };
            root0 = record { bytes = inl now.root0; images = then g old.root0 mid.root0 new.root0 stay.root0 read.root0.any_moment };
            root1 = record { bytes = inl now.root1; images = then g old.root1 mid.root1 new.root1 stay.root1 read.root1.any_moment };
          }

      pub slots_read : ReadsSlots g mid new → KeepsSlots g old new
      slots_read (inl read) =
          inl (record { bytes = inl (ap (λ (s : DiskState). s.contents) (read.state ∙ at.slots)); images = then g old.slots mid.slots new.slots stay.slots read.images })
      slots_read (inr kept) = inr (subst (λ (x : Image). KeepsCheckpoint g x new.slots) (reads_same g old mid at) kept)

  pub same_settled : (old mid : Devices D) → Settled g old mid → FilesReadSame g old mid
  same_settled old mid at = record {
    journal0 = ap (λ (s : DiskState). s.contents) at.journal0;
    journal1 = ap (λ (s : DiskState). s.contents) at.journal1;
    root0 = ap (λ (s : DiskState). s.contents) at.root0;
    root1 = ap (λ (s : DiskState). s.contents) at.root1;
  }

  pub same_or_fault : (old : Devices D) (result : Result (ShownStore D) (Refusal × Devices D)) → FilesReadSame g old (made_of result) → ReadsSameOrFault g old result
  same_or_fault old (Ok s) is = is
  same_or_fault old (Err e) is = λ _. is

  -- the roots' bytes of a refusal for want of slots are those from before the syncs
  pub lacks_before : (cap : ℕ) (old mid new : Devices D) → Settled g old mid → LacksSlots g cap mid new → LacksSlots g cap old new
  lacks_before cap old mid new at (inl above) =
      inl (subst (λ (x : Image). HasRootThat (NamesAbove cap) x.root0 x.root1) (reads_same g old mid at) above)
  lacks_before cap old mid new at (inr full) = inr full

  pub few_calls : (a b : D) → CallsAtMost g 1 a b → CallsAtMost g 4 a b
  few_calls a b one = omega (arith, one)

  pub read_once : (a b c : D) → CallsAtMost g 1 a b → WasRead g b c → CallsAtMost g 4 a c
  read_once a b c one read = let three = read.calls in omega (arith, one, three)
