use Rattle.std.proofs.Common.{◌∙◌, inl, inr, ℕ, ◌+◌, refl, sym, ap, subst, arith}
use Rattle.hg_model.specs.Contents.{Content}
use Rattle.hg_sets.specs.Interning.{Table}
use Rattle.hg_detect.specs.Shown as detect
use Rattle.hg_disk.specs.State.{DiskState, IsImage}
use Rattle.hg_disk.proofs.Moments.{joined, weaker}
use Rattle.hg_disk.proofs.Staying.{same, then}
use Rattle.hg_journals.specs.Pairs as journals
use Rattle.hg_pages.specs.Files as files
use Rattle.hg_pages.specs.declared.slot_file.SlotFile.{SlotFile}
use Rattle.hg_pool.specs.Maps as pools
use Rattle.hg_pool.specs.Shown as pool
use Rattle.hg_root.specs.Checkpoints.{HasCheckpoint, root_of}
use Rattle.hg_root.specs.Pairs.{first_of, second_of}
use Rattle.hg_contents.specs.Choices.{HasSlots}
use Rattle.hg_images.specs.Images.{LeadFrom}
use Rattle.hg_contents.specs.Images.{start_of}
use Rattle.hg_checkpoint.proofs.Staying.{slots_stay}
use Rattle.hg_store.specs.declared.devices.Devices.{Devices}
use Rattle.hg_store.specs.Images.{EachImage, FilesWereRead, HasContentOf, failures_of, read_of}
use Rattle.hg_recovery.specs.Rooting.{HasRootThat, NamesAbove, table_at}
use Rattle.hg_recovery.specs.Filling.{HasSets, IsTooSmall}
use Rattle.hg_store.specs.Recovering.{HasFullSlots}
use Rattle.hg_store.proofs.Recovering.{checkpoint_kept, counted_so, gives_of, kept_of, moved, read_alone, read_on, read_to, root_read, uncalled, uncalled_root, with_pages}
use Rattle.hg_recovery.proofs.Filling.{fills_limit}
use Rattle.hg_recovery.proofs.Rooting.{settled_leaves}
use Rattle.hg_recovery.proofs.Telling.{counted_beside, of_reading, reading_asks_none, reading_failed, reading_takes_none}
use Rattle.hg_store.proofs.recover.recovered.Goals as goal

pub returns-in-Err-clause-damaged : goal.returns-in-Err-clause-damaged
returns-in-Err-clause-damaged g c honest told d has =
    c.in-Err.ensures.damaged (g.met.D.Disk.honest_reads honest _, g.met.D.Disk.honest_reads honest _) (c.requires.settled.journal0, c.requires.settled.journal1) told has.base has.events has.journals

pub returns-in-Err-clause-images : goal.returns-in-Err-clause-images
returns-in-Err-clause-images g c honest =
    let old = c.args.devices in
    let first = c.attach-roots.ensures.first in
    let second = c.attach-roots.ensures.second in
    subst (λ (n : Devices g.row.D.Denot). EachImage g.D.Disk old n (HasContentOf (read_of g.D.Disk old))) (sym c.handed_back.ensures)
    (read_alone g.D.Disk old _ c.requires.settled (record {
      journal0 = c.in-Err.ensures.first.any_moment;
      journal1 = c.in-Err.ensures.second.any_moment;
      slots = same g.D.Disk old.slots;
      root0 = moved g.D.Disk old.root0 old.root0 _ old.root0 (IsImage (g.D.Disk.state old.root0)) refl (sym first) (same g.D.Disk old.root0);
      root1 = moved g.D.Disk old.root1 old.root1 _ old.root1 (IsImage (g.D.Disk.state old.root1)) refl (sym second) (same g.D.Disk old.root1);
    }))

pub caught_up-requires-clause-started : goal.caught_up-requires-clause-started
caught_up-requires-clause-started g c honest =
    let old = c.args.devices in
    let some = c.in-Ok.ensures.keeps (g.met.D.Disk.honest_reads honest _, g.met.D.Disk.honest_reads honest _) (c.requires.settled.journal0, c.requires.settled.journal1) in
    let rooted = c.in-Ok-rooted.ensures.rooted honest (g.D.Disk.state old.root0).contents (g.D.Disk.state old.root1).contents (g.D.Disk.state old.slots).contents
    (ap (λ d. g.D.Disk.state d) c.attach-roots.ensures.first ∙ c.requires.settled.root0)
    (ap (λ d. g.D.Disk.state d) c.attach-roots.ensures.second ∙ c.requires.settled.root1)
    c.requires.settled.slots in
    (some.0, some.1, rooted.now, some.2, rooted.started)

pub returns-in-Ok-caught_up-clause-content : goal.returns-in-Ok-caught_up-clause-content
returns-in-Ok-caught_up-clause-content g c honest =
    let old = c.args.devices in
    let some = c.in-Ok.ensures.keeps (g.met.D.Disk.honest_reads honest _, g.met.D.Disk.honest_reads honest _) (c.requires.settled.journal0, c.requires.settled.journal1) in
    let have = kept_of g.D.Disk c.in-Ok.journals some.0 some.1 some.2 old.journal0 old.journal1 c.in-Ok.ensures.first.state c.in-Ok.ensures.second.state in
    let rooted = c.in-Ok-rooted.ensures.rooted honest (g.D.Disk.state old.root0).contents (g.D.Disk.state old.root1).contents (g.D.Disk.state old.slots).contents
    (ap (λ d. g.D.Disk.state d) c.attach-roots.ensures.first ∙ c.requires.settled.root0)
    (ap (λ d. g.D.Disk.state d) c.attach-roots.ensures.second ∙ c.requires.settled.root1)
    c.requires.settled.slots in
    let has = c.in-Ok-caught_up.ensures.content rooted.now some.0 some.1 honest rooted.started some.2 in (
      has.0,
      record {
        checkpoint = rooted.now.checkpoint;
        stands = record { former = rooted.now.former; newest = rooted.has_roots; stand = rooted.has_slots };
        base = some.0;
        events = some.1;
        journals = have;
        gives = has.1;
      },
      has.2,
    )

pub returns-in-Ok-caught_up-clause-sets : goal.returns-in-Ok-caught_up-clause-sets
returns-in-Ok-caught_up-clause-sets g c honest =
    let old = c.args.devices in
    let some = c.in-Ok.ensures.keeps (g.met.D.Disk.honest_reads honest _, g.met.D.Disk.honest_reads honest _) (c.requires.settled.journal0, c.requires.settled.journal1) in
    let have = kept_of g.D.Disk c.in-Ok.journals some.0 some.1 some.2 old.journal0 old.journal1 c.in-Ok.ensures.first.state c.in-Ok.ensures.second.state in
    let store = c.in-Ok-caught_up.store in
    let rooted = c.in-Ok-rooted.ensures.rooted honest (g.D.Disk.state old.root0).contents (g.D.Disk.state old.root1).contents (g.D.Disk.state old.slots).contents
    (ap (λ d. g.D.Disk.state d) c.attach-roots.ensures.first ∙ c.requires.settled.root0)
    (ap (λ d. g.D.Disk.state d) c.attach-roots.ensures.second ∙ c.requires.settled.root1)
    c.requires.settled.slots in
    let live = detect.content (pools.live g.D.Disk) store.detector in
    record {
      checkpoint = rooted.now.checkpoint;
      stands = record { former = rooted.now.former; newest = rooted.has_roots; stand = rooted.has_slots };
      base = some.0;
      events = some.1;
      journals = have;
      sets = subst (λ (s : Content). HasSets s (table_at c.args.caps.sets (root_of rooted.now.checkpoint)) some.0 some.1 live store.detector.sets) rooted.started.content
          (subst (λ (t : Table). HasSets (detect.content (pools.live g.D.Disk) c.in-Ok-rooted.detector) t some.0 some.1 live store.detector.sets) rooted.sets
          (c.in-Ok-caught_up.ensures.sets rooted.now some.0 some.1 honest rooted.started some.2));
    }

pub returns-in-Ok-caught_up-clause-images : goal.returns-in-Ok-caught_up-clause-images
returns-in-Ok-caught_up-clause-images g c honest =
    let old = c.args.devices in
    let new = c.in-Ok-caught_up.store.devices in
    let rooted = c.in-Ok-rooted.ensures.rooted honest (g.D.Disk.state old.root0).contents (g.D.Disk.state old.root1).contents (g.D.Disk.state old.slots).contents
    (ap (λ d. g.D.Disk.state d) c.attach-roots.ensures.first ∙ c.requires.settled.root0)
    (ap (λ d. g.D.Disk.state d) c.attach-roots.ensures.second ∙ c.requires.settled.root1)
    c.requires.settled.slots in
    let words = c.in-Ok-rooted.detector.words in
    let P = HasSlots rooted.now in
    with_pages g.D.Disk old new c.requires.settled c.args.caps.sets c.in-Ok-rooted.number c.in-Ok-rooted.detector c.in-Ok-rooted.roots rooted
    (then g.D.Disk old.journal0 (journals.first_of c.in-Ok.journals) new.journal0 c.in-Ok.ensures.first.any_moment c.in-Ok-caught_up.ensures.journal0.images)
    (then g.D.Disk old.journal1 (journals.second_of c.in-Ok.journals) new.journal1 c.in-Ok.ensures.second.any_moment c.in-Ok-caught_up.ensures.journal1.images)
    (moved g.D.Disk old.slots old.slots new.slots (pools.disk_of c.in-Ok-caught_up.store.detector.words) P refl (sym c.in-Ok-caught_up.ensures.slots)
    (joined g.D.Disk old.slots (pools.disk_of words) (pools.disk_of c.in-Ok-caught_up.store.detector.words) P
    (weaker g.D.Disk old.slots (pools.disk_of words) (IsImage (g.D.Disk.state old.slots)) P c.in-Ok-rooted.ensures.any_moment (settled_leaves P (g.D.Disk.state old.slots).contents (g.D.Disk.state old.slots) c.requires.settled.slots rooted.has_slots))
    (slots_stay g.D.Disk g.met.D.Disk.has_its_bytes words c.in-Ok-caught_up.store.detector.words rooted.now.checkpoint rooted.now.former c.in-Ok-caught_up.ensures.went rooted.started.names rooted.started.slots)))
    (read_on g.D.Disk old.root0 (first_of c.attach-roots.result) new.root0 (first_of c.in-Ok-rooted.roots) c.attach-roots.ensures.first (sym c.in-Ok-caught_up.ensures.first) c.in-Ok-rooted.ensures.first.any_moment)
    (read_on g.D.Disk old.root1 (second_of c.attach-roots.result) new.root1 (second_of c.in-Ok-rooted.roots) c.attach-roots.ensures.second (sym c.in-Ok-caught_up.ensures.second) c.in-Ok-rooted.ensures.second.any_moment)

pub returns-in-Err-caught_up-clause-damaged : goal.returns-in-Err-caught_up-clause-damaged
returns-in-Err-caught_up-clause-damaged g c honest told d has =
    let old = c.args.devices in
    let some = c.in-Ok.ensures.keeps (g.met.D.Disk.honest_reads honest _, g.met.D.Disk.honest_reads honest _) (c.requires.settled.journal0, c.requires.settled.journal1) in
    let have = kept_of g.D.Disk c.in-Ok.journals some.0 some.1 some.2 old.journal0 old.journal1 c.in-Ok.ensures.first.state c.in-Ok.ensures.second.state in
    let rooted = c.in-Ok-rooted.ensures.rooted honest (g.D.Disk.state old.root0).contents (g.D.Disk.state old.root1).contents (g.D.Disk.state old.slots).contents
    (ap (λ d. g.D.Disk.state d) c.attach-roots.ensures.first ∙ c.requires.settled.root0)
    (ap (λ d. g.D.Disk.state d) c.attach-roots.ensures.second ∙ c.requires.settled.root1)
    c.requires.settled.slots in
    c.in-Err-caught_up.ensures.damaged rooted.now some.0 some.1 honest rooted.started some.2 told d
    (gives_of (read_of g.D.Disk old) d some.0 some.1 (start_of rooted.now.checkpoint) has have (rooted.only has.checkpoint has.stands))

pub returns-in-Err-caught_up-clause-full : goal.returns-in-Err-caught_up-clause-full
returns-in-Err-caught_up-clause-full g c honest told =
    let old = c.args.devices in
    let some = c.in-Ok.ensures.keeps (g.met.D.Disk.honest_reads honest _, g.met.D.Disk.honest_reads honest _) (c.requires.settled.journal0, c.requires.settled.journal1) in
    let have = kept_of g.D.Disk c.in-Ok.journals some.0 some.1 some.2 old.journal0 old.journal1 c.in-Ok.ensures.first.state c.in-Ok.ensures.second.state in
    let rooted = c.in-Ok-rooted.ensures.rooted honest (g.D.Disk.state old.root0).contents (g.D.Disk.state old.root1).contents (g.D.Disk.state old.slots).contents
    (ap (λ d. g.D.Disk.state d) c.attach-roots.ensures.first ∙ c.requires.settled.root0)
    (ap (λ d. g.D.Disk.state d) c.attach-roots.ensures.second ∙ c.requires.settled.root1)
    c.requires.settled.slots in
    inr (record {
      checkpoint = rooted.now.checkpoint;
      stands = record { former = rooted.now.former; newest = rooted.has_roots; stand = rooted.has_slots };
      base = some.0;
      events = some.1;
      journals = have;
      small = subst (λ (s : Content). IsTooSmall s (table_at c.args.caps.sets (root_of rooted.now.checkpoint)) some.0 some.1) rooted.started.content
          (subst (λ (t : Table). IsTooSmall (detect.content (pools.live g.D.Disk) c.in-Ok-rooted.detector) t some.0 some.1) rooted.sets
          (c.in-Err-caught_up.ensures.full rooted.now some.0 some.1 honest rooted.started some.2 told));
    })

pub returns-in-Err-caught_up-clause-device : goal.returns-in-Err-caught_up-clause-device
returns-in-Err-caught_up-clause-device g c =
    let first = first_of c.in-Ok-rooted.roots in
    let second = second_of c.in-Ok-rooted.roots in
    let opened = c.in-Ok.ensures.device in
    let found = c.in-Ok-rooted.ensures.device in
    let one = ap (λ d. g.D.Disk.failures d) c.attach-roots.ensures.first in
    let two = ap (λ d. g.D.Disk.failures d) c.attach-roots.ensures.second in
    let handed = ap (λ (n : Devices g.row.D.Denot). failures_of g.D.Disk n) c.handed_back-in-Err-caught_up.ensures in
    let journal0 = ap (λ d. g.D.Disk.failures d) c.into_disks-journal0.ensures.first in
    let journal1 = ap (λ d. g.D.Disk.failures d) c.into_disks-journal0.ensures.second in
    let slots = ap (λ d. g.D.Disk.failures d) (c.into_disks-slots.ensures ∙ ap (λ (f : SlotFile g.row.D.Denot). files.disk_of f) (c.into_disks.ensures ∙ ap (λ (w : pool.ShownPool g.row.D.Denot). w.file) c.into_words.ensures)) in
    let still_one = ap (λ d. g.D.Disk.failures d) c.in-Err-caught_up.ensures.first in
    let still_two = ap (λ d. g.D.Disk.failures d) c.in-Err-caught_up.ensures.second in
    counted_so c.in-Err-caught_up.refusal _ _ _ _ (g.D.Disk.failures first + g.D.Disk.failures second) c.in-Err-caught_up.ensures.device (omega (arith, opened, found, one, two)) (omega (arith, handed, journal0, journal1, slots, still_one, still_two))

pub returns-in-Err-caught_up-clause-images : goal.returns-in-Err-caught_up-clause-images
returns-in-Err-caught_up-clause-images g c honest =
    let old = c.args.devices in
    let rooted = c.in-Ok-rooted.ensures.rooted honest (g.D.Disk.state old.root0).contents (g.D.Disk.state old.root1).contents (g.D.Disk.state old.slots).contents
    (ap (λ d. g.D.Disk.state d) c.attach-roots.ensures.first ∙ c.requires.settled.root0)
    (ap (λ d. g.D.Disk.state d) c.attach-roots.ensures.second ∙ c.requires.settled.root1)
    c.requires.settled.slots in
    let words = c.in-Ok-rooted.detector.words in
    let now = c.in-Err-caught_up.detector.words in
    let P = HasSlots rooted.now in
    subst (λ (n : Devices g.row.D.Denot). EachImage g.D.Disk old n (HasContentOf (read_of g.D.Disk old))) (sym c.handed_back-in-Err-caught_up.ensures)
    (with_pages g.D.Disk old _ c.requires.settled c.args.caps.sets c.in-Ok-rooted.number c.in-Ok-rooted.detector c.in-Ok-rooted.roots rooted
    (moved g.D.Disk old.journal0 old.journal0 _ (journals.first_of c.in-Err-caught_up.journals) (IsImage (g.D.Disk.state old.journal0)) refl (sym c.into_disks-journal0.ensures.first)
    (then g.D.Disk old.journal0 (journals.first_of c.in-Ok.journals) (journals.first_of c.in-Err-caught_up.journals) c.in-Ok.ensures.first.any_moment c.in-Err-caught_up.ensures.journal0.images))
    (moved g.D.Disk old.journal1 old.journal1 _ (journals.second_of c.in-Err-caught_up.journals) (IsImage (g.D.Disk.state old.journal1)) refl (sym c.into_disks-journal0.ensures.second)
    (then g.D.Disk old.journal1 (journals.second_of c.in-Ok.journals) (journals.second_of c.in-Err-caught_up.journals) c.in-Ok.ensures.second.any_moment c.in-Err-caught_up.ensures.journal1.images))
    (moved g.D.Disk old.slots old.slots _ (pools.disk_of now) P refl
    (sym (c.into_disks-slots.ensures ∙ ap (λ (f : SlotFile g.row.D.Denot). files.disk_of f) (c.into_disks.ensures ∙ ap (λ (w : pool.ShownPool g.row.D.Denot). w.file) c.into_words.ensures)))
    (joined g.D.Disk old.slots (pools.disk_of words) (pools.disk_of now) P
    (weaker g.D.Disk old.slots (pools.disk_of words) (IsImage (g.D.Disk.state old.slots)) P c.in-Ok-rooted.ensures.any_moment (settled_leaves P (g.D.Disk.state old.slots).contents (g.D.Disk.state old.slots) c.requires.settled.slots rooted.has_slots))
    (slots_stay g.D.Disk g.met.D.Disk.has_its_bytes words now rooted.now.checkpoint rooted.now.former c.in-Err-caught_up.ensures.went rooted.started.names rooted.started.slots)))
    (read_on g.D.Disk old.root0 (first_of c.attach-roots.result) _ (first_of c.in-Ok-rooted.roots) c.attach-roots.ensures.first (sym c.in-Err-caught_up.ensures.first) c.in-Ok-rooted.ensures.first.any_moment)
    (read_on g.D.Disk old.root1 (second_of c.attach-roots.result) _ (second_of c.in-Ok-rooted.roots) c.attach-roots.ensures.second (sym c.in-Err-caught_up.ensures.second) c.in-Ok-rooted.ensures.second.any_moment))

pub returns-in-Err-rooted-clause-damaged : goal.returns-in-Err-rooted-clause-damaged
returns-in-Err-rooted-clause-damaged g c honest told d has =
    let old = c.args.devices in
    c.in-Err-rooted.ensures.damaged honest told has.checkpoint
    (subst (λ x. HasCheckpoint has.checkpoint (g.D.Disk.state x).contents (g.D.Disk.state (second_of c.attach-roots.result)).contents (g.D.Disk.state old.slots).contents) (sym c.attach-roots.ensures.first)
    (subst (λ x. HasCheckpoint has.checkpoint (g.D.Disk.state old.root0).contents (g.D.Disk.state x).contents (g.D.Disk.state old.slots).contents) (sym c.attach-roots.ensures.second) has.stands))

pub returns-in-Err-rooted-clause-images : goal.returns-in-Err-rooted-clause-images
returns-in-Err-rooted-clause-images g c honest =
    let old = c.args.devices in
    subst (λ (n : Devices g.row.D.Denot). EachImage g.D.Disk old n (HasContentOf (read_of g.D.Disk old))) (sym c.handed_back-in-Err-rooted.ensures)
    (read_alone g.D.Disk old _ c.requires.settled (record {
      journal0 = moved g.D.Disk old.journal0 old.journal0 _ (journals.first_of c.in-Ok.journals) (IsImage (g.D.Disk.state old.journal0)) refl (sym c.into_disks-journal0-in-Err-rooted.ensures.first) c.in-Ok.ensures.first.any_moment;
      journal1 = moved g.D.Disk old.journal1 old.journal1 _ (journals.second_of c.in-Ok.journals) (IsImage (g.D.Disk.state old.journal1)) refl (sym c.into_disks-journal0-in-Err-rooted.ensures.second) c.in-Ok.ensures.second.any_moment;
      slots = c.in-Err-rooted.ensures.any_moment;
      root0 = read_on g.D.Disk old.root0 (first_of c.attach-roots.result) _ (first_of c.in-Err-rooted.roots) c.attach-roots.ensures.first refl c.in-Err-rooted.ensures.first.any_moment;
      root1 = read_on g.D.Disk old.root1 (second_of c.attach-roots.result) _ (second_of c.in-Err-rooted.roots) c.attach-roots.ensures.second refl c.in-Err-rooted.ensures.second.any_moment;
    }))

pub returns-in-Ok-caught_up-clause-limits : goal.returns-in-Ok-caught_up-clause-limits
returns-in-Ok-caught_up-clause-limits g c =
    let went = c.in-Ok-caught_up.ensures.went in
    let size = c.in-Ok-rooted.ensures.size in
    record {
      frames = went.limits.0 ∙ size.frames;
      slots = went.limits.1 ∙ size.slots;
      sets = λ honest.
          let old = c.args.devices in
          let some = c.in-Ok.ensures.keeps (g.met.D.Disk.honest_reads honest _, g.met.D.Disk.honest_reads honest _) (c.requires.settled.journal0, c.requires.settled.journal1) in
          let rooted = c.in-Ok-rooted.ensures.rooted honest (g.D.Disk.state old.root0).contents (g.D.Disk.state old.root1).contents (g.D.Disk.state old.slots).contents
          (ap (λ d. g.D.Disk.state d) c.attach-roots.ensures.first ∙ c.requires.settled.root0)
          (ap (λ d. g.D.Disk.state d) c.attach-roots.ensures.second ∙ c.requires.settled.root1)
          c.requires.settled.slots in
          fills_limit _ _ _ _ _ (c.in-Ok-caught_up.ensures.sets rooted.now some.0 some.1 honest rooted.started some.2) ∙ size.sets;
    }

pub returns-in-Err-clause-files : goal.returns-in-Err-clause-files
returns-in-Err-clause-files g c =
    let old = c.args.devices in
    subst (λ (n : Devices g.row.D.Denot). FilesWereRead g.D.Disk old n) (sym c.handed_back.ensures) (record {
      journal0 = record { state = c.in-Err.ensures.first.state; images = c.in-Err.ensures.first.any_moment };
      journal1 = record { state = c.in-Err.ensures.second.state; images = c.in-Err.ensures.second.any_moment };
      root0 = uncalled_root g.D.Disk old.root0 _ c.attach-roots.ensures.first;
      root1 = uncalled_root g.D.Disk old.root1 _ c.attach-roots.ensures.second;
    })

pub returns-in-Err-clause-slots : goal.returns-in-Err-clause-slots
returns-in-Err-clause-slots g c honest =
    let old = c.args.devices in
    inl (uncalled g.D.Disk old.slots _ (ap (λ (n : Devices g.row.D.Denot). n.slots) c.handed_back.ensures))

pub returns-in-Ok-caught_up-clause-files : goal.returns-in-Ok-caught_up-clause-files
returns-in-Ok-caught_up-clause-files g c =
    let old = c.args.devices in
    let new = c.in-Ok-caught_up.store.devices in
    record {
      journal0 = record {
        state = c.in-Ok-caught_up.ensures.journal0.state ∙ c.in-Ok.ensures.first.state;
        images = then g.D.Disk old.journal0 (journals.first_of c.in-Ok.journals) new.journal0 c.in-Ok.ensures.first.any_moment c.in-Ok-caught_up.ensures.journal0.images;
      };
      journal1 = record {
        state = c.in-Ok-caught_up.ensures.journal1.state ∙ c.in-Ok.ensures.second.state;
        images = then g.D.Disk old.journal1 (journals.second_of c.in-Ok.journals) new.journal1 c.in-Ok.ensures.second.any_moment c.in-Ok-caught_up.ensures.journal1.images;
      };
      root0 = root_read g.D.Disk old.root0 (first_of c.attach-roots.result) new.root0 (first_of c.in-Ok-rooted.roots) c.attach-roots.ensures.first (sym c.in-Ok-caught_up.ensures.first) c.in-Ok-rooted.ensures.first;
      root1 = root_read g.D.Disk old.root1 (second_of c.attach-roots.result) new.root1 (second_of c.in-Ok-rooted.roots) c.attach-roots.ensures.second (sym c.in-Ok-caught_up.ensures.second) c.in-Ok-rooted.ensures.second;
    }

pub returns-in-Ok-caught_up-clause-slots : goal.returns-in-Ok-caught_up-clause-slots
returns-in-Ok-caught_up-clause-slots g c honest =
    let old = c.args.devices in
    let rooted = c.in-Ok-rooted.ensures.rooted honest (g.D.Disk.state old.root0).contents (g.D.Disk.state old.root1).contents (g.D.Disk.state old.slots).contents
    (ap (λ d. g.D.Disk.state d) c.attach-roots.ensures.first ∙ c.requires.settled.root0)
    (ap (λ d. g.D.Disk.state d) c.attach-roots.ensures.second ∙ c.requires.settled.root1)
    c.requires.settled.slots in
    inr (checkpoint_kept g.D.Disk g.met.D.Disk.has_its_bytes c.args.caps.sets c.in-Ok-rooted.number old c.in-Ok-rooted.detector c.in-Ok-rooted.roots rooted (c.in-Ok-rooted.ensures.state ∙ c.requires.settled.slots)
    c.in-Ok-caught_up.store.detector.words c.in-Ok-caught_up.ensures.went _ c.in-Ok-caught_up.ensures.slots)

pub returns-in-Err-caught_up-clause-files : goal.returns-in-Err-caught_up-clause-files
returns-in-Err-caught_up-clause-files g c =
    let old = c.args.devices in
    subst (λ (n : Devices g.row.D.Denot). FilesWereRead g.D.Disk old n) (sym c.handed_back-in-Err-caught_up.ensures) (record {
      journal0 = read_to g.D.Disk old.journal0 (journals.first_of c.in-Err-caught_up.journals) _ c.into_disks-journal0.ensures.first (record {
        state = c.in-Err-caught_up.ensures.journal0.state ∙ c.in-Ok.ensures.first.state;
        images = then g.D.Disk old.journal0 (journals.first_of c.in-Ok.journals) (journals.first_of c.in-Err-caught_up.journals) c.in-Ok.ensures.first.any_moment c.in-Err-caught_up.ensures.journal0.images;
      });
      journal1 = read_to g.D.Disk old.journal1 (journals.second_of c.in-Err-caught_up.journals) _ c.into_disks-journal0.ensures.second (record {
        state = c.in-Err-caught_up.ensures.journal1.state ∙ c.in-Ok.ensures.second.state;
        images = then g.D.Disk old.journal1 (journals.second_of c.in-Ok.journals) (journals.second_of c.in-Err-caught_up.journals) c.in-Ok.ensures.second.any_moment c.in-Err-caught_up.ensures.journal1.images;
      });
      root0 = root_read g.D.Disk old.root0 (first_of c.attach-roots.result) _ (first_of c.in-Ok-rooted.roots) c.attach-roots.ensures.first (sym c.in-Err-caught_up.ensures.first) c.in-Ok-rooted.ensures.first;
      root1 = root_read g.D.Disk old.root1 (second_of c.attach-roots.result) _ (second_of c.in-Ok-rooted.roots) c.attach-roots.ensures.second (sym c.in-Err-caught_up.ensures.second) c.in-Ok-rooted.ensures.second;
    })

pub returns-in-Err-caught_up-clause-slots : goal.returns-in-Err-caught_up-clause-slots
returns-in-Err-caught_up-clause-slots g c honest =
    let old = c.args.devices in
    let now = c.in-Err-caught_up.detector.words in
    let rooted = c.in-Ok-rooted.ensures.rooted honest (g.D.Disk.state old.root0).contents (g.D.Disk.state old.root1).contents (g.D.Disk.state old.slots).contents
    (ap (λ d. g.D.Disk.state d) c.attach-roots.ensures.first ∙ c.requires.settled.root0)
    (ap (λ d. g.D.Disk.state d) c.attach-roots.ensures.second ∙ c.requires.settled.root1)
    c.requires.settled.slots in
    let slots = c.into_disks-slots.ensures ∙ ap (λ (f : SlotFile g.row.D.Denot). files.disk_of f) (c.into_disks.ensures ∙ ap (λ (w : pool.ShownPool g.row.D.Denot). w.file) c.into_words.ensures) in
    inr (checkpoint_kept g.D.Disk g.met.D.Disk.has_its_bytes c.args.caps.sets c.in-Ok-rooted.number old c.in-Ok-rooted.detector c.in-Ok-rooted.roots rooted (c.in-Ok-rooted.ensures.state ∙ c.requires.settled.slots)
    now c.in-Err-caught_up.ensures.went _ (ap (λ (n : Devices g.row.D.Denot). n.slots) c.handed_back-in-Err-caught_up.ensures ∙ slots))

pub returns-in-Err-rooted-clause-files : goal.returns-in-Err-rooted-clause-files
returns-in-Err-rooted-clause-files g c =
    let old = c.args.devices in
    subst (λ (n : Devices g.row.D.Denot). FilesWereRead g.D.Disk old n) (sym c.handed_back-in-Err-rooted.ensures) (record {
      journal0 = read_to g.D.Disk old.journal0 (journals.first_of c.in-Ok.journals) _ c.into_disks-journal0-in-Err-rooted.ensures.first (record { state = c.in-Ok.ensures.first.state; images = c.in-Ok.ensures.first.any_moment });
      journal1 = read_to g.D.Disk old.journal1 (journals.second_of c.in-Ok.journals) _ c.into_disks-journal0-in-Err-rooted.ensures.second (record { state = c.in-Ok.ensures.second.state; images = c.in-Ok.ensures.second.any_moment });
      root0 = root_read g.D.Disk old.root0 (first_of c.attach-roots.result) _ (first_of c.in-Err-rooted.roots) c.attach-roots.ensures.first refl c.in-Err-rooted.ensures.first;
      root1 = root_read g.D.Disk old.root1 (second_of c.attach-roots.result) _ (second_of c.in-Err-rooted.roots) c.attach-roots.ensures.second refl c.in-Err-rooted.ensures.second;
    })

pub returns-in-Err-rooted-clause-slots : goal.returns-in-Err-rooted-clause-slots
returns-in-Err-rooted-clause-slots g c honest =
    let old = c.args.devices in
    inl (read_to g.D.Disk old.slots c.in-Err-rooted.slots _ (ap (λ (n : Devices g.row.D.Denot). n.slots) c.handed_back-in-Err-rooted.ensures) (record { state = c.in-Err-rooted.ensures.state; images = c.in-Err-rooted.ensures.any_moment }))

pub returns-in-Err-clause-full_slots : goal.returns-in-Err-clause-full_slots
returns-in-Err-clause-full_slots g c honest told = reading_takes_none c.in-Err.refusal c.in-Err.ensures.fault told

pub returns-in-Err-rooted-clause-full_slots : goal.returns-in-Err-rooted-clause-full_slots
returns-in-Err-rooted-clause-full_slots g c honest told =
    let above = (c.in-Err-rooted.ensures.full honest).slots told in
    let P = NamesAbove c.args.caps.slots in
    inl (subst (λ x. HasRootThat P (g.D.Disk.state x).contents (g.D.Disk.state c.args.devices.root1).contents) c.attach-roots.ensures.first
    (subst (λ x. HasRootThat P (g.D.Disk.state (first_of c.attach-roots.result)).contents (g.D.Disk.state x).contents) c.attach-roots.ensures.second above))

pub returns-in-Err-caught_up-clause-full_slots : goal.returns-in-Err-caught_up-clause-full_slots
returns-in-Err-caught_up-clause-full_slots g c honest told =
    let slots = c.into_disks-slots.ensures ∙ ap (λ (f : SlotFile g.row.D.Denot). files.disk_of f) (c.into_disks.ensures ∙ ap (λ (w : pool.ShownPool g.row.D.Denot). w.file) c.into_words.ensures) in
    inr (subst (λ x. HasFullSlots g.D.Disk c.args.caps.slots x) (sym (ap (λ (n : Devices g.row.D.Denot). n.slots) c.handed_back-in-Err-caught_up.ensures ∙ slots))
    (subst (λ (n : ℕ). HasFullSlots g.D.Disk n (pools.disk_of c.in-Err-caught_up.detector.words)) c.in-Ok-rooted.ensures.size.slots (c.in-Err-caught_up.ensures.full_slots honest told)))
