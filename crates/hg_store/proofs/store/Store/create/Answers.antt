use Rattle.std.proofs.Common.{◌≡◌, ◌+◌, ◌++◌, ◌∷◌, [], ℕ, List, refl, sym, ap, ◌∙◌, subst, arith}
use Rattle.hg_detect.specs.Shown as detect
use Rattle.hg_disk.specs.declared.disk.Disk as disk
use Rattle.hg_disk.specs.Calls.{CallsAtMost}
use Rattle.hg_disk.specs.State.{DiskState}
use Rattle.hg_gate.specs.Batches.{closed_gate}
use Rattle.hg_journals.specs.Making.{first_bytes, spare_bytes}
use Rattle.hg_images.specs.Images.{Image}
use Rattle.hg_pages.specs.Files as files
use Rattle.hg_pages.specs.declared.slot_file.SlotFile.{SlotFile}
use Rattle.hg_pool.specs.Shown as pool
use Rattle.hg_store.specs.Images.{failures_of, read_of}
use Rattle.hg_store.specs.Recovering.{MakingCalls, empty_image}
use Rattle.hg_model.specs.declared.verdict.Refusal.TheVariants.{DeviceFault, OutOfMemory}
use Rattle.hg_store.specs.declared.create.CreateFault.TheVariants.{Refused}
use Rattle.hg_store.specs.declared.devices.Devices.{Devices}
use Rattle.hg_recovery.proofs.Detectors.{first_ready}
use Rattle.hg_store.proofs.store.Store.create.Goals as goal

module _ {D : Type 0} (g : disk.Ghosts D) where
  not_called : (d : D) → CallsAtMost g 2 d d
  not_called d = omega arith

  with_slots : (old : Devices D) (slots : D) → slots ≡ old.slots → ◌≡◌ {A = Devices D} (record { journal0 = old.journal0; journal1 = old.journal1; slots = slots; root0 = old.root0; root1 = old.root1 }) old
  with_slots old slots is = ap (λ (d : D). record old { slots = d }) is

fault_is_not_memory : {A : Type 0} → Refused DeviceFault ≡ Refused OutOfMemory → A
fault_is_not_memory told = absurd (cc told)

-- one more call failed, and none of the slots
failed_beside : (j k s r t nj nk ns nr nt : ℕ) → ns ≡ s → nj + nk + nr + nt ≡ j + k + r + t + 1 → nj + nk + ns + nr + nt ≡ j + k + s + r + t + 1
failed_beside j k s r t nj nk ns nr nt slots rest = omega arith

none_failed_beside : (j k s r t nj nk ns nr nt : ℕ) → ns ≡ s → nj + nk + nr + nt ≡ j + k + r + t → nj + nk + ns + nr + nt ≡ j + k + s + r + t
none_failed_beside j k s r t nj nk ns nr nt slots rest = omega arith

reads_empty : (j k s r t : List ℕ) → j ≡ first_bytes → k ≡ spare_bytes → s ≡ [] → r ≡ closed_gate ∷ [] → t ≡ closed_gate ∷ [] → ◌≡◌ {A = Image} (record { journal0 = j; journal1 = k; slots = s; root0 = r; root1 = t }) empty_image
reads_empty j k s r t ej ek es er et = λ i. record { journal0 = ej i; journal1 = ek i; slots = es i; root0 = er i; root1 = et i }

pub on_closed_roots-requires-clause-ready : goal.on_closed_roots-requires-clause-ready
on_closed_roots-requires-clause-ready g c honest =
    let made = c.in-Ok-empty_detector in
    first_ready g.D.Disk made.detector c.args.caps.sets made.ensures.content made.ensures.sets (made.ensures.faithful honest)

pub returns-in-Err-empty_detector-clause-calls : goal.returns-in-Err-empty_detector-clause-calls
returns-in-Err-empty_detector-clause-calls g c =
    let old = c.args.devices in
    record {
      journal0 = not_called g.D.Disk old.journal0;
      journal1 = not_called g.D.Disk old.journal1;
      slots = c.into_disks.ensures ∙ ap (λ (f : SlotFile g.row.D.Denot). files.disk_of f) c.in-Err-empty_detector.ensures.handed_back ∙ c.attach.ensures.disk;
      root0 = not_called g.D.Disk old.root0;
      root1 = not_called g.D.Disk old.root1;
    }

pub returns-in-Err-empty_detector-clause-device : goal.returns-in-Err-empty_detector-clause-device
returns-in-Err-empty_detector-clause-device g c =
    let slots = c.into_disks.ensures ∙ ap (λ (f : SlotFile g.row.D.Denot). files.disk_of f) c.in-Err-empty_detector.ensures.handed_back ∙ c.attach.ensures.disk in
    ap (λ (d : Devices g.row.D.Denot). failures_of g.D.Disk d) (with_slots g.D.Disk c.args.devices c.into_disks.result slots)

pub returns-in-Err-empty_detector-clause-memory : goal.returns-in-Err-empty_detector-clause-memory
returns-in-Err-empty_detector-clause-memory g c _ =
    let slots = c.into_disks.ensures ∙ ap (λ (f : SlotFile g.row.D.Denot). files.disk_of f) c.in-Err-empty_detector.ensures.handed_back ∙ c.attach.ensures.disk in
    with_slots g.D.Disk c.args.devices c.into_disks.result slots

pub returns-in-Err-new_files-clause-calls : goal.returns-in-Err-new_files-clause-calls
returns-in-Err-new_files-clause-calls g c =
    let file = c.into_disks-in-Err-new_files.ensures ∙ ap (λ (p : pool.ShownPool g.row.D.Denot). p.file) c.into_words.ensures ∙ c.in-Ok-empty_detector.ensures.file in
    record {
      journal0 = c.in-Err-new_files.ensures.journal0_calls;
      journal1 = c.in-Err-new_files.ensures.journal1_calls;
      slots = c.into_disks-in-Err-new_files-2.ensures ∙ ap (λ (f : SlotFile g.row.D.Denot). files.disk_of f) file ∙ c.attach.ensures.disk;
      root0 = c.in-Err-new_files.ensures.first_calls;
      root1 = c.in-Err-new_files.ensures.second_calls;
    }

pub returns-in-Err-new_files-clause-device : goal.returns-in-Err-new_files-clause-device
returns-in-Err-new_files-clause-device g c =
    let file = c.into_disks-in-Err-new_files.ensures ∙ ap (λ (p : pool.ShownPool g.row.D.Denot). p.file) c.into_words.ensures ∙ c.in-Ok-empty_detector.ensures.file in
    let slots = c.into_disks-in-Err-new_files-2.ensures ∙ ap (λ (f : SlotFile g.row.D.Denot). files.disk_of f) file ∙ c.attach.ensures.disk in
    failed_beside _ _ _ _ _ _ _ _ _ _ (ap (λ d. g.D.Disk.failures d) slots) c.in-Err-new_files.ensures.device

pub returns-in-Err-new_files-clause-memory : goal.returns-in-Err-new_files-clause-memory
returns-in-Err-new_files-clause-memory g c told = fault_is_not_memory told

pub returns-in-Ok-new_files-clause-bytes : goal.returns-in-Ok-new_files-clause-bytes
returns-in-Ok-new_files-clause-bytes g c =
    let slots = ap (λ (f : SlotFile g.row.D.Denot). files.disk_of f) c.in-Ok-empty_detector.ensures.file ∙ c.attach.ensures.disk in
    let gates = c.in-Ok-new_files.ensures.gates in
    ap (λ (d : Devices g.row.D.Denot). read_of g.D.Disk d) c.on_closed_roots.ensures.devices
    ∙ reads_empty _ _ _ _ _ (ap (λ (s : DiskState). s.contents) c.in-Ok-new_files.ensures.bytes.0) (ap (λ (s : DiskState). s.contents) c.in-Ok-new_files.ensures.bytes.1) (ap (λ d. (g.D.Disk.state d).contents) slots ∙ (c.is_empty.ensures.yes c.if-not-is_empty.false).slots)
    (ap (λ (s : DiskState). s.contents) gates.0) (ap (λ (s : DiskState). s.contents) gates.1)

pub returns-in-Ok-new_files-clause-calls : goal.returns-in-Ok-new_files-clause-calls
returns-in-Ok-new_files-clause-calls g c =
    subst (λ (d : Devices g.row.D.Denot). MakingCalls g.D.Disk c.args.devices d) (sym c.on_closed_roots.ensures.devices) (record {
      journal0 = c.in-Ok-new_files.ensures.journal0_calls;
      journal1 = c.in-Ok-new_files.ensures.journal1_calls;
      slots = ap (λ (f : SlotFile g.row.D.Denot). files.disk_of f) c.in-Ok-empty_detector.ensures.file ∙ c.attach.ensures.disk;
      root0 = c.in-Ok-new_files.ensures.first_calls;
      root1 = c.in-Ok-new_files.ensures.second_calls;
    })

pub returns-in-Ok-new_files-clause-device : goal.returns-in-Ok-new_files-clause-device
returns-in-Ok-new_files-clause-device g c =
    let slots = ap (λ (f : SlotFile g.row.D.Denot). files.disk_of f) c.in-Ok-empty_detector.ensures.file ∙ c.attach.ensures.disk in
    ap (λ (d : Devices g.row.D.Denot). failures_of g.D.Disk d) c.on_closed_roots.ensures.devices
    ∙ none_failed_beside _ _ _ _ _ _ _ _ _ _ (ap (λ d. g.D.Disk.failures d) slots) c.in-Ok-new_files.ensures.device

pub returns-in-Ok-new_files-clause-limits : goal.returns-in-Ok-new_files-clause-limits
returns-in-Ok-new_files-clause-limits g c =
    let is = c.on_closed_roots.ensures.detector in
    let size = c.in-Ok-empty_detector.ensures.size in
    record {
      frames = ap (λ (d : detect.ShownDetector (pool.ShownPool g.row.D.Denot)). d.words.most_frames) is ∙ size.frames;
      slots = ap (λ (d : detect.ShownDetector (pool.ShownPool g.row.D.Denot)). d.words.slots) is ∙ size.slots;
      sets = λ _. ap (λ (d : detect.ShownDetector (pool.ShownPool g.row.D.Denot)). d.sets.limit) is ∙ size.sets;
    }
