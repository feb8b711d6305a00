-- The detector that is made from a root, and the refusals.
use Rattle.std.specs.Prelude.{◌≡◌, IfOk, ◌<◌, ◌≤◌, ℕ, false, List, [], length, All, Result, Ok, Err, IsTrue}
use Rattle.hg_model.specs.declared.verdict.Refusal.{Refusal}
use Rattle.hg_model.specs.declared.verdict.Refusal.TheVariants as refusal
use Rattle.hg_sets.specs.declared.table.TheConstants.{MOST_SETS}
use Rattle.hg_detect.specs.Shown as detect
use Rattle.hg_cells.specs.Words.{after_refusal}
use Rattle.hg_disk.specs.declared.disk.Disk as disk
use Rattle.hg_pages.specs.declared.slot_file.TheConstants.{MOST_SLOTS}
use Rattle.hg_pages.specs.Files.{disk_of, is_broken, known}
use Rattle.hg_pages.specs.declared.slot_file.SlotFile.{SlotFile}
use Rattle.hg_pool.specs.Maps as pools
use Rattle.hg_pool.specs.Shown as pool
use Rattle.hg_root.specs.Checkpoints.{Checkpoint, HasPages}
use Rattle.hg_root.specs.Roots.{parts_of}
use Rattle.hg_contents.specs.Images.{content_of}
use Rattle.hg_root.specs.declared.parts.PageSlot.{PageSlot}
use Rattle.hg_root.specs.declared.root.Root.{Root}
use Rattle.hg_root.specs.Parts.{Parts}
use Rattle.hg_checkpoint.specs.declared.limits.Limits.{Limits}
use Rattle.hg_checkpoint.specs.NamedPages.{HasPagesOf, entries_of}

pub record AreLimits (caps : Limits) : Type 0 where
  pub sets : caps.sets ≤ MOST_SETS
  pub slots : caps.slots ≤ MOST_SLOTS
  pub frames : (2 ≤ caps.frames) × (caps.frames ≤ 4096)

-- the root has no more than the caps allow
pub record FitsLimits (root : Parts) (caps : Limits) : Type 0 where
  pub sets : length root.sets ≤ caps.sets
  pub slots : All (λ p. p.slot < caps.slots) root.pages

-- The pool of these pages over a file: both maps are the one that their table gives, no page waits, and none is in memory.
abbrev pub pool_of : {D : Type 0} → List PageSlot → Limits → SlotFile D → pool.ShownPool D
pool_of pages caps file =
    record {
      file = file;
      root = entries_of pages;
      frozen = entries_of pages;
      live = entries_of pages;
      waiting = [];
      copies = [];
      frames = [];
      most_frames = caps.frames;
      slots = caps.slots;
      is_sealed = false;
    }

-- the detector with the parts of a root and at most this many sets, over a map
abbrev pub detector_with : {W : Type 0} → Root → ℕ → W → detect.ShownDetector W
detector_with root most_sets words =
    record { parts = root.state; segments = root.segments.items; sets = record { limit = most_sets; sets = root.sets.sets }; words = words; kept = root.reports.items; total = root.total }

-- The detector of a root, over the pool of its pages.
abbrev pub detector_of : {D : Type 0} → Root → Limits → SlotFile D → detect.ShownDetector (pool.ShownPool D)
detector_of root caps file = detector_with root caps.sets (pool_of root.pages.items caps file)

-- the file, in the detector's pool or handed back
abbrev pub file_in : {D : Type 0} → Result (detect.ShownDetector (pool.ShownPool D)) (Refusal × SlotFile D) → SlotFile D
file_in (Ok d) = d.words.file
file_in (Err e) = e.1

-- how many calls of the disk have failed after this answer; n had failed before it
abbrev pub failures_after : {A B : Type 0} → Result A (Refusal × B) → ℕ → ℕ
failures_after (Ok value) n = n
failures_after (Err e) n = after_refusal e.0 n

-- A refusal is told only if its cause holds.
abbrev pub IsTrueCause : {D : Type 0} → disk.Ghosts D → Parts → Limits → (file after : SlotFile D) → Refusal → Type 0
IsTrueCause g root caps file after refusal.FullSets = caps.sets < length root.sets
IsTrueCause g root caps file after refusal.FullSlots = ¬ All (λ p. p.slot < caps.slots) root.pages
IsTrueCause g root caps file after refusal.Damaged = IsTrue (g.reads_were_true (disk_of after)) → ¬ HasPagesOf root (known g file)
IsTrueCause g root caps file after refusal.Broken = IsTrue (is_broken file)
IsTrueCause g root caps file after refusal.DeviceFault = Unit {0}
IsTrueCause g root caps file after refusal.OutOfMemory = Unit {0}
IsTrueCause g root caps file after _ = ⊥

-- The root has at most as many sets as the cap.
abbrev pub FitsSets : Root → Limits → Type 0
FitsSets root caps = length root.sets.sets ≤ caps.sets

-- The root names a slot beyond the cap.
abbrev pub NamesBeyond : Root → Limits → Type 0
NamesBeyond root caps = ¬ All (λ p. p.slot < caps.slots) root.pages.items

-- The detector has the content of the checkpoint of this root whose pages the file has.
abbrev pub RestoresContent : {D E : Type 0} → disk.Ghosts D → Root → SlotFile D → Result (detect.ShownDetector (pool.ShownPool D)) E → Type 0
RestoresContent g root file result =
    (c : Checkpoint) → c.root ≡ parts_of root → HasPages (known g file) c → IfOk result (λ d. detect.content (pools.live g) d ≡ content_of c)
