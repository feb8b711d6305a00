-- The content that a checkpoint's detector has.
use Rattle.std.specs.Prelude.{IsTrue, ◌≡◌, ◌≤◌, ◌+◌, ℕ, List, Option, Some, None, Result, IfOk, IfSome, length}
use Rattle.hg_model.specs.Contents.{Content}
use Rattle.hg_model.specs.declared.limits.TheConstants.{MOST_EVENTS}
use Rattle.hg_model.specs.declared.verdict.Refusal.{Refusal}
use Rattle.hg_cells.specs.declared.paged.PagedWords.{PagedWords}
use Rattle.hg_detect.specs.Memory as memory
use Rattle.hg_detect.specs.Shown.{ShownDetector}
use Rattle.hg_disk.specs.Calls.{CallsAtMost}
use Rattle.hg_disk.specs.Moments.{AddsNoImage}
use Rattle.hg_disk.specs.declared.disk.Disk as disk
use Rattle.hg_pages.specs.Files as files
use Rattle.hg_pages.specs.declared.slot_file.SlotFile.{SlotFile}
use Rattle.hg_root.specs.Checkpoints.{Checkpoint, HasCheckpoint, HasPages, LieWithin}
use Rattle.hg_root.specs.Finding.{root_in}
use Rattle.hg_root.specs.Newest.{IsNewest}
use Rattle.hg_root.specs.Pairs as pairs
use Rattle.hg_root.specs.Parts.{Parts}
use Rattle.hg_root.specs.declared.pair.RootPair.{RootPair}
use Rattle.hg_root.specs.declared.root.Root.{Root}
use Rattle.hg_contents.specs.Images.{content_of, start_of}
use Rattle.hg_recovery.specs.Answers.{CountsFailures}

-- The root files and the slots have a newest checkpoint, or none, and the content is the one from which events go on
-- behind it: that of the checkpoint, or the empty one. It is that of each checkpoint that they have.
pub record IsSaved (one other slots : List ℕ) (c : Content) : Type 0 where
  pub checkpoint : Option Checkpoint
  pub stands : HasCheckpoint checkpoint one other slots
  pub content : c ≡ start_of checkpoint
  pub only : (o : Option Checkpoint) → HasCheckpoint o one other slots → c ≡ start_of o

-- It counts no more events than there may be, and none of its sources sent more.
pub record IsNumbered (c : Content) : Type 0 where
  pub events : c.events ≤ MOST_EVENTS
  pub last : (source : ℕ) → c.last source ≤ c.events

-- The detector has the content of each checkpoint with these parts whose pages the slots have.
abbrev pub GivesContentOf : {E : Type 0} → Parts → (slots : List ℕ) → Result (ShownDetector PagedWords) E → Type 0
GivesContentOf root slots result =
    (c : Checkpoint) → c.root ≡ root → HasPages slots c → IfOk result (λ d. memory.content_of d ≡ content_of c)

-- how many pages a root names
abbrev pub pages_in : Option Parts → ℕ
pages_in None = 0
pages_in (Some root) = length root.pages

module _ {D : Type 0} (g : disk.Ghosts D) where
  -- The disk is as it was, and no moment adds an image.
  pub record Stays (old new : D) : Type 0 where
    pub state : g.state new ≡ g.state old
    pub any_moment : AddsNoImage g old new

  -- The slots were read at most once for each page of the newest root of two files with these bytes.
  abbrev pub ReadsPages : (one other : List ℕ) → (old new : D) → Type 0
  ReadsPages one other old new =
      (root former : Option Parts) → IsNewest root former one other → CallsAtMost g (pages_in root) old new

  -- The reads of the pair and of the file of slots so far were true.
  abbrev pub BothWereTrue : RootPair D → SlotFile D → Type 0
  BothWereTrue roots file = pairs.ReadsWereTrue g roots × IsTrue (g.reads_were_true (files.disk_of file))

  -- The root is the newest one of the pair, and the slots of the other one lie within the file.
  abbrev pub IsNewestWithin : RootPair D → SlotFile D → Option Root → Type 0
  IsNewestWithin roots file found =
      (former : Option Parts) × IsNewest (root_in found) former (pairs.first_bytes g roots) (pairs.second_bytes g roots)
      × IfSome former (LieWithin (g.state (files.disk_of file)).contents)

  -- The content is that of the newest checkpoint of the pair and the file of slots.
  abbrev pub IsSavedIn : RootPair D → SlotFile D → Content → Type 0
  IsSavedIn roots file c =
      IsSaved (pairs.first_bytes g roots) (pairs.second_bytes g roots) (g.state (files.disk_of file)).contents c

  abbrev pub ReadsPagesOf : RootPair D → (old new : SlotFile D) → Type 0
  ReadsPagesOf roots old new =
      ReadsPages (pairs.first_bytes g roots) (pairs.second_bytes g roots) (files.disk_of old) (files.disk_of new)

  -- DeviceFault is told exactly if a call of the pair or of the file has failed.
  abbrev pub CountsBoth : {T : Type 0} → RootPair D → SlotFile D → RootPair D → SlotFile D → Result T Refusal → Type 0
  CountsBoth roots file roots' file' result =
      CountsFailures result (pairs.failures g roots + g.failures (files.disk_of file))
      (pairs.failures g roots' + g.failures (files.disk_of file'))
