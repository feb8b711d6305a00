-- A detector at the newest root of two files.
use Rattle.std.specs.Prelude.{◌≡◌, ◌≢◌, ◌+◌, ◌<◌, ℕ, List, All, length, Option, Some, None, Result, Ok, Err, IfOk, IfErr, IfSome}
use Rattle.hg_model.specs.declared.verdict.Refusal.{Refusal}
use Rattle.hg_model.specs.declared.verdict.Refusal.TheVariants.{Damaged, FullSets, FullSlots}
use Rattle.hg_sets.specs.Interning.{Table, first_table}
use Rattle.hg_detect.specs.Shown as detect
use Rattle.hg_disk.specs.declared.disk.Disk as disk
use Rattle.hg_disk.specs.State.{settled}
use Rattle.hg_disk.specs.Moments.{Leaves}
use Rattle.hg_pages.specs.Files as files
use Rattle.hg_pages.specs.declared.slot_file.SlotFile.{SlotFile}
use Rattle.hg_pool.specs.Maps as pools
use Rattle.hg_pool.specs.Shown as pool
use Rattle.hg_root.specs.Checkpoints.{Checkpoint, HasCheckpoint, HasPages, LieWithin, root_of}
use Rattle.hg_root.specs.Finding.{StandsWith, number_in, root_in}
use Rattle.hg_root.specs.Newest.{IsNewest}
use Rattle.hg_root.specs.Parts.{Parts}
use Rattle.hg_root.specs.Pairs as pairs
use Rattle.hg_root.specs.declared.pair.RootPair.{RootPair}
use Rattle.hg_root.specs.declared.pair.Newest.{Newest}
use Rattle.hg_root.specs.declared.root.Root.{Root}
use Rattle.hg_contents.specs.Choices.{Choice, HasRoots, HasSlots}
use Rattle.hg_contents.specs.Images.{start_of}
use Rattle.hg_checkpoint.specs.Tables.{NamesOf}
use Rattle.hg_checkpoint.specs.Restoring.{failures_after, file_in}
use Rattle.hg_recovery.specs.Answers.{CountedBy}
use Rattle.hg_recovery.specs.Detectors.{IsReady}

-- FullSets is told only if a root has more than `sets` sets, and FullSlots only if it names a slot beyond `slots`.
abbrev pub IsTooFew : ℕ → ℕ → Option Parts → Refusal → Type 0
IsTooFew sets slots None refusal = (refusal ≢ FullSets) × (refusal ≢ FullSlots)
IsTooFew sets slots (Some root) refusal = (refusal ≡ FullSets → sets < length root.sets) × (refusal ≡ FullSlots → ¬ All (λ p. p.slot < slots) root.pages)

-- the table of sets from which a recovery goes on, with room for `cap` sets: that of the root, or the first one
abbrev pub table_at : ℕ → Option Parts → Table
table_at cap None = first_table cap
table_at cap (Some root) = record { limit = cap; sets = root.sets }

-- The newest root of two files has P.
pub record HasRootThat (P : Parts → Type 0) (one other : List ℕ) : Type 0 where
  pub root : Parts
  pub former : Option Parts
  pub newest : IsNewest (Some root) former one other
  pub has : P root

-- The root names a slot at `cap` or above.
abbrev pub NamesAbove : ℕ → Parts → Type 0
NamesAbove cap root = ¬ All (λ p. p.slot < cap) root.pages

-- The newest root has more than `cap` sets.
abbrev pub HasMoreSets : ℕ → List ℕ → List ℕ → Type 0
HasMoreSets cap one other = HasRootThat (λ root. cap < length root.sets) one other

-- If FullSets is told, the newest root has more than `most_sets` sets; if FullSlots is told, it names a slot beyond
-- `most_slots`.
pub record HasNoRoom (most_sets most_slots : ℕ) (one other : List ℕ) (refusal : Refusal) : Type 0 where
  pub sets : refusal ≡ FullSets → HasMoreSets most_sets one other
  pub slots : refusal ≡ FullSlots → HasRootThat (NamesAbove most_slots) one other

-- A detector stands at a checkpoint, or at none: the roots and the slots have the checkpoint, and the detector has the
-- content from which the events go on.
pub record IsStarted {D : Type 0} (g : disk.Ghosts D) (d : detect.ShownDetector (pool.ShownPool D)) (roots : RootPair D) (number : ℕ) (now : Choice) : Type 0 where
  pub stands : pairs.Stands g roots (root_of now.checkpoint) now.former
  pub is_number : number ≡ number_in (root_of now.checkpoint)
  pub slots : Leaves (HasSlots now) (g.state (pools.disk_of d.words))
  pub names : NamesOf d.words.root now.checkpoint
  pub content : detect.content (pools.live g) d ≡ start_of now.checkpoint
  pub ready : IsReady g d

-- A detector stands at the newest root of two files with these bytes, or at none, over a file of slots with these bytes. No other checkpoint is there.
pub record IsRooted {D : Type 0} (g : disk.Ghosts D) (cap : ℕ) (one other slots : List ℕ) (d : detect.ShownDetector (pool.ShownPool D)) (roots : RootPair D) (number : ℕ) : Type 0 where
  pub now : Choice
  pub has_roots : HasRoots now one other
  pub has_slots : HasSlots now slots
  pub only : (c : Option Checkpoint) → HasCheckpoint c one other slots → start_of c ≡ start_of now.checkpoint
  pub started : IsStarted g d roots number now
  pub sets : d.sets ≡ table_at cap (root_of now.checkpoint)

-- a detector with the two root files, or what is handed back
abbrev pub RootedOr : Type 0 → Type 0
RootedOr D = Result (detect.ShownDetector (pool.ShownPool D) × RootPair D × ℕ) (Refusal × D × RootPair D)

module _ {D : Type 0} where
  abbrev pub slots_of : RootedOr D → D
  slots_of (Ok r) = pools.disk_of r.0.words
  slots_of (Err e) = e.1

  abbrev pub roots_of : RootedOr D → RootPair D
  roots_of (Ok r) = r.1
  roots_of (Err e) = e.2

  abbrev pub CountsRooted : RootedOr D → ℕ → ℕ → Type 0
  CountsRooted (Ok r) old new = new ≡ old
  CountsRooted (Err e) old new = CountedBy e.0 old new

-- The detector's pages are those of the checkpoint of this root.
abbrev pub NamesPages : {D X : Type 0} → Option Parts → Result (detect.ShownDetector (pool.ShownPool D)) X → Type 0
NamesPages root result = (c : Option Checkpoint) → root_of c ≡ root → IfOk result (λ d. NamesOf d.words.root c)

module _ {D : Type 0} (g : disk.Ghosts D) where
  -- what a pair of roots leads to, where each has on it what it reads
  abbrev pub IfSettled : RootPair D → (List ℕ → List ℕ → Type 0) → Type 0
  IfSettled roots P =
      (one other : List ℕ) → g.state (pairs.first_of roots) ≡ settled one → g.state (pairs.second_of roots) ≡ settled other → P one other

  -- The pair stands with the two roots that were found, where each file has on it what it reads.
  abbrev pub PairStands : (old new : RootPair D) → Result Newest Refusal → Type 0
  PairStands old new result = IfSettled old (λ one other. IfOk result (StandsWith g new))

  -- The root is the newest one of the pair.
  abbrev pub IsNewestRoot : RootPair D → Option Root → Type 0
  IsNewestRoot roots found =
      (former : Option Parts) × IsNewest (root_in found) former (pairs.first_bytes g roots) (pairs.second_bytes g roots)

  -- No other one is.
  abbrev pub IsOnlyRoot : RootPair D → Option Root → Type 0
  IsOnlyRoot roots found =
      (root former : Option Parts) → IsNewest root former (pairs.first_bytes g roots) (pairs.second_bytes g roots) → root ≡ root_in found

  -- The pair stands with the root, which is the newest one of these bytes, and the slots of the former one lie within the file.
  abbrev pub StandsWithin : RootPair D → SlotFile D → Option Root → (one other : List ℕ) → Type 0
  StandsWithin roots file found one other =
      (former : Option Parts) × pairs.Stands g roots (root_in found) former × IsNewest (root_in found) former one other
      × IfSome former (LieWithin (g.state (files.disk_of file)).contents)

  -- It does, where each file has on it what it reads.
  abbrev pub StandIfSettled : (old new : RootPair D) → SlotFile D → Result (Option Root) Refusal → Type 0
  StandIfSettled old new file result = IfSettled old (λ one other. IfOk result (λ found. StandsWithin new file found one other))

  -- The roots and the slots have no checkpoint.
  abbrev pub HasNoCheckpoint : RootPair D → (slots : D) → Type 0
  HasNoCheckpoint roots slots =
      (c : Option Checkpoint) → ¬ HasCheckpoint c (pairs.first_bytes g roots) (pairs.second_bytes g roots) (g.state slots).contents

  abbrev pub HasNoneIn : RootPair D → SlotFile D → Type 0
  HasNoneIn roots file = HasNoCheckpoint roots (files.disk_of file)

  -- Sets or slots are told to be too few only where the newest root of the pair asks for more.
  abbrev pub LacksRoom : (most_sets most_slots : ℕ) → RootPair D → Refusal → Type 0
  LacksRoom most_sets most_slots roots refusal =
      HasNoRoom most_sets most_slots (pairs.first_bytes g roots) (pairs.second_bytes g roots) refusal

  -- Where each of the disks has on it what it reads, a detector stands at the newest root.
  abbrev pub IsRootedAt : ℕ → RootPair D → (slots : D) → RootedOr D → Type 0
  IsRootedAt cap roots slots result =
      (one other bytes : List ℕ) → g.state (pairs.first_of roots) ≡ settled one → g.state (pairs.second_of roots) ≡ settled other
      → g.state slots ≡ settled bytes → IfOk result (λ r. IsRooted g cap one other bytes r.0 r.1 r.2)

  -- Damaged is told only where the roots and the slots have no checkpoint.
  abbrev pub CantRoot : RootPair D → (slots : D) → RootedOr D → Type 0
  CantRoot roots slots result = IfErr result (λ e. e.0 ≡ Damaged → HasNoCheckpoint roots slots)

  abbrev pub CountsRooting : RootPair D → (slots : D) → RootedOr D → Type 0
  CountsRooting roots slots result =
      CountsRooted result (pairs.failures g roots + g.failures slots) (pairs.failures g (roots_of result) + g.failures (slots_of result))

  -- The file has the pages of a checkpoint of this root.
  abbrev pub HasCheckpointOf : Option Parts → SlotFile D → Type 0
  HasCheckpointOf root file = (c : Option Checkpoint) × (root_of c ≡ root) × IfSome c (HasPages (files.known g file))

  -- It has those of none.
  abbrev pub HasNoCheckpointOf : Option Parts → SlotFile D → Type 0
  HasNoCheckpointOf root file = (c : Option Checkpoint) → root_of c ≡ root → ¬ IfSome c (HasPages (files.known g file))

  -- The detector starts at the checkpoint of this root whose pages the file has.
  abbrev pub StartsAt : Option Parts → SlotFile D → Result (detect.ShownDetector (pool.ShownPool D)) (Refusal × SlotFile D) → Type 0
  StartsAt root file result =
      (c : Option Checkpoint) → root_of c ≡ root → IfSome c (HasPages (files.known g file))
      → IfOk result (λ d. detect.content (pools.live g) d ≡ start_of c)

  abbrev pub CountsInFile : SlotFile D → Result (detect.ShownDetector (pool.ShownPool D)) (Refusal × SlotFile D) → Type 0
  CountsInFile file result = g.failures (files.disk_of (file_in result)) ≡ failures_after result (g.failures (files.disk_of file))
