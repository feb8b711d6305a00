-- What the three disks of checkpoints have, and how they are handed back.
use Rattle.std.specs.Prelude.{IsTrue, ◌≡◌, ◌+◌, ℕ, Option, Result, Ok, Err}
use Rattle.hg_model.specs.Contents.{Content}
use Rattle.hg_model.specs.declared.verdict.Refusal.{Refusal}
use Rattle.hg_disk.specs.declared.disk.Disk as disk
use Rattle.hg_root.specs.Checkpoints.{Checkpoint, HasCheckpoint}
use Rattle.hg_recovery.specs.Answers.{CountedBy}
use Rattle.hg_saved.specs.Heads.{IsSavedHead}
use Rattle.hg_saved.specs.declared.head.SavedHead.{SavedHead}
use Rattle.hg_saved.specs.declared.saved.CheckpointDisks.{CheckpointDisks}
use Rattle.hg_saved.specs.Saved.{IsSaved, ReadsPages}

-- what is asked for with the disks, or a refusal with them
abbrev pub SavedOr : (T D : Type 0) → Type 0
SavedOr T D = Result (T × CheckpointDisks D) (Refusal × CheckpointDisks D)

-- the disks that are handed back
abbrev pub disks_in : {T D : Type 0} → SavedOr T D → CheckpointDisks D
disks_in (Ok r) = r.1
disks_in (Err e) = e.1

-- DeviceFault adds one failed call, and any other answer adds none.
abbrev pub CountsAnswer : {T D : Type 0} → SavedOr T D → ℕ → ℕ → Type 0
CountsAnswer (Ok r) old new = new ≡ old
CountsAnswer (Err e) old new = CountedBy e.0 old new

module _ {D : Type 0} (g : disk.Ghosts D) where
  -- The reads of each disk so far were true.
  abbrev pub ReadsWereTrue : CheckpointDisks D → Type 0
  ReadsWereTrue disks =
      IsTrue (g.reads_were_true disks.root0) × IsTrue (g.reads_were_true disks.root1) × IsTrue (g.reads_were_true disks.slots)

  -- The disks have this newest checkpoint, or none.
  abbrev pub HasNewest : Option Checkpoint → CheckpointDisks D → Type 0
  HasNewest checkpoint disks =
      HasCheckpoint checkpoint (g.state disks.root0).contents (g.state disks.root1).contents
      (g.state disks.slots).contents

  -- They have no newest checkpoint, and the roots are not both closed.
  abbrev pub HasNoneSaved : CheckpointDisks D → Type 0
  HasNoneSaved disks = (checkpoint : Option Checkpoint) → ¬ HasNewest checkpoint disks

  -- The content is that of the newest checkpoint of the disks, or the empty one.
  abbrev pub IsSavedOn : CheckpointDisks D → Content → Type 0
  IsSavedOn disks c =
      IsSaved (g.state disks.root0).contents (g.state disks.root1).contents (g.state disks.slots).contents c

  -- It is what the newest root of the disks says, or none.
  abbrev pub IsHeadOn : CheckpointDisks D → Option SavedHead → Type 0
  IsHeadOn disks head =
      IsSavedHead (g.state disks.root0).contents (g.state disks.root1).contents (g.state disks.slots).contents head

  -- The slots were read at most once for each page of the newest root.
  abbrev pub ReadsEachPageOnce : (old new : CheckpointDisks D) → Type 0
  ReadsEachPageOnce old new = ReadsPages g (g.state old.root0).contents (g.state old.root1).contents old.slots new.slots

  -- how many calls of the disks have failed
  abbrev pub failures : CheckpointDisks D → ℕ
  failures disks = g.failures disks.root0 + g.failures disks.root1 + g.failures disks.slots

  -- DeviceFault is told exactly if one call more has failed.
  abbrev pub CountsSaved : {T : Type 0} → CheckpointDisks D → SavedOr T D → Type 0
  CountsSaved disks result = CountsAnswer result (failures disks) (failures (disks_in result))
