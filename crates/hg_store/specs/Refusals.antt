-- When the refusal of a recovery is true.
use Rattle.std.specs.Prelude.{◌≡◌, ◌⊎◌, IsTrue}
use Rattle.hg_model.specs.declared.verdict.Refusal.{Refusal}
use Rattle.hg_model.specs.declared.verdict.Refusal.TheVariants.{Damaged, FullSets, FullSlots, DeviceFault, OutOfMemory}
use Rattle.hg_sets.specs.declared.table.TheConstants.{MOST_SETS}
use Rattle.hg_pages.specs.declared.slot_file.TheConstants.{MOST_SLOTS}
use Rattle.hg_disk.specs.declared.disk.Disk as disk
use Rattle.hg_store.specs.declared.devices.Devices.{Devices}
use Rattle.hg_store.specs.Images.{KeepsFiles, failures_of, read_of}
use Rattle.hg_recovery.specs.Answers.{CountedBy}
use Rattle.hg_store.specs.Recovering.{HasFewSets, HasNoContent, LacksSlots}

module _ {D : Type 0} (g : disk.Ghosts D) where
  -- What a refusal says is true, by the devices before the call and behind it. Of honest devices: their bytes have no content; the greatest
  -- table of sets is too small for it; or of the greatest number of slots none is left. Want of memory may be told at any time.
  abbrev pub IsTrueOf : (old new : Devices D) → Refusal → Type 0
  IsTrueOf old new r =
      ((r ≡ Damaged) × (IsTrue g.is_honest → HasNoContent (read_of g old)))
      ⊎ (((r ≡ FullSets) × (IsTrue g.is_honest → HasFewSets MOST_SETS (read_of g old)))
      ⊎ (((r ≡ FullSlots) × (IsTrue g.is_honest → LacksSlots g MOST_SLOTS old new)) ⊎ ((r ≡ DeviceFault) ⊎ (r ≡ OutOfMemory))))

  -- Why a store was not opened with the greatest caps. What is told is true; one call of a device failed where that is told, else none; and the
  -- journals and the roots are kept.
  pub record IsNotOpened (old new : Devices D) (r : Refusal) : Type 0 where
    pub is_true : IsTrueOf old new r
    pub failed : CountedBy r (failures_of g old) (failures_of g new)
    pub kept : KeepsFiles g old new
