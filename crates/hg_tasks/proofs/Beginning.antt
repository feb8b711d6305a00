-- Why the life of a word could not begin at the newest checkpoint of a store, and that there is room behind one.
use Rattle.std.proofs.Common.{◌≡◌, IsTrue, inl, inr, subst, sym, arith}
use Rattle.hg_model.specs.declared.verdict.Refusal.{Refusal}
use Rattle.hg_model.specs.declared.verdict.Refusal.TheVariants.{Damaged}
use Rattle.hg_cells.specs.declared.paged.PagedWords.{PagedWords}
use Rattle.hg_detect.specs.declared.detector.Detector.{Detector}
use Rattle.hg_detect.specs.Memory.{content_of}
use Rattle.hg_disk.specs.declared.disk.Disk as disk
use Rattle.hg_check.specs.Running.{HasRoom}
use Rattle.hg_recovery.specs.Answers.{CountedBy, IsOfRoots}
use Rattle.hg_root.specs.Finding.{WasRead}
use Rattle.hg_saved.specs.Disks.{HasNoneSaved, ReadsWereTrue, failures}
use Rattle.hg_saved.specs.Saved.{IsNumbered, Stays}
use Rattle.hg_saved.specs.declared.saved.CheckpointDisks.{CheckpointDisks}
use Rattle.hg_store.specs.Refusals.{IsNotOpened}
use Rattle.hg_store.specs.declared.devices.Devices.{Devices}
use Rattle.hg_tasks.specs.Explaining.{HasDisks, IsNotBegun, WereRead, disks_of}

-- There is a number for each line of a text behind a content that counts few events.
pub has_room : (d : Detector PagedWords) → IsNumbered (content_of d) → HasRoom d
has_room d few = let last = few.last 0 in let most = few.events in omega (arith, last, most)

module _ {D : Type 0} (g : disk.Ghosts D) (devices : Devices D) (disks : CheckpointDisks D) (slots : Stays g devices.slots disks.slots) (first : WasRead g devices.root0 disks.root0) (second : WasRead g devices.root1 disks.root1) where
  -- the slots and the roots were read
  abbrev pub were_read : (read : Devices D) → HasDisks devices.journal0 devices.journal1 disks read → WereRead g devices read
  were_read read are = record { disks = disks; slots = slots; first = first; second = second; are = are }

  -- The content was not had.
  pub not_saved : (left : Devices D) (r : Refusal) → IsOfRoots r → (ReadsWereTrue g disks → r ≡ Damaged → HasNoneSaved g (disks_of devices)) → CountedBy r (failures g (disks_of devices)) (failures g disks)
      → HasDisks devices.journal0 devices.journal1 disks left → IsNotBegun g devices left r
  not_saved left r is damaged failed are = inl (record {
    is = is;
    failed = subst (λ (d : Devices D). CountedBy r (failures g (disks_of devices)) (failures g (disks_of d))) (sym are) failed;
    were_read = were_read left are;
    damaged = damaged;
  })

  -- It was, and the store was not opened.
  pub not_opened : (left : Devices D) (r : Refusal) (read : Devices D) → HasDisks devices.journal0 devices.journal1 disks read → failures g disks ≡ failures g (disks_of devices) → IsNotOpened g read left r
      → IsNotBegun g devices left r
  not_opened left r read are none refused = inr (record {
    read = read;
    were_read = were_read read are;
    none_failed = subst (λ (d : Devices D). failures g (disks_of d) ≡ failures g (disks_of devices)) (sym are) none;
    refused = refused;
  })
