-- When a file of slots breaks.
use Rattle.std.proofs.Common.{◌≡◌, ◌⊎◌, inl, inr, ◌<◌, ◌≤◌, ◌∙◌, ℕ, Bool, true, false, Result, Ok, Err, IsErrOf, IsTrue, OnErr, OnOk, refl, sym, arith}
use Rattle.hg_disk.specs.declared.disk.Disk as disk
use Rattle.hg_pages.specs.Files as files
use Rattle.hg_pages.specs.Fault.{failures_after, failures_after_write}
use Rattle.hg_pages.specs.declared.fault.SlotFault.{SlotFault}
use Rattle.hg_pages.specs.declared.fault.SlotFault.TheVariants as fault
use Rattle.hg_pages.specs.declared.fault.WriteFault.{WriteFault}
use Rattle.hg_pages.specs.declared.fault.WriteFault.TheVariants as of_write
use Rattle.hg_pages.specs.declared.slot_file.SlotFile.{SlotFile}

-- no answer forgets a failure
pub more_after : {T : Type 0} (result : Result T SlotFault) (n m : ℕ) → m ≡ failures_after result n → n ≤ m
more_after (Ok value) n m is = omega (arith, is)
more_after (Err fault.Broken) n m is = omega (arith, is)
more_after (Err fault.Damaged) n m is = omega (arith, is)
more_after (Err fault.DeviceFault) n m is = omega (arith, is)
more_after (Err fault.OutOfMemory) n m is = omega (arith, is)

works_still : (before : Bool) → ¬ IsTrue before → before ≡ false
works_still true not = absurd (not refl)
works_still false not = refl

-- a write or a sync, by its answer
broke_by : {T : Type 0} (result : Result T WriteFault) (before after : Bool) (n m : ℕ) → m ≡ failures_after_write result n → OnOk result (after ≡ false) → OnErr result (IsTrue after)
    → (IsErrOf result of_write.Broken → IsTrue before) → (IsTrue before → result ≡ Err of_write.Broken) → (n ≤ m) × ((after ≡ before) ⊎ (n < m))
broke_by (Ok value) before after n m is works breaks broken refuses = (omega (arith, is), inl (works ∙ sym (works_still before (λ was. absurd (cc (refuses was))))))
broke_by (Err of_write.Broken) before after n m is works breaks broken refuses = (omega (arith, is), inl (breaks ∙ sym (broken refl)))
broke_by (Err of_write.DeviceFault) before after n m is works breaks broken refuses = (omega (arith, is), inr (omega (arith, is)))

pub broke : {D T : Type 0} (g : disk.Ghosts D) (old new : SlotFile D) (result : Result T WriteFault) → g.failures (files.disk_of new) ≡ failures_after_write result (g.failures (files.disk_of old))
    → OnOk result (files.is_broken new ≡ false) → OnErr result (IsTrue (files.is_broken new)) → (IsErrOf result of_write.Broken → IsTrue (files.is_broken old)) → (IsTrue (files.is_broken old) → result ≡ Err of_write.Broken)
    → (g.failures (files.disk_of old) ≤ g.failures (files.disk_of new)) × ((files.is_broken new ≡ files.is_broken old) ⊎ (g.failures (files.disk_of old) < g.failures (files.disk_of new)))
broke g old new result = broke_by result (files.is_broken old) (files.is_broken new) (g.failures (files.disk_of old)) (g.failures (files.disk_of new))
