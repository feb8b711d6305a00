-- Definition: part of what `check` promises. What is read and written, and how that fails.
use Rattle.std.specs.Prelude.{◌≡◌, ◌⊎◌, ◌+◌, ◌<◌, ◌≤◌, ◌^◌, ℕ, List, [], length}
use Rattle.hg_model.specs.declared.verdict.Refusal.{Refusal}
use Rattle.hg_model.specs.Codes.{code_of}
use Rattle.hg_streams.specs.declared.call.ReadCall.{ReadCall}
use Rattle.hg_streams.specs.declared.call.WriteCall.{WriteCall}
use Rattle.hg_streams.specs.Calls.{NoneRefused, failed_reads, failed_writes}
use Rattle.hg_streams.specs.declared.streams.Streams.{Streams}
use Rattle.hg_streams.specs.Written.{Took}
use Rattle.hg_streams.specs.Texts.{fault_text}
use Rattle.hg_model.specs.declared.verdict.Refusal.TheVariants.{DeviceFault, OutOfMemory}

-- A write or a flush failed.
abbrev pub WriteFailed : List WriteCall → List WriteCall → Type 0
WriteFailed old new = failed_writes old < failed_writes new

-- A read failed, or at least 2 ^ 32 reads were made.
abbrev pub ReadFailed : List ReadCall → List ReadCall → Type 0
ReadFailed old new = (failed_reads old < failed_reads new) ⊎ (2 ^ 32 + length old ≤ length new)

-- No read, write or flush failed.
abbrev pub NothingFailed : List ReadCall → List ReadCall → List WriteCall → List WriteCall → Type 0
NothingFailed reads_old reads_new old new = (failed_reads reads_new ≡ failed_reads reads_old) × (failed_writes new ≡ failed_writes old)

-- Want of memory is told where no stream failed. A device fault has its cause in a stream that failed, where no read was refused memory.
abbrev pub HasCause : List ReadCall → List ReadCall → List WriteCall → List WriteCall → Refusal → Type 0
HasCause reads_old reads_new old new r =
    ((r ≡ OutOfMemory) × NothingFailed reads_old reads_new old new) ⊎ ((r ≡ DeviceFault) × (NoneRefused reads_old reads_new × (ReadFailed reads_old reads_new ⊎ WriteFailed old new)))

-- a fault of a stream or a device, or want of memory
abbrev pub IsStreamFault : Refusal → Type 0
IsStreamFault r = (r ≡ OutOfMemory) ⊎ (r ≡ DeviceFault)

-- why a call that only writes was broken off
abbrev pub HasWriteCause : List WriteCall → List WriteCall → Refusal → Type 0
HasWriteCause old new r = ((r ≡ OutOfMemory) × (failed_writes new ≡ failed_writes old)) ⊎ ((r ≡ DeviceFault) × WriteFailed old new)

-- The fault was told, or telling it failed.
abbrev pub IsTold : List WriteCall → List WriteCall → Refusal → Type 0
IsTold old new r = WriteFailed old new ⊎ Took old new (fault_text (code_of r))

-- With a status other than 3 no fault is told.
abbrev pub TellsNoFault : {R W V : Type 0} → ℕ → Streams R W V → Streams R W V → Type 0
TellsNoFault status before after = (status ≡ 3 → ⊥) → Took before.faults.calls after.faults.calls []

-- The status 3 says that the run ended by a fault, which had a cause, and was told.
abbrev pub EndsByFault : {R W V : Type 0} → ℕ → Streams R W V → Streams R W V → Type 0
EndsByFault status before after =
    status ≡ 3
    → (r : Refusal) × (HasCause before.input.calls after.input.calls before.output.calls after.output.calls r
    × IsTold before.faults.calls after.faults.calls r)
