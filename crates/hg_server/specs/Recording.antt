-- How many conversations are on record, and why that may be fewer than the connections that were asked for.
use Rattle.std.specs.Prelude.{◌≡◌, ◌≢◌, ◌⊎◌, ◌+◌, ◌<◌, ◌≤◌, ℕ, List, [], ◌∷◌, Option, None, Some, length}
use Rattle.hg_model.specs.declared.verdict.Refusal.{Refusal}
use Rattle.hg_model.specs.declared.verdict.Refusal.TheVariants.{Broken, DeviceFault, OutOfMemory}
use Rattle.hg_server.specs.declared.fault.ServingFault.{ServingFault}
use Rattle.hg_server.specs.declared.fault.ServingFault.TheVariants as fault
use Rattle.hg_server.specs.declared.handing.Cut.{Cut}
use Rattle.hg_server.specs.declared.handing.Cut.TheVariants as cut
use Rattle.hg_server.specs.declared.handing.Taken.{Taken}
use Rattle.hg_server.specs.declared.wire.Transcript.{Transcript}

-- how many conversations workers held in all
abbrev pub held_in : List (List Transcript) → ℕ
held_in [] = 0
held_in (talks ∷ others) = length talks + held_in others

-- A counter that stops at 2^64 - 1 has this number, where it did not come so far.
abbrev pub IsCountOf : (number count : ℕ) → Type 0
IsCountOf number count = (count ≤ number) × (count < 18446744073709551615 → count ≡ number)

-- Workers took fewer connections than were asked for, and the conversation of each is on record.
abbrev pub Lacks : (connections held count : ℕ) → Type 0
Lacks connections held count = (count < connections) × (held ≡ count)

-- What is on record, and how many connections workers took, by what cut that short, if something did. Where nothing did, workers took as many
-- as were asked for, and the conversation of each is on record.
abbrev pub Accounts : (connections held count : ℕ) → Option Cut → Type 0
Accounts connections held count None = (count ≡ connections) × (held ≡ count)
Accounts connections held count (Some cut.Broken) = Lacks connections held count
Accounts connections held count (Some cut.Stopped) = Lacks connections held count
Accounts connections held count (Some cut.NoWorker) = Lacks connections held count
Accounts connections held count (Some cut.NoMemory) = Lacks connections held count
Accounts connections held count (Some cut.Unready) = (count ≡ 0) × (held ≡ 0)
Accounts connections held count (Some cut.Unrecorded) = held ≡ 0
Accounts connections held count (Some cut.Disputed) = held ≡ 0
Accounts connections held count (Some cut.Lost) = (held ≢ count) ⊎ (count ≢ connections)

-- how that is told
abbrev pub fault_of : Cut → ServingFault
fault_of cut.Broken = fault.DeviceFault
fault_of cut.Stopped = fault.DeviceFault
fault_of cut.NoWorker = fault.DeviceFault
fault_of cut.NoMemory = fault.OutOfMemory
fault_of cut.Unready = fault.DeviceFault
fault_of cut.Unrecorded = fault.OutOfMemory
fault_of cut.Disputed = fault.DeviceFault
fault_of cut.Lost = fault.DeviceFault

-- the refusal of the same name
abbrev pub refusal_of : ServingFault → Refusal
refusal_of fault.Broken = Broken
refusal_of fault.DeviceFault = DeviceFault
refusal_of fault.OutOfMemory = OutOfMemory

-- The accepting of connections, or their record, was cut short, and this is told of what cut it.
abbrev pub WasCut : Taken → ServingFault → Type 0
WasCut taken told = (why : Cut) × (taken.cut ≡ Some why) × (told ≡ fault_of why)

-- If something cut it short, that was before a connection was listened for.
abbrev pub NoneLacks : Taken → Type 0
NoneLacks taken = (taken.cut ≡ None) ⊎ (taken.cut ≡ Some cut.Unready)

-- A cut of this kind explains that workers took fewer connections.
abbrev pub Explains : Cut → Type 0
Explains why = (connections held count : ℕ) → Lacks connections held count → Accounts connections held count (Some why)
