-- The numbers that refusals are printed with.
use Rattle.std.specs.Prelude.{ℕ}
use Rattle.hg_model.specs.declared.verdict.Refusal.{Refusal}
use Rattle.hg_model.specs.declared.verdict.Refusal.TheVariants.{Gap, BadNumber, BadLength, AddressEnd, NoThread, ChildUsed, SelfJoin, ChildNotAlive, ChildHoldsLocks, Broken, Damaged, AlreadyHeld, LockBusy, NotHeld, FullHeld, FullSegments, FullEvents, FullPending, FullSets, FullSlots, DeviceFault, OutOfMemory, MessageUsed, NotSent, MessageTaken}

-- the number of a refusal
abbrev pub code_of : Refusal → ℕ
code_of (Gap n) = 1
code_of BadNumber = 2
code_of BadLength = 3
code_of AddressEnd = 4
code_of NoThread = 5
code_of ChildUsed = 6
code_of SelfJoin = 7
code_of ChildNotAlive = 8
code_of ChildHoldsLocks = 9
code_of Broken = 10
code_of Damaged = 11
code_of AlreadyHeld = 12
code_of LockBusy = 13
code_of NotHeld = 14
code_of FullHeld = 15
code_of FullSegments = 16
code_of FullEvents = 17
code_of FullPending = 18
code_of FullSets = 19
code_of FullSlots = 20
code_of DeviceFault = 21
code_of OutOfMemory = 22
code_of MessageUsed = 23
code_of NotSent = 24
code_of MessageTaken = 25
