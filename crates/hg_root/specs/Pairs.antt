-- What a crash may leave of two root files, and the state of a pair in each step.
use Rattle.std.specs.Prelude.{◌≡◌, ◌≢◌, ◌⊎◌, ◌+◌, ℕ, Bool, true, false, IsTrue, not, List, [], ◌∷◌, Option, Some, None, Result, Ok, Err, IfErr, IsErrOf, OnOk, OnErr, if◌then◌else◌}
use Rattle.hg_disk.specs.Calls.{CallsAtMost}
use Rattle.hg_disk.specs.Moments.{GoesOn, MayLeave, WereTrueBefore}
use Rattle.hg_disk.specs.State.{settled}
use Rattle.hg_disk.specs.declared.disk.Disk as disk
use Rattle.hg_gate.specs.Batches.{IsClosed, closed_gate, open_gate}
use Rattle.hg_gate.specs.Gated as gated
use Rattle.hg_gate.specs.Gated.{Rests, framed}
use Rattle.hg_root.specs.Fault.{IsBrokenOrDevice, failures_after}
use Rattle.hg_root.specs.Lawful.{IsRoot}
use Rattle.hg_root.specs.Newest.{IsBelow, IsNewest, IsRootFile}
use Rattle.hg_root.specs.Parts.{Parts}
use Rattle.hg_root.specs.declared.fault.RootFault.{RootFault}
use Rattle.hg_root.specs.declared.fault.RootFault.TheVariants.{Broken}
use Rattle.hg_root.specs.declared.pair.RootPair.{RootPair}

-- whether the file is known to be closed
abbrev pub IsKnown : Bool → Option Parts → Type 0
IsKnown true root = root ≡ None
IsKnown false root = (parts : Parts) × (root ≡ Some parts)

-- the file that is written next, and the other
abbrev pub older : {D : Type 0} → RootPair D → D
older p = gated.disk_of p.older

abbrev pub newer : {D : Type 0} → RootPair D → D
newer p = gated.disk_of p.newer

-- whether a write, a cut or a sync failed: of the file that is written next, and of the other
abbrev pub is_broken : {D : Type 0} → RootPair D → Bool
is_broken p = gated.is_broken p.older

abbrev pub is_other_broken : {D : Type 0} → RootPair D → Bool
is_other_broken p = gated.is_broken p.newer

-- None failed.
abbrev pub IsWorking : {D : Type 0} → RootPair D → Type 0
IsWorking p = (is_broken p ≡ false) × (is_other_broken p ≡ false)

-- One failed.
abbrev pub IsEitherBroken : {D : Type 0} → RootPair D → Type 0
IsEitherBroken p = IsTrue (is_broken p) ⊎ IsTrue (is_other_broken p)

-- whether the file that is written next is known to be closed, and whether the other is
abbrev pub is_closed : {D : Type 0} → RootPair D → Bool
is_closed p = p.is_closed

abbrev pub is_other_closed : {D : Type 0} → RootPair D → Bool
is_other_closed p = p.is_other_closed

-- whether the second file is written next
abbrev pub is_turned : {D : Type 0} → RootPair D → Bool
is_turned p = p.is_turned

-- the other file is written next
abbrev pub turned : {D : Type 0} → RootPair D → RootPair D
turned p = record { older = p.newer; newer = p.older; is_closed = p.is_other_closed; is_other_closed = p.is_closed; is_turned = not p.is_turned }

-- the first file and the second one, whichever is written next
abbrev pub first_of : {D : Type 0} → RootPair D → D
first_of p = if p.is_turned then newer p else older p

abbrev pub second_of : {D : Type 0} → RootPair D → D
second_of p = if p.is_turned then older p else newer p

-- the disks after a call that makes a pair of them, or hands them back
abbrev pub first_after : {D : Type 0} → Result (RootPair D) (D × D) → D
first_after (Ok p) = first_of p
first_after (Err disks) = disks.0

abbrev pub second_after : {D : Type 0} → Result (RootPair D) (D × D) → D
second_after (Ok p) = second_of p
second_after (Err disks) = disks.1

module _ {D : Type 0} (g : disk.Ghosts D) where
  -- the bytes of the first file, and those of the second one
  abbrev pub first_bytes : RootPair D → List ℕ
  first_bytes p = (g.state (first_of p)).contents

  abbrev pub second_bytes : RootPair D → List ℕ
  second_bytes p = (g.state (second_of p)).contents

  -- The reads of both files so far were true.
  abbrev pub ReadsWereTrue : RootPair D → Type 0
  ReadsWereTrue p = IsTrue (g.reads_were_true (first_of p)) × IsTrue (g.reads_were_true (second_of p))

  -- how many calls of the two disks have failed
  abbrev pub failures : RootPair D → ℕ
  failures p = g.failures (first_of p) + g.failures (second_of p)

  -- Each image of the two files from one moment to another, each file by itself, has P.
  pub record EachPair (old new : RootPair D) (P : List ℕ → List ℕ → Type 0) : Type 0 where
    pub older_goes : GoesOn g (older old) (older new)
    pub newer_goes : GoesOn g (newer old) (newer new)
    pub each : (one other : List ℕ) → MayLeave g (older old) (older new) one → MayLeave g (newer old) (newer new) other → P one other

  -- The pair works, both files are durable, and this is the newest open root, or none; the file that is written next has the former one, or is closed.
  pub record Stands (p : RootPair D) (root former : Option Parts) : Type 0 where
    pub older_file : List ℕ
    pub newer_file : List ℕ
    pub older_rests : Rests g p.older older_file
    pub newer_rests : Rests g p.newer newer_file
    pub below : IsBelow former root
    pub older_has : IsRootFile older_file former
    pub newer_has : IsRootFile newer_file root
    pub known : IsKnown p.is_closed former
    pub newer_known : IsKnown p.is_other_closed root

  -- The pair works, and both files are durable. The file that is written next is closed, with these bytes behind its gate; the other
  -- has the newest open root, or is closed.
  pub record IsPrepared (p : RootPair D) (root : Option Parts) (rest : List ℕ) : Type 0 where
    pub gate : ℕ
    pub newer_file : List ℕ
    pub shut : gate ≢ open_gate
    pub older_rests : Rests g p.older (gate ∷ rest)
    pub newer_rests : Rests g p.newer newer_file
    pub newer_has : IsRootFile newer_file root
    pub known : p.is_closed ≡ true
    pub newer_known : IsKnown p.is_other_closed root

  -- The file that was written has the newest root; the other has the former one, if there was one.
  pub record IsOpened (p : RootPair D) (root : Option Parts) (next : Parts) : Type 0 where
    pub older_file : List ℕ
    pub newer_file : List ℕ
    pub older_rests : Rests g p.older older_file
    pub newer_rests : Rests g p.newer newer_file
    pub older_has : IsRootFile older_file (Some next)
    pub newer_has : IsRootFile newer_file root
    pub opened : p.is_closed ≡ false
    pub below : IsBelow root (Some next)
    pub newer_known : IsKnown p.is_other_closed root

-- the newest open root is the one or the other
abbrev pub IsEither : Option Parts → Option Parts → List ℕ → List ℕ → Type 0
IsEither root next one other = IsNewest root None one other ⊎ IsNewest next root one other

module _ {D : Type 0} (g : disk.Ghosts D) where
  -- The disk has one closed gate, durable.
  abbrev pub IsGate : D → Type 0
  IsGate d = g.state d ≡ settled (closed_gate ∷ [])

  -- Both files are.
  abbrev pub AreGates : RootPair D → Type 0
  AreGates p = IsGate (first_of p) × IsGate (second_of p)

  -- If the disks are handed back, the second is as it was, or the first is closed.
  abbrev pub ClosesInTurn : (root1 : D) → (back : D × D) → Type 0
  ClosesInTurn root1 back = (back.1 ≡ root1) ⊎ IsGate back.0

  -- If both files are durable and closed, the pair stands with no root.
  abbrev pub StandsClosed : (root0 root1 : D) → RootPair D → Type 0
  StandsClosed root0 root1 p =
      (one other : List ℕ) → g.state root0 ≡ settled one → g.state root1 ≡ settled other → IsClosed one → IsClosed other → Stands g p None None

  -- After an `Err` the pair stands as before.
  abbrev pub StaysOnErr : {T E : Type 0} → (old new : RootPair D) → Result T E → Type 0
  StaysOnErr old new result = (root former : Option Parts) → Stands g old root former → OnErr result (Stands g new root former)

  -- A pair that stands is prepared,
  abbrev pub Prepares : {T E : Type 0} → (old new : RootPair D) → Result T E → Type 0
  Prepares old new result = (root former : Option Parts) → Stands g old root former → OnOk result ((rest : List ℕ) × IsPrepared g new root rest)

  -- and each image on the way has its roots.
  abbrev pub LeavesRoots : (old new : RootPair D) → Type 0
  LeavesRoots old new = (root former : Option Parts) → Stands g old root former → EachPair g old new (IsNewest root former)

  -- A pair that is prepared has the body behind the gate,
  abbrev pub PutsBody : {T E : Type 0} → (body : List ℕ) → (old new : RootPair D) → Result T E → Type 0
  PutsBody body old new result = (root : Option Parts) (rest : List ℕ) → IsPrepared g old root rest → OnOk result (IsPrepared g new root (framed body))

  -- and each image on the way has the one root.
  abbrev pub LeavesRoot : (old new : RootPair D) → Type 0
  LeavesRoot old new = (root : Option Parts) (rest : List ℕ) → IsPrepared g old root rest → EachPair g old new (IsNewest root None)

  -- A pair that is prepared with a greater root's body is opened,
  abbrev pub OpensNext : {T E : Type 0} → (old new : RootPair D) → Result T E → Type 0
  OpensNext old new result =
      (root : Option Parts) (next : Parts) (body : List ℕ) → IsPrepared g old root (framed body) → IsRoot body next → IsBelow root (Some next)
      → OnOk result (IsOpened g new root next)

  -- and each image on the way has the root or the next one.
  abbrev pub LeavesEither : (old new : RootPair D) → Type 0
  LeavesEither old new =
      (root : Option Parts) (next : Parts) (body : List ℕ) → IsPrepared g old root (framed body) → IsRoot body next → IsBelow root (Some next)
      → EachPair g old new (IsEither root (Some next))

  -- A pair that was opened stands with the next root, and the former one.
  abbrev pub StandsOpened : (old new : RootPair D) → Type 0
  StandsOpened old new = (root : Option Parts) (next : Parts) → IsOpened g old root next → Stands g new (Some next) root

  -- What each call that writes the older file promises. The newer file and the turn stay. It makes at most so many device calls. Where
  -- one of them fails, the file is broken; a broken file is not changed.
  pub record CallsOlder (most : ℕ) (old new : RootPair D) (result : Result (Unit {0}) RootFault) : Type 0 where
    pub newer : newer new ≡ newer old
    pub turn : is_turned new ≡ is_turned old
    pub other : is_other_broken new ≡ is_other_broken old
    pub fault : IfErr result IsBrokenOrDevice
    pub calls : CallsAtMost g most (older old) (older new)
    pub kept : WereTrueBefore g (older old) (older new)
    pub device : g.failures (older new) ≡ failures_after result (g.failures (older old))
    pub broken : IsErrOf result Broken → IsTrue (is_broken old)
    pub works : is_broken old ≡ false → OnOk result (is_broken new ≡ false)
    pub breaks : OnErr result (IsTrue (is_broken new))
    pub same : IsTrue (is_broken old) → new ≡ old
