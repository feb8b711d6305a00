-- What a log shows.
use Rattle.std.specs.Prelude.{◌≡◌, ◌⊎◌, ℕ, Bool, false, List, [], ◌∷◌, ◌++◌, length, Result, Ok, Err, OnOk}
use Rattle.hg_disk.specs.declared.disk.Disk as disk
use Rattle.hg_disk.specs.Moments.{LeavesOnly}
use Rattle.hg_disk.specs.State.{settled}
use Rattle.hg_gate.specs.declared.fault.GateFault.{GateFault}
use Rattle.hg_gate.specs.declared.fault.GateFault.TheVariants.{Damaged, DeviceFault, OutOfMemory}
use Rattle.hg_gate.specs.declared.log.Log.{Log}
use Rattle.hg_gate.specs.Fault.{after_fault}
use Rattle.hg_gate.specs.Batches.{IsBeforeOrAfter, IsLog, IsNoLog, LeavesLog, closed_gate, spelled}

module _ {D : Type 0} {g : disk.Ghosts D} where
  abbrev pub disk_of : Log D g → D
  disk_of log = log.disk

  -- whether a device call of an append failed
  abbrev pub is_broken : Log D g → Bool
  is_broken log = log.is_broken

  -- The log can be used, and the bytes of its disk have these batches behind this front.
  pub record Reads (front : List ℕ) (log : Log D g) (bodies : List (List ℕ)) : Type 0 where
    pub works : log.is_broken ≡ false
    pub has : IsLog front (g.state log.disk).contents bodies
    pub begins : log.begins ≡ length front
    pub end : log.end ≡ length (spelled front bodies)

  -- It can be used, and has these batches, and they are durable.
  pub record Has (front : List ℕ) (log : Log D g) (bodies : List (List ℕ)) : Type 0 where
    pub reads : Reads front log bodies
    pub durable : g.state log.disk ≡ settled (g.state log.disk).contents

  -- It has some list of batches, perhaps the empty one.
  abbrev pub HasSome : (front : List ℕ) → Log D g → Type 0
  HasSome front log = (bodies : List (List ℕ)) × Has front log bodies

  -- The bytes of its disk have some list of batches, perhaps the empty one.
  abbrev pub ReadsSome : (front : List ℕ) → Log D g → Type 0
  ReadsSome front log = (bodies : List (List ℕ)) × Reads front log bodies

  -- It has no batches, its disk has the front and a closed gate, and no call failed since the disk was `before`.
  abbrev pub IsEmptyOn : (front : List ℕ) → D → Log D g → Type 0
  IsEmptyOn front before log =
      Has front log [] × (g.state (disk_of log) ≡ settled (front ++ closed_gate ∷ [])) × (g.failures (disk_of log) ≡ g.failures before)

  -- The log has one more batch, all of them durable,
  abbrev pub AddsBatch : {T E : Type 0} → (body : List ℕ) → (old new : Log D g) → Result T E → Type 0
  AddsBatch body old new result =
      (front : List ℕ) (bodies : List (List ℕ)) → Has front old bodies → OnOk result (Has front new (bodies ++ body ∷ []))

  -- and each image has them.
  abbrev pub AddsDurably : {T E : Type 0} → (body : List ℕ) → (old new : Log D g) → Result T E → Type 0
  AddsDurably body old new result =
      (front : List ℕ) (bodies : List (List ℕ)) → Has front old bodies
      → OnOk result (LeavesLog front (bodies ++ body ∷ []) (g.state (disk_of new)))

  -- A crash at any moment leaves the batches from before, with or without the new one.
  abbrev pub LeavesBeforeOrAfter : (body : List ℕ) → (old new : Log D g) → Type 0
  LeavesBeforeOrAfter body old new =
      (front : List ℕ) (bodies : List (List ℕ)) → Has front old bodies
      → LeavesOnly g (disk_of old) (disk_of new) (IsBeforeOrAfter front bodies body)

  -- What a read of the log gives stays,
  abbrev pub StaysRead : (old new : Log D g) → Type 0
  StaysRead old new = (front : List ℕ) (bodies : List (List ℕ)) → Reads front old bodies → Reads front new bodies

  -- and so does what is durable.
  abbrev pub StaysAsItIs : (old new : Log D g) → Type 0
  StaysAsItIs old new = (front : List ℕ) (bodies : List (List ℕ)) → Has front old bodies → Has front new bodies

  -- Each image has the batches that are durable.
  abbrev pub LeavesIts : Log D g → Type 0
  LeavesIts log =
      (front : List ℕ) (bodies : List (List ℕ)) → Has front log bodies → LeavesLog front bodies (g.state (disk_of log))

  -- the disk after a call that makes a log of it, or hands it back
  abbrev pub disk_after : Result (Log D g) (GateFault × D) → D
  disk_after (Ok log) = log.disk
  disk_after (Err refused) = refused.1

  -- how many calls of the disk have failed after such a call; n had failed before it
  abbrev pub failures_of_making : Result (Log D g) (GateFault × D) → ℕ → ℕ
  failures_of_making (Ok log) n = n
  failures_of_making (Err refused) n = after_fault refused.0 n

-- If it was refused as damaged, the bytes are not a log's.
abbrev pub IsNoLogIfDamaged : {D : Type 0} → (front bytes : List ℕ) → (GateFault × D) → Type 0
IsNoLogIfDamaged front bytes refused = refused.0 ≡ Damaged → IsNoLog front bytes

-- Either a device call failed, or there was no memory and the disk was not called.
abbrev pub FailedOrUncalled : {D : Type 0} → D → (GateFault × D) → Type 0
FailedOrUncalled before refused = (refused.0 ≡ DeviceFault) ⊎ ((refused.0 ≡ OutOfMemory) × (refused.1 ≡ before))
