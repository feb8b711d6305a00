-- What stands in a log at a place behind its front. Places are counted from there.
use Rattle.std.specs.Prelude.{◌≡◌, ◌≢◌, ◌<◌, ◌+◌, ℕ, IsTrue, Option, Some, None, List, ◌∷◌, ◌++◌, length, drop, Result, IsErrOf}
use Rattle.std.specs.List.{flat_map, AllByRecursion}
use Rattle.std.specs.Int.{w32, to_be_bytes}
use Rattle.hg_disk.specs.Calls.{CallsAtMost}
use Rattle.hg_disk.specs.State.{DiskState}
use Rattle.hg_disk.specs.declared.disk.Disk as disk
use Rattle.hg_gate.specs.declared.fault.GateFault.{GateFault}
use Rattle.hg_gate.specs.declared.fault.GateFault.TheVariants.{Damaged}
use Rattle.hg_gate.specs.Batches.{open_gate, IsClosed, IsBodyLength, IsBody, batch}

-- open batches, a closed gate, and then anything
pub record IsTail (bytes : List ℕ) (bodies : List (List ℕ)) : Type 0 where
  pub gate : ℕ
  pub rest : List ℕ
  pub spelling : bytes ≡ flat_map batch bodies ++ gate ∷ rest
  pub closed : gate ≢ open_gate
  pub each : AllByRecursion IsBody bodies

-- The bytes are no such tail.
abbrev pub IsNoTail : List ℕ → Type 0
IsNoTail bytes = (bodies : List (List ℕ)) → ¬ IsTail bytes bodies

-- From this place on, behind so many bytes, what a read gives is no such tail.
abbrev pub HasNoTail : (begins at : ℕ) → DiskState → Type 0
HasNoTail begins at s = IsNoTail (drop at (drop begins s.contents))

-- If the reads were true and damage is told, the disk has no such tail from this place on.
abbrev pub TellsNoTail : {D : Type 0} → (g : disk.Ghosts D) → {T : Type 0} → (begins at : ℕ) → (old new : D) → Result T GateFault → Type 0
TellsNoTail g begins at old new result = IsTrue (g.reads_were_true new) → IsErrOf result Damaged → HasNoTail begins at (g.state old)

-- an open gate, the length n of a body, so many bytes, and more
pub record IsOpen (bytes : List ℕ) (n : ℕ) : Type 0 where
  pub rest : List ℕ
  pub spelling : bytes ≡ open_gate ∷ (to_be_bytes w32 n ++ rest)
  pub is_length : IsBodyLength n
  pub long : n < length rest

-- a gate that is closed, or a batch with a body of length n and something behind it
abbrev pub IsHead : List ℕ → Option ℕ → Type 0
IsHead bytes None = IsClosed bytes
IsHead bytes (Some n) = IsOpen bytes n

-- how many bytes the batch has, if there is one and n is the length of its body
abbrev pub batch_len : Option ℕ → ℕ
batch_len None = 0
batch_len (Some n) = 5 + n

-- If there is a batch, its body has a length that a body may have.
abbrev pub HasBodyLength : Option ℕ → Type 0
HasBodyLength None = Unit {0}
HasBodyLength (Some n) = IsBodyLength n

-- The first of these bytes, up to this place, are open batches.
pub record Walked (bytes : List ℕ) (at : ℕ) : Type 0 where
  pub bodies : List (List ℕ)
  pub place : at ≡ length (flat_map batch bodies)
  pub first : bytes ≡ flat_map batch bodies ++ drop at bytes
  pub each : AllByRecursion IsBody bodies

-- The batches end at this place.
pub record EndsAt (bytes : List ℕ) (at : ℕ) : Type 0 where
  pub bodies : List (List ℕ)
  pub has : IsTail bytes bodies
  pub place : at ≡ length (flat_map batch bodies)

-- If such a tail stands from this place on, the disk was called at most once per batch and once more.
abbrev pub OneCallABatchIn : {D : Type 0} → (g : disk.Ghosts D) → (begins : ℕ) → (old new : D) → Type 0
OneCallABatchIn g begins old new =
    (bodies : List (List ℕ)) → IsTail (drop begins (g.state old).contents) bodies → CallsAtMost g (length bodies + 1) old new

-- This front is what the file begins with.
abbrev pub BeginsWith : (front file : List ℕ) → Type 0
BeginsWith front file = file ≡ front ++ drop (length front) file
