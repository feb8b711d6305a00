-- A file that is open or closed by its first byte, and what a gated file shows.
use Rattle.std.specs.Prelude.{◌≡◌, ◌≢◌, ◌≤◌, ◌⊎◌, ◌↔◌, ℕ, Bool, false, IsTrue, List, ◌∷◌, ◌++◌, length, take, drop, get_or, Option, MatchOption, Result, Ok, Err, OnOk, IsErrOf}
use Rattle.std.specs.Global.{Vec}
use Rattle.std.specs.Int.{w64, to_be_bytes}
use Rattle.hg_disk.specs.declared.disk.Disk as disk
use Rattle.hg_disk.specs.Moments.{Leaves, LeavesOnly}
use Rattle.hg_disk.specs.State.{settled}
use Rattle.hg_gate.specs.declared.fault.GateFault.{GateFault}
use Rattle.hg_gate.specs.declared.fault.GateFault.TheVariants.{Damaged}
use Rattle.hg_gate.specs.declared.gated.Gated.{Gated}
use Rattle.hg_gate.specs.Batches.{closed_gate, open_gate, IsClosed}

-- a length and a body
abbrev pub framed : List ℕ → List ℕ
framed body = to_be_bytes w64 (length body) ++ body

-- an open gate, a length and this body, and then anything
pub record IsOpenWith (body bytes : List ℕ) : Type 0 where
  pub rest : List ℕ
  pub spelling : bytes ≡ open_gate ∷ (framed body ++ rest)

-- The gate is closed, or it is open with this body.
abbrev pub IsClosedOrOpenWith : List ℕ → List ℕ → Type 0
IsClosedOrOpenWith body bytes = IsClosed bytes ⊎ IsOpenWith body bytes

-- It is neither closed nor open.
abbrev pub IsNotGated : List ℕ → Type 0
IsNotGated bytes = (body : List ℕ) → ¬ IsClosedOrOpenWith body bytes

-- There is no body that it is open with.
abbrev pub IsNotOpen : List ℕ → Type 0
IsNotOpen bytes = (body : List ℕ) → ¬ IsOpenWith body bytes

-- If a body was found, the file is open with it; if none was found, the file is closed.
abbrev pub HasBody : List ℕ → Option (Vec ℕ) → Type 0
HasBody bytes found = MatchOption found (IsClosed bytes) (λ body. IsOpenWith body.items bytes)

-- Whether the first byte is an open gate.
abbrev pub TellsGate : List ℕ → Bool → Type 0
TellsGate bytes is_open = IsTrue is_open ↔ (get_or bytes 0 0 ≡ open_gate)

-- The eight bytes behind the first spell this length.
abbrev pub HasLength : List ℕ → ℕ → Type 0
HasLength bytes len = take 8 (drop 1 bytes) ≡ to_be_bytes w64 len

-- If the body has this length, and so has a front, the front is what stands behind these eight bytes.
abbrev pub HasFront : (file head : List ℕ) → ℕ → Type 0
HasFront file head len = 28 ≤ len → drop 8 head ≡ take 28 (drop 9 file)

-- No body that is wanted has this length, and this front if it has one.
abbrev pub HaveNoBody : (List ℕ → Type 0) → ℕ → List ℕ → Type 0
HaveNoBody wants len front = (body : List ℕ) → length body ≡ len → (28 ≤ len → front ≡ take 28 body) → ¬ wants body

-- If the bytes are open with both bodies, the two are one.
abbrev pub AreOneBody : (first second bytes : List ℕ) → Type 0
AreOneBody first second bytes = IsOpenWith first bytes → IsOpenWith second bytes → first ≡ second

-- Behind a gate of any kind stand these bytes, and then anything.
pub record IsBehindGate (body bytes : List ℕ) : Type 0 where
  pub gate : ℕ
  pub rest : List ℕ
  pub spelling : bytes ≡ gate ∷ (body ++ rest)

abbrev pub disk_of : {D : Type 0} → Gated D → D
disk_of it = it.disk

-- whether a write, a cut or a sync failed
abbrev pub is_broken : {D : Type 0} → Gated D → Bool
is_broken it = it.is_broken

-- the disk after a call that makes a file of it, or hands it back
abbrev pub disk_after : {D : Type 0} → Result (Gated D) D → D
disk_after (Ok it) = it.disk
disk_after (Err disk) = disk

-- It can be used, and its disk has these bytes, all of them durable.
pub record Rests {D : Type 0} (g : disk.Ghosts D) (it : Gated D) (file : List ℕ) : Type 0 where
  pub works : it.is_broken ≡ false
  pub durable : g.state it.disk ≡ settled file

module _ {D : Type 0} (g : disk.Ghosts D) where
  -- The gate of a durable file is closed by the call,
  abbrev pub ClosesGate : {T E : Type 0} → (old new : Gated D) → Result T E → Type 0
  ClosesGate old new result = (file : List ℕ) → Rests g old file → OnOk result (Rests g new (closed_gate ∷ drop 1 file))

  -- or opened.
  abbrev pub OpensGate : {T E : Type 0} → (old new : Gated D) → Result T E → Type 0
  OpensGate old new result = (gate : ℕ) (rest : List ℕ) → Rests g old (gate ∷ rest) → OnOk result (Rests g new (open_gate ∷ rest))

  -- Behind its gate stands this body, and nothing else.
  abbrev pub PutsBody : {T E : Type 0} → (body : List ℕ) → (old new : Gated D) → Result T E → Type 0
  PutsBody body old new result = (gate : ℕ) (rest : List ℕ) → Rests g old (gate ∷ rest) → OnOk result (Rests g new (gate ∷ framed body))

  -- If a body stood behind the gate of a durable file, each image is open with this body.
  abbrev pub OpensDurably : {T E : Type 0} → (old new : Gated D) → Result T E → Type 0
  OpensDurably old new result =
      (gate : ℕ) (body rest : List ℕ) → Rests g old (gate ∷ (framed body ++ rest)) → OnOk result (Leaves (IsOpenWith body) (g.state (disk_of new)))

  -- A crash at any moment leaves what stood behind the gate of a durable file,
  abbrev pub LeavesRest : (old new : Gated D) → Type 0
  LeavesRest old new =
      (gate : ℕ) (rest : List ℕ) → Rests g old (gate ∷ rest) → LeavesOnly g (disk_of old) (disk_of new) (IsBehindGate rest)

  -- or a closed file, if it was closed,
  abbrev pub StaysClosed : (old new : Gated D) → Type 0
  StaysClosed old new =
      (gate : ℕ) (rest : List ℕ) → Rests g old (gate ∷ rest) → gate ≢ open_gate → LeavesOnly g (disk_of old) (disk_of new) IsClosed

  -- or a file that is closed, or open with the body that stood there.
  abbrev pub StaysClosedOrOpens : (old new : Gated D) → Type 0
  StaysClosedOrOpens old new =
      (gate : ℕ) (body rest : List ℕ) → Rests g old (gate ∷ (framed body ++ rest))
      → LeavesOnly g (disk_of old) (disk_of new) (IsClosedOrOpenWith body)

  -- If the reads were true and damage is told, the file is neither closed nor open.
  abbrev pub TellsTrueDamage : {T : Type 0} → (old new : Gated D) → Result T GateFault → Type 0
  TellsTrueDamage old new result = IsTrue (g.reads_were_true (disk_of new)) → IsErrOf result Damaged → IsNotGated (g.state (disk_of old)).contents

  -- If the reads were true and damage is told, the file is not closed, and it is open with no body that is wanted.
  abbrev pub TellsUnwanted : {T : Type 0} → (wants : List ℕ → Type 0) → (old new : Gated D) → Result T GateFault → Type 0
  TellsUnwanted wants old new result =
      IsTrue (g.reads_were_true (disk_of new)) → IsErrOf result Damaged
      → (¬ IsClosed (g.state (disk_of old)).contents) × ((body : List ℕ) → IsOpenWith body (g.state (disk_of old)).contents → ¬ wants body)

  -- Behind the first byte of a durable disk stands this body, and nothing else.
  abbrev pub ReplacesBody : {T E : Type 0} → (body : List ℕ) → (old new : D) → Result T E → Type 0
  ReplacesBody body old new result =
      (gate : ℕ) (rest : List ℕ) → g.state old ≡ settled (gate ∷ rest) → OnOk result (g.state new ≡ settled (gate ∷ framed body))

  -- If a durable disk is closed, a crash at any moment leaves it closed.
  abbrev pub LeavesClosed : (old new : D) → Type 0
  LeavesClosed old new = (gate : ℕ) (rest : List ℕ) → g.state old ≡ settled (gate ∷ rest) → gate ≢ open_gate → LeavesOnly g old new IsClosed
