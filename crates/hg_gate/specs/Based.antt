-- Logs with a base, and spare files.
use Rattle.std.specs.Prelude.{◌≡◌, ◌≤◌, ◌+◌, ℕ, false, List, [], ◌∷◌, ◌++◌, length, MatchOption, Option, Result, Ok, Err, OnOk}
use Rattle.hg_disk.specs.declared.disk.Disk as disk
use Rattle.hg_disk.specs.Calls.{CallsAtMost}
use Rattle.hg_disk.specs.Laws.{KeepsBytes}
use Rattle.hg_disk.specs.Moments.{Leaves, LeavesOnly}
use Rattle.hg_disk.specs.State.{settled}
use Rattle.hg_gate.specs.declared.based.Found.{Found}
use Rattle.hg_gate.specs.declared.based.LogFile.{LogFile}
use Rattle.hg_gate.specs.declared.based.LogFile.TheVariants.{Spare, Open}
use Rattle.hg_gate.specs.declared.based.TheConstants.{MAX_BASE}
use Rattle.hg_gate.specs.declared.fault.GateFault.{GateFault}
use Rattle.hg_gate.specs.declared.fault.GateFault.TheVariants.{Damaged}
use Rattle.hg_gate.specs.declared.log.Log.{Log}
use Rattle.hg_gate.specs.Fault.{after_fault}
use Rattle.hg_gate.specs.Batches.{EndsBehind, IsBased, IsClosed, IsNoLogFile, IsSpareOrHas, LeavesLog, base_front, closed_gate}
use Rattle.hg_gate.specs.Log.{Has, HasSome, ReadsSome, disk_of}

module _ {D : Type 0} {g : disk.Ghosts D} where
  -- The log can be used, and what a read of its file gives is spare.
  pub record ReadsSpare (log : Log D g) : Type 0 where
    pub works : log.is_broken ≡ false
    pub closed : IsClosed (g.state log.disk).contents

  -- The log can be used, and its file is spare, durably.
  pub record IsSpare (log : Log D g) : Type 0 where
    pub reads : ReadsSpare log
    pub durable : g.state log.disk ≡ settled (g.state log.disk).contents

  -- Its file is spare, one closed gate, and no call failed since the disk was `before`.
  abbrev pub IsSpareOn : D → Log D g → Type 0
  IsSpareOn before log =
      IsSpare log × (g.state (disk_of log) ≡ settled (closed_gate ∷ [])) × (g.failures (disk_of log) ≡ g.failures before)

  -- What a read of the file gives is as the answer says: spare, or a log with this base and some batches.
  abbrev pub IsFileOf : LogFile D g → Type 0
  IsFileOf (Spare log) = ReadsSpare log
  IsFileOf (Open base log) = (base ≤ MAX_BASE) × ReadsSome (base_front base) log

  -- The file is so, durably.
  abbrev pub RestsAs : LogFile D g → Type 0
  RestsAs (Spare log) = IsSpare log
  RestsAs (Open base log) = (base ≤ MAX_BASE) × HasSome (base_front base) log

  -- No device call of its log failed.
  abbrev pub works_as : LogFile D g → Type 0
  works_as (Spare log) = log.is_broken ≡ false
  works_as (Open base log) = log.is_broken ≡ false

  -- the disk after a call that finds out what it has, or hands it back
  abbrev pub file_after : Result (LogFile D g) (GateFault × D) → D
  file_after (Ok (Spare log)) = log.disk
  file_after (Ok (Open base log)) = log.disk
  file_after (Err refused) = refused.1

  -- how many calls of the disk have failed after such a call; n had failed before it
  abbrev pub failures_of_attaching : Result (LogFile D g) (GateFault × D) → ℕ → ℕ
  failures_of_attaching (Ok file) n = n
  failures_of_attaching (Err refused) n = after_fault refused.0 n

  -- Of a spare file a log with this base is made. It has no batches, and its file nothing else;
  abbrev pub OpensSpare : {T E : Type 0} → (base : ℕ) → (old new : Log D g) → Result T E → Type 0
  OpensSpare base old new result =
      IsSpare old → OnOk result (Has (base_front base) new [] × (g.state (disk_of new) ≡ settled (base_front base ++ closed_gate ∷ [])))

  -- and each image is that log.
  abbrev pub OpensDurably : {T E : Type 0} → (base : ℕ) → (old new : Log D g) → Result T E → Type 0
  OpensDurably base old new result = IsSpare old → OnOk result (LeavesLog (base_front base) [] (g.state (disk_of new)))

  -- A crash at any moment leaves the spare file spare, or the log with this base and no batches.
  abbrev pub LeavesSpareOrNew : (base : ℕ) → (old new : Log D g) → Type 0
  LeavesSpareOrNew base old new = IsSpare old → LeavesOnly g (disk_of old) (disk_of new) (IsSpareOrHas base [])

  -- Of a log with a base a spare file is made,
  abbrev pub ClosesLog : {T E : Type 0} → (old new : Log D g) → Result T E → Type 0
  ClosesLog old new result = (base : ℕ) (bodies : List (List ℕ)) → Has (base_front base) old bodies → OnOk result (IsSpare new)

  -- and each image is spare.
  abbrev pub SparesDurably : {T E : Type 0} → (old new : Log D g) → Result T E → Type 0
  SparesDurably old new result =
      (base : ℕ) (bodies : List (List ℕ)) → Has (base_front base) old bodies → OnOk result (Leaves IsClosed (g.state (disk_of new)))

  -- A crash at any moment leaves the log as it was, or the file spare.
  abbrev pub LeavesSpareOrHas : (old new : Log D g) → Type 0
  LeavesSpareOrHas old new =
      (base : ℕ) (bodies : List (List ℕ)) → Has (base_front base) old bodies
      → LeavesOnly g (disk_of old) (disk_of new) (IsSpareOrHas base bodies)

-- The bytes are a log with one base at most, and with one list of batches.
abbrev pub IsOfOneBase : List ℕ → Type 0
IsOfOneBase bytes =
    (base other : ℕ) (bodies others : List (List ℕ)) → IsBased base bytes bodies → IsBased other bytes others
    → (base ≡ other) × (bodies ≡ others)

-- If it was refused as damaged, the file is neither spare nor a log with a base.
abbrev pub IsNoFileIfDamaged : {D : Type 0} → List ℕ → (GateFault × D) → Type 0
IsNoFileIfDamaged bytes refused = refused.0 ≡ Damaged → IsNoLogFile bytes

-- The file is a log with the base that was found, and has so many bytes of batches.
abbrev pub HasFound : (file : List ℕ) → Found → Type 0
HasFound file it = (it.base ≤ MAX_BASE) × EndsBehind (base_front it.base) file it.len

-- If nothing was found, the file is spare.
abbrev pub FindsFile : List ℕ → Option Found → Type 0
FindsFile file found = MatchOption found (IsClosed file) (HasFound file)

module _ {D : Type 0} (g : disk.Ghosts D) where
  -- The first byte of a durable file stays, durable, and nothing stands behind it.
  abbrev pub CutsToGate : {T E : Type 0} → (old new : D) → Result T E → Type 0
  CutsToGate old new result =
      (gate : ℕ) (rest : List ℕ) → g.state old ≡ settled (gate ∷ rest)
      → OnOk result (((g.state new).contents ≡ gate ∷ []) × KeepsBytes (g.state new) 0 (gate ∷ []))

  -- Behind the first byte of a durable file stand these bytes, and nothing else.
  abbrev pub PutsBehind : {T E : Type 0} → (bytes : List ℕ) → (old new : D) → Result T E → Type 0
  PutsBehind bytes old new result =
      (gate : ℕ) (rest : List ℕ) → g.state old ≡ settled (gate ∷ rest) → OnOk result (g.state new ≡ settled (gate ∷ bytes))

  -- A spare file took at most one call of the disk; a log with a base at most one per batch, and two more.
  abbrev pub OneCallABatchBased : (old new : D) → Type 0
  OneCallABatchBased old new =
      (IsClosed (g.state old).contents → CallsAtMost g 1 old new)
      × ((base : ℕ) (bodies : List (List ℕ)) → IsBased base (g.state old).contents bodies → CallsAtMost g (length bodies + 2) old new)
