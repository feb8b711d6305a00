-- The bytes of a log: what stands in front of its batches, open batches, the first closed gate, and then anything. In front
-- stands a header; or an open gate, another header and a base.
use Rattle.std.specs.Prelude.{◌≡◌, ◌⊎◌, ◌≢◌, ◌≤◌, ◌+◌, ℕ, List, [], ◌∷◌, ◌++◌, length, drop, Option, MatchOption}
use Rattle.std.specs.List.{flat_map, AllByRecursion}
use Rattle.std.specs.Int.{w32, w64, to_be_bytes}
use Rattle.hg_disk.specs.Calls.{CallsAtMost}
use Rattle.hg_disk.specs.Moments.{Leaves}
use Rattle.hg_disk.specs.State.{DiskState}
use Rattle.hg_disk.specs.declared.disk.Disk as disk
use Rattle.hg_gate.specs.declared.batch.TheConstants.{MAX_BODY_LEN}
use Rattle.hg_gate.specs.declared.based.TheConstants.{MAX_BASE}

-- "HGJRNL1" and a line feed: the front of a log without a base
abbrev pub header : List ℕ
header = 72 ∷ 71 ∷ 74 ∷ 82 ∷ 78 ∷ 76 ∷ 49 ∷ 10 ∷ []

-- the byte of an open gate; every other byte is a closed one
abbrev pub open_gate : ℕ
open_gate = 0xA5

-- the byte that closes a gate
abbrev pub closed_gate : ℕ
closed_gate = 0x5A

-- "HGJRNL3" and a line feed
abbrev pub base_header : List ℕ
base_header = 72 ∷ 71 ∷ 74 ∷ 82 ∷ 78 ∷ 76 ∷ 51 ∷ 10 ∷ []

-- the front of a log with this base: an open gate, the header, and the base
abbrev pub base_front : ℕ → List ℕ
base_front base = open_gate ∷ (base_header ++ to_be_bytes w64 base)

-- a gate that is closed, and then anything
pub record IsClosed (bytes : List ℕ) : Type 0 where
  pub gate : ℕ
  pub rest : List ℕ
  pub spelling : bytes ≡ gate ∷ rest
  pub closed : gate ≢ open_gate

-- the lengths of a body
abbrev pub IsBodyLength : ℕ → Type 0
IsBodyLength n = (1 ≤ n) × (n ≤ MAX_BODY_LEN)

-- a body has such a length
abbrev pub IsBody : List ℕ → Type 0
IsBody body = IsBodyLength (length body)

-- a length and a body
abbrev pub sized : List ℕ → List ℕ
sized body = to_be_bytes w32 (length body) ++ body

-- a batch: an open gate, a length and a body
abbrev pub batch : List ℕ → List ℕ
batch body = open_gate ∷ sized body

-- a front and open batches
abbrev pub spelled : List ℕ → List (List ℕ) → List ℕ
spelled front bodies = front ++ flat_map batch bodies

-- Behind this front the bytes have these batches, and no others: behind them stands a closed gate.
pub record IsLog (front bytes : List ℕ) (bodies : List (List ℕ)) : Type 0 where
  pub gate : ℕ
  pub rest : List ℕ
  pub spelling : bytes ≡ spelled front bodies ++ gate ∷ rest
  pub closed : gate ≢ open_gate
  pub each : AllByRecursion IsBody bodies

-- the batches with one more, or without
abbrev pub IsBeforeOrAfter : (front : List ℕ) → List (List ℕ) → List ℕ → List ℕ → Type 0
IsBeforeOrAfter front bodies body bytes = IsLog front bytes bodies ⊎ IsLog front bytes (bodies ++ body ∷ [])

-- The bytes are not a log's.
abbrev pub IsNoLog : (front bytes : List ℕ) → Type 0
IsNoLog front bytes = (bodies : List (List ℕ)) → ¬ IsLog front bytes bodies

-- The bytes are a log with this base.
abbrev pub IsBased : (base : ℕ) → List ℕ → List (List ℕ) → Type 0
IsBased base bytes bodies = (base ≤ MAX_BASE) × IsLog (base_front base) bytes bodies

-- The file begins with an open gate, the header and this base.
abbrev pub HasBase : List ℕ → (base : ℕ) → Type 0
HasBase file base = (base ≤ MAX_BASE) × (file ≡ base_front base ++ drop 17 file)

-- If no base was found, the file is spare; else it begins with that base.
abbrev pub FindsBase : List ℕ → Option ℕ → Type 0
FindsBase file found = MatchOption found (IsClosed file) (HasBase file)

-- The file's batches are behind this front, and have so many bytes.
pub record EndsBehind (front file : List ℕ) (len : ℕ) : Type 0 where
  pub bodies : List (List ℕ)
  pub has : IsLog front file bodies
  pub place : len ≡ length (flat_map batch bodies)

-- The bytes are neither spare nor a log with a base. A file is spare if its first byte is a closed gate.
abbrev pub IsNoLogFile : List ℕ → Type 0
IsNoLogFile bytes = (¬ IsClosed bytes) × ((base : ℕ) (bodies : List (List ℕ)) → ¬ IsBased base bytes bodies)

-- Spare, or a log with this base and these batches.
abbrev pub IsSpareOrHas : (base : ℕ) → List (List ℕ) → List ℕ → Type 0
IsSpareOrHas base bodies bytes = IsClosed bytes ⊎ IsLog (base_front base) bytes bodies

-- Each image of the state has these batches.
abbrev pub LeavesLog : (front : List ℕ) → List (List ℕ) → DiskState → Type 0
LeavesLog front bodies s = Leaves (λ image. IsLog front image bodies) s

module _ {D : Type 0} (g : disk.Ghosts D) where
  -- If the bytes are a log's, the disk was called at most once per batch and twice more.
  abbrev pub OneCallABatch : (front : List ℕ) → (old new : D) → Type 0
  OneCallABatch front old new =
      (bodies : List (List ℕ)) → IsLog front (g.state old).contents bodies → CallsAtMost g (length bodies + 2) old new
