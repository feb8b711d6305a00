-- How far a reader has read a log, and what it has read ahead.
use Rattle.std.specs.Prelude.{◌≡◌, ◌≢◌, ◌<◌, ◌≤◌, ◌+◌, ◌-◌, ℕ, Bool, true, IsTrue, List, [], ◌∷◌, ◌++◌, length, take, drop, slice_range, MatchBool, Result, Ok, IfOk, IfErr}
use Rattle.std.specs.List.{flat_map, AllByRecursion}
use Rattle.hg_disk.specs.declared.disk.Disk as disk
use Rattle.hg_gate.specs.declared.fault.GateFault.{GateFault}
use Rattle.hg_gate.specs.declared.fault.GateFault.TheVariants.{Damaged}
use Rattle.hg_gate.specs.declared.log.Log.{Log}
use Rattle.hg_gate.specs.declared.reader.LogReader.{LogReader}
use Rattle.hg_gate.specs.Batches.{IsBody, IsClosed, batch}
use Rattle.hg_gate.specs.Log.{Reads, disk_of}
use Rattle.hg_gate.specs.Scan.{IsOpen, IsTail}

-- the bytes of the present batch that were not passed yet
abbrev pub rest_of : LogReader → List ℕ
rest_of r = slice_range r.piece.items r.from r.to

-- the bytes that were read ahead behind the present batch
abbrev pub ahead_of : LogReader → List ℕ
ahead_of r = drop r.to r.piece.items

-- The bytes begin with the first of these batches: whatever batches stand whole at their front.
abbrev pub ShowsFirst : List ℕ → List (List ℕ) → Type 0
ShowsFirst bytes left =
    (whole : List (List ℕ)) (rest : List ℕ) → AllByRecursion IsBody whole → bytes ≡ flat_map batch whole ++ rest
    → (later : List (List ℕ)) × (left ≡ whole ++ later)

-- The next batch is the one behind those that were seen, and the batches that were read ahead whole are the first of
-- those that are left. It says nothing of a closed gate that was read ahead, nor of a batch that is cut, so it is as
-- good when batches are added.
pub record IsReadTo (r : LogReader) (seen left : List (List ℕ)) : Type 0 where
  pub place : r.next ≡ length (flat_map batch seen)
  pub ahead : ShowsFirst (ahead_of r) left

-- It is as good when batches are added behind those that are left.
abbrev pub StaysOnAppend : LogReader → Type 0
StaysOnAppend r = (seen left added : List (List ℕ)) → IsReadTo r seen left → IsReadTo r seen (left ++ added)

-- A reader stays in front of the same batches, whatever the log has.
abbrev pub StaysReadTo : (old new : LogReader) → Type 0
StaysReadTo old new = (seen left : List (List ℕ)) → IsReadTo old seen left → IsReadTo new seen left

-- The present batch, whole, is the first of those that were left.
pub record IsTurned (r : LogReader) (seen left : List (List ℕ)) : Type 0 where
  pub later : List (List ℕ)
  pub first : left ≡ rest_of r ∷ later
  pub at : IsReadTo r (seen ++ rest_of r ∷ []) later

-- A batch with a body of this length, read ahead whole, becomes the present one.
abbrev pub TurnsOver : (len : ℕ) → (old new : LogReader) → Type 0
TurnsOver len old new =
    (seen left : List (List ℕ)) → IsReadTo old seen left → IsOpen (ahead_of old) len → IsTurned new seen left

-- What was read ahead is what these bytes have at the reader's place.
abbrev pub HasAhead : (bytes : List ℕ) → LogReader → Type 0
HasAhead bytes r = ahead_of r ≡ take (length (ahead_of r)) (drop r.next bytes)

-- what was read ahead ends within so many bytes
abbrev pub EndsWithin : ℕ → LogReader → Type 0
EndsWithin size r = r.next + length (ahead_of r) ≤ size

-- The reader went over so many bytes of what was read ahead.
pub record WentOver (count : ℕ) (old new : LogReader) : Type 0 where
  pub place : new.next ≡ old.next + count
  pub ahead : ahead_of new ≡ drop count (ahead_of old)

-- The reader went over a batch that these bytes have at its place.
pub record PassesBatch (bytes : List ℕ) (old new : LogReader) : Type 0 where
  pub len : ℕ
  pub begins : IsOpen (drop old.next bytes) len
  pub place : new.next ≡ old.next + (5 + len)
  pub ahead : HasAhead bytes new

-- The next batch becomes the present one, or none is left.
abbrev pub TurnsIn : {E : Type 0} → (bytes : List ℕ) → (old new : LogReader) → Result Bool E → Type 0
TurnsIn bytes old new result =
    (seen left : List (List ℕ)) → IsTail bytes (seen ++ left) → IsReadTo old seen left
    → IfOk result (λ more. MatchBool more (IsTurned new seen left) (left ≡ []))

module _ {D : Type 0} (g : disk.Ghosts D) where
  -- If the reads were true and the disk has what was read ahead, the reader passes a batch of it, or the gate at its place
  -- is closed. The batches begin at this place of the disk.
  abbrev pub WalksOn : {E : Type 0} → (begins : ℕ) → (d after : D) → (old new : LogReader) → Result Bool E → Type 0
  WalksOn begins d after old new result =
      IsTrue (g.reads_were_true after) → HasAhead (drop begins (g.state d).contents) old
      → IfOk result (λ more. MatchBool more (PassesBatch (drop begins (g.state d).contents) old new)
      (IsClosed (drop old.next (drop begins (g.state d).contents))))

  -- Whatever the disk answers, a reader that passes a batch goes on, and stays within the file.
  abbrev pub GoesOn : {E : Type 0} → (begins : ℕ) → D → (old new : LogReader) → Result Bool E → Type 0
  GoesOn begins d old new result =
      EndsWithin (length (g.state d).contents - begins) old → result ≡ Ok true
      → (old.next < new.next) × EndsWithin (length (g.state d).contents - begins) new

module _ {D : Type 0} {g : disk.Ghosts D} where
  -- If the reads were true that is so,
  abbrev pub Turns : {E : Type 0} → (log after : Log D g) → (old new : LogReader) → Result Bool E → Type 0
  Turns log after old new result =
      (front : List ℕ) (seen left : List (List ℕ)) → IsTrue (g.reads_were_true (disk_of after)) → Reads front log (seen ++ left) → IsReadTo old seen left
      → IfOk result (λ more. MatchBool more (IsTurned new seen left) (left ≡ []))

  -- and there is no damage.
  abbrev pub TurnsUndamaged : {T : Type 0} → (log after : Log D g) → (old : LogReader) → Result T GateFault → Type 0
  TurnsUndamaged log after old result =
      (front : List ℕ) (seen left : List (List ℕ)) → IsTrue (g.reads_were_true (disk_of after)) → Reads front log (seen ++ left) → IsReadTo old seen left
      → IfErr result (λ e. e ≢ Damaged)
