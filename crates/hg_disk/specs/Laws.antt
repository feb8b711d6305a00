-- What stays in a file and in its images through writes and cuts, and what a crash may leave over several calls.
use Rattle.std.specs.Prelude.{◌≡◌, ◌≤◌, ◌<◌, ◌+◌, ℕ, Bool, false, IsTrue, List, ◌++◌, length, get_or, take, drop}
use Rattle.hg_disk.specs.Moments.{GoesOn, Leaves, LeavesLong, LeavesOnly, MayLeave}
use Rattle.hg_disk.specs.State.{DiskState, IsImage, after_write, is_written, least, overwritten, settled}
use Rattle.hg_disk.specs.declared.disk.Disk as disk

abbrev pub Begins : List ℕ → List ℕ → Type 0
Begins front image = (rest : List ℕ) × (image ≡ front ++ rest)

-- the front, n bytes of any value, the bytes that stood behind them, and then anything
pub record Torn (front : List ℕ) (n : ℕ) (behind image : List ℕ) : Type 0 where
  pub torn : List ℕ
  pub extra : List ℕ
  pub size : length torn ≡ n
  pub whole : image ≡ front ++ (torn ++ (behind ++ extra))

-- the file has these bytes at this place
pub record Holds (file : List ℕ) (at : ℕ) (bytes : List ℕ) : Type 0 where
  pub before : List ℕ
  pub after : List ℕ
  pub place : length before ≡ at
  pub whole : file ≡ before ++ (bytes ++ after)

-- These bytes are on the disk at this place, and nothing was written there since.
pub record KeepsBytes (s : DiskState) (at : ℕ) (bytes : List ℕ) : Type 0 where
  pub long : at + length bytes ≤ least s.since (length s.synced)
  pub held : at + length bytes ≤ length s.contents
  pub untouched : (i : ℕ) → i < length bytes → is_written s.since (at + i) ≡ false
  pub same : (i : ℕ) → i < length bytes → get_or s.synced (at + i) 0 ≡ get_or bytes i 0

-- Each image of a write behind the front of a durable file has P.
abbrev pub WritesBehindLeave : (front rest : List ℕ) → (List ℕ → Type 0) → Type 0
WritesBehindLeave front rest P =
    (at : ℕ) (bytes image : List ℕ) → length front ≤ at → IsImage (after_write at bytes (settled (front ++ rest))) image → P image

-- Each image of a write over the middle of a durable file has P.
abbrev pub WritesOverLeave : (front old behind : List ℕ) → (List ℕ → Type 0) → Type 0
WritesOverLeave front old behind P =
    (at : ℕ) (bytes image : List ℕ) → at ≡ length front → length bytes ≡ length old
    → IsImage (after_write at bytes (settled (front ++ (old ++ behind)))) image → P image

-- A call, given as a function on states, keeps the bytes on the disk before the place,
abbrev pub KeepsBefore : (end : ℕ) → (DiskState → DiskState) → Type 0
KeepsBefore end after = (s : DiskState) (place : ℕ) (bytes : List ℕ) → place + length bytes ≤ end → KeepsBytes s place bytes → KeepsBytes (after s) place bytes

-- or those from the place on.
abbrev pub KeepsFrom : (from : ℕ) → (DiskState → DiskState) → Type 0
KeepsFrom from after = (s : DiskState) (place : ℕ) (bytes : List ℕ) → from ≤ place → KeepsBytes s place bytes → KeepsBytes (after s) place bytes

-- The image has the bytes, if they are on the disk there.
abbrev pub ShowsKept : DiskState → (at : ℕ) → (bytes image : List ℕ) → Type 0
ShowsKept s at bytes image = KeepsBytes s at bytes → IsImage s image → Holds image at bytes

-- What a read gives is one of the images.
abbrev pub HasItsBytes : DiskState → Type 0
HasItsBytes s = IsImage s s.contents

-- Each image has the bytes at this place.
abbrev pub LeavesThere : (place : ℕ) → (bytes : List ℕ) → DiskState → Type 0
LeavesThere place bytes s = Leaves (λ image. Holds image place bytes) s

-- Bytes that each image has before the place stay in each image after the call,
abbrev pub ImagesKeepBefore : (end : ℕ) → (DiskState → DiskState) → Type 0
ImagesKeepBefore end after =
    (s : DiskState) (place : ℕ) (bytes : List ℕ) → HasItsBytes s → place + length bytes ≤ end → LeavesThere place bytes s
    → LeavesThere place bytes (after s)

-- and so from the place on.
abbrev pub ImagesKeepFrom : (from : ℕ) → (DiskState → DiskState) → Type 0
ImagesKeepFrom from after =
    (s : DiskState) (place : ℕ) (bytes : List ℕ) → HasItsBytes s → from ≤ place → LeavesThere place bytes s → LeavesThere place bytes (after s)

-- If each image has at least n bytes, so has each image after the call.
abbrev pub ImagesStayLong : (DiskState → DiskState) → Type 0
ImagesStayLong after = (s : DiskState) (n : ℕ) → LeavesLong n s → LeavesLong n (after s)

-- The bytes are read at this place.
abbrev pub IsReadAt : (file : List ℕ) → (at : ℕ) → (bytes : List ℕ) → Type 0
IsReadAt file at bytes = take (length bytes) (drop at file) ≡ bytes

-- The second file has all bytes that the first one has before the place,
abbrev pub HoldsBefore : (end : ℕ) → (file after : List ℕ) → Type 0
HoldsBefore end file after = (place : ℕ) (bytes : List ℕ) → place + length bytes ≤ end → Holds file place bytes → Holds after place bytes

-- and so from the place on.
abbrev pub HoldsFrom : (from : ℕ) → (file after : List ℕ) → Type 0
HoldsFrom from file after = (place : ℕ) (bytes : List ℕ) → from ≤ place → Holds file place bytes → Holds after place bytes

-- What stands in the file before a write stays there,
abbrev pub StaysBeforeWrite : (file : List ℕ) → (at : ℕ) → (written : List ℕ) → Type 0
StaysBeforeWrite file at written = HoldsBefore at file (overwritten file at written)

-- and so does what stands behind it.
abbrev pub StaysBehindWrite : (file : List ℕ) → (at : ℕ) → (written : List ℕ) → Type 0
StaysBehindWrite file at written = HoldsFrom (at + length written) file (overwritten file at written)

-- A crash after the call may leave each image from before it.
abbrev pub LosesNoImage : (DiskState → DiskState) → Type 0
LosesNoImage after = (s : DiskState) (image : List ℕ) → IsImage s image → IsImage (after s) image

-- the bytes pass the test
abbrev pub Passes : (List ℕ → Bool) → List ℕ → Type 0
Passes p bytes = IsTrue (p bytes)

module _ {D : Type 0} (g : disk.Ghosts D) where
  -- A crash at any moment from `old` to `new` leaves bytes that pass the test.
  abbrev pub EachPasses : (old new : D) → (List ℕ → Bool) → Type 0
  EachPasses old new p = LeavesOnly g old new (λ image. IsTrue (p image))

  -- If each moment of both runs leaves only bytes that pass, so does each moment of the joined run.
  abbrev pub RunsJoin : (old mid new : D) → (List ℕ → Bool) → Type 0
  RunsJoin old mid new p = EachPasses old mid p → EachPasses mid new p → EachPasses old new p

  -- If each moment leaves only bytes that pass, and some moment may leave these bytes, they pass.
  abbrev pub PassesAsEachDoes : (old new : D) → (List ℕ → Bool) → (bytes : List ℕ) → Type 0
  PassesAsEachDoes old new p bytes = EachPasses old new p → MayLeave g old new bytes → IsTrue (p bytes)

  -- If each moment leaves only bytes that pass, so does the last one.
  abbrev pub LastPasses : (old new : D) → (List ℕ → Bool) → Type 0
  LastPasses old new p = EachPasses old new p → Leaves (λ image. IsTrue (p image)) (g.state new)

  -- If the last moment may leave the bytes, some moment may.
  abbrev pub LastIsAmong : (old new : D) → (bytes : List ℕ) → Type 0
  LastIsAmong old new bytes = GoesOn g old new → IsImage (g.state new) bytes → MayLeave g old new bytes

-- At most one value has P.
abbrev pub AtMostOne : {A : Type 0} → (A → Type 0) → Type 0
AtMostOne P = (first second : _) → P first → P second → first ≡ second
