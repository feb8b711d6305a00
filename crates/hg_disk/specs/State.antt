-- What a disk holds, what each call makes of it, and what a crash may leave.
use Rattle.std.specs.Prelude.{◌≡◌, ◌<◌, ◌≤◌, ◌+◌, ◌-◌, ℕ, min, nat_lt, nat_le, Bool, false, ◌&&◌, ◌||◌, List, [], ◌∷◌, ◌++◌, length, take, drop, replicate, get_or, Result, is_ok, if◌then◌else◌}

-- A change of a disk. A write covers the places from `first` up to `end`, without `end`. A cut leaves the first `to` bytes.
pub data Change : Type 0 where
  Written : (first end : ℕ) → Change
  CutTo : (to : ℕ) → Change

-- The bytes that a read gives, the bytes at the last successful sync, and the changes since then, the newest first. A new
-- disk counts as synced.
pub record DiskState : Type 0 where
  pub contents : List ℕ
  pub synced : List ℕ
  pub since : List Change

-- the least length since the sync; at the sync it was n
abbrev pub least : List Change → ℕ → ℕ
least [] n = n
least (Written first end ∷ earlier) n = least earlier n
least (CutTo to ∷ earlier) n = min (least earlier n) to

-- whether a write covered the place i
abbrev pub is_written : List Change → ℕ → Bool
is_written [] i = false
is_written (Written first end ∷ earlier) i = is_written earlier i || (nat_le first i && nat_lt i end)
is_written (CutTo to ∷ earlier) i = is_written earlier i

-- A crash may leave these bytes.
pub record IsImage (s : DiskState) (image : List ℕ) : Type 0 where
  -- without a change since the sync: the synced bytes and nothing else
  pub clean : s.since ≡ [] → image ≡ s.synced
  -- in any case: at least as long as the file was at all times since the sync
  pub long : least s.since (length s.synced) ≤ length image
  -- within that length: the synced bytes wherever nothing was written
  pub kept : (i : ℕ) → i < least s.since (length s.synced) → is_written s.since i ≡ false → get_or image i 0 ≡ get_or s.synced i 0

-- all bytes are durable
abbrev pub settled : List ℕ → DiskState
settled bytes = record { contents = bytes; synced = bytes; since = [] }

-- these bytes at this offset; a gap before them reads as zeros
abbrev pub overwritten : List ℕ → ℕ → List ℕ → List ℕ
overwritten file at bytes = take at file ++ (replicate (at - length file) 0 ++ (bytes ++ drop (at + length bytes) file))

-- a write that took effect; the gap before it counts as written
abbrev pub after_write : ℕ → List ℕ → DiskState → DiskState
after_write at bytes s = record {
  contents = overwritten s.contents at bytes;
  synced = s.synced;
  since = Written (min at (length s.contents)) (at + length bytes) ∷ s.since;
}

-- a cut that took effect
abbrev pub after_cut : ℕ → DiskState → DiskState
after_cut to s = record { contents = take to s.contents; synced = s.synced; since = CutTo to ∷ s.since }

-- a sync that took effect
abbrev pub after_sync : DiskState → DiskState
after_sync s = settled s.contents

-- The two states have the same images. After a failed call it is open what a read gives; it is one of these images.
pub record SameImages (s t : DiskState) : Type 0 where
  pub synced : t.synced ≡ s.synced
  pub since : t.since ≡ s.since

-- how many calls have failed after a call with this result, of which `before` failed before it
abbrev pub counted : {T E : Type 0} → Result T E → ℕ → ℕ
counted result before = if is_ok result then before else before + 1

-- the buffer was filled with what a read gives from the offset on
abbrev pub Fills : DiskState → (at : ℕ) → (old new : List ℕ) → Type 0
Fills s at old new = new ≡ take (length old) (drop at s.contents)

-- these bytes in place of those at this offset, within the file
abbrev pub replaced : List ℕ → ℕ → List ℕ → List ℕ
replaced file at bytes = take at file ++ (bytes ++ drop (at + length bytes) file)

-- all that it holds is durable
abbrev pub IsDurable : DiskState → Type 0
IsDurable s = s ≡ settled s.contents
