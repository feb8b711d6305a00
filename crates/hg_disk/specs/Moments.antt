-- What a crash may leave from one moment of a disk to another.
use Rattle.std.specs.Prelude.{IsTrue, ◌-◌, length, get_or, ◌≡◌, ◌≤◌, ◌⊎◌, ℕ, List, [], ◌∷◌, ◌++◌}
use Rattle.hg_disk.specs.State.{DiskState, IsImage, after_write}
use Rattle.hg_disk.specs.declared.disk.Disk as disk

-- each image of the state has P
abbrev pub Leaves : (List ℕ → Type 0) → DiskState → Type 0
Leaves P s = (image : List ℕ) → IsImage s image → P image

-- each image of the state has at least n bytes
abbrev pub LeavesLong : (n : ℕ) → DiskState → Type 0
LeavesLong n s = Leaves (λ image. n ≤ length image) s

-- each image of each of these states has P
abbrev pub EachLeaves : (List ℕ → Type 0) → List DiskState → Type 0
EachLeaves P [] = Unit {0}
EachLeaves P (s ∷ earlier) = Leaves P s × EachLeaves P earlier

-- one of these states leaves the bytes
abbrev pub IsAmong : List DiskState → List ℕ → Type 0
IsAmong [] bytes = ⊥
IsAmong (s ∷ earlier) bytes = IsImage s bytes ⊎ IsAmong earlier bytes

-- the state at moment k of a disk with this state now and these before, the newest first
abbrev pub at_moment : ℕ → DiskState → List DiskState → DiskState
at_moment k now past = get_or (now ∷ past) (length past - k) now

module _ {D : Type 0} (g : disk.Ghosts D) where
  -- the states of the disk at all its moments up to this one, the newest first
  abbrev pub history : D → List DiskState
  history d = g.state d ∷ g.past d

  -- Since it was `old`, the disk went through the states `later`, the newest first.
  abbrev pub HasGone : D → D → List DiskState → Type 0
  HasGone old new later = history new ≡ later ++ history old

  -- If the reads up to `new` were true, so were those up to `old`.
  abbrev pub WereTrueBefore : (old new : D) → Type 0
  WereTrueBefore old new = IsTrue (g.reads_were_true new) → IsTrue (g.reads_were_true old)

  -- A crash at any moment from `old` to `new`, both included, leaves bytes that have P.
  pub record LeavesOnly (old new : D) (P : List ℕ → Type 0) : Type 0 where
    pub later : List DiskState
    pub has_gone : HasGone old new later
    pub first : Leaves P (g.state old)
    pub each : EachLeaves P later
    pub kept : WereTrueBefore old new

  -- A crash at any moment from `old` to `new` leaves what it might have left at the first one.
  abbrev pub AddsNoImage : (old new : D) → Type 0
  AddsNoImage old new = LeavesOnly old new (IsImage (g.state old))

  -- A crash at any moment from `old` to `new` leaves what a torn write of these bytes may leave.
  abbrev pub LeavesTorn : (at : ℕ) → (bytes : List ℕ) → (old new : D) → Type 0
  LeavesTorn at bytes old new = LeavesOnly old new (IsImage (after_write at bytes (g.state old)))

  -- If each image at `old` has at least n bytes, so has each image at any moment from `old` to `new`.
  abbrev pub IsNeverShorter : (n : ℕ) → (old new : D) → Type 0
  IsNeverShorter n old new = LeavesLong n (g.state old) → LeavesOnly old new (λ image. n ≤ length image)

  -- `new` is the disk `old` after some calls, or after none.
  abbrev pub GoesOn : D → D → Type 0
  GoesOn old new = (later : List DiskState) × HasGone old new later × WereTrueBefore old new

  -- At some moment from `old` to `new`, both included, a crash may leave these bytes.
  pub record MayLeave (old new : D) (bytes : List ℕ) : Type 0 where
    pub later : List DiskState
    pub has_gone : HasGone old new later
    pub among : IsImage (g.state old) bytes ⊎ IsAmong later bytes
