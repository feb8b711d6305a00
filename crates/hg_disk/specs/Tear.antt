-- The images that a `MemDisk` computes.
use Rattle.std.specs.Prelude.{◌≡◌, ◌⊎◌, ◌<◌, ◌≤◌, ◌+◌, ◌-◌, ◌==◌, ℕ, true, false, if◌then◌else◌, List, [], ◌∷◌, length, take, drop, get_or}
use Rattle.hg_disk.specs.State.{DiskState, least, is_written, overwritten}
use Rattle.hg_disk.specs.Blots.{limit_of}
use Rattle.hg_disk.specs.Event.{Event, event}
use Rattle.hg_disk.specs.History.{replay}
use Rattle.hg_disk.specs.declared.call.Call.{Call}
use Rattle.hg_disk.specs.declared.call.Call.TheVariants.{Read, Write, Cut, Sync}
use Rattle.hg_disk.specs.declared.call.Answer.{Answer}
use Rattle.hg_disk.specs.declared.call.Answer.TheVariants.{Done, Failed, Refused}
use Rattle.hg_disk.specs.declared.call.Answered.{Answered}
use Rattle.hg_disk.specs.declared.tear.Tear.{Tear}
use Rattle.hg_disk.specs.declared.tear.Tear.TheVariants.{Lost, Kept, Front, Fill}

-- the first k calls; the list has the newest call first
abbrev pub first : ℕ → List Event → List Event
first k events = drop (length events - k) events

-- It is the call number i, counted from 0, with its bytes.
abbrev pub IsCallAt : (i : ℕ) → List Event → Answered → List ℕ → Type 0
IsCallAt i events told bytes = first (i + 1) events ≡ record { told = told; bytes = bytes } ∷ first i events

-- how many bytes `Front` may still write after a call: n after a sync; `before` were left before the call
abbrev pub left_by : Call → Answer → List ℕ → ℕ → ℕ → ℕ
left_by (Write at len) Done bytes n before = before - length bytes
left_by (Write at len) Failed bytes n before = before
left_by (Write at len) Refused bytes n before = before
left_by Sync Done bytes n before = n
left_by Sync Failed bytes n before = before
left_by Sync Refused bytes n before = before
left_by (Read at) answer bytes n before = before
left_by (Cut to) answer bytes n before = before

-- how many of n bytes are left after the writes since the last successful sync
abbrev pub left_of : ℕ → List Event → ℕ
left_of n [] = n
left_of n (e ∷ earlier) = left_by e.told.call e.told.answer e.bytes n (left_of n earlier)

-- The file of `Front` after a call: a write puts at most `left` bytes. A sync takes what a read gave.
abbrev pub front_by : Call → Answer → List ℕ → ℕ → List ℕ → List ℕ → List ℕ
front_by (Write at len) Done bytes left read file = if left == 0 then file else overwritten file at (take left bytes)
front_by (Write at len) Failed bytes left read file = file
front_by (Write at len) Refused bytes left read file = file
front_by (Cut to) Done bytes left read file = if left == 0 then file else take to file
front_by (Cut to) Failed bytes left read file = file
front_by (Cut to) Refused bytes left read file = file
front_by Sync Done bytes left read file = read
front_by Sync Failed bytes left read file = file
front_by Sync Refused bytes left read file = file
front_by (Read at) answer bytes left read file = file

-- the file at the last sync, then the calls since that took effect, up to n written bytes
abbrev pub front : ℕ → List ℕ → List Event → List ℕ
front n start [] = start
front n start (e ∷ earlier) = front_by e.told.call e.told.answer e.bytes (left_of n earlier) (replay start earlier).contents (front n start earlier)

-- what a read gives, but that each uncertain byte is b
pub record IsFilled (b : ℕ) (s : DiskState) (image : List ℕ) : Type 0 where
  pub size : length image ≡ length s.contents
  pub certain : (i : ℕ) → i < length image → i < least s.since (length s.synced) → is_written s.since i ≡ false → get_or image i 0 ≡ get_or s.contents i 0
  pub uncertain : (i : ℕ) → i < length image → (least s.since (length s.synced) ≤ i) ⊎ (is_written s.since i ≡ true) → get_or image i 0 ≡ b

-- the image after the calls, of a disk that was made with the bytes `start`
abbrev pub IsTorn : Tear → List ℕ → List Event → List ℕ → Type 0
IsTorn Lost start events image = image ≡ (replay start events).synced
IsTorn Kept start events image = image ≡ (replay start events).contents
IsTorn (Front n) start events image = image ≡ front n start events
IsTorn (Fill b) start events image = IsFilled b (replay start events) image

-- The image after some calls becomes the image after one more call: a write, with `left` bytes left,
abbrev pub FollowsWrite : Tear → (left at : ℕ) → (bytes old new : List ℕ) → Type 0
FollowsWrite tear left at bytes old new =
    (start : List ℕ) (earlier : List Event) (len : ℕ) → left ≡ left_of (limit_of tear) earlier → IsTorn tear start earlier old
    → IsTorn tear start (event (Write at len) Done bytes ∷ earlier) new

-- a cut, with `left` bytes left,
abbrev pub FollowsCut : Tear → (left to : ℕ) → (old new : List ℕ) → Type 0
FollowsCut tear left to old new =
    (start : List ℕ) (earlier : List Event) → left ≡ left_of (limit_of tear) earlier → IsTorn tear start earlier old
    → IsTorn tear start (event (Cut to) Done [] ∷ earlier) new

-- a sync of what a read gives,
abbrev pub FollowsSync : Tear → (contents new : List ℕ) → Type 0
FollowsSync tear contents new =
    (start : List ℕ) (earlier : List Event) → contents ≡ (replay start earlier).contents → IsTorn tear start (event Sync Done [] ∷ earlier) new

-- or a call that failed.
abbrev pub FollowsFailed : Tear → Call → (old new : List ℕ) → Type 0
FollowsFailed tear call old new =
    (start : List ℕ) (earlier : List Event) → IsTorn tear start earlier old → IsTorn tear start (event call Failed [] ∷ earlier) new
