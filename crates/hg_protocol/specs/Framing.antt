-- Frames: the length of a body in two bytes, high byte first, and the body.
use Rattle.std.specs.Prelude.{◌≡◌, ℕ, ◌+◌, ◌<◌, ◌≤◌, ◌⊎◌, List, ◌++◌, length, take, drop}
use Rattle.std.specs.Int.{w16, to_be_bytes, from_be_bytes}
use Rattle.hg_protocol.specs.declared.message.Message as message
use Rattle.hg_protocol.specs.declared.message.FrameFault.{FrameFault}
use Rattle.hg_protocol.specs.declared.message.FrameFault.TheVariants.{Length, Body}
use Rattle.hg_protocol.specs.declared.front.Front.{Front}
use Rattle.hg_protocol.specs.declared.front.Front.TheVariants.{Whole, Unfinished, Faulty}

-- a body behind its length
abbrev pub framed : List ℕ → List ℕ
framed body = to_be_bytes w16 (length body) ++ body

-- the body length that stands at the front of the bytes
abbrev pub length_in_front : List ℕ → ℕ
length_in_front bytes = from_be_bytes w16 (take 2 bytes)

-- the body in front, if its length and all its bytes are there
abbrev pub body_in_front : List ℕ → List ℕ
body_in_front bytes = take (length_in_front bytes) (drop 2 bytes)

-- The length is there, and it is 0 or above `most`.
pub record HasBadLength (most : ℕ) (bytes : List ℕ) : Type 0 where
  pub there : 2 ≤ length bytes
  pub bad : (length_in_front bytes ≡ 0) ⊎ (most < length_in_front bytes)

-- The length is there, and it is from 1 to `most`.
pub record HasLength (most : ℕ) (bytes : List ℕ) : Type 0 where
  pub there : 2 ≤ length bytes
  pub some : 1 ≤ length_in_front bytes
  pub within : length_in_front bytes ≤ most

-- The length is not there; or it is lawful, and the body is not all there.
abbrev pub IsUnfinished : ℕ → List ℕ → Type 0
IsUnfinished most bytes = (length bytes < 2) ⊎ (HasLength most bytes × (length bytes < 2 + length_in_front bytes))

module _ {M : Type 0} (g : message.Ghosts M) where
  -- the frame of a message
  abbrev pub frame_text : M → List ℕ
  frame_text m = framed (g.body m)

  -- the bytes are the body of some message
  abbrev pub IsBody : List ℕ → Type 0
  IsBody bytes = (m : M) × g.fits m × (bytes ≡ g.body m)

  -- A whole body is there, and it spells no message.
  pub record HasBadBody (bytes : List ℕ) : Type 0 where
    pub has : HasLength g.MOST_BYTES bytes
    pub whole : 2 + length_in_front bytes ≤ length bytes
    pub none : IsBody (body_in_front bytes) → ⊥

  -- No frame stands at the front of the bytes, for this reason.
  abbrev pub HasFault : FrameFault → List ℕ → Type 0
  HasFault Length bytes = HasBadLength g.MOST_BYTES bytes
  HasFault Body bytes = HasBadBody bytes

  -- A frame of `used` bytes stands at the front of the bytes.
  pub record HasFrame (bytes : List ℕ) (m : M) (used : ℕ) : Type 0 where
    pub fits : g.fits m
    pub within : used ≤ length bytes
    pub some : 3 ≤ used
    pub is : bytes ≡ frame_text m ++ drop used bytes

  -- what stands at the front of the bytes
  abbrev pub IsFront : List ℕ → Front M → Type 0
  IsFront bytes (Whole m used) = HasFrame bytes m used
  IsFront bytes Unfinished = IsUnfinished g.MOST_BYTES bytes
  IsFront bytes (Faulty fault) = HasFault fault bytes
