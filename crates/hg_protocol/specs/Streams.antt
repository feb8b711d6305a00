-- What the bytes of a stream give: messages, and at most one fault behind them.
use Rattle.std.specs.Prelude.{◌≡◌, ℕ, ◌≤◌, List, [], ◌++◌, length, drop, Bool, true, false, Option, Some, None}
use Rattle.std.specs.List.{flat_map, AllByRecursion}
use Rattle.hg_protocol.specs.declared.message.Message as message
use Rattle.hg_protocol.specs.declared.message.FrameFault.{FrameFault}
use Rattle.hg_protocol.specs.Framing.{HasFault, IsUnfinished, frame_text}

-- How far a stream has come: the bytes of a frame that is not whole yet, and whether a fault was seen.
pub record FramesRead : Type 0 where
  pub left : List ℕ
  pub has_failed : Bool

abbrev pub at_start : FramesRead
at_start = record { left = []; has_failed = false }

-- how far the stream has come, by the fault and the rest behind some frames
abbrev pub IsBehind : Option FrameFault → List ℕ → FramesRead → Type 0
IsBehind None rest new = new ≡ record { left = rest; has_failed = false }
IsBehind (Some fault) rest new = new.has_failed ≡ true

module _ {M : Type 0} (g : message.Ghosts M) where
  -- what stands behind the last whole frame: less than a frame, or a fault
  abbrev pub EndsBy : Option FrameFault → List ℕ → Type 0
  EndsBy None rest = IsUnfinished g.MOST_BYTES rest
  EndsBy (Some fault) rest = HasFault g fault rest

  -- The bytes are the frames of these messages, and behind them the rest, which is less than a frame or begins with a fault.
  pub record IsRead (bytes : List ℕ) (messages : List M) (fault : Option FrameFault) (rest : List ℕ) : Type 0 where
    pub spelled : bytes ≡ flat_map (frame_text g) messages ++ rest
    pub fits : AllByRecursion g.fits messages
    pub ends : EndsBy fault rest

  -- The first `used` bytes are the frames of the messages added to the old ones, and the fault, if there is one, follows them.
  abbrev pub ReadsFrames : List ℕ → (old new : List M) → ℕ → Option FrameFault → Type 0
  ReadsFrames bytes old new used fault = (used ≤ length bytes) × ((more : List M) × (new ≡ old ++ more) × IsRead bytes more fault (drop used bytes))

  -- A piece of a stream gives these messages and this fault.
  pub record Gives (old new : FramesRead) (piece : List ℕ) (messages : List M) (fault : Option FrameFault) : Type 0 where
    pub works : old.has_failed ≡ false
    pub rest : List ℕ
    pub read : IsRead (old.left ++ piece) messages fault rest
    pub behind : IsBehind fault rest new
