-- The bodies of a client's frames.
use Rattle.std.specs.Prelude.{◌≡◌, ℕ, ◌<◌, ◌^◌, List, [], ◌∷◌, ◌++◌}
use Rattle.std.specs.Int.{w16, w64, to_be_bytes}
use Rattle.hg_model.specs.declared.event.Event.{Event}
use Rattle.hg_records.specs.Records.{EventFits, event_text}
use Rattle.hg_protocol.specs.declared.frame.Frame.{Frame}
use Rattle.hg_protocol.specs.declared.frame.Frame.TheVariants.{Hello, Event as Offer, Ask, Reports, Bye}

-- a record without its source
abbrev pub numbered_text : ℕ → Event → List ℕ
numbered_text number event = to_be_bytes w64 number ++ event_text event

-- The body of a frame: its kind, and its fields.
abbrev pub body_text : Frame → List ℕ
body_text (Hello source) = 1 ∷ to_be_bytes w16 source
body_text (Offer number event) = 2 ∷ numbered_text number event
body_text Ask = 3 ∷ []
body_text Reports = 4 ∷ []
body_text Bye = 5 ∷ []

-- each field is within its width
abbrev pub FrameFits : Frame → Type 0
FrameFits (Hello source) = source < 2 ^ 16
FrameFits (Offer number event) = (number < 2 ^ 64) × EventFits event
FrameFits Ask = Unit {0}
FrameFits Reports = Unit {0}
FrameFits Bye = Unit {0}

-- the bytes are this number and this event
abbrev pub IsNumbered : List ℕ → ℕ → Event → Type 0
IsNumbered bytes number event = (number < 2 ^ 64) × (EventFits event × (bytes ≡ numbered_text number event))

-- The bytes are the body of this frame.
abbrev pub BodyIs : List ℕ → Frame → Type 0
BodyIs bytes frame = FrameFits frame × (bytes ≡ body_text frame)
