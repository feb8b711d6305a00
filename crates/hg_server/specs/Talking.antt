-- What a client and a worker say to each other.
use Rattle.std.specs.Prelude.{◌≡◌, ◌⊎◌, ◌++◌, ℕ, List, [], ◌∷◌, Option, Some, Result}
use Rattle.std.specs.List.{flat_map}
use Rattle.hg_disk.specs.declared.disk.Disk as disk
use Rattle.hg_model.specs.declared.verdict.Refusal.{Refusal}
use Rattle.hg_protocol.specs.declared.frame.Frame.{Frame}
use Rattle.hg_protocol.specs.declared.frame.Frame.TheVariants.{Hello}
use Rattle.hg_protocol.specs.declared.message.FrameFault.{FrameFault}
use Rattle.hg_protocol.specs.declared.message.Message as message
use Rattle.hg_protocol.specs.declared.reply.Reply.{Reply}
use Rattle.hg_protocol.specs.declared.reply.Reply.TheVariants.{Ack, Fault, Welcome}
use Rattle.hg_protocol.specs.declared.frame.TheConstants.{MOST_FRAME_BYTES}
use Rattle.hg_protocol.specs.Frames.{FrameFits, body_text}
use Rattle.hg_protocol.specs.Framing.{frame_text}
use Rattle.hg_protocol.specs.Streams.{EndsBy}
use Rattle.hg_receipts.specs.Receipts.{Has}
use Rattle.hg_streams.specs.Calls.{given}
use Rattle.hg_streams.specs.declared.call.ReadCall.{ReadCall}
use Rattle.hg_streams.specs.declared.call.WriteCall.{WriteCall}
use Rattle.hg_streams.specs.Holding.{IsDue}
use Rattle.hg_streams.specs.Written.{TookFront}
use Rattle.hg_desk.specs.Conversation.{WasAnswered}
use Rattle.hg_desk.specs.Going.{Began}
use Rattle.hg_desk.specs.Told.{Told, ack}
use Rattle.hg_desk.specs.declared.desk.Stage.{Stage}
use Rattle.hg_desk.specs.declared.desk.Stage.TheVariants.{Greeting}
use Rattle.hg_server.specs.Replying.{replies_text}
use Rattle.hg_server.specs.declared.worker.Course.{Course}
use Rattle.hg_server.specs.declared.worker.Course.TheVariants as course
use Rattle.hg_server.specs.declared.wire.Transcript.{Transcript}
use Rattle.hg_server.specs.declared.worker.Talk.{Talk}

-- the grammar of a client's frames
abbrev pub grammar : message.Ghosts Frame
grammar = record { MOST_BYTES = MOST_FRAME_BYTES; body = body_text; fits = FrameFits }

-- the bytes of frames, one after another
abbrev pub frames_text : List Frame → List ℕ
frames_text all = flat_map (frame_text grammar) all

-- Frames of a client that were answered under one hold of the lock, and their replies.
pub record Turn : Type 0 where
  pub frames : List Frame
  pub replies : List Reply

-- the frames of turns, which have the newest first
abbrev pub frames_of : List Turn → List Frame
frames_of [] = []
frames_of (turn ∷ earlier) = frames_of earlier ++ turn.frames

-- the bytes sent for their replies
abbrev pub sent_for : List Turn → List ℕ
sent_for [] = []
sent_for (turn ∷ earlier) = sent_for earlier ++ replies_text turn.replies

-- At one place of these frames and replies, this frame was given this reply.
abbrev pub IsGiven : List Frame → List Reply → Frame → Reply → Type 0
IsGiven (one ∷ frames) (its ∷ replies) frame reply = ((one ≡ frame) × (its ≡ reply)) ⊎ IsGiven frames replies frame reply
IsGiven [] replies frame reply = ⊥
IsGiven (one ∷ frames) [] frame reply = ⊥

-- In one of these turns, this frame was given this reply.
abbrev pub WasGiven : List Turn → Frame → Reply → Type 0
WasGiven [] frame reply = ⊥
WasGiven (turn ∷ earlier) frame reply = WasGiven earlier frame reply ⊎ IsGiven turn.frames turn.replies frame reply

-- A client was welcomed with this source, and was told by an Ack that the events of it up to this number are durable.
pub record Acknowledges (turns : List Turn) (source number : ℕ) : Type 0 where
  pub last : ℕ
  pub welcomed : WasGiven turns (Hello source) (Welcome last)
  pub frame : Frame
  pub acked : WasGiven turns frame (Ack number)

-- A share was told of each acknowledgement of these turns.
abbrev pub AcksAreTold : List Turn → Told → Type 0
AcksAreTold turns told = (source number : ℕ) → Acknowledges turns source number → Has told.acks (ack source number)

module _ {D : Type 0} (g : disk.Ghosts D) (opening : Option Began) where
  -- Behind the last turn there is nothing, or Fault 1 where no frame follows in what was read.
  abbrev pub IsLast : List Reply → List ℕ → Type 0
  IsLast last more = (last ≡ []) ⊎ ((last ≡ Fault 1 ∷ []) × (fault : FrameFault) × EndsBy grammar (Some fault) more)

  -- A share was told `first` when the conversation began.
  module _ (first : Told) where
    -- Turns, the newest first, and what the share was told behind the last one. Each was answered over the store, from the stage to which the
    -- ones before it led, and the share was told of nothing else meanwhile.
    abbrev pub AreTurns : List Turn → Stage → Told → Type 0
    AreTurns [] stage told = (stage ≡ Greeting) × (told ≡ first)
    AreTurns (turn ∷ earlier) stage told =
        (from : Stage) × (before : Told) × AreTurns earlier from before × (events : Result ℕ Refusal)
        × WasAnswered g opening from before told turn.frames stage turn.replies events

    -- A conversation so far. What was read are the frames of its turns, those that wait, and the tail. What was written, what is held and
    -- the rest, which is not held yet, are the replies to its turns.
    pub record IsTalk (stage : Stage) (told : Told) (reads : List ReadCall) (writes : List WriteCall) (held rest : List ℕ) (waiting : List Frame) (tail : List ℕ) : Type 0 where
      pub turns : List Turn
      pub answered : AreTurns turns stage told
      pub heard : given reads ≡ frames_text (frames_of turns) ++ (frames_text waiting ++ tail)
      pub due : IsDue [] writes held rest (sent_for turns)

    -- A conversation that has ended. What was read begins with the frames of its turns, and what was written is a front of the replies to them.
    pub record WasTalk (told : Told) (reads : List ReadCall) (writes : List WriteCall) : Type 0 where
      pub turns : List Turn
      pub stage : Stage
      pub answered : AreTurns turns stage told
      pub more : List ℕ
      pub heard : given reads ≡ frames_text (frames_of turns) ++ more
      pub last : List Reply
      pub is_last : IsLast last more
      pub said : TookFront [] writes (sent_for turns ++ replies_text last)

  -- Conversations, the newest first, held one after another with one share, from what it was told before them to what it was told behind the
  -- last. It was told of nothing else meanwhile.
  abbrev pub WereHeld : Told → List Transcript → Told → Type 0
  WereHeld first [] told = told ≡ first
  WereHeld first (newest ∷ earlier) told = (before : Told) × WereHeld first earlier before × WasTalk before told newest.reads newest.writes

  -- A conversation was held, and this share was told of each of its acknowledgements.
  pub record IsAcked (share : Told) (held : Transcript) : Type 0 where
    pub before : Told
    pub after : Told
    pub talk : WasTalk before after held.reads held.writes
    pub acked : AcksAreTold talk.turns share

  module _ {S : Type 0} where
    module _ (first : Told) where
      -- All replies to the turns so far were written or are held.
      abbrev pub IsAt : Talk S → Told → List Frame → List ℕ → Type 0
      IsAt talk told waiting tail = IsTalk first talk.desk told talk.wire.reads talk.wire.writes talk.replies.items [] waiting tail

      -- Some replies to the last turn may be lacking.
      abbrev pub IsCut : Talk S → Told → Type 0
      IsCut talk told =
          (stage : Stage) × (rest : List ℕ) × (waiting : List Frame) × (tail : List ℕ)
          × IsTalk first stage told talk.wire.reads talk.wire.writes talk.replies.items rest waiting tail

      -- what holds of a conversation on this course, where no frame waits
      abbrev pub Follows : Course → Talk S → Told → List ℕ → Type 0
      Follows course.ReadOn talk told tail = IsAt talk told [] tail
      Follows course.End talk told tail = IsCut talk told
      Follows course.Torn talk told tail = WasTalk first told talk.wire.reads talk.wire.writes
      Follows course.Stop talk told tail = IsCut talk told

      -- what holds of a conversation on this course, when a piece was taken: where it goes on, all replies to what was read were written
      abbrev pub Ends : Course → Talk S → Told → Type 0
      Ends course.ReadOn talk told = IsAt talk told [] talk.feed.left × (talk.replies.items ≡ [])
      Ends course.End talk told = WasTalk first told talk.wire.reads talk.wire.writes
      Ends course.Torn talk told = WasTalk first told talk.wire.reads talk.wire.writes
      Ends course.Stop talk told = WasTalk first told talk.wire.reads talk.wire.writes

    -- These frames were answered, so they wait no more.
    abbrev pub Answered : (old new : Talk S) → (told told_after : Told) → List Frame → Type 0
    Answered old new told told_after frames =
        (first : Told) (waiting : List Frame) (tail : List ℕ) → IsAt first old told (frames ++ waiting) tail → IsAt first new told_after waiting tail

    -- All replies to these frames are held, or some are lacking.
    abbrev pub IsCutBehind : (old new : Talk S) → (told told_after : Told) → List Frame → Type 0
    IsCutBehind old new told told_after frames =
        (first : Told) (waiting : List Frame) (tail : List ℕ) → IsAt first old told (frames ++ waiting) tail → IsCut first new told_after

    -- All frames that wait are answered, as far as this course leads.
    abbrev pub Carries : (old new : Talk S) → (told told_after : Told) → List Frame → Course → Type 0
    Carries old new told told_after frames going = (first : Told) (tail : List ℕ) → IsAt first old told frames tail → Follows first going new told_after tail

    -- A piece that was read is taken.
    abbrev pub Takes : (old new : Talk S) → (told told_after : Told) → List ℕ → Course → Type 0
    Takes old new told told_after piece going = (first : Told) → IsAt first old told [] (old.feed.left ++ piece) → Ends first going new told_after

module _ {S : Type 0} where
  -- What was read stays, and how far the conversation is.
  abbrev pub StaysRead : (old new : Talk S) → Type 0
  StaysRead old new = (new.wire.reads ≡ old.wire.reads) × (new.desk ≡ old.desk) × (new.feed ≡ old.feed)

  -- What is due stays due.
  abbrev pub StaysDue : (old new : Talk S) → Type 0
  StaysDue old new = (goal : List ℕ) → IsDue [] old.wire.writes old.replies.items [] goal → IsDue [] new.wire.writes new.replies.items [] goal

  -- A front of what was due was written.
  abbrev pub LeavesFront : (old new : Talk S) → Type 0
  LeavesFront old new = (goal : List ℕ) → IsDue [] old.wire.writes old.replies.items [] goal → TookFront [] new.wire.writes goal

  -- A front of what was due and of Fault 1 behind it was written.
  abbrev pub TellsFault : (old new : Talk S) → Type 0
  TellsFault old new = (goal : List ℕ) → IsDue [] old.wire.writes old.replies.items [] goal → TookFront [] new.wire.writes (goal ++ replies_text (Fault 1 ∷ []))

  -- A conversation that has not begun.
  pub record IsNew (talk : Talk S) : Type 0 where
    pub desk : talk.desk ≡ Greeting
    pub reads : talk.wire.reads ≡ []
    pub writes : talk.wire.writes ≡ []
    pub held : talk.replies.items ≡ []
    pub left : talk.feed.left ≡ []
