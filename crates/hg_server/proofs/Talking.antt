-- A conversation as it goes on.
use Rattle.std.proofs.Common.{◌≡◌, ◌++◌, ◌∙◌, ℕ, List, [], ◌∷◌, Bool, true, false, All, Option, Some, None, is_some, Result, Ok, Err, OnOk, OnErr, IsTrue, ap, append_assoc, inl, inr, refl, subst, sym}
use Rattle.std.specs.Bool.{⊤}
use Rattle.std.proofs.lemmas.Bool.{false≢true}
use Rattle.std.proofs.lemmas.Grind.{flat_map-append}
use Rattle.std.proofs.lemmas.List.{append-nil}
use Rattle.std.proofs.lemmas.List.Elements.{All-cons, All-nil, All-weaker}
use Rattle.hg_disk.specs.declared.disk.Disk as disk
use Rattle.hg_model.specs.declared.verdict.Refusal.{Refusal}
use Rattle.hg_protocol.specs.declared.frame.Frame.{Frame}
use Rattle.hg_protocol.specs.declared.message.FrameFault.{FrameFault}
use Rattle.hg_protocol.specs.declared.reply.Reply.{Reply}
use Rattle.hg_protocol.specs.declared.reply.Reply.TheVariants.{Fault}
use Rattle.hg_protocol.specs.Streams.{EndsBy, FramesRead, IsBehind}
use Rattle.hg_protocol.specs.Framing.{frame_text}
use Rattle.hg_receipts.specs.Receipts.{AreAmong, Has}
use Rattle.hg_streams.specs.Calls.{given}
use Rattle.hg_streams.specs.declared.call.ReadCall.{ReadCall}
use Rattle.hg_streams.specs.declared.call.WriteCall.{WriteCall}
use Rattle.hg_streams.specs.declared.call.WriteCall.TheVariants as call
use Rattle.hg_streams.specs.Holding.{IsDue}
use Rattle.hg_streams.specs.Written.{TookFront}
use Rattle.hg_streams.proofs.Printed.{due_first, due_line, due_more, due_written, front_by_torn, front_due, took_by}
use Rattle.hg_desk.specs.Conversation.{WasAnswered}
use Rattle.hg_desk.specs.Going.{Began}
use Rattle.hg_desk.specs.Told.{Told, ack}
use Rattle.hg_desk.specs.declared.desk.Stage.{Stage}
use Rattle.hg_desk.specs.declared.desk.Stage.TheVariants.{Greeting}
use Rattle.hg_server.specs.Replying.{replies_text}
use Rattle.hg_server.specs.Talking.{Ends, IsAcked, IsTalk, WasTalk, WereHeld, frames_of, frames_text, grammar, sent_for}
use Rattle.hg_server.specs.declared.wire.Transcript.{Transcript}
use Rattle.hg_server.specs.declared.worker.Course.{Course}
use Rattle.hg_server.specs.declared.worker.Course.TheVariants as course
use Rattle.hg_server.specs.declared.worker.Talk.{Talk}
use Rattle.hg_server.proofs.Acknowledging.{acks_are_told, turns_among}

-- of what was to be held, this much is
pub due_moved : (first writes : List WriteCall) (held new rest text goal : List ℕ) → new ++ rest ≡ held ++ text → IsDue first writes held text goal → IsDue first writes new rest goal
due_moved first writes held new rest text goal is p = record { written = p.written; appended = p.appended; whole = ap (λ (t : List ℕ). p.written ++ t) is ∙ p.whole }

-- what is held was written, or a write of it failed
pub front_written : (is_written : Bool) (first writes after : List WriteCall) (held rest goal : List ℕ) → (IsTrue is_written → after ≡ call.Took held ∷ writes) → (is_written ≡ false → after ≡ call.Torn held ∷ writes)
    → IsDue first writes held rest goal → TookFront first after goal
front_written true first writes after held rest goal took torn p = front_due first after [] rest goal (due_written first writes after held rest goal p (took_by writes after held held (took refl) refl))
front_written false first writes after held rest goal took torn p = front_by_torn first writes after held held rest goal (torn refl) refl p

-- what is held was written, with a text behind it where there was memory for it, or a write of it failed
pub front_behind : {E : Type 0} (put : Result ⊤ E) (is_written : Bool) (writes after : List WriteCall) (held new text goal : List ℕ) → OnOk put (new ≡ held ++ text) → OnErr put (new ≡ held)
    → (IsTrue is_written → after ≡ call.Took new ∷ writes) → (is_written ≡ false → after ≡ call.Torn new ∷ writes) → IsDue [] writes held [] goal → TookFront [] after (goal ++ text)
front_behind (Ok done) is_written writes after held new text goal ok err took torn d = front_written is_written [] writes after new [] (goal ++ text) took torn (due_line [] writes held new text goal ok d)
front_behind (Err e) is_written writes after held new text goal ok err took torn d =
    front_written is_written [] writes after new text (goal ++ text) took torn (subst (λ (t : List ℕ). IsDue [] writes t text (goal ++ text)) (sym err) (due_more [] writes held goal text d))

-- the fault that was found
pub fault_of : (fault : Option FrameFault) (rest : List ℕ) → is_some fault ≡ true → EndsBy grammar fault rest → (f : FrameFault) × EndsBy grammar (Some f) rest
fault_of (Some fault) rest some ends = (fault, ends)
fault_of None rest some ends = absurd (false≢true some)

-- what is left where there was none
pub left_of : (fault : Option FrameFault) (rest : List ℕ) (new : FramesRead) → is_some fault ≡ false → IsBehind fault rest new → rest ≡ new.left
left_of None rest new none is = sym (ap (λ (f : FramesRead). f.left) is)
left_of (Some fault) rest new none is = absurd (false≢true (sym none))

module _ {D : Type 0} (g : disk.Ghosts D) (opening : Option Began) (first : Told) where
  -- frames that wait are answered
  pub answered_on : (stage to : Stage) (reads : List ReadCall) (writes : List WriteCall) (held : List ℕ) (turn waiting : List Frame) (tail : List ℕ) (replies : List Reply) (events : Result ℕ Refusal) (told told_after : Told)
      → WasAnswered g opening stage told told_after turn to replies events → IsTalk g opening first stage told reads writes held [] (turn ++ waiting) tail
      → IsTalk g opening first to told_after reads writes held (replies_text replies) waiting tail
  answered_on stage to reads writes held turn waiting tail replies events told told_after is p =
      let before = frames_of p.turns in
      record {
        turns = record { frames = turn; replies = replies } ∷ p.turns;
        answered = (stage, told, p.answered, events, is);
        heard = p.heard
            ∙ ap (λ (t : List ℕ). frames_text before ++ (t ++ tail)) (flat_map-append (frame_text grammar) turn waiting)
            ∙ ap (λ (t : List ℕ). frames_text before ++ t) (append_assoc (frames_text turn) (frames_text waiting) tail)
            ∙ sym (append_assoc (frames_text before) (frames_text turn) (frames_text waiting ++ tail))
            ∙ ap (λ (t : List ℕ). t ++ (frames_text waiting ++ tail)) (sym (flat_map-append (frame_text grammar) before turn));
        due = due_more [] writes held (sent_for p.turns) (replies_text replies) p.due;
      }

  -- a piece was read
  pub heard_on : (stage : Stage) (told : Told) (reads after : List ReadCall) (writes : List WriteCall) (held rest tail piece : List ℕ) → given after ≡ given reads ++ piece
      → IsTalk g opening first stage told reads writes held rest [] tail → IsTalk g opening first stage told after writes held rest [] (tail ++ piece)
  heard_on stage told reads after writes held rest tail piece is p = record {
    turns = p.turns;
    answered = p.answered;
    heard = is ∙ ap (λ (t : List ℕ). t ++ piece) p.heard ∙ append_assoc (frames_text (frames_of p.turns)) tail piece;
    due = p.due;
  }

  -- what was read has these frames in it
  pub spelled_on : (stage : Stage) (told : Told) (reads : List ReadCall) (writes : List WriteCall) (held rest bytes tail : List ℕ) (waiting : List Frame) → bytes ≡ frames_text waiting ++ tail
      → IsTalk g opening first stage told reads writes held rest [] bytes → IsTalk g opening first stage told reads writes held rest waiting tail
  spelled_on stage told reads writes held rest bytes tail waiting is p = record {
    turns = p.turns;
    answered = p.answered;
    heard = p.heard ∙ ap (λ (t : List ℕ). frames_text (frames_of p.turns) ++ t) is;
    due = p.due;
  }

  -- more of what is due is held, or it was written
  pub due_on : (stage : Stage) (told : Told) (reads : List ReadCall) (writes after : List WriteCall) (held new rest left : List ℕ) (waiting : List Frame) (tail : List ℕ)
      → ((goal : List ℕ) → IsDue [] writes held rest goal → IsDue [] after new left goal)
      → IsTalk g opening first stage told reads writes held rest waiting tail → IsTalk g opening first stage told reads after new left waiting tail
  due_on stage told reads writes after held new rest left waiting tail more p = record { turns = p.turns; answered = p.answered; heard = p.heard; due = more (sent_for p.turns) p.due }

  -- what is due is held, or a part of it
  pub held_on : (stage : Stage) (told : Told) (reads : List ReadCall) (writes : List WriteCall) (held new rest text : List ℕ) (waiting : List Frame) (tail : List ℕ) → new ++ rest ≡ held ++ text
      → IsTalk g opening first stage told reads writes held text waiting tail → IsTalk g opening first stage told reads writes new rest waiting tail
  held_on stage told reads writes held new rest text waiting tail is p = due_on stage told reads writes writes held new text rest waiting tail (λ goal d. due_moved [] writes held new rest text goal is d) p

  -- it ends
  pub ended : (stage : Stage) (told : Told) (reads : List ReadCall) (writes after : List WriteCall) (held rest : List ℕ) (waiting : List Frame) (tail : List ℕ)
      → ((goal : List ℕ) → IsDue [] writes held rest goal → TookFront [] after goal)
      → IsTalk g opening first stage told reads writes held rest waiting tail → WasTalk g opening first told reads after
  ended stage told reads writes after held rest waiting tail front p = record {
    turns = p.turns;
    stage = stage;
    answered = p.answered;
    more = frames_text waiting ++ tail;
    heard = p.heard;
    last = [];
    is_last = inl refl;
    said = subst (λ (t : List ℕ). TookFront [] after t) (sym (append-nil (sent_for p.turns))) (front (sent_for p.turns) p.due);
  }

  -- it ends behind what is no frame
  pub faulted : (stage : Stage) (told : Told) (reads : List ReadCall) (writes after : List WriteCall) (held tail : List ℕ) (fault : FrameFault) → EndsBy grammar (Some fault) tail
      → ((goal : List ℕ) → IsDue [] writes held [] goal → TookFront [] after (goal ++ replies_text (Fault 1 ∷ [])))
      → IsTalk g opening first stage told reads writes held [] [] tail → WasTalk g opening first told reads after
  faulted stage told reads writes after held tail fault ends front p = record {
    turns = p.turns;
    stage = stage;
    answered = p.answered;
    more = tail;
    heard = p.heard;
    last = Fault 1 ∷ [];
    is_last = inr (refl, fault, ends);
    said = front (sent_for p.turns) p.due;
  }

  -- a conversation that has not begun
  pub begun : (stage : Stage) (reads : List ReadCall) (writes : List WriteCall) (held left : List ℕ) → stage ≡ Greeting → reads ≡ [] → writes ≡ [] → held ≡ [] → left ≡ []
      → IsTalk g opening first stage first reads writes held [] [] left
  begun stage reads writes held left greeting no_reads no_writes none empty =
      rw (greeting, no_reads, no_writes, none, empty) (record { turns = []; answered = (refl, refl); heard = refl; due = due_first [] })

  module _ {S : Type 0} where
    -- On each course it has ended.
    pub over : (going : Course) (talk : Talk S) (told : Told) → Ends g opening first going talk told → WasTalk g opening first told talk.wire.reads talk.wire.writes
    over course.ReadOn talk told is =
        ended talk.desk told talk.wire.reads talk.wire.writes talk.wire.writes talk.replies.items [] [] talk.feed.left (λ goal d. front_due [] talk.wire.writes talk.replies.items [] goal d) is.0
    over course.End talk told is = is
    over course.Torn talk told is = is
    over course.Stop talk told is = is

-- ---- conversations that were held

module _ {D : Type 0} (g : disk.Ghosts D) (opening : Option Began) where
  -- They take no acknowledgement away.
  pub held_among : (first : Told) (held : List Transcript) (told : Told) → WereHeld g opening first held told → AreAmong first.acks told.acks
  held_among first [] told is entry has = subst (λ (t : Told). Has t.acks entry) (sym is) has
  held_among first (newest ∷ earlier) told is entry has =
      let talk = is.2 in turns_among g opening is.0 talk.turns talk.stage told talk.answered entry (held_among first earlier is.0 is.1 entry has)

  still_acked : (told after : Told) → AreAmong told.acks after.acks → (held : Transcript) → IsAcked g opening told held → IsAcked g opening after held
  still_acked told after among held is = record {
    before = is.before;
    after = is.after;
    talk = is.talk;
    acked = λ source number a. among (ack source number) (is.acked source number a);
  }

  -- The share was told of each acknowledgement in them.
  pub all_acked : (first : Told) (held : List Transcript) (told : Told) → WereHeld g opening first held told → All (IsAcked g opening told) held
  all_acked first [] told is = All-nil (IsAcked g opening told)
  all_acked first (newest ∷ earlier) told is =
      let talk = is.2 in
      let among = turns_among g opening is.0 talk.turns talk.stage told talk.answered in
      let acked = acks_are_told g opening is.0 talk.turns talk.stage told talk.answered in
      All-cons (IsAcked g opening told) newest earlier (record { before = is.0; after = told; talk = talk; acked = acked })
      (All-weaker (IsAcked g opening is.0) (IsAcked g opening told) (still_acked is.0 told among) earlier (all_acked first earlier is.0 is.1))
