-- What a frame is answered, and what it does to the store.
use Rattle.std.specs.Prelude.{◌≡◌, ◌⊎◌, ◌+◌, ◌<◌, ◌≤◌, ℕ, nat_lt, Bool, List, [], ◌∷◌, All, length, slice_get, Option, Some, Vec, cond, Result, Ok, Err, IfOk, IsTrue, OnErr}
use Rattle.hg_model.specs.Contents.{Content}
use Rattle.hg_model.specs.Codes.{code_of}
use Rattle.hg_model.specs.declared.event.Named.{Named}
use Rattle.hg_model.specs.declared.limits.TheConstants.{GREATEST_SOURCE}
use Rattle.hg_model.specs.declared.verdict.Refusal.{Refusal}
use Rattle.hg_model.specs.declared.verdict.Refusal.TheVariants.{Gap, BadNumber, Broken, Damaged, OutOfMemory}
use Rattle.hg_detect.specs.declared.detector.Answer.{Answer}
use Rattle.hg_detect.specs.declared.detector.Answer.TheVariants.{Accepted as IsAccepted, Duplicate as IsDuplicate}
use Rattle.hg_disk.specs.declared.disk.Disk as disk
use Rattle.hg_protocol.specs.declared.frame.Frame.{Frame}
use Rattle.hg_protocol.specs.declared.frame.Frame.TheVariants.{Hello, Event as Numbered, Ask, Reports, Bye}
use Rattle.hg_protocol.specs.declared.reply.Reply.{Reply}
use Rattle.hg_protocol.specs.declared.reply.Reply.TheVariants.{Welcome, Accepted, Duplicate, Refused, Ack, Line, Fault, Lines, Nothing}
use Rattle.hg_protocol.specs.declared.lines.ReportLines.{ReportLines}
use Rattle.hg_protocol.specs.Spelling.{FitsFrames}
use Rattle.hg_store.specs.declared.steps.Step.TheVariants.{Offer, Commit}
use Rattle.hg_store.specs.declared.steps.StepResult.TheVariants.{Offered, Committed}
use Rattle.hg_store.specs.declared.store.TheConstants.{MOST_PENDING}
use Rattle.hg_store.specs.declared.devices.Devices.{Devices}
use Rattle.hg_store.specs.Shown.{ShownStore, live}
use Rattle.hg_desk.specs.declared.desk.Stage.{Stage}
use Rattle.hg_desk.specs.declared.turn.TheConstants.{MOST_TURN}
use Rattle.hg_desk.specs.declared.desk.Stage.TheVariants.{Greeting, Talking, Over}
use Rattle.hg_desk.specs.declared.tasks.Turned.{Turned}
use Rattle.hg_desk.specs.Going.{Began, WentOnSince}
use Rattle.hg_desk.specs.Told.{Told, StepKept, ack}

-- the number that a source has to send next, where a refusal is of a gap
abbrev pub expected_of : Refusal → ℕ
expected_of (Gap n) = n
expected_of _ = 0

abbrev pub refused : ℕ → Refusal → Reply
refused number refusal = Refused number (code_of refusal) (expected_of refusal)

abbrev pub offer_reply : ℕ → Result Answer Refusal → Reply
offer_reply number (Ok IsAccepted) = Accepted number
offer_reply number (Ok (IsDuplicate last)) = Duplicate last
offer_reply number (Err refusal) = refused number refusal

abbrev pub commit_reply : ℕ → Result ℕ Refusal → Reply
commit_reply last (Ok count) = Ack last
commit_reply last (Err refusal) = refused 0 refusal

-- the lines of all kept reports, and the end line
abbrev pub lines_of : Content → ReportLines
lines_of c = record { reports = c.reports; events = c.events; races = c.total; segments = length c.segments }

-- Only memory can be wanting. Devices that are not honest may have reports whose threads are no set of threads.
abbrev pub ReportsAnswer : (is_honest is_broken : Bool) → Content → Reply → Type 0
ReportsAnswer is_honest is_broken c reply =
    cond is_broken (reply ≡ refused 0 Broken) ((reply ≡ Lines (lines_of c)) ⊎ ((reply ≡ refused 0 OutOfMemory) ⊎ ((reply ≡ refused 0 Damaged) × ¬ IsTrue is_honest)))

-- The answer to a Hello: a source above the greatest one is refused before the store is asked.
abbrev pub hello_reply : ℕ → Bool → Content → Reply
hello_reply source is_broken c = cond (nat_lt GREATEST_SOURCE source) (refused 0 BadNumber) (cond is_broken (refused 0 Broken) (Welcome (c.last source)))

abbrev pub stage_after_hello : ℕ → Bool → Stage
stage_after_hello source is_broken = cond (nat_lt GREATEST_SOURCE source) Greeting (cond is_broken Greeting (Talking source))

-- Nothing of the store has changed, and the share was told nothing.
abbrev pub Still : {D : Type 0} → (old new : ShownStore D) → (told told_after : Told) → Type 0
Still old new told told_after = (new ≡ old) × (told_after ≡ told)

abbrev pub Leads : Stage → Reply → Stage → Reply → Type 0
Leads stage reply to said = (stage ≡ to) × (reply ≡ said)

-- before the Welcome
abbrev pub Greets : {D : Type 0} → disk.Ghosts D → (old new : ShownStore D) → (told told_after : Told) → Frame → Stage → Reply → Type 0
Greets g old new told told_after (Hello source) stage reply = Still old new told told_after × Leads stage reply (stage_after_hello source old.is_broken) (hello_reply source old.is_broken (live g old))
Greets g old new told told_after (Numbered number event) stage reply = Still old new told told_after × Leads stage reply Over (Fault 2)
Greets g old new told told_after Ask stage reply = Still old new told told_after × Leads stage reply Over (Fault 2)
Greets g old new told told_after Reports stage reply = Still old new told told_after × Leads stage reply Over (Fault 2)
Greets g old new told told_after Bye stage reply = Still old new told told_after × Leads stage reply Over (Fault 2)

-- One offer to the store, and the reply that belongs to its answer.
abbrev pub Offers : {D : Type 0} → disk.Ghosts D → Named → (old new : ShownStore D) → (told told_after : Told) → Reply → Type 0
Offers g named old new told told_after reply =
    (result : Result Answer Refusal) × StepKept g old new told told_after (Offer named) (Offered result) × (reply ≡ offer_reply named.number result)

-- What a share is told by a reply to an Ask of this source: an Ack is an acknowledgement.
abbrev pub with_ack : ℕ → Reply → Told → Told
with_ack source (Ack number) told = record told { acks = ack source number ∷ told.acks }
with_ack source (Welcome last) told = told
with_ack source (Accepted number) told = told
with_ack source (Duplicate last) told = told
with_ack source (Refused number code expected) told = told
with_ack source (Line line) told = told
with_ack source (Fault code) told = told
with_ack source (Lines lines) told = told
with_ack source Nothing told = told

-- One commit, and the reply that belongs to its answer, with the last number of this source. The share is told it where it is an Ack.
abbrev pub Commits : {D : Type 0} → disk.Ghosts D → ℕ → (old new : ShownStore D) → (told told_after : Told) → Reply → Type 0
Commits g source old new told told_after reply =
    (result : Result ℕ Refusal) × (between : Told) × StepKept g old new told between Commit (Committed result)
    × (reply ≡ commit_reply ((live g new).last source) result) × (told_after ≡ with_ack source reply between)

-- between the Welcome and the end: one offer for an Event, one commit for an Ask, and no other step
abbrev pub Talks : {D : Type 0} → disk.Ghosts D → ℕ → (old new : ShownStore D) → (told told_after : Told) → Frame → Stage → Reply → Type 0
Talks g source old new told told_after (Hello other) stage reply = Still old new told told_after × Leads stage reply Over (Fault 3)
Talks g source old new told told_after (Numbered number event) stage reply =
    (result : Result Answer Refusal) × StepKept g old new told told_after (Offer (record { source = source; number = number; event = event })) (Offered result)
    × Leads stage reply (Talking source) (offer_reply number result)
Talks g source old new told told_after Ask stage reply = (stage ≡ Talking source) × Commits g source old new told told_after reply
Talks g source old new told told_after Reports stage reply = Still old new told told_after × (stage ≡ Talking source) × ReportsAnswer g.is_honest old.is_broken (live g old) reply
Talks g source old new told told_after Bye stage reply = Still old new told told_after × Leads stage reply Over Nothing

-- The answer to a frame at a stage of a conversation.
abbrev pub Answers : {D : Type 0} → disk.Ghosts D → Stage → (old new : ShownStore D) → (told told_after : Told) → Frame → Stage → Reply → Type 0
Answers g Greeting old new told told_after frame stage reply = Greets g old new told told_after frame stage reply
Answers g (Talking source) old new told told_after frame stage reply = Talks g source old new told told_after frame stage reply
Answers g Over old new told told_after frame stage reply = Still old new told told_after × Leads stage reply Over (Fault 4)

-- how many accepted events a reply tells the share of: one for Accepted, else none
abbrev pub accepted_by : Reply → ℕ
accepted_by (Accepted number) = 1
accepted_by (Welcome last) = 0
accepted_by (Duplicate last) = 0
accepted_by (Refused number code expected) = 0
accepted_by (Ack number) = 0
accepted_by (Line line) = 0
accepted_by (Fault code) = 0
accepted_by (Lines lines) = 0
accepted_by Nothing = 0

-- how many accepted events replies tell the share of
abbrev pub accepted_by_all : List Reply → ℕ
accepted_by_all [] = 0
accepted_by_all (reply ∷ replies) = accepted_by reply + accepted_by_all replies

-- A share is told of so many Accepted replies. Its counts never fall, and it counts no more than these; over honest devices it counts each.
pub record ToldAccepted (is_honest : Bool) (told new : Told) (count : ℕ) : Type 0 where
  pub accepted : IsTrue is_honest → new.accepted ≡ told.accepted + count
  pub at_most : new.accepted ≤ told.accepted + count
  pub at_least : told.accepted ≤ new.accepted
  pub durable : told.durable ≤ new.durable

-- What the answers to frames tell, whatever the store was: there is a reply for each frame, each fits frames, and the share is told of
-- those that say Accepted.
pub record TurnTold (is_honest : Bool) (frames : List Frame) (told new : Told) (replies : List Reply) : Type 0 where
  pub count : length replies ≡ length frames
  pub fits : All FitsFrames replies
  pub share : ToldAccepted is_honest told new (accepted_by_all replies)

-- Where there was room for the replies, the share is told of them, and else of nothing.
abbrev pub ConverseTold : {E : Type 0} → (is_honest : Bool) → List Frame → (told new : Told) → Result Turned E → Type 0
ConverseTold is_honest frames told new (Ok turned) = TurnTold is_honest frames told new turned.replies.items
ConverseTold is_honest frames told new (Err error) = new ≡ told

-- Frames are answered one after another, each as the conversation and the store stand by then.
abbrev pub Converses : {D : Type 0} → disk.Ghosts D → Stage → (old new : ShownStore D) → (told told_after : Told) → List Frame → Stage → List Reply → Type 0
Converses g stage old new told told_after [] to [] = (to ≡ stage) × Still old new told told_after
Converses {D} g stage old new told told_after (frame ∷ frames) to (reply ∷ replies) =
    (mid : ShownStore D) × (between : Told) × (next : Stage) × Answers g stage old mid told between frame next reply × Converses g next mid new between told_after frames to replies
Converses g stage old new told told_after [] to (reply ∷ replies) = ⊥
Converses g stage old new told told_after (frame ∷ frames) to [] = ⊥

-- One commit was made.
abbrev pub WasCommitted : {D : Type 0} → disk.Ghosts D → (old new : ShownStore D) → (told told_after : Told) → Type 0
WasCommitted g old new told told_after = (result : Result ℕ Refusal) × StepKept g old new told told_after Commit (Committed result)

-- Where so many more events fit behind those that wait for a commit, nothing is done, and else one commit is made.
abbrev pub MakesRoom : {D : Type 0} → disk.Ghosts D → ℕ → (old new : ShownStore D) → (told told_after : Told) → Type 0
MakesRoom g more old new told told_after = cond (nat_lt MOST_PENDING (length old.pending + more)) (WasCommitted g old new told told_after) (Still old new told told_after)

-- Room for as many events as there are frames is made in the store. Then the frames are answered one after another.
abbrev pub AnswersTurn : {D : Type 0} → disk.Ghosts D → Stage → (old new : ShownStore D) → (told told_after : Told) → List Frame → Stage → List Reply → Type 0
AnswersTurn {D} g stage old new told told_after frames to replies =
    (mid : ShownStore D) × (between : Told) × MakesRoom g (length frames) old mid told between × Converses g stage mid new between told_after frames to replies

-- Where there was room for the replies, the frames are answered so.
abbrev pub Conversed : {D Z E : Type 0} → disk.Ghosts D → Stage → (old new : ShownStore D) → (told told_after : Told) → List Frame → Stage → Result (Vec Reply Z) E → Type 0
Conversed g stage old new told told_after frames to result = IfOk result (λ replies. AnswersTurn g stage old new told told_after frames to replies.items)

-- how many events a store has accepted, as it tells it
abbrev pub count_of : {D : Type 0} → disk.Ghosts D → ShownStore D → Result ℕ Refusal
count_of g s = cond s.is_broken (Err Broken) (Ok (live g s).events)

-- The same, where the stage is answered too, and how many events the store has then.
abbrev pub TurnKept : {D E : Type 0} → disk.Ghosts D → Stage → (old new : ShownStore D) → (told told_after : Told) → List Frame → Result Turned E → Type 0
TurnKept g stage old new told told_after frames result =
    IfOk result (λ turned. AnswersTurn g stage old new told told_after frames turned.desk turned.replies.items × (turned.events ≡ count_of g new))

-- The store that is shared had this state at some moment since the opening of the lock.
abbrev pub HadSince : {D : Type 0} → disk.Ghosts D → Option Began → ShownStore D → Type 0
HadSince {D} g opening s = (moments : List (Devices D)) × WentOnSince g opening moments s

-- Frames were answered under one hold of the lock, from a state that the store had there to one that it had then, with so many events.
pub record WasAnswered {D : Type 0} (g : disk.Ghosts D) (opening : Option Began) (stage : Stage) (told told_after : Told) (frames : List Frame) (to : Stage) (replies : List Reply) (events : Result ℕ Refusal) : Type 0 where
  pub old : ShownStore D
  pub new : ShownStore D
  pub had : HadSince g opening old
  pub has : HadSince g opening new
  pub turn : AnswersTurn g stage old new told told_after frames to replies
  pub counted : events ≡ count_of g new

-- Where there was room for the replies, the frames were answered so.
abbrev pub TurnAnswered : {D E : Type 0} → disk.Ghosts D → Option Began → Stage → (told told_after : Told) → List Frame → Result Turned E → Type 0
TurnAnswered g opening stage told told_after frames result =
    IfOk result (λ turned. WasAnswered g opening stage told told_after frames turned.desk turned.replies.items turned.events)

-- Nothing was changed where memory was refused.
abbrev pub StillOnErr : {D T E : Type 0} → (old new : ShownStore D) → (told told_after : Told) → Result T E → Type 0
StillOnErr old new told told_after result = OnErr result (Still old new told told_after)

abbrev pub IsEvent : Frame → Type 0
IsEvent (Numbered number event) = Unit {0}
IsEvent (Hello source) = ⊥
IsEvent Ask = ⊥
IsEvent Reports = ⊥
IsEvent Bye = ⊥

-- So many of these frames are one turn: events, and the frame behind them, at most MOST_TURN. It has a frame where there is one.
pub record IsTurn (frames : List Frame) (len : ℕ) : Type 0 where
  pub most : len ≤ MOST_TURN
  pub within : len ≤ length frames
  pub some : 1 ≤ length frames → 1 ≤ len
  pub events : (k : ℕ) (frame : Frame) → k + 1 < len → slice_get frames k ≡ Some frame → IsEvent frame
