-- How far feeding has come. What is said of content is said of honest devices.
use Rattle.std.specs.Prelude.{◌≡◌, ◌⊎◌, ℕ, ◌+◌, ◌-◌, ◌≤◌, ◌%◌, Bool, true, false, nat_eq, List, [], ◌∷◌, ◌++◌, length, Option, Some, None, Result, Ok, Err, IsTrue, if◌then◌else◌}
use Rattle.hg_model.specs.declared.verdict.Refusal.{Refusal}
use Rattle.hg_model.specs.declared.verdict.Refusal.TheVariants.{Broken, Damaged, DeviceFault, OutOfMemory}
use Rattle.hg_model.specs.declared.event.Event.{Event}
use Rattle.hg_model.specs.Contents.{Content}
use Rattle.hg_sets.specs.Interning.{Table}
use Rattle.hg_sets.specs.declared.table.TheConstants.{MOST_SETS}
use Rattle.hg_detect.specs.declared.detector.Answer.{Answer}
use Rattle.hg_streams.specs.declared.call.ReadCall.{ReadCall}
use Rattle.hg_streams.specs.declared.call.ReadCall.TheVariants.{Gave}
use Rattle.hg_streams.specs.declared.call.WriteCall.{WriteCall}
use Rattle.hg_streams.specs.Calls.{NoneFailed, ends_met, given, MayBe}
use Rattle.hg_streams.specs.Told.{told}
use Rattle.hg_disk.specs.declared.disk.Disk as disk
use Rattle.hg_images.specs.Images.{HasContent, Image}
use Rattle.hg_images.specs.Stores.{IsLeft}
use Rattle.hg_images.specs.Choices.{Stands}
use Rattle.hg_checkpoint.specs.Phases.{failed_in}
use Rattle.hg_checkpoint.specs.declared.phase.Phase.TheVariants.{Idle}
use Rattle.hg_store.specs.Answers.{failed_by}
use Rattle.hg_store.specs.declared.devices.Devices.{Devices}
use Rattle.hg_store.specs.declared.steps.StepFault.{StepFault}
use Rattle.hg_store.specs.declared.steps.StepFault.TheVariants as step
use Rattle.hg_store.specs.declared.steps.StepFault.TheVariants.{WrongPhase}
use Rattle.hg_store.specs.Images.{EachImage, HasOpened, RootCallsAtMost, failures_of, read_of, states_of}
use Rattle.hg_store.specs.Recovering.{HasTable}
use Rattle.hg_store.specs.Shown.{KeepsLimits, ShownStore, live, saved}
use Rattle.hg_store.specs.Steps.{ContentOffered, OfferDone}
use Rattle.hg_store.specs.Store.{Backs, HasItsEvents}
use Rattle.hg_wire.specs.declared.reader.Reading.{Reading}
use Rattle.hg_wire.specs.Streams.{ended_readings, readings}
use Rattle.hg_reading.specs.declared.ending.Ending.{Ending}
use Rattle.hg_reading.specs.declared.ending.Ending.TheVariants.{Ended, Refused, Bad}
use Rattle.hg_streams.specs.Written.{Took, TookFront}
use Rattle.hg_streams.specs.Faults.{IsTold}
use Rattle.hg_commands.specs.declared.lines.Fed.{Fed}
use Rattle.hg_commands.specs.Feeding.{FeedsTo, HasRoom, LiesOnWay, ack_text, acks_text, checkpoint_text, feed_text, sent}
use Rattle.hg_commands.specs.Storing.{EndsFlushed, failed_calls}
use Rattle.hg_commands.specs.FeedFaults.{HasFeedCause}
use Rattle.hg_commands.specs.GivingUp.{GaveUp, GivesUp, IsQuiet, OneReadsSame}

-- a store, what was fed to it, and the output
pub record Place (D : Type 0) : Type 0 where
  pub store : ShownStore D
  pub fed : Fed
  pub output : List WriteCall

abbrev pub place : {D : Type 0} → ShownStore D → Fed → List WriteCall → Place D
place store fed output = record { store = store; fed = fed; output = output }

-- the content with all accepted events
abbrev pub content_at : {D : Type 0} → disk.Ghosts D → Place D → Content
content_at g p = live g p.store

-- its table of sets
abbrev pub table_at : {D : Type 0} → Place D → Table
table_at p = p.store.detector.sets

-- The store works, and no checkpoint is in progress. Pending are the events accepted since the last commit.
pub record IsReady {D : Type 0} (store : ShownStore D) (fed : Fed) : Type 0 where
  pub works : store.is_broken ≡ false
  pub phase : store.progress.phase ≡ Idle
  pub pending : length store.pending ≡ fed.accepted % 256
  pub few : fed.accepted ≤ fed.number

-- A refusal of an event that ends feeding by a fault. Any other one is told as the line's.
abbrev pub IsEventFault : Refusal → Type 0
IsEventFault r = (r ≡ OutOfMemory) ⊎ ((r ≡ DeviceFault) ⊎ ((r ≡ Damaged) ⊎ (r ≡ Broken)))

-- How the refusal of a line's event ends feeding.
abbrev pub EndsLine : ℕ → Refusal → Result (Option Ending) Refusal → Type 0
EndsLine line r result = (IsEventFault r × (result ≡ Err r)) ⊎ ((IsEventFault r → ⊥) × (result ≡ Ok (Some (Refused line r))))

-- Reads of a source's input lead from a table and a content to the last content and the ending. Either the last read met the end of the
-- input, and the bytes that all gave lead there; or those bytes lead there whatever follows them.
abbrev pub FeedEndsBy : ℕ → Table → Content → List ReadCall → Content → Ending → Type 0
FeedEndsBy source table first reads last end =
    ((earlier : List ReadCall) × (reads ≡ Gave [] ∷ earlier) × FeedsTo source (readings (given earlier)) table first 0 last end)
    ⊎ ((more : List ℕ) → FeedsTo source (readings (given reads ++ more)) table first 0 last end)

-- For each whole input that the reads allow, the written bytes are a front of the text for it, from a table and a content.
pub record WroteFrontOfAny (source : ℕ) (table : Table) (start : Content) (reads_old reads_new : List ReadCall) (old new : List WriteCall) : Type 0 where
  pub later : List ReadCall
  pub since : reads_new ≡ later ++ reads_old
  pub front : (input : List ℕ) (last : Content) (checkpoint : Option ℕ) (end : Ending) → HasRoom end → MayBe later input → FeedsTo source (readings input) table start 0 last end
      → TookFront old new (feed_text source start last checkpoint end)

-- The reads lead to an end, and the written bytes are a front of the text for it.
pub record WroteFrontOfOne (source : ℕ) (table : Table) (start : Content) (reads_old reads_new : List ReadCall) (old new : List WriteCall) : Type 0 where
  pub later : List ReadCall
  pub since : reads_new ≡ later ++ reads_old
  pub last : Content
  pub checkpoint : Option ℕ
  pub end : Ending
  pub leads : FeedEndsBy source table start later last end
  pub front : TookFront old new (feed_text source start last checkpoint end)

abbrev pub WroteFrontFrom : ℕ → Table → Content → List ReadCall → List ReadCall → List WriteCall → List WriteCall → Type 0
WroteFrontFrom source table start reads_old reads_new old new = WroteFrontOfAny source table start reads_old reads_new old new ⊎ WroteFrontOfOne source table start reads_old reads_new old new

-- For each whole input that the reads allow, the content lies on the way from a table and the first content.
pub record LiesOnWayOfAny (source : ℕ) (table : Table) (first : Content) (reads_old reads_new : List ReadCall) (c : Content) : Type 0 where
  pub later : List ReadCall
  pub since : reads_new ≡ later ++ reads_old
  pub way : (input : List ℕ) (last : Content) (end : Ending) → HasRoom end → MayBe later input → FeedsTo source (readings input) table first 0 last end
      → LiesOnWay source (readings input) table first 0 c last end

-- how many device calls failed in a step of a checkpoint that was not made
abbrev pub failed_of : StepFault → ℕ
failed_of (WrongPhase phase) = 0
failed_of (step.Refused cause) = failed_in cause

-- whether a checkpoint is due: one is asked for, and the input came to its end
abbrev pub is_due : Bool → Ending → Bool
is_due asked Ended = asked
is_due asked (Refused line refusal) = false
is_due asked (Bad line) = false

module _ {D : Type 0} (g : disk.Ghosts D) where
  -- What the readings lead to from here.
  abbrev pub LeadsOn : Place D → List Reading → Content → Ending → Type 0
  LeadsOn p readings last end = FeedsTo p.fed.source readings (table_at p) (content_at g p) p.fed.number last end

  -- what was printed since the calls `first`: the text `front`, and the lines of commits
  pub record IsPrinted (first : List WriteCall) (front : List ℕ) (events : ℕ) (p : Place D) : Type 0 where
    pub count : (content_at g p).events ≡ events + p.fed.accepted
    pub printed : Took first p.output (front ++ acks_text events p.fed.accepted)

  -- From one place to another no call of a device or of the output failed, and of the roots and the journals the current journal alone was called.
  -- What was printed is still what was due, and the store is ready.
  pub record WentWell (old new : Place D) : Type 0 where
    pub source : new.fed.source ≡ old.fed.source
    pub failures : failed_calls g new.store.devices new.output ≡ failed_calls g old.store.devices old.output
    pub quiet : IsQuiet old.store new.store
    pub printed : IsTrue g.is_honest → (first : List WriteCall) (front : List ℕ) (events : ℕ) → IsPrinted first front events old → IsPrinted first front events new
    pub ready : IsReady new.store new.fed

  -- One reading was passed.
  pub record Passes (old new : Place D) (reading : Reading) : Type 0 where
    pub goes : WentWell old new
    pub number : new.fed.number ≡ old.fed.number + 1
    pub leads : IsTrue g.is_honest → (later : List Reading) (last : Content) (end : Ending) → LeadsOn new later last end → LeadsOn old (reading ∷ later) last end
    pub back : IsTrue g.is_honest → (later : List Reading) (last : Content) (end : Ending) → HasRoom end → LeadsOn old (reading ∷ later) last end → LeadsOn new later last end

  -- A reading ended the feeding, whatever follows it.
  pub record EndsAt (old new : Place D) (reading : Reading) (end : Ending) : Type 0 where
    pub goes : WentWell old new
    pub leads : IsTrue g.is_honest → (later : List Reading) → LeadsOn old (reading ∷ later) (content_at g new) end

  -- Each of these reads was needed: none before the last met the end of the input, and each line that was whole by then was passed, since its
  -- event was accepted or was sent before.
  pub record EachIsNeeded (source : ℕ) (table : Table) (start : Content) (reads : List ReadCall) : Type 0 where
    pub last : ReadCall
    pub earlier : List ReadCall
    pub newest : reads ≡ last ∷ earlier
    pub underway : ends_met earlier ≡ 0
    pub passed : IsTrue g.is_honest → (content : Content) × FeedsTo source (ended_readings (given earlier)) table start 0 content Ended

  -- No read since `first` failed or was refused memory, each was needed, and their bytes lead from a table and a content to the last content and the ending.
  pub record Feeds (first now : List ReadCall) (source : ℕ) (table : Table) (start last : Content) (end : Ending) : Type 0 where
    pub later : List ReadCall
    pub since : now ≡ later ++ first
    pub whole : NoneFailed later
    pub needed : EachIsNeeded source table start later
    pub leads : IsTrue g.is_honest → FeedEndsBy source table start later last end

  -- The bytes written since the calls `first` are a front of the text due for this content: `front`, and the lines of commits up to it.
  abbrev pub FrontFor : Place D → List WriteCall → Content → Type 0
  FrontFor old now last = (first : List WriteCall) (front : List ℕ) (events : ℕ) → IsPrinted first front events old → TookFront first now (front ++ acks_text events (last.events - events))

  -- Feeding was broken off at a reading. Whatever readings follow, a front of the text due for all of them was written.
  abbrev pub BreaksAt : Place D → Reading → List WriteCall → Type 0
  BreaksAt old reading now = IsTrue g.is_honest → (later : List Reading) (last : Content) (end : Ending) → HasRoom end → LeadsOn old (reading ∷ later) last end → FrontFor old now last

  -- From one place to another these readings were offered. Whatever follows them, the content lies on the way.
  abbrev pub StaysOnWay : Place D → List Reading → Place D → Type 0
  StaysOnWay old lines new =
      IsTrue g.is_honest → (later : List Reading) (last : Content) (end : Ending) → HasRoom end → LeadsOn old (lines ++ later) last end
      → LiesOnWay old.fed.source (lines ++ later) (table_at old) (content_at g old) old.fed.number (content_at g new) last end

  -- For each whole input that the reads allow, a front of the text due for it was written.
  pub record HasFront (first reads : List ReadCall) (source : ℕ) (table : Table) (start : Content) (old : Place D) (now : List WriteCall) : Type 0 where
    pub later : List ReadCall
    pub since : reads ≡ later ++ first
    pub front : IsTrue g.is_honest → (input : List ℕ) (last : Content) (end : Ending) → HasRoom end → MayBe later input → FeedsTo source (readings input) table start 0 last end → FrontFor old now last

  -- What was written is a front of what is due from the content and the table of the devices; or nothing was written.
  abbrev pub WroteFeedFront : ℕ → Devices D → List ReadCall → List ReadCall → List WriteCall → List WriteCall → Type 0
  WroteFeedFront source old reads_old reads_new calls_old calls_new =
      (calls_new ≡ calls_old)
      ⊎ (IsTrue g.is_honest → (table : Table) × ((first : Content) × (HasContent (read_of g old) first × (HasTable MOST_SETS (read_of g old) first table
      × WroteFrontFrom source table first reads_old reads_new calls_old calls_new))))

  -- A feeding ended by a fault. The fault had a cause; it was told, or telling it failed; and before it a front of the due text was written.
  abbrev pub EndsByFeedFault : ℕ → Bool → Devices D → Devices D → List ReadCall → List ReadCall → List WriteCall → List WriteCall → List WriteCall → List WriteCall → Type 0
  EndsByFeedFault source asked old new reads_old reads_new calls_old calls_new faults_old faults_new =
      (r : Refusal) × (HasFeedCause g asked old new reads_old reads_new calls_old calls_new r × (IsTold faults_old faults_new r × WroteFeedFront source old reads_old reads_new calls_old calls_new))

  -- A commit was answered Ok. Of the roots and the journals the current journal alone was called.
  pub record WasCommitted (old new : ShownStore D) : Type 0 where
    pub works : new.is_broken ≡ false
    pub none : new.pending ≡ []
    pub detector : new.detector ≡ old.detector
    pub committed : new.committed ≡ old.detector
    pub failures : failures_of g new.devices ≡ failures_of g old.devices
    pub quiet : IsQuiet old new

  -- An event was sent to a store.
  pub record WasSent (old new : ShownStore D) (before now : Fed) (e : Event) (r : Result Answer Refusal) : Type 0 where
    pub done : OfferDone g old new (sent before.source before.number e) r
    pub content : IsTrue g.is_honest → ContentOffered g old new (sent before.source before.number e) r
    pub fed : now ≡ record before { number = before.number + 1 }
    pub failures : failures_of g new.devices ≡ told r + failures_of g old.devices
    pub limits : KeepsLimits old new

  -- An accepted event was counted, and committed with those before it where it was the last of 256.
  pub record WasCounted (old new : Place D) : Type 0 where
    pub fed : new.fed ≡ record old.fed { accepted = old.fed.accepted + 1 }
    pub works : new.store.is_broken ≡ false
    pub progress : new.store.progress ≡ old.store.progress
    pub pending : length new.store.pending ≡ (old.fed.accepted + 1) % 256
    pub detector : new.store.detector ≡ old.store.detector
    pub failures : failed_calls g new.store.devices new.output ≡ failed_calls g old.store.devices old.output
    pub quiet : IsQuiet old.store new.store
    pub printed : Took old.output new.output (if nat_eq ((old.fed.accepted + 1) % 256) 0 then ack_text (content_at g old).events else [])

  -- The store did one step of a checkpoint, or refused it: the events stay, in memory and in each image, and so do the limits; a call failed where
  -- that is answered.
  pub record WasStepped {T : Type 0} (old new : ShownStore D) (result : Result T StepFault) : Type 0 where
    pub images : IsTrue g.is_honest → Backs g old → EachImage g old.devices new.devices (Stands (saved g old) (live g old) old.in_doubt)
    pub live : IsTrue g.is_honest → live g new ≡ live g old
    pub committed : new.committed ≡ old.committed
    pub pending : new.pending ≡ old.pending
    pub failures : failures_of g new.devices ≡ failed_by result + failures_of g old.devices
    pub limits : KeepsLimits old new

  -- One step of a checkpoint was made, or refused: the events stay, and a call failed where that is told.
  pub record StaysFed {T : Type 0} (old new : ShownStore D) (result : Result T Refusal) : Type 0 where
    pub live : IsTrue g.is_honest → live g new ≡ live g old
    pub committed : new.committed ≡ old.committed
    pub pending : new.pending ≡ old.pending
    pub failures : failures_of g new.devices ≡ told result + failures_of g old.devices

  -- Where a checkpoint was due, it is the newest one of each image, with this number and this content.
  abbrev pub WasMade : Bool → Devices D → Content → Option ℕ → Type 0
  WasMade true devices c (Some number) = IsTrue g.is_honest → HasOpened g devices number c
  WasMade true devices c None = ⊥
  WasMade false devices c checkpoint = checkpoint ≡ None

  -- The checkpoint that was due was made, and told, and the events that it counts were given up; or none was due, and no root was called.
  pub record WasCheckpointed (is_made : Bool) (old new : ShownStore D) (before after : List WriteCall) : Type 0 where
    pub checkpoint : Option ℕ
    pub made : WasMade is_made new.devices (live g old) checkpoint
    pub given_up : is_made ≡ true → IsTrue g.is_honest → GivesUp old new
    pub quiet : is_made ≡ false → IsQuiet old new
    pub printed : Took before after (checkpoint_text checkpoint)
    pub live : IsTrue g.is_honest → live g new ≡ live g old
    pub committed : new.committed ≡ old.committed
    pub works : new.is_broken ≡ false
    pub failures : failures_of g new.devices ≡ failures_of g old.devices

  -- A store was fed all of an input, or up to the line that ended it, and what was printed was flushed. Where a checkpoint was due, the events that it
  -- counts were given up. Where none was, of the roots and the journals the current journal alone was called.
  pub record WasFed (reads later : List ReadCall) (source : ℕ) (asked : Bool) (old new : ShownStore D) (before after : List WriteCall) (end : Ending) : Type 0 where
    pub checkpoint : Option ℕ
    pub feeds : Feeds reads later source old.detector.sets (live g old) (live g new) end
    pub printed : IsTrue g.is_honest → Took before after (feed_text source (live g old) (live g new) checkpoint end)
    pub flushed : EndsFlushed after
    pub made : WasMade (is_due asked end) new.devices (live g new) checkpoint
    pub given_up : is_due asked end ≡ true → IsTrue g.is_honest → GivesUp old new
    pub quiet : is_due asked end ≡ false → IsQuiet old new
    pub failures : failed_calls g new.devices after ≡ failed_calls g old.devices before
    pub works : new.is_broken ≡ false
    pub durable : IsTrue g.is_honest → saved g new ≡ live g new
    pub backs : IsTrue g.is_honest → Backs g new
    pub keeps : IsTrue g.is_honest → HasItsEvents g new

  -- What feeding the store on these devices did. The events that were read led from a table and a content to the last content, and exactly
  -- the text for it was printed, and flushed. Of honest devices the first content is the one that they read, the table has its sets, and any crash from
  -- now on leaves the last content. Where a checkpoint was asked for and the input came to its end, it is the newest one of each image, and the
  -- events that it counts were given up. Where none was due, the roots were called to open the store, and not after that, and a read of one
  -- journal gives what it gave.
  pub record FeedDone (reads later : List ReadCall) (source : ℕ) (asked : Bool) (old new : Devices D) (before after : List WriteCall) (end : Ending) : Type 0 where
    pub table : Table
    pub first : Content
    pub last : Content
    pub checkpoint : Option ℕ
    pub feeds : Feeds reads later source table first last end
    pub printed : IsTrue g.is_honest → Took before after (feed_text source first last checkpoint end)
    pub flushed : EndsFlushed after
    pub made : WasMade (is_due asked end) new last checkpoint
    pub given_up : is_due asked end ≡ true → IsTrue g.is_honest → GaveUp g old new last
    pub quiet : is_due asked end ≡ false → RootCallsAtMost g 4 old new
    pub alone : is_due asked end ≡ false → OneReadsSame g old new
    pub failures : failed_calls g new after ≡ failed_calls g old before
    pub began : IsTrue g.is_honest → HasContent (read_of g old) first × HasTable MOST_SETS (read_of g old) first table
    pub ended : IsTrue g.is_honest → (image : Image) → IsLeft (states_of g new) image → HasContent image last
