-- What was done to a store that is fed, with the input that was read and the output that was written.
use Rattle.std.specs.Prelude.{◌≡◌, ℕ, ◌+◌, ◌%◌, nat_eq, Bool, List, [], ◌∷◌, Option, None, Some, Result, Ok, IfErr, IfOk, OnErr, IsTrue, if◌then◌else◌}
use Rattle.hg_model.specs.declared.verdict.Refusal.{Refusal}
use Rattle.hg_streams.specs.Shown.{Incoming, Outgoing}
use Rattle.hg_disk.specs.declared.disk.Disk as disk
use Rattle.hg_store.specs.declared.devices.Devices.{Devices}
use Rattle.hg_store.specs.Images.{HasOpened}
use Rattle.hg_store.specs.Shown.{ShownStore, captured, live}
use Rattle.hg_wire.specs.declared.reader.Reading.{Reading}
use Rattle.hg_reading.specs.declared.ending.Ending.{Ending}
use Rattle.hg_reading.specs.Endings.{status_of}
use Rattle.hg_commands.specs.declared.lines.Feeding.{Feeding}
use Rattle.hg_commands.specs.declared.moment.Outcome.{Outcome}
use Rattle.hg_commands.specs.declared.settings.FeedSettings.{FeedSettings}
use Rattle.hg_streams.specs.declared.streams.Streams.{Streams}
use Rattle.hg_commands.specs.Feeding.{ack_text, checkpoint_text, feed_end_text}
use Rattle.hg_commands.specs.FeedRunning.{BreaksAt, EndsAt, EndsByFeedFault, FeedDone, Feeds, HasFront, LiesOnWayOfAny, Passes, Place, StaysOnWay, WasCheckpointed, WasCounted, WasFed, WentWell, WroteFeedFront, WroteFrontFrom, place}
use Rattle.hg_commands.specs.Instants.{Instant, instant}
use Rattle.hg_commands.specs.Keeping.{EachAckIsKept, KeepsOn, WasDriven}
use Rattle.hg_streams.specs.Printed.{IsPrintedNow}
use Rattle.hg_commands.specs.Storing.{failed_calls}
use Rattle.hg_commands.specs.FeedFaults.{FeedFails, HasFeedCause}

-- where a store that is fed stands, with its output
abbrev pub at : {D W V : Type 0} → Feeding D W → Outgoing V → Place D
at f output = place f.store f.fed output.calls

-- the last line of a feeding that ends so and leaves this store
abbrev pub end_of : {D : Type 0} → disk.Ghosts D → ShownStore D → Ending → List ℕ
end_of g s end = feed_end_text (live g s) end

-- what recovering a store and feeding it answers: how it ended, the devices, and the moments since its opening
abbrev pub Recovered : Type 0 → Type 0
Recovered D = Result Ending Refusal × Devices D × List (Instant D)

-- The line of some checkpoint was printed, or its print broken off; or nothing was.
abbrev pub MayHaveTold : {V : Type 0} → Outgoing V → Outgoing V → Type 0
MayHaveTold before after = (checkpoint : Option ℕ) × IsPrintedNow before.calls after.calls (checkpoint_text checkpoint)

module _ {D W V : Type 0} (g : disk.Ghosts D) where
  -- From one moment to another so many calls of the devices and of the output failed.
  abbrev pub Failed : ℕ → Feeding D W → Outgoing V → Feeding D W → Outgoing V → Type 0
  Failed n old before new after = failed_calls g new.store.devices after.calls ≡ n + failed_calls g old.store.devices before.calls

  -- What is kept of its events stays kept.
  abbrev pub StaysKept : Feeding D W → Outgoing V → Feeding D W → Outgoing V → Type 0
  StaysKept old before new after = KeepsOn g old.store before.calls old.moments new.store after.calls new.moments

  -- What was kept as the store began a step stays kept behind it. Nothing was written meanwhile.
  abbrev pub KeepsStep : ShownStore D → Feeding D W → Outgoing V → Feeding D W → Type 0
  KeepsStep began old output new = KeepsOn g began output.calls old.moments new.store output.calls new.moments

  -- An accepted event was counted.
  abbrev pub Counted : Feeding D W → Outgoing V → Feeding D W → Outgoing V → Type 0
  Counted old before new after = WasCounted g (at old before) (at new after)

  -- Whatever follows a line, the content lies on the way.
  abbrev pub KeepsToWay : Reading → Feeding D W → Outgoing V → Feeding D W → Outgoing V → Type 0
  KeepsToWay reading old before new after = StaysOnWay g (at old before) (reading ∷ []) (at new after)

  -- Where a line was passed.
  abbrev pub PassesWhere : Reading → Feeding D W → Outgoing V → Result (Option Ending) Refusal → Feeding D W → Outgoing V → Type 0
  PassesWhere reading old before r new after = r ≡ Ok None → Passes g (at old before) (at new after) reading

  -- Where a line ended the feeding.
  abbrev pub EndsWhere : Reading → Feeding D W → Outgoing V → Result (Option Ending) Refusal → Feeding D W → Outgoing V → Type 0
  EndsWhere reading old before r new after = (end : Ending) → r ≡ Ok (Some end) → EndsAt g (at old before) (at new after) reading end

  -- Where a line broke it off: what was written is a front of what is due.
  abbrev pub BreaksWhere : Reading → Feeding D W → Outgoing V → Result (Option Ending) Refusal → Outgoing V → Type 0
  BreaksWhere reading old before r after = OnErr r (BreaksAt g (at old before) reading after.calls)

  -- The checkpoint that was due was made, and told; or none was due.
  abbrev pub Checkpointed : Bool → Feeding D W → Outgoing V → Feeding D W → Outgoing V → Type 0
  Checkpointed is_made old before new after = WasCheckpointed g is_made old.store new.store before.calls after.calls

  -- No call failed since, what was printed is what was due so far, and the store is ready for more.
  abbrev pub FeedsWell : Feeding D W → Outgoing V → Feeding D W → Outgoing V → Type 0
  FeedsWell old before new after = WentWell g (at old before) (at new after)

module _ {D W : Type 0} (g : disk.Ghosts D) where
  -- Each image of the devices has the content that was frozen as its newest checkpoint, of this number.
  abbrev pub OpensFrozen : Feeding D W → Feeding D W → ℕ → Type 0
  OpensFrozen old new number = HasOpened g new.store.devices number (captured g old.store)

  -- Each image of the devices has the content of all events as its newest checkpoint, of this number.
  abbrev pub OpensLive : Feeding D W → Feeding D W → ℕ → Type 0
  OpensLive old new number = HasOpened g new.store.devices number (live g old.store)

  -- the line of a commit that makes all events durable
  abbrev pub ack_of : Feeding D W → List ℕ
  ack_of f = ack_text (live g f.store).events

  -- what is due after one more accepted event: the line of a commit if it is a 256th one, else nothing
  abbrev pub ack_due : Feeding D W → List ℕ
  ack_due f = if nat_eq ((f.fed.accepted + 1) % 256) 0 then ack_of f else []

module _ {D W R : Type 0} (g : disk.Ghosts D) where
  -- What was read since led from the content of then to that of now, and to this ending.
  abbrev pub FeedsFrom : Incoming R → Incoming R → Feeding D W → Feeding D W → Ending → Type 0
  FeedsFrom first now old new end = Feeds g first.calls now.calls old.fed.source old.store.detector.sets (live g old.store) (live g new.store) end

module _ {D W R : Type 0} (g : disk.Ghosts D) where
  -- The content of now lies on the way of what was read since.
  abbrev pub IsOnWay : Incoming R → Incoming R → Feeding D W → Feeding D W → Type 0
  IsOnWay first now old new =
      IsTrue g.is_honest → LiesOnWayOfAny old.fed.source old.store.detector.sets (live g old.store) first.calls now.calls (live g new.store)

module _ {D W R V : Type 0} (g : disk.Ghosts D) where
  -- What was written since is a front of what is due for the input.
  abbrev pub LeftFront : Incoming R → Incoming R → Feeding D W → Outgoing V → Outgoing V → Type 0
  LeftFront first now old before after =
      HasFront g first.calls now.calls old.fed.source old.store.detector.sets (live g old.store) (at old before) after.calls

  -- Where it failed, it has one of the few causes, and each call that failed is told.
  abbrev pub Fails : {T : Type 0} → Bool → Incoming R → Incoming R → Feeding D W → Outgoing V → Feeding D W → Outgoing V → Result T Refusal → Type 0
  Fails asked first now old before new after result =
      IfErr result (λ r. FeedFails g asked old.store.devices new.store.devices first.calls now.calls before.calls after.calls r)

  -- Where it was done, the store was fed all of the input, or up to the line that ended it.
  abbrev pub Done : Bool → Incoming R → Incoming R → Feeding D W → Outgoing V → Feeding D W → Outgoing V → Result Ending Refusal → Type 0
  Done checkpoint first now old before new after result =
      IfOk result (λ end. WasFed g first.calls now.calls old.fed.source checkpoint old.store new.store before.calls after.calls end)

  -- Where it was broken off, a front of what is due for the input was written.
  abbrev pub FrontWhere : Incoming R → Incoming R → Feeding D W → Outgoing V → Outgoing V → Result Ending Refusal → Type 0
  FrontWhere first now old before after result =
      IsTrue g.is_honest → OnErr result (WroteFrontFrom old.fed.source old.store.detector.sets (live g old.store) first.calls now.calls before.calls after.calls)

module _ {D R V : Type 0} (g : disk.Ghosts D) where
  -- Where the devices' store was fed, what that did.
  abbrev pub FedWhere : FeedSettings → Devices D → Incoming R → Incoming R → Outgoing V → Outgoing V → Recovered D → Type 0
  FedWhere settings devices first now before after result =
      IfOk result.0 (λ end. FeedDone g first.calls now.calls settings.source settings.checkpoint devices result.1 before.calls after.calls end)

  -- Where it was not, a front of what is due from the devices was written, or nothing.
  abbrev pub LeavesFront : FeedSettings → Devices D → Incoming R → Incoming R → Outgoing V → Outgoing V → Recovered D → Type 0
  LeavesFront settings devices first now before after result =
      OnErr result.0 (WroteFeedFront g settings.source devices first.calls now.calls before.calls after.calls)

  -- Then, what was the cause.
  abbrev pub FailedFor : FeedSettings → Devices D → Incoming R → Incoming R → Outgoing V → Outgoing V → Recovered D → Type 0
  FailedFor settings devices first now before after result =
      IfErr result.0 (λ r. HasFeedCause g settings.checkpoint devices result.1 first.calls now.calls before.calls after.calls r)

  -- A crash at any moment of it loses no event that an `ack` written by then counts.
  abbrev pub AcksAreKept : FeedSettings → Devices D → Incoming R → Incoming R → Outgoing V → Outgoing V → Recovered D → Type 0
  AcksAreKept settings devices first now before after result =
      IsTrue g.is_honest → EachAckIsKept g settings.source first.calls now.calls (instant devices before.calls) result.2 (instant result.1 after.calls)

module _ {D V : Type 0} (g : disk.Ghosts D) where
  -- What the moments of recovering a store and feeding it tell of is a run of the store's steps.
  abbrev pub MomentsAreRun : Devices D → Outgoing V → Outgoing V → Recovered D → Type 0
  MomentsAreRun devices before after result = WasDriven g devices before.calls result.2 result.1 after.calls

-- For the command, which reads one stream, prints to a second and tells its faults on a third.
module _ {D R W V : Type 0} (g : disk.Ghosts D) where
  -- The status is 3; or it tells how the feeding ended, and the feeding did what it is to do.
  abbrev pub FedOrFault : FeedSettings → Devices D → Streams R W V → Streams R W V → Outcome D W → Type 0
  FedOrFault settings devices before after outcome =
      (outcome.status ≡ 3 → ⊥)
      → (end : Ending) × (outcome.status ≡ status_of end)
      × FeedDone g before.input.calls after.input.calls settings.source settings.checkpoint devices outcome.devices before.output.calls after.output.calls end

  -- The status is not 3; or a fault ended the feeding, and was told.
  abbrev pub FaultIsTold : FeedSettings → Devices D → Streams R W V → Streams R W V → Outcome D W → Type 0
  FaultIsTold settings devices before after outcome =
      outcome.status ≡ 3
      → EndsByFeedFault g settings.source settings.checkpoint devices outcome.devices before.input.calls after.input.calls
      before.output.calls after.output.calls before.faults.calls after.faults.calls

  -- At each moment of a feeding that came to this outcome each `ack` is true.
  abbrev pub KeepsAcks : FeedSettings → Devices D → Streams R W V → Outcome D W → Streams R W V → Type 0
  KeepsAcks settings old before outcome after =
      IsTrue g.is_honest
      → EachAckIsKept g settings.source before.input.calls after.input.calls
      (instant old before.output.calls) outcome.moments (instant outcome.devices after.output.calls)

  -- The moments of a feeding that came to this outcome tell of a run of the store's steps.
  abbrev pub TellsRun : Devices D → Streams R W V → Outcome D W → Streams R W V → Type 0
  TellsRun old before outcome after = WasDriven g old before.output.calls outcome.moments outcome.devices after.output.calls
