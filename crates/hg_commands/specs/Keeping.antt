-- What is kept of a store's events while it is fed, whatever fails meanwhile.
use Rattle.std.specs.Prelude.{◌≡◌, ◌⊎◌, ℕ, ◌≤◌, List, [], ◌∷◌, ◌++◌, All, Some, IsTrue, codes}
use Rattle.hg_streams.specs.declared.call.ReadCall.{ReadCall}
use Rattle.hg_streams.specs.declared.call.WriteCall.{WriteCall}
use Rattle.hg_sets.specs.Interning.{Table}
use Rattle.hg_sets.specs.declared.table.TheConstants.{MOST_SETS}
use Rattle.hg_model.specs.declared.event.Named.{Named}
use Rattle.hg_model.specs.Contents.{Content}
use Rattle.hg_model.specs.Change.{followed}
use Rattle.hg_disk.specs.declared.disk.Disk as disk
use Rattle.hg_images.specs.Images.{HasContent, Image}
use Rattle.hg_store.specs.declared.devices.Devices.{Devices}
use Rattle.hg_store.specs.Images.{EachImage, IsOn, KeepsFiles, Recovers, read_of}
use Rattle.hg_store.specs.Limits.{Limits, limits_of}
use Rattle.hg_store.specs.Recovering.{HasTable}
use Rattle.hg_store.specs.Shown.{ShownStore, live, saved}
use Rattle.hg_store.specs.Runs.{DriveDone, MadeAlong, StepsDone, steps_of, told_to}
use Rattle.hg_store.specs.Store.{Backs, IsFresh, IsIdle}
use Rattle.hg_reading.specs.declared.ending.Ending.{Ending}
use Rattle.hg_commands.specs.Feeding.{ack_text, feed_end_text}
use Rattle.hg_commands.specs.FeedRunning.{LiesOnWayOfAny}
use Rattle.hg_commands.specs.Instants.{HasLimits, Instant, instant, made_at}
use Rattle.hg_streams.specs.Printed.{WereGiven}
use Rattle.hg_streams.specs.Texts.{number_text}

-- A text that acknowledges nothing: none, the line of `resume` or of a checkpoint, or the last line.
abbrev pub IsOther : List ℕ → Type 0
IsOther text =
    (text ≡ []) ⊎ (((k : ℕ) × (text ≡ number_text (codes "resume ") k))
    ⊎ (((k : ℕ) × (text ≡ number_text (codes "checkpoint ") k)) ⊎ ((c : Content) × (end : Ending) × (text ≡ feed_end_text c end))))

-- A text that acknowledges so many events at most: an `ack` of no more, or one that acknowledges nothing.
abbrev pub AcksAtMost : ℕ → List ℕ → Type 0
AcksAtMost n text = ((m : ℕ) × (m ≤ n) × (text ≡ ack_text m)) ⊎ IsOther text

-- The image has the content after a front of the events that lead from the first content to the last. It has at least n events.
abbrev pub HasAtLeast : Content → Content → ℕ → Image → Type 0
HasAtLeast first last n image = (on : IsOn first last image) × (n ≤ on.content.events)

module _ {D : Type 0} (g : disk.Ghosts D) where
  -- From one moment of a feeding to a later one; its output began with the calls `start`. Each image of the devices meanwhile has a front of
  -- the accepted events, with at least as many of them as any `ack` counts that was written by the later moment.
  pub record IsKeptBetween (first last : Content) (start : List WriteCall) (old new : Instant D) : Type 0 where
    pub later : List WriteCall
    pub since : new.calls ≡ later ++ old.calls
    pub count : ℕ
    pub acked : WereGiven (AcksAtMost count) start new.calls
    pub each : EachImage g old.devices new.devices (HasAtLeast first last count)

  -- From the start of a feeding to now, over the moments between, the newest first. At the oldest the store is open. Up to it nothing is
  -- written, and each image has the content of an image at the start; without a moment this holds up to now.
  abbrev pub IsKeptAlong : Content → Content → Instant D → List (Instant D) → Instant D → Type 0
  IsKeptAlong first last start [] now = Recovers g start.devices now.devices × (now.calls ≡ start.calls)
  IsKeptAlong first last start (mid ∷ earlier) now = IsKeptBetween first last start.calls mid now × IsKeptAlong first last start earlier mid

  -- At each moment of a feeding, whatever ends it, each image of the devices has all events that any `ack` written by then counts. It
  -- has a front of the accepted events, which lead from the content that the devices read at the start to the last one. That one lies on
  -- the way of what was read. Each moment lies between two neighbours of this list. Only true moments can be listed (`Moment::of`); a
  -- list that lacks one asks for more, not for less.
  pub record EachAckIsKept (source : ℕ) (reads_old reads_new : List ReadCall) (start : Instant D) (moments : List (Instant D)) (now : Instant D) : Type 0 where
    pub first : Content
    pub last : Content
    pub opened : (moments ≡ [] → ⊥) → HasContent (read_of g start.devices) first
    pub way : (moments ≡ [] → ⊥) → (table : Table) × (HasTable MOST_SETS (read_of g start.devices) first table × LiesOnWayOfAny source table first reads_old reads_new last)
    pub along : IsKeptAlong first last start moments now

  -- A store was opened on devices with the first content, and is fed. Its durable content follows from the first one by accepted events, and
  -- has each acknowledged one. The devices are those of the newest moment. These are the limits of the store, at each moment. All is kept so far.
  pub record IsKept (start : Instant D) (limits : Limits) (first : Content) (moments : List (Instant D)) (s : ShownStore D) (now : List WriteCall) : Type 0 where
    pub backs : Backs g s
    pub front : List Named
    pub before : followed first front ≡ Some (saved g s)
    pub acked : WereGiven (AcksAtMost (saved g s).events) start.calls now
    pub newest : Instant D
    pub earlier : List (Instant D)
    pub is : moments ≡ newest ∷ earlier
    pub still : s.devices ≡ newest.devices
    pub along : IsKeptAlong first (live g s) start (newest ∷ earlier) (instant s.devices now)
    pub has : limits_of s ≡ limits
    pub had : All (HasLimits limits) moments

  -- The steps that the moments tell of go on from one store to another, whatever the devices are.
  abbrev pub StepsOn : ShownStore D → List (Instant D) → ShownStore D → List (Instant D) → Type 0
  StepsOn old earlier new later = (first : ShownStore D) → MadeAlong g first (made_at earlier) old → MadeAlong g first (made_at later) new

  -- From one moment to another what is kept stays kept, and the steps go on.
  abbrev pub KeepsOn : ShownStore D → List WriteCall → List (Instant D) → ShownStore D → List WriteCall → List (Instant D) → Type 0
  KeepsOn old before earlier new after later =
      ((start : Instant D) (limits : Limits) (first : Content) → IsTrue g.is_honest → IsKept start limits first earlier old before → IsKept start limits first later new after)
      × StepsOn old earlier new later

  -- A store was opened on some devices, and the steps that the moments tell of were made on it, one after another, and no other one
  -- that changes it. Then it was closed. Over honest devices these steps are a run from the content that the devices had.
  pub record IsDriven (old : Devices D) (moments : List (Instant D)) (new : Devices D) : Type 0 where
    pub opened : ShownStore D
    pub idle : IsIdle opened
    pub kept : KeepsFiles g old opened.devices
    pub fresh : IsTrue g.is_honest → (c : Content) × HasContent (read_of g old) c × IsFresh g opened c
    pub closed : ShownStore D
    pub left : new ≡ closed.devices
    pub each : StepsDone g opened closed (steps_of (made_at moments)) (told_to (made_at moments))
    pub run : IsTrue g.is_honest → DriveDone g opened closed (steps_of (made_at moments)) (told_to (made_at moments))

  -- No store was opened, and nothing was written; or one was, and was driven.
  abbrev pub WasDriven : Devices D → List WriteCall → List (Instant D) → Devices D → List WriteCall → Type 0
  WasDriven old before moments new after = ((moments ≡ []) × (after ≡ before) × KeepsFiles g old new) ⊎ IsDriven old moments new
