-- How a store that threads share has gone on since the lock was opened over it.
use Rattle.std.specs.Prelude.{◌≡◌, ◌≤◌, ◌<◌, ℕ, List, [], ◌∷◌, map, Bool, true, false, Option, Some, IsTrue}
use Rattle.hg_model.specs.declared.event.Named.{Named}
use Rattle.hg_model.specs.Contents.{Content}
use Rattle.hg_model.specs.Change.{followed}
use Rattle.hg_disk.specs.State.{DiskState}
use Rattle.hg_disk.specs.declared.disk.Disk as disk
use Rattle.hg_store.specs.declared.devices.Devices.{Devices}
use Rattle.hg_store.specs.Images.{EachImageAlong, IsOn, failures_of}
use Rattle.hg_store.specs.Runs.{DriveDone, Made, MadeAlong, StepsDone, steps_of, told_to}
use Rattle.hg_store.specs.Shown.{ShownStore, live, saved}
use Rattle.hg_store.specs.Store.{Backs}

-- Events, each accepted after those before it, lead from one content to another.
abbrev pub LeadsTo : Content → Content → Type 0
LeadsTo first last = (events : List Named) × (followed first events ≡ Some last)

-- A device of any kind at one moment: its state, the states before each call so far, the newest first, how many calls have failed, and
-- whether its reads so far were true.
pub record Point : Type 0 where
  pub state : DiskState
  pub past : List DiskState
  pub failures : ℕ
  pub reads_were_true : Bool

-- points, seen as devices
abbrev pub of_points : Bool → disk.Ghosts Point
of_points is_honest = record { is_honest = is_honest; state = λ p. p.state; past = λ p. p.past; failures = λ p. p.failures; reads_were_true = λ p. p.reads_were_true }

-- A store at the opening of the lock: its devices, its content with all accepted events, its durable content, and whether it was broken.
pub record Began : Type 0 where
  pub devices : Devices Point
  pub live : Content
  pub saved : Content
  pub is_broken : Bool

-- the oldest of `now` and the items of a list, which has the newest first; `now` is the newest of all
abbrev pub oldest : {X : Type 0} → X → List X → X
oldest now [] = now
oldest now (mid ∷ earlier) = oldest mid earlier

-- the devices when each of these steps began
abbrev pub moments_of : {D : Type 0} → List (Made D) → List (Devices D)
moments_of steps = map (λ m. m.began.devices) steps

module _ {D : Type 0} (g : disk.Ghosts D) where
  abbrev pub point_of : D → Point
  point_of d = record { state = g.state d; past = g.past d; failures = g.failures d; reads_were_true = g.reads_were_true d }

  abbrev pub points_of : Devices D → Devices Point
  points_of devices = record { journal0 = point_of devices.journal0; journal1 = point_of devices.journal1; slots = point_of devices.slots; root0 = point_of devices.root0; root1 = point_of devices.root1 }

  abbrev pub began : ShownStore D → Began
  began s = record { devices = points_of s.devices; live = live g s; saved = saved g s; is_broken = s.is_broken }

  -- A call of a device has failed since the opening.
  abbrev pub FailedFrom : Began → ShownStore D → Type 0
  FailedFrom start now = failures_of (of_points g.is_honest) start.devices < failures_of g now.devices

  -- A store goes on from what it was at the opening: more events may be accepted, and become durable, and no event is lost, in memory or
  -- in an image. Only a failed call breaks it. The devices went through these moments, the newest first; the oldest is the opening. Over honest devices each image
  -- between two neighbours of them has the content after a front of the accepted events, with at least those that were durable at the
  -- opening.
  pub record WentOn (start : Began) (moments : List (Devices D)) (now : ShownStore D) : Type 0 where
    pub follows : IsTrue g.is_honest → LeadsTo start.live (live g now)
    pub durable : IsTrue g.is_honest → LeadsTo start.saved (saved g now)
    pub failed : failures_of (of_points g.is_honest) start.devices ≤ failures_of g now.devices
    pub broken : start.is_broken ≡ false → now.is_broken ≡ true → FailedFrom start now
    pub opening : oldest (points_of now.devices) (map points_of moments) ≡ start.devices
    pub images : IsTrue g.is_honest → EachImageAlong (of_points g.is_honest) start.devices (map points_of moments) (points_of now.devices) (IsOn start.saved (live g now))

  -- These steps, the newest first, led from the store at the opening of the lock to the one now, each to where the next one began.
  pub record RanFrom (start : Began) (steps : List (Made D)) (now : ShownStore D) : Type 0 where
    pub first : ShownStore D
    pub is_start : began first ≡ start
    pub backs : IsTrue g.is_honest → Backs g first
    pub along : MadeAlong g first steps now

  -- These steps, the newest first, were made from the store at the opening of the lock to the one now. On any devices each step has its
  -- answer, and leads to where the next one began. Over honest devices they are a run from the durable content of then.
  pub record IsRun (start : Began) (steps : List (Made D)) (now : ShownStore D) : Type 0 where
    pub first : ShownStore D
    pub is_start : began first ≡ start
    pub each : StepsDone g first now (steps_of steps) (told_to steps)
    pub run : IsTrue g.is_honest → DriveDone g first now (steps_of steps) (told_to steps)

  -- They did, where the opening is known.
  abbrev pub RanSince : Option Began → List (Made D) → ShownStore D → Type 0
  RanSince opening steps now = (start : Began) → opening ≡ Some start → RanFrom start steps now

  -- The store went on from what it was at the opening of the lock, where that is known.
  abbrev pub WentOnSince : Option Began → List (Devices D) → ShownStore D → Type 0
  WentOnSince opening moments now = (start : Began) → opening ≡ Some start → WentOn start moments now
