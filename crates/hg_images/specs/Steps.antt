-- What the devices of a store have while it makes a step, and after it.
use Rattle.std.specs.Prelude.{◌≡◌, ◌≤◌, ◌++◌, ◌↔◌, ℕ, List, [], true, false, Some}
use Rattle.hg_model.specs.declared.event.Named.{Named}
use Rattle.hg_model.specs.Contents.{Content}
use Rattle.hg_model.specs.Change.{followed}
use Rattle.hg_journals.specs.Journals.{HaveAllOrBehind, HaveAllOrNone, HaveJournals, behind}
use Rattle.hg_root.specs.Checkpoints.{Checkpoint}
use Rattle.hg_contents.specs.Choices.{Choice}
use Rattle.hg_contents.specs.Images.{content_of}
use Rattle.hg_images.specs.Choices.{Basis, GivesDurable, HasParts, HaveDurable, HaveEvents}
use Rattle.hg_images.specs.Images.{Gives, HasContent, Image, count_of}

-- No step is under way, and none failed but a commit: there is one base, and one choice.
pub record IsAtRest (basis : Basis) : Type 0 where
  pub one_base : basis.next_base ≡ basis.base
  pub one_choice : basis.next ≡ basis.now

-- The durable events at a freeze lead to this content; more events may have come since.
pub record IsFront (basis : Basis) (c : Content) : Type 0 where
  pub front : List Named
  pub since : List Named
  pub split : front ++ since ≡ basis.events
  pub gives : Gives basis.now.checkpoint basis.base front c

-- at rest, with these events behind this base
abbrev pub resting : (base : ℕ) → List Named → Choice → Basis
resting base events choice = record { base = base; next_base = base; events = events; now = choice; next = choice }

-- after a commit of these events
abbrev pub committed : Basis → (pending : List Named) → Basis
committed basis pending = record { base = basis.base; next_base = basis.next_base; events = basis.events ++ pending; now = basis.now; next = basis.next }

-- while the events up to this base are given up, or after that failed
abbrev pub retiring : Basis → (base : ℕ) → Basis
retiring basis base = record { base = basis.base; next_base = base; events = basis.events; now = basis.now; next = basis.next }

-- after they were given up
abbrev pub retired : Basis → (base : ℕ) → Basis
retired basis base = record { base = base; next_base = base; events = behind basis.base base basis.events; now = basis.now; next = basis.next }

-- while this choice is opened, or after that failed
abbrev pub opening : Basis → Choice → Basis
opening basis choice = record { base = basis.base; next_base = basis.next_base; events = basis.events; now = basis.now; next = choice }

-- after it was opened
abbrev pub opened : Basis → Choice → Basis
opened basis choice = record { base = basis.base; next_base = basis.next_base; events = basis.events; now = choice; next = choice }

-- ---- a store is made or recovered

-- The image has a basis at rest, which gives the content.
pub record HasBasis (image : Image) (c : Content) : Type 0 where
  pub basis : Basis
  pub rests : IsAtRest basis
  pub gives : GivesDurable basis c
  pub parts : HasParts basis [] false image

-- Each content of an image has such a basis: a recovered store goes on from it.
abbrev pub ContentsHaveABasis : Type 0
ContentsHaveABasis = (image : Image) (c : Content) → HasContent image c → HasBasis image c

-- ---- a commit

-- Meanwhile, and after it failed, the journals have just what the basis allows in doubt; after it the durable events give
-- the live content. What was frozen stays a front.
pub record CommitStands (basis : Basis) (pending : List Named) (live : Content) : Type 0 where
  pub during : (one other : List ℕ) → HaveAllOrNone basis.base basis.events pending one other ↔ HaveEvents basis pending true one other
  pub gives : GivesDurable (committed basis pending) live
  pub rests : IsAtRest (committed basis pending)
  pub fronts : (c : Content) → IsFront basis c → IsFront (committed basis pending) c

abbrev pub CommitsStand : Type 0
CommitsStand =
    (basis : Basis) (pending : List Named) (durable live : Content) → IsAtRest basis → GivesDurable basis durable → followed durable pending ≡ Some live → CommitStands basis pending live

-- ---- a turn

-- Before it, meanwhile and after it, the journals have just the durable events.
abbrev pub TurnsStand : Type 0
TurnsStand = (basis : Basis) (one other : List ℕ) → IsAtRest basis → (HaveJournals basis.base basis.events one other ↔ HaveDurable basis one other)

-- ---- events are given up

-- Meanwhile, and after it failed, the journals have just what the basis of this step allows, all events or those that the
-- newest open root leaves; and the durable events give the same content, meanwhile and after it. What was frozen stays a
-- front.
pub record RetirementStands (basis : Basis) (base : ℕ) (durable : Content) : Type 0 where
  pub during : (one other : List ℕ) → HaveAllOrBehind (count_of basis.now.checkpoint) basis.base base basis.events one other ↔ HaveDurable (retiring basis base) one other
  pub gives_during : GivesDurable (retiring basis base) durable
  pub gives : GivesDurable (retired basis base) durable
  pub rests : IsAtRest (retired basis base)
  pub fronts : (c : Content) → IsFront basis c → IsFront (retired basis base) c

-- So it is if the newest open root counts the events up to the new base.
abbrev pub RetirementsStand : Type 0
RetirementsStand =
    (basis : Basis) (base : ℕ) (durable : Content) → IsAtRest basis → GivesDurable basis durable → basis.base ≤ base → base ≤ count_of basis.now.checkpoint → RetirementStands basis base durable

-- ---- a root is opened

-- Meanwhile, and after it failed, either checkpoint gives the durable content; after it the new one does.
pub record OpeningStands (basis : Basis) (choice : Choice) (durable : Content) : Type 0 where
  pub gives_during : GivesDurable (opening basis choice) durable
  pub gives : GivesDurable (opened basis choice) durable
  pub rests : IsAtRest (opened basis choice)

-- So it is if the new one has the content at the freeze.
abbrev pub OpeningsStand : Type 0
OpeningsStand =
    (basis : Basis) (next : Checkpoint) (choice : Choice) (durable : Content) → IsAtRest basis → GivesDurable basis durable → IsFront basis (content_of next) → choice.checkpoint ≡ Some next
    → OpeningStands basis choice durable
