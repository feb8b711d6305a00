-- The content that a store stands for.
use Rattle.std.specs.Prelude.{◌≡◌, ◌+◌, ◌-◌, ◌++◌, ℕ, Bool, List, [], length, true, false, IsTrue, Result, IfOk, Vec, take}
use Rattle.hg_model.specs.declared.event.Named.{Named}
use Rattle.hg_model.specs.declared.verdict.Refusal.{Refusal}
use Rattle.hg_model.specs.Contents.{Content}
use Rattle.hg_disk.specs.declared.disk.Disk as disk
use Rattle.hg_disk.specs.Calls.{CallsAtMost}
use Rattle.hg_checkpoint.specs.declared.phase.Phase.TheVariants.{Idle}
use Rattle.hg_disk.specs.Moments.{Leaves}
use Rattle.hg_journal.specs.File.{IsJournalFile, JournalFile, Open, Spare}
use Rattle.hg_journals.specs.Journals.{HaveJournals, behind}
use Rattle.hg_images.specs.Choices.{Stands}
use Rattle.hg_images.specs.Images.{HasJournals, Image}
use Rattle.hg_images.specs.Stores as stores
use Rattle.hg_store.specs.Images.{EachImage, HasNumber, HasOpened, states_of}
use Rattle.hg_store.specs.Shown.{ShownStore, captured, current, live, other, saved}

-- A store that works, with nothing pending and no checkpoint in progress.
pub record IsIdle {D : Type 0} (s : ShownStore D) : Type 0 where
  pub pending : s.pending ≡ []
  pub phase : s.progress.phase ≡ Idle
  pub works : s.is_broken ≡ false
  pub certain : s.in_doubt ≡ false

-- the file that is not the current one: spare, or open with these events behind this base
abbrev pub other_file : (has_spare : Bool) → (base : ℕ) → List Named → JournalFile
other_file true base former = Spare
other_file false base former = Open base former

module _ {D : Type 0} (g : disk.Ghosts D) where
  abbrev pub view_of : ShownStore D → stores.View
  view_of s = record { devices = states_of g s.devices; live = live g s; pending = s.pending; durable = s.durable; in_doubt = s.in_doubt }

  -- The pending events lead from the durable content to the live one, and each image of the devices has the durable
  -- content. After a failed commit an image may have the live content instead.
  abbrev pub Backs : ShownStore D → Type 0
  Backs s = stores.Backs (view_of s) (saved g s)

  -- The newest checkpoint in each image of the devices has the number of the store's newest root, and counts the events that
  -- this counts.
  abbrev pub HasItsNumber : ShownStore D → Type 0
  HasItsNumber s = HasNumber g s.devices s.progress.number s.counted

  -- In each image of the devices the journals keep the same events, from the first kept one up to the last durable one: those
  -- of the other journal, which is spare or has some, and then those of the current one.
  pub record HasItsEvents (s : ShownStore D) : Type 0 where
    pub former : List Named
    pub later : List Named
    pub has_other : Leaves (λ bytes. IsJournalFile bytes (other_file s.turns.has_spare s.turns.base former)) (g.state (other s))
    pub has_current : Leaves (λ bytes. IsJournalFile bytes (Open s.turns.current_base later)) (g.state (current s))
    pub begins : s.turns.current_base ≡ s.turns.base + length former
    pub ends : s.turns.last ≡ s.turns.current_base + length later
    pub last : s.turns.last ≡ s.durable
    pub images : (image : Image) → stores.IsLeft (states_of g s.devices) image → HasJournals s.turns.base (former ++ later) image

  -- A store with this content that works, with nothing pending and no checkpoint in progress.
  pub record IsFresh (s : ShownStore D) (c : Content) : Type 0 where
    pub has : live g s ≡ c
    pub durable : saved g s ≡ c
    pub idle : IsIdle s
    pub backs : Backs s

  -- At each moment each image has the durable content from before or, in doubt, the live one.
  abbrev pub StandMeanwhile : (old new : ShownStore D) → Bool → Type 0
  StandMeanwhile old new in_doubt = EachImage g old.devices new.devices (Stands (saved g old) (live g old) in_doubt)

  -- Each journal was called at most this often.
  abbrev pub JournalCallsAtMost : ℕ → (old new : ShownStore D) → Type 0
  JournalCallsAtMost most old new =
      CallsAtMost g most old.devices.journal0 new.devices.journal0 × CallsAtMost g most old.devices.journal1 new.devices.journal1

  -- The current journal was called at most this often, and the other one was not called.
  abbrev pub CommitCalls : ℕ → (old new : ShownStore D) → Type 0
  CommitCalls most old new = CallsAtMost g most (current old) (current new) × (other new ≡ other old)

  -- The root of this number is the newest one, with the content at the freeze.
  abbrev pub HasOpenedFrozen : (old new : ShownStore D) → ℕ → Type 0
  HasOpenedFrozen old new n = HasOpened g new.devices n (captured g old)

  -- The events that were found are those that the journals keep from number `from` on, at most `most`; what is asked for before
  -- the first kept event begins with that one.
  abbrev pub HasFoundEvents : {Z : Type 0} → ShownStore D → (from most : ℕ) → Result (Vec Named Z) Refusal → Type 0
  HasFoundEvents s from most result =
      (base : ℕ) (events : List Named) → IsTrue g.is_honest
      → HaveJournals base events (g.state s.devices.journal0).contents (g.state s.devices.journal1).contents
      → IfOk result (λ found. found.items ≡ take most (behind base (from - 1) events))
