-- How `explain` takes the events of a store, and reads their lines.
use Rattle.std.specs.Prelude.{◌≡◌, ◌⊎◌, ◌+◌, ◌-◌, ◌^◌, ◌≤◌, ℕ, List, [], ◌++◌, Ok, take, drop, length, min, string_bytes}
use Rattle.std.specs.Global.{Vec}
use Rattle.hg_model.specs.declared.event.Named.{Named}
use Rattle.hg_disk.specs.declared.disk.Disk as disk
use Rattle.hg_store.specs.Shown.{IsSameButJournal, ShownStore}
use Rattle.hg_store.specs.Store.{HasFoundEvents}
use Rattle.hg_tasks.specs.Lines.{lines}
use Rattle.hg_tasks.specs.declared.events.EventText.{EventText}
use Rattle.hg_tasks.specs.declared.events.TheConstants.{PIECE}

-- Nothing was taken of the store: the event behind the one numbered `gone` is the next one.
pub record IsBehind {D : Type 0} (gone : ℕ) (store : ShownStore D) (text : EventText D) : Type 0 where
  pub of : text.store ≡ store
  pub next : text.next ≡ min (gone + 1) (2 ^ 64 - 1)
  pub empty : string_bytes text.text ≡ []

-- Its first event is the next one.
abbrev pub IsFresh : {D : Type 0} → ShownStore D → EventText D → Type 0
IsFresh store text = IsBehind 0 store text

-- Events were taken, and the next ones begin behind them. They are those that the store's journal has there, in their order. Their lines are
-- what is read now, from the first byte on.
pub record HasTaken {D : Type 0} (g : disk.Ghosts D) (old new : EventText D) : Type 0 where
  pub events : Vec Named
  pub found : HasFoundEvents g old.store old.next PIECE (Ok events)
  pub text : string_bytes new.text ≡ lines events.items
  pub first : new.used ≡ 0
  pub next : new.next ≡ min (old.next + length events.items) (2 ^ 64 - 1)
  pub rest : IsSameButJournal old.store new.store

-- what is left of the text
abbrev pub rest_of : {D : Type 0} → EventText D → List ℕ
rest_of text = drop text.used (string_bytes text.text)

-- As much of what is left as the buffer takes was given at the buffer's beginning: so many bytes.
pub record HasGiven {D : Type 0} (old new : EventText D) (was now : List ℕ) (count : ℕ) : Type 0 where
  pub most : count ≡ min (length was) (length (rest_of old))
  pub given : now ≡ take count (rest_of old) ++ drop count was
  pub used : new ≡ record old { used = old.used + count }

-- It was given of what was left, or of what was taken where nothing was left.
pub record HasRead {D : Type 0} (g : disk.Ghosts D) (old new : EventText D) (was now : List ℕ) (count : ℕ) : Type 0 where
  pub between : EventText D
  pub taken : (between ≡ old) ⊎ ((length (string_bytes old.text) ≤ old.used) × HasTaken g old between)
  pub given : HasGiven between new was now count
