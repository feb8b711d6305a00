-- Where a graph keeps what messages need. (No promise to a reader rests on this file.)
use Rattle.std.specs.Prelude.{◌≡◌, ◌≢◌, ℕ, ◌<◌, ◌≤◌, nat_eq, List, [], ◌∷◌, Option, None, Some, length, slice_index_or}
use Rattle.std.specs.Map.{lookup}
use Rattle.hg_graph.specs.declared.pending.Pending.{Pending}
use Rattle.hg_graph.specs.declared.pending.Slot.{Slot}

-- what stands for a slot that is not there
abbrev pub no_slot : Slot
no_slot = record { message = 0; next = None; kept = record { segment = 0; clock = [] } }

abbrev pub slot_at : List Slot → ℕ → Slot
slot_at slots i = slice_index_or slots i no_slot

-- what is kept of each message that has a place
abbrev pub kept_entries : List (ℕ × ℕ) → List Slot → List (ℕ × Pending)
kept_entries [] slots = []
kept_entries (p ∷ places) slots = (p.0, (slot_at slots p.1).kept) ∷ kept_entries places slots

-- the place of a message
abbrev pub place_of : List (ℕ × ℕ) → ℕ → Option ℕ
place_of places k = lookup (nat_eq k) places

-- At the place of a message is a slot that names the message.
abbrev pub AreFiled : List (ℕ × ℕ) → List Slot → Type 0
AreFiled places slots = (k i : ℕ) → place_of places k ≡ Some i → (i < length slots) × ((slot_at slots i).message ≡ k)

-- A slot is no message's: not that of the message that it names.
abbrev pub IsFree : List (ℕ × ℕ) → List Slot → ℕ → Type 0
IsFree places slots i = (i < length slots) × (place_of places (slot_at slots i).message ≢ Some i)

-- No message has this place.
abbrev pub IsFreeIn : List (ℕ × ℕ) → ℕ → Type 0
IsFreeIn places i = (k : ℕ) → place_of places k ≢ Some i

-- Slots that were there stay as they were.
abbrev pub Stay : List Slot → List Slot → Type 0
Stay old new = (length old ≤ length new) × ((j : ℕ) → j < length old → slot_at new j ≡ slot_at old j)

-- All slots but that at i are as they were.
abbrev pub AreOthers : List Slot → ℕ → List Slot → Type 0
AreOthers old i new = (length new ≡ length old) × ((j : ℕ) → j ≢ i → slot_at new j ≡ slot_at old j)

-- So are they, and that at i names the message that it named.
abbrev pub IsOneOther : List Slot → ℕ → List Slot → Type 0
IsOneOther old i new = AreOthers old i new × ((slot_at new i).message ≡ (slot_at old i).message)

-- This is kept of a message in the slot at i.
abbrev pub HasSlot : List Slot → ℕ → ℕ → Pending → Type 0
HasSlot slots i k m = ((slot_at slots i).message ≡ k) × ((slot_at slots i).kept ≡ m)
