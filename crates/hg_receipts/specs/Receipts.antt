-- The entries of a register, and receipts for them.
use Rattle.std.specs.Prelude.{◌≡◌, ◌⊎◌, ℕ, List, [], ◌∷◌, ◌++◌, true, false}
use mathlib.Core.Option.{Option, none, some}
use lib.ListN.{get_elem?}
use Rattle.atomic_table.specs.Seated.{TableId}
use Rattle.atomic_table.specs.Table.{Me, State, Step}
use Rattle.hg_receipts.specs.declared.view.Acked.{Acked}
use Rattle.hg_receipts.specs.declared.view.View.{View}

-- the name of no register
abbrev pub no_table : TableId
no_table = record { words = 0; slots = 0; views_name = 0; atom = 0; block = 0; offset = 0; slot_names = [] }

-- The entry is one of these.
abbrev pub Has : List Acked → Acked → Type 0
Has [] entry = ⊥
Has (one ∷ others) entry = (one ≡ entry) ⊎ Has others entry

-- Each of these is among the others.
abbrev pub AreAmong : List Acked → List Acked → Type 0
AreAmong these others = (entry : Acked) → Has these entry → Has others entry

-- the pass that knows all entries
abbrev pub knower : List Acked → View
knower all = record { keeps = true; all = all; has = [] }

-- a pass that has these receipts
abbrev pub holder : List Acked → View
holder has = record { keeps = false; all = []; has = has }

-- One pass at most knows all entries, and each receipt is for one of them.
abbrev pub IsKept : State Acked View → Type 0
IsKept s =
    (seat : ℕ) × (log : List Acked)
    × ((by : ℕ) (v : View) → get_elem? s.views by ≡ some v → (v.keeps ≡ true → (by ≡ seat) × (v.all ≡ log)) × AreAmong v.has log)

-- the keeper with one entry more, and a receipt for it
abbrev pub with_entry : Option Acked → View → View
with_entry none v = v
with_entry (some entry) v = record { keeps = v.keeps; all = entry ∷ v.all; has = entry ∷ v.has }

abbrev pub Noted : Step Acked → Me Acked View → ℕ → Me Acked View → Type 0
Noted step me found after = after ≡ (with_entry step.said me.0, me.1)

-- The receipts of the keeper are for its entries.
abbrev pub Compared : Step Acked → Me Acked View → ℕ → Me Acked View → Type 0
Compared step me found after = (after ≡ me) × (me.0.keeps ≡ true → AreAmong me.0.has me.0.all)

-- the keeper without receipts
abbrev pub emptied : View → View
emptied v = record { keeps = v.keeps; all = v.all; has = [] }

-- its receipts
abbrev pub receipts_of : View → View
receipts_of v = holder v.has

-- a pass with the receipts of another too
abbrev pub joined : View → View → View
joined v w = record { keeps = v.keeps; all = v.all; has = w.has ++ v.has }
