-- What the parts of a table stand for, and what holds of them.
use Rattle.std.specs.Prelude.{◌≡◌, ◌<◌, ◌≤◌, ◌+◌, ℕ, List, ◌∷◌, Result, length, All, vec_capacity}
use Rattle.std.specs.List.{sum_by}
use Rattle.hg_sets.specs.declared.interner.Interner.{Interner}
use Rattle.hg_sets.specs.declared.lists.TheConstants.{MOST_ELEMENTS}
use Rattle.hg_sets.specs.declared.reserving.Room.{Room}
use Rattle.hg_sets.specs.declared.fault.SetFault.{SetFault}
use Rattle.hg_sets.specs.Interning.{Table, AreSets, Interns}

-- the table that the parts stand for
abbrev pub table_of : Interner → Table
table_of i = record { limit = i.limit; sets = i.lists.all }

-- Asking the parts for the number of a set is asking their table.
abbrev pub InternsBy : Interner → List ℕ → Result ℕ SetFault → Interner → Type 0
InternsBy old set result new = Interns (table_of old) set result (table_of new)

-- the sets are in order, and the buffer has room for any of them and one member more
pub record IsSound (i : Interner) : Type 0 where
  pub sets : AreSets (table_of i)
  pub room : All (λ set. length set < vec_capacity i.scratch) i.lists.all

-- how many members these sets have together
abbrev pub members_in : List (List ℕ) → ℕ
members_in sets = sum_by length sets

-- the room that these sets need
pub record IsRoomFor (sets : List (List ℕ)) (room : Room) : Type 0 where
  pub count : room.count ≡ length sets
  pub members : room.members ≡ members_in sets
  pub longest : All (λ set. length set ≤ room.longest) sets
  pub few : room.members < MOST_ELEMENTS
  pub short : room.longest ≤ room.members

-- There is memory for so many sets in all, for so many members more, and for a set of so many.
pub record HasRoom (room : Room) (i : Interner) : Type 0 where
  pub count : room.count ≤ length i.lists.all + i.lists.spare_lists
  pub members : room.members ≤ i.lists.spare_elements
  pub longest : room.longest < vec_capacity i.scratch

-- there is memory for these sets beside those that are there
pub record HasRoomFor (sets : List (List ℕ)) (i : Interner) : Type 0 where
  pub count : length sets ≤ i.lists.spare_lists
  pub members : members_in sets ≤ i.lists.spare_elements
  pub longest : All (λ set. length set < vec_capacity i.scratch) sets

-- Whatever sets there was memory for behind this one, there still is.
abbrev pub LeavesRoom : List ℕ → Interner → Interner → Type 0
LeavesRoom set old new = (rest : List (List ℕ)) → HasRoomFor (set ∷ rest) old → HasRoomFor rest new
