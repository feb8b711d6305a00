-- Tables of pages, each with the slot that it lies in.
use Rattle.std.specs.Prelude.{◌≡◌, ◌≢◌, ◌<◌, ◌≤◌, ◌+◌, ◌==◌, ℕ, List, [], ◌∷◌, Option, Some, None, MatchOption, is_some, length, slice_get, map, AllPairs, if◌then◌else◌}
use Rattle.std.specs.List.Sorted.{IsStrictlyIncreasing}

-- What contracts see of a table: the entries, each a page and its slot; for how many entries it has memory; and the number
-- below which slots can be named without new memory.
pub record ShownTable : Type 0 where
  pub entries : List (ℕ × ℕ)
  pub capacity : ℕ
  pub slots : ℕ

-- the slot of a page
abbrev pub slot_in : List (ℕ × ℕ) → ℕ → Option ℕ
slot_in [] page = None
slot_in (e ∷ entries) page = if e.0 == page then Some e.1 else slot_in entries page

-- some page lies in the slot
abbrev pub IsNamed : List (ℕ × ℕ) → ℕ → Type 0
IsNamed entries slot = (page : ℕ) × (slot_in entries page ≡ Some slot)

-- each slot is below this number
abbrev pub AreSlotsBelow : (slots : ℕ) → List (ℕ × ℕ) → Type 0
AreSlotsBelow slots entries = (page slot : ℕ) → slot_in entries page ≡ Some slot → slot < slots

-- The entries of a table: their pages rise, and no slot has two pages.
pub record AreEntries (entries : List (ℕ × ℕ)) : Type 0 where
  pub rising : IsStrictlyIncreasing (map (λ e. e.0) entries)
  pub distinct : AllPairs ◌≢◌ (map (λ e. e.1) entries)

-- one of the tables names the slot
abbrev pub SomeNames : List ShownTable → ℕ → Type 0
SomeNames tables slot = (i : ℕ) × (table : ShownTable) × (slice_get tables i ≡ Some table) × IsNamed table.entries slot

-- each slot from `from` up to `to`, without `to`, is named
abbrev pub EachNamed : (ℕ → Type 0) → ℕ → ℕ → Type 0
EachNamed named from to = (slot : ℕ) → from ≤ slot → slot < to → named slot

-- the least slot below `most` that no table names, or none if each is named
abbrev pub IsLeastFree : List ShownTable → (most : ℕ) → Option ℕ → Type 0
IsLeastFree tables most found =
    MatchOption found (EachNamed (SomeNames tables) 0 most) (λ free. (free < most) × (¬ SomeNames tables free) × EachNamed (SomeNames tables) 0 free)

-- the least slot from `from` on and below `most` that no table names, or none if each of these is named
abbrev pub IsLeastFreeFrom : (from : ℕ) → List ShownTable → (most : ℕ) → Option ℕ → Type 0
IsLeastFreeFrom from tables most found =
    MatchOption found (EachNamed (SomeNames tables) from most)
    (λ free. (from ≤ free) × (free < most) × (¬ SomeNames tables free) × EachNamed (SomeNames tables) from free)

-- The page has the slot; each other page keeps its own.
abbrev pub GivesSlot : (page slot : ℕ) → (old new : List (ℕ × ℕ)) → Type 0
GivesSlot page slot old new = (other : ℕ) → slot_in new other ≡ (if page == other then Some slot else slot_in old other)

-- The page has no slot; each other page keeps its own.
abbrev pub LosesPage : (page : ℕ) → (old new : List (ℕ × ℕ)) → Type 0
LosesPage page old new = (other : ℕ) → slot_in new other ≡ (if page == other then None else slot_in old other)

-- There is one entry more, if the page had none.
abbrev pub GrowsByNew : (page : ℕ) → (old new : List (ℕ × ℕ)) → Type 0
GrowsByNew page old new = length new ≡ length old + (if is_some (slot_in old page) then 0 else 1)

-- In a table, an entry is found by its page,
abbrev pub FindsListed : List (ℕ × ℕ) → (place page slot : ℕ) → Type 0
FindsListed entries place page slot = AreEntries entries → slice_get entries place ≡ Some (page, slot) → slot_in entries page ≡ Some slot

-- what is found by a page is an entry,
abbrev pub ListsFound : List (ℕ × ℕ) → (page slot : ℕ) → Type 0
ListsFound entries page slot = slot_in entries page ≡ Some slot → (place : ℕ) × (slice_get entries place ≡ Some (page, slot))

-- at most one page has the slot,
abbrev pub AreOneIn : (slot : ℕ) → List (ℕ × ℕ) → (page other : ℕ) → Type 0
AreOneIn slot entries page other = AreEntries entries → slot_in entries page ≡ Some slot → slot_in entries other ≡ Some slot → page ≡ other

-- and tables with the same look-ups have one list of entries.
abbrev pub AreOneList : (entries others : List (ℕ × ℕ)) → Type 0
AreOneList entries others =
    AreEntries entries → AreEntries others → ((page : ℕ) → slot_in entries page ≡ slot_in others page) → entries ≡ others
