-- How a table finds a page and a named slot. No promise to a caller rests on this.
use Rattle.std.specs.Prelude.{◌≡◌, ◌<◌, ◌≤◌, ◌+◌, ◌==◌, ◌||◌, ℕ, Bool, true, false, List, [], ◌∷◌, ◌++◌, Option, Some, None, length, take, drop, slice_index_or, slice_set}
use Rattle.std.specs.List.{AllByRecursion}

-- whether some page lies in the slot
abbrev pub is_named : List (ℕ × ℕ) → ℕ → Bool
is_named [] slot = false
is_named (e ∷ entries) slot = e.1 == slot || is_named entries slot

-- pages rise
abbrev pub ArePagesRising : List (ℕ × ℕ) → Type 0
ArePagesRising [] = Unit {0}
ArePagesRising (e ∷ entries) = AllByRecursion (λ later. e.0 < later.0) entries × ArePagesRising entries

-- no slot has two pages
abbrev pub AreSlotsDistinct : List (ℕ × ℕ) → Type 0
AreSlotsDistinct [] = Unit {0}
AreSlotsDistinct (e ∷ entries) = (is_named entries e.1 ≡ false) × AreSlotsDistinct entries

-- the entries of a table, by recursion
pub record IsInOrder (entries : List (ℕ × ℕ)) : Type 0 where
  pub rising : ArePagesRising entries
  pub distinct : AreSlotsDistinct entries

-- the marks of the slots say which are named
abbrev pub AreMarks : List Bool → List (ℕ × ℕ) → Type 0
AreMarks marks entries = (slot : ℕ) → slice_index_or marks slot false ≡ is_named entries slot

-- the entry of a page that lies in this slot, or in none
abbrev pub entry_of : ℕ → Option ℕ → List (ℕ × ℕ)
entry_of page None = []
entry_of page (Some slot) = (page, slot) ∷ []

-- The page stands at this place, behind those below it and before those above it.
pub record StandsAt (page : ℕ) (entries : List (ℕ × ℕ)) (place : ℕ) : Type 0 where
  pub within : place < length entries
  pub here : (d : ℕ × ℕ) → (slice_index_or entries place d).0 ≡ page
  pub below : AllByRecursion (λ e. e.0 < page) (take place entries)
  pub above : AllByRecursion (λ e. page < e.0) (drop (place + 1) entries)

-- The page is not there, and would be at this place.
pub record BelongsAt (page : ℕ) (entries : List (ℕ × ℕ)) (place : ℕ) : Type 0 where
  pub within : place ≤ length entries
  pub below : AllByRecursion (λ e. e.0 < page) (take place entries)
  pub above : AllByRecursion (λ e. page < e.0) (drop place entries)

-- The entries before a page, its own if it has a slot, and those behind it.
pub record Parts (page : ℕ) (slot : Option ℕ) (entries : List (ℕ × ℕ)) : Type 0 where
  pub before : List (ℕ × ℕ)
  pub behind : List (ℕ × ℕ)
  pub whole : entries ≡ before ++ (entry_of page slot ++ behind)
  pub below : AllByRecursion (λ e. e.0 < page) before
  pub above : AllByRecursion (λ e. page < e.0) behind

-- The page has this slot, or none, instead of its former slot, or of none.
pub record Puts (page : ℕ) (former slot : Option ℕ) (old new : List (ℕ × ℕ)) : Type 0 where
  pub parts : Parts page former old
  pub whole : new ≡ parts.before ++ (entry_of page slot ++ parts.behind)

-- the marks without that of a slot
abbrev pub cleared : Option ℕ → List Bool → List Bool
cleared None marks = marks
cleared (Some slot) marks = slice_set marks slot false

-- the marks with the slot's, and without that of the former one
abbrev pub marked : Option ℕ → ℕ → List Bool → List Bool
marked former slot marks = slice_set (cleared former marks) slot true
