-- Lists that stand one after another in memory, each found by a hash of its elements.
use Rattle.std.specs.Prelude.{◌≡◌, ◌≢◌, ◌⊎◌, ℕ, zero, suc, ◌+◌, ◌-◌, ◌*◌, ◌/◌, ◌%◌, ◌^◌, ◌<◌, ◌≤◌, min, List, [], ◌∷◌, length, slice_index, take, drop, map, All, Bool, false, nat_le, nat_lt, if◌then◌else◌, Contains, Option, MatchOption}
use Rattle.std.specs.List.{count_by}
use Rattle.hg_model.specs.declared.limits.TheConstants.{GREATEST_THREAD}
use Rattle.hg_sets.specs.declared.lists.Span.{Span}
use Rattle.hg_sets.specs.declared.lists.TheConstants.{MOST_ELEMENTS, SPREAD}
use Rattle.hg_sets.specs.Interning.{StandsAt, set_at}

-- the elements of a list
abbrev pub list_at : List ℕ → Span → List ℕ
list_at elements span = take span.len (drop span.start elements)

-- all lists, by their numbers
abbrev pub lists_of : List ℕ → List Span → List (List ℕ)
lists_of elements spans = map (list_at elements) spans

-- whether a list has two elements at least, and its last one can be the number of a thread
abbrev pub is_of_threads : List ℕ → Bool
is_of_threads xs = if nat_lt (length xs) 2 then false else nat_le (slice_index xs (length xs - 1)) GREATEST_THREAD

-- a span tells that of its list
abbrev pub HasMark : List ℕ → Span → Type 0
HasMark elements span = span.of_threads ≡ is_of_threads (list_at elements span)

-- the hash of a list behind what was hashed before
abbrev pub hash_behind : ℕ → List ℕ → ℕ
hash_behind hash [] = hash
hash_behind hash (x ∷ xs) = hash_behind ((((hash + (x + 1)) % 2 ^ 64) * SPREAD) % 2 ^ 64) xs

-- the hash of a list
abbrev pub hash_of : List ℕ → ℕ
hash_of xs = hash_behind 0 xs

-- the slot where a search among `count` slots begins
abbrev pub first_slot : ℕ → ℕ → ℕ
first_slot count hash = ((hash / 2 ^ 32) * count) / 2 ^ 32

-- the slot that comes next
abbrev pub next_slot : ℕ → ℕ → ℕ
next_slot count at = if nat_lt (at + 1) count then at + 1 else 0

-- From a slot on, a search meets this entry within so many steps, and before a free slot.
abbrev pub IsMet : List ℕ → ℕ → ℕ → ℕ → Type 0
IsMet slots entry at zero = ⊥
IsMet slots entry at (suc steps) = (slice_index slots at ≡ entry) ⊎ ((slice_index slots at ≢ 0) × IsMet slots entry (next_slot (length slots) at) steps)

-- A search by this hash meets this entry.
abbrev pub IsFoundBy : List ℕ → ℕ → ℕ → Type 0
IsFoundBy slots hash entry = IsMet slots entry (first_slot (length slots) hash) (length slots)

-- A slot is free, or has the number of a list plus one.
abbrev pub HoldNumbers : ℕ → List ℕ → Type 0
HoldNumbers count slots = All (λ entry. entry ≤ count) slots

-- Slots still hold numbers of lists after this entry was put.
abbrev pub StillHold : ℕ → List ℕ → List ℕ → Type 0
StillHold entry old new = (count : ℕ) → entry ≤ count → HoldNumbers count old → HoldNumbers count new

-- how many slots are taken
abbrev pub taken : List ℕ → ℕ
taken slots = count_by (nat_lt 0) slots

-- `found` is the number of this list, or None where the list is absent.
abbrev pub IsNumberOf : List (List ℕ) → List ℕ → Option ℕ → Type 0
IsNumberOf lists list found = MatchOption found (¬ Contains lists list) (StandsAt lists list)

-- each of the first lists is found
abbrev pub AreFound : List (List ℕ) → List ℕ → ℕ → Type 0
AreFound lists slots count = (id : ℕ) → id < count → IsFoundBy slots (hash_of (set_at lists id)) (id + 1)

-- Each list stands within the elements, its span tells whether it can be threads, and it is found among the slots. It takes one of these, and
-- at least half of them are free.
pub record AreListed (elements : List ℕ) (spans : List Span) (slots : List ℕ) : Type 0 where
  pub few_elements : length elements < MOST_ELEMENTS
  pub few_lists : length spans ≤ length slots / 2
  pub few_slots : length slots ≤ 2 ^ 32
  pub within : All (λ span. span.start + span.len ≤ length elements) spans
  pub marks : All (HasMark elements) spans
  pub numbers : HoldNumbers (length spans) slots
  pub one_slot_each : taken slots ≡ length spans
  pub found : AreFound (lists_of elements spans) slots (length spans)

-- how many lists more have room, in memory for so many of them, while half of the slots stay free
abbrev pub lists_left : ℕ → List Span → List ℕ → ℕ
lists_left capacity spans slots = min capacity (length slots / 2) - length spans

-- how many elements more have room, in memory for so many of them, while their places fit 32 bits
abbrev pub elements_left : ℕ → List ℕ → ℕ
elements_left capacity elements = min capacity (MOST_ELEMENTS - 1) - length elements

-- All lists by their numbers, and how many lists and elements more take no memory.
pub record Listing : Type 0 where
  pub all : List (List ℕ)
  pub spare_lists : ℕ
  pub spare_elements : ℕ

-- the lists that stand in memory for so many spans and so many elements
abbrev pub listing : ℕ → ℕ → List ℕ → List Span → List ℕ → Listing
listing most_spans most_elements elements spans slots =
    record { all = lists_of elements spans; spare_lists = lists_left most_spans spans slots; spare_elements = elements_left most_elements elements }
