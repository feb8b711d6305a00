-- Eraser's states of a word, with ownership that passes along happens-before, and its candidate lockset.
use Rattle.std.specs.Prelude.{ℕ, Bool, true, false, ◌&&◌, List, [], ◌∷◌, ◌++◌, map, filter, Option, Some, None, if◌then◌else◌, slice_index}
use Rattle.std.specs.List.{list_any, list_all}
use Rattle.hg_model.specs.Sets.{set_of, contains, is_empty}
use Rattle.hg_model.specs.declared.segment.Segment.{Segment}
use Rattle.hg_model.specs.Paths.{reaches}
use Rattle.hg_model.specs.declared.word.HistoryItem.{HistoryItem}
use Rattle.hg_model.specs.declared.word.WordState.{WordState}
use Rattle.hg_model.specs.declared.word.WordState.TheVariants.{New, Exclusive, SharedRead, SharedModified}

-- A word is unshared, or shared from the first access that is not ordered after the access before it.
pub data Sharing : Type 0 where
  Unshared : Sharing
  SharedFrom : (previous first : HistoryItem) (later : List HistoryItem) → Sharing

-- The sharing point is the first item whose segment is not reached by the segment of the item before it.
abbrev pub sharing : List Segment → List HistoryItem → Sharing
sharing segments [] = Unshared
sharing segments (x ∷ []) = Unshared
sharing segments (x ∷ y ∷ items) = if reaches segments x.segment y.segment then sharing segments (y ∷ items) else SharedFrom x y items

-- the segment of the item at a place (0 past the end)
abbrev pub segment_at : List HistoryItem → ℕ → ℕ
segment_at items k = slice_index (map (λ i. i.segment) items) k

-- The candidate lockset: the locks that count for each of these items.
abbrev pub lockset : List HistoryItem → List ℕ
lockset [] = []
lockset (first ∷ later) = filter (λ l. list_all (λ i. contains i.locks l) later) first.locks

-- shared by these threads under these locks, written to or not
abbrev pub shared : Bool → List ℕ → List ℕ → WordState
shared true threads locks = SharedModified threads locks
shared false threads locks = SharedRead threads locks

-- the owner's segment is that of the last item
abbrev pub owned : WordState → List HistoryItem → WordState
owned state [] = state
owned state (x ∷ items) = owned (Exclusive x.segment) items

-- the state by where sharing begins
abbrev pub state_by : Sharing → List HistoryItem → WordState
state_by Unshared items = owned New items
state_by (SharedFrom previous first later) items =
    shared (list_any (λ i. i.write) (first ∷ later)) (set_of (map (λ i. i.thread) (previous ∷ first ∷ later))) (lockset (first ∷ later))

-- The state of a word with this history.
abbrev pub state : List Segment → List HistoryItem → WordState
state segments items = state_by (sharing segments items) items

-- an item writes and no lock is common to all
abbrev pub is_race : List HistoryItem → Bool
is_race items = list_any (λ i. i.write) items && is_empty (lockset items)

-- the event number of the first later item at which all items so far are a race
abbrev pub first_race : List HistoryItem → List HistoryItem → Option ℕ
first_race front [] = None
first_race front (x ∷ later) = if is_race (front ++ x ∷ []) then Some x.event else first_race (front ++ x ∷ []) later

-- the reported item by where sharing begins: none where the word is not shared
abbrev pub reported_by : Sharing → Option ℕ
reported_by Unshared = None
reported_by (SharedFrom previous first later) = first_race [] (first ∷ later)

-- The event number of the reported item, the first racy one: from the sharing point up to it, some item writes and no lock is
-- common to all.
abbrev pub reported_item : List Segment → List HistoryItem → Option ℕ
reported_item segments items = reported_by (sharing segments items)

-- the threads that share a word in this state
abbrev pub threads_in : WordState → List ℕ
threads_in New = []
threads_in (Exclusive s) = []
threads_in (SharedRead threads locks) = threads
threads_in (SharedModified threads locks) = threads
