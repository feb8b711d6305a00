-- The sets of threads and locks that a trace asks the table of sets for.
use Rattle.std.specs.Prelude.{◌≡◌, ℕ, ◌<◌, ◌≤◌, Bool, true, List, [], ◌∷◌, ◌++◌, length, filter, map, nat_eq, Option, Some, None}
use Rattle.std.specs.Cmp.Lexicographic.{pointwise}
use Rattle.std.specs.List.{IsDistinct, flat_map, range_with_len, sum_by}
use Rattle.std.specs.Set.{distinct_count, is_member}
use Rattle.hg_model.specs.declared.event.Event.{Event}
use Rattle.hg_model.specs.declared.event.Event.TheVariants.{Read, Write}
use Rattle.hg_model.specs.declared.event.Named.{Named}
use Rattle.hg_model.specs.Segments.{segments_of}
use Rattle.hg_model.specs.History.{history}
use Rattle.hg_model.specs.Sharing.{state}
use Rattle.hg_model.specs.Reporting.{words_of}
use Rattle.hg_model.specs.Contents.{Content, summary}
use Rattle.hg_model.specs.Change.{word_after}
use Rattle.hg_shards.specs.Parts.{words_of_part}
use Rattle.hg_sets.specs.Interning.{Table}
use Rattle.hg_sets.specs.declared.fault.SetFault.{SetFault}
use Rattle.hg_sets.specs.declared.fault.SetFault.TheVariants.{Full}
use Rattle.hg_detect.specs.Making.{Asks, sets_asked, sets_in}

-- the words that an event accesses, rising
abbrev pub accessed : Event → List ℕ
accessed (Read a) = words_of a.at a.len
accessed (Write a) = words_of a.at a.len
accessed _ = []

-- the sets of the word w after a trace
abbrev pub sets_of : List Event → ℕ → List (List ℕ)
sets_of trace w = sets_in (state (segments_of trace) (history w trace))

-- the sets that the last event asks for, those of each accessed word of a group
abbrev pub asked_at_last : (ℕ → Bool) → List Event → List (List ℕ)
asked_at_last within [] = []
asked_at_last within (e ∷ past) = flat_map (sets_of (e ∷ past)) (filter within (accessed e))

-- the sets that all events ask for, those of words of a group
abbrev pub asked : (ℕ → Bool) → List Event → List (List ℕ)
asked within [] = []
asked within (e ∷ past) = asked within past ++ asked_at_last within (e ∷ past)

-- the sets that an event asks for after a content, those of words of a group
abbrev pub asked_after : (ℕ → Bool) → Content → Event → List (List ℕ)
asked_after within c e = flat_map (λ w. sets_in (word_after c e w)) (filter within (accessed e))

-- every word
abbrev pub anywhere : ℕ → Bool
anywhere w = true

-- the set is among these
abbrev pub has_set : List (List ℕ) → List ℕ → Bool
has_set sets set = is_member (pointwise nat_eq) sets set

-- how many sets a table has that was asked for these: each of them once, and the empty set
abbrev pub size_with : List (List ℕ) → ℕ
size_with sets = distinct_count (pointwise nat_eq) ([] ∷ sets)

-- The table has room for `limit` sets. It has those that it was asked for, each once, and the empty set.
pub record HasSets (limit : ℕ) (sets : List (List ℕ)) (t : Table) : Type 0 where
  pub limit_is : t.limit ≡ limit
  pub within : length t.sets ≤ limit
  pub distinct : IsDistinct (pointwise nat_eq) t.sets
  pub members : (set : List ℕ) → has_set t.sets set ≡ has_set ([] ∷ sets) set

-- A table that was asked for some sets is asked for more. Where all of them have room it takes them, and else it refuses one of
-- them as full.
pub record AnswersBySets (limit : ℕ) (sets more : List (List ℕ)) (t : Table) : Type 0 where
  pub room : size_with (sets ++ more) ≤ limit → (new : Table) × Asks t more None new × HasSets limit (sets ++ more) new
  pub none : limit < size_with (sets ++ more) → (new : Table) × Asks t more (Some Full) new

-- The first table was asked for the sets of each event of a trace in turn, up to the last event. It refused none but maybe one of
-- the last event's, and is this table now.
abbrev pub AsksForTrace : Table → List Named → Option SetFault → Table → Type 0
AsksForTrace first [] refused table = (refused ≡ None) × (table ≡ first)
AsksForTrace first (n ∷ past) refused table =
    (before : Table) × AsksForTrace first past None before × Asks before (sets_asked (summary past) n.event) refused table

-- for each part the sets that its trace asks for, those of its words
abbrev pub sets_by_part : ℕ → (ℕ → ℕ) → (ℕ → List Event) → List (List (List ℕ))
sets_by_part count part_of trace_of = map (λ k. asked (words_of_part part_of k) (trace_of k)) (range_with_len 0 count)

-- Several lists have these sets together: each of these is in some list, and no other set is. A table that is asked for these has
-- as many as one that is asked for all lists, and no more than one table for each list have together.
pub record HaveTogether (lists : List (List (List ℕ))) (sets : List (List ℕ)) : Type 0 where
  pub members : (set : List ℕ) → has_set sets set ≡ has_set (flat_map (λ own. own) lists) set
  pub size : size_with sets ≡ size_with (flat_map (λ own. own) lists)
  pub few : size_with sets ≤ sum_by size_with lists
