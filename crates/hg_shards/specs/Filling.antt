-- The event at which the parts of a trace have more sets together than a table has room for.
use Rattle.std.specs.Prelude.{◌≡◌, ℕ, ◌+◌, ◌<◌, ◌≤◌, Bool, true, false, nat_le, nat_lt, List, [], ◌∷◌, ◌++◌, length, get_or, slice_get, Option, Some, None, if◌then◌else◌}
use Rattle.std.specs.List.{sum_by}
use Rattle.hg_model.specs.declared.event.Named.{Named}
use Rattle.hg_model.specs.Contents.{events_of}
use Rattle.hg_sets.specs.Interning.{Table}
use Rattle.hg_shards.specs.declared.full.Next.{Next}
use Rattle.hg_shards.specs.declared.shard.Shard.{Shard}
use Rattle.hg_shards.specs.Asking.{HasSets, anywhere, asked, size_with}
use Rattle.hg_shards.specs.Sharding.{AtEachEvent, LogsOwnSets}

-- how many sets all shards have noted
abbrev pub logged : List Shard → ℕ
logged shards = sum_by (λ s. length s.log.events) shards

-- The shard is that of part k, of so many, and its log knows the sets of the trace.
pub record IsShardOf (count k : ℕ) (trace : List Named) (s : Shard) : Type 0 where
  pub count_is : s.count ≡ count
  pub part_is : s.part ≡ k
  pub log : LogsOwnSets trace s

-- The shards are those of the parts from k on, of so many, in order.
abbrev pub AreShardsFrom : ℕ → ℕ → List Named → List Shard → Type 0
AreShardsFrom count k trace [] = k ≡ count
AreShardsFrom count k trace (s ∷ shards) = IsShardOf count k trace s × AreShardsFrom count (k + 1) trace shards

-- The shards are those of all parts, in order, and their logs know the sets of the trace.
abbrev pub AreShardsOf : List Named → List Shard → Type 0
AreShardsOf trace shards = (0 < length shards) × AreShardsFrom (length shards) 0 trace shards

-- the event was found to be k or one before it
abbrev pub is_found_by : ℕ → Option ℕ → Bool
is_found_by k None = false
is_found_by k (Some event) = nat_le event k

-- After each event of a trace that the shards know, the sets that the whole trace has asked for by then, with the empty set, are more
-- than the limit exactly where that event is the one found or comes behind it.
abbrev pub IsFirstFull : ℕ → List Shard → Option ℕ → Type 0
IsFirstFull limit shards found =
    (trace : List Named) → AreShardsOf trace shards →
    AtEachEvent (λ past. nat_lt limit (size_with (asked anywhere (events_of past))) ≡ is_found_by (length past) found) trace

-- what stands next in each log, where so many of each were taken
abbrev pub heads_of : List Shard → List ℕ → List (Option ℕ)
heads_of [] taken = []
heads_of (s ∷ shards) [] = []
heads_of (s ∷ shards) (n ∷ taken) = slice_get s.log.events n ∷ heads_of shards taken

-- the one of two sets that was made first, or the first of them
abbrev pub earlier_of : Option Next → ℕ → ℕ → Option ℕ → Option Next
earlier_of best part set None = best
earlier_of None part set (Some event) = Some (record { part = part; set = set; event = event })
earlier_of (Some other) part set (Some event) = if nat_lt event other.event then Some (record { part = part; set = set; event = event }) else Some other

-- None of the heads is before this event.
abbrev pub NoneBefore : ℕ → List (Option ℕ) → Type 0
NoneBefore event heads = (k other : ℕ) → get_or heads k None ≡ Some other → event ≤ other

-- The set that comes next, of so many parts with these heads, is a part's first that was not taken, and no other part's was made
-- before. There is none where all were taken.
abbrev pub IsFirstHead : ℕ → List (Option ℕ) → List ℕ → Option Next → Type 0
IsFirstHead count heads taken None = (k : ℕ) → get_or heads k None ≡ None
IsFirstHead count heads taken (Some next) =
    (next.part < count) × (next.set ≡ get_or taken next.part 0) × (get_or heads next.part None ≡ Some next.event) × NoneBefore next.event heads

-- the same of shards of which so many sets were taken
abbrev pub IsNextMade : List Shard → List ℕ → Option Next → Type 0
IsNextMade shards taken next = IsFirstHead (length shards) (heads_of shards taken) taken next

-- A table that was asked for some sets is asked for one more: it has it then, or it is full and stays.
abbrev pub PutsSet : Table → List ℕ → Bool → Table → Type 0
PutsSet old set true new = (limit : ℕ) (sets : List (List ℕ)) → HasSets limit sets old → HasSets limit (sets ++ set ∷ []) new
PutsSet old set false new = (new ≡ old) × ((limit : ℕ) (sets : List (List ℕ)) → HasSets limit sets old → limit < size_with (sets ++ set ∷ []))
