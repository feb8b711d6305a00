-- The reports that shards keep, read in the order of the whole trace.
use Rattle.std.specs.Prelude.{◌≡◌, ℕ, ◌<◌, nat_le, List, [], ◌∷◌, ◌++◌, length, get_or, map, slice_get, Option, Some, None, if◌then◌else◌}
use Rattle.std.specs.List.{range_with_len, sum_by}
use Rattle.hg_model.specs.declared.report.Report.{Report}
use Rattle.hg_detect.specs.Shown.{reports_of}
use Rattle.hg_shards.specs.declared.cursor.Cursor.{Cursor}
use Rattle.hg_shards.specs.declared.merge.Place.{Place}
use Rattle.hg_shards.specs.declared.shard.Shard.{Shard}
use Rattle.hg_shards.specs.Alike.{reports_within}
use Rattle.hg_shards.specs.Merging.{IsNextByHeads, place_of}
use Rattle.hg_shards.specs.Sharding.{words_of}

-- where a report stands, if there is one, and its event is no later than the last
abbrev pub place_upto : ℕ → Option Report → Option Place
place_upto last None = None
place_upto last (Some r) = if nat_le r.event last then Some (place_of r) else None

-- for each shard, where so many of its reports were read, the place of its next one up to the last event
abbrev pub heads_upto : ℕ → List Shard → List ℕ → List (Option Place)
heads_upto last [] given = []
heads_upto last (s ∷ shards) [] = []
heads_upto last (s ∷ shards) (n ∷ given) = place_upto last (slice_get (reports_of s.detector) n) ∷ heads_upto last shards given

-- how many of some reports are of part k, of so many
abbrev pub count_of_part : ℕ → List Report → ℕ → ℕ
count_of_part parts reports k = length (reports_within (words_of parts k) reports)

-- The cursor has read these reports, of so many parts.
pub record HasRead (parts : ℕ) (front : List Report) (cursor : Cursor) : Type 0 where
  pub count : cursor.count ≡ length front
  pub given : cursor.given.items ≡ map (count_of_part parts front) (range_with_len 0 parts)

-- The next report of the shards, where so many of each were read, is that of this shard, which keeps it.
abbrev pub IsNextPart : ℕ → List Shard → List ℕ → Option ℕ → Type 0
IsNextPart last shards given None = IsNextByHeads (heads_upto last shards given) None
IsNextPart last shards given (Some k) =
    (k < length shards) × ((d : Shard) → get_or given k 0 < length (get_or shards k d).detector.kept) × IsNextByHeads (heads_upto last shards given) (Some k)

-- What a cursor that has read the reports `front` reads next, where the reports `rest` come behind them: the first of these, or none.
abbrev pub ReadsNext : ℕ → List Report → List Report → Option Report → Cursor → Type 0
ReadsNext parts front [] found new = (found ≡ None) × HasRead parts front new
ReadsNext parts front (r ∷ rest) found new = (found ≡ Some r) × HasRead parts (front ++ r ∷ []) new

-- how many reports several shards have counted
abbrev pub total_of : List Shard → ℕ
total_of shards = sum_by (λ s. s.detector.total) shards
