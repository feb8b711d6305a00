use Rattle.std.proofs.Common.{◌≡◌, ℕ, ◌<◌, Some, None, slice_get}
use Rattle.hg_detect.specs.Shown.{reports_of}
use Rattle.hg_shards.specs.declared.shard.Shard.{Shard}
use Rattle.hg_shards.specs.Reading.{place_upto}
use Rattle.hg_shards.proofs.cursor.has_reports.Given as goal

abbrev pub invariant-loop-k : goal.invariant-loop-k
invariant-loop-k l = (j : ℕ) (s : Shard) → j < l.k → slice_get l.shards j ≡ Some s → place_upto l.last (slice_get (reports_of s.detector) 0) ≡ None
