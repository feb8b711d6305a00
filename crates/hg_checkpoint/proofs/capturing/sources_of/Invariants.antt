use Rattle.std.proofs.Common.{◌≡◌, ◌++◌, ◌-◌}
use Rattle.std.specs.Prelude.{slice_index}
use Rattle.hg_contents.specs.Heads.{source_counts}
use Rattle.hg_checkpoint.proofs.Sent.{sent_from}
use Rattle.hg_checkpoint.proofs.capturing.sources_of.Given as goal

-- the sources so far, and those to come
abbrev pub invariant-loop-source : goal.invariant-loop-source
invariant-loop-source l = l.counts.items ++ sent_from (slice_index l.state.last) l.source (1024 - l.source) ≡ source_counts (slice_index l.state.last)
