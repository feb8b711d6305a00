use Rattle.std.proofs.Common.{◌≡◌, ◌+◌, take}
use Rattle.hg_shards.specs.Filling.{logged}
use Rattle.hg_shards.proofs.full.fit_together.Given as goal

abbrev pub invariant-loop-part : goal.invariant-loop-part
invariant-loop-part l = l.left + logged (take l.part-index l.parts) ≡ l.limit
