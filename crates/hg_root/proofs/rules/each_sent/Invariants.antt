use Rattle.std.proofs.Common.{All, take, ◌≤◌}
use Rattle.hg_root.proofs.rules.each_sent.Given as goal

abbrev pub invariant-loop-source : goal.invariant-loop-source
invariant-loop-source l = All (λ s. (s.source ≤ 1023) × (1 ≤ s.last)) (take l.source-index l.sources)
