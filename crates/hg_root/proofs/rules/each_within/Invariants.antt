use Rattle.std.proofs.Common.{All, take, ◌<◌, ◌^◌}
use Rattle.hg_root.proofs.rules.each_within.Given as goal

abbrev pub invariant-loop-page : goal.invariant-loop-page
invariant-loop-page l = All (λ p. (p.page < 2 ^ 54) × (p.slot < 1048576)) (take l.page-index l.pages)
