use Rattle.hg_root.proofs.LastSegments.{Underway}
use Rattle.hg_root.proofs.lasts.lasts_of.Given as goal

abbrev pub invariant-loop-k : goal.invariant-loop-k
invariant-loop-k l = Underway l.segments l.k l.lasts.items l.messages
