use Rattle.std.proofs.Common.{◌*◌}
use Rattle.hg_pages.specs.Numbers.{HaveThreadSets}
use Rattle.hg_pages.proofs.decoded.have_thread_sets.Given as goal

abbrev pub invariant-loop-group : goal.invariant-loop-group
invariant-loop-group l = HaveThreadSets l.sets.sets (l.group * 16) l.bytes
