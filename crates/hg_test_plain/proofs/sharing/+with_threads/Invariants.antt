use Rattle.std.proofs.Common.{length}
use Rattle.hg_test_plain.proofs.sharing.+with_threads.Given as goal

-- proposed from what the function passes where it calls itself
abbrev pub decreases-with_threads : goal.decreases-with_threads
decreases-with_threads l = length l.items.now
