use Rattle.std.proofs.Common.{length, ◌-◌}
use Rattle.hg_test_plain.proofs.sharing.+first_race.Given as goal

abbrev pub decreases-first_race : goal.decreases-first_race
decreases-first_race l = length l.later.now - l.count
