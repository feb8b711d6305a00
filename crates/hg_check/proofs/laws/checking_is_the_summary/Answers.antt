use Rattle.std.proofs.Common.{[]}
use Rattle.hg_wire.specs.Streams.{readings}
use Rattle.hg_sets.specs.Interning.{first_table}
use Rattle.hg_check.proofs.Summing.{of_accepted}
use Rattle.hg_check.proofs.laws.checking_is_the_summary.Goals as goal

pub returns : goal.returns
returns c bytes last end h = of_accepted (readings bytes) (first_table 262144) [] last end tt h
