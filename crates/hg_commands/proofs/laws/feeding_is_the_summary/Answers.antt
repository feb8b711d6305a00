use Rattle.hg_wire.specs.Streams.{readings}
use Rattle.hg_commands.proofs.Summing.{of_fed}
use Rattle.hg_commands.proofs.laws.feeding_is_the_summary.Goals as goal

pub returns : goal.returns
returns c source bytes table past last end ok h = of_fed source 0 (readings bytes) table past last end ok h
