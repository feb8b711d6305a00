use Rattle.hg_wire.specs.Streams.{readings}
use Rattle.hg_commands.proofs.Unique.{feeds_to_one}
use Rattle.hg_commands.proofs.laws.feeding_is_unique.Goals as goal

pub returns : goal.returns
returns c source bytes table start x y first second room space = feeds_to_one source (readings bytes) table start 0 x y first second room space
