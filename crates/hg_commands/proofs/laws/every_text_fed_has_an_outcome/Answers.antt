use Rattle.hg_wire.specs.Streams.{readings}
use Rattle.hg_commands.proofs.Outcome.{feeds_somewhere}
use Rattle.hg_commands.proofs.laws.every_text_fed_has_an_outcome.Goals as goal

pub returns : goal.returns
returns c source bytes table start few = feeds_somewhere source (readings bytes) table start 0 few
