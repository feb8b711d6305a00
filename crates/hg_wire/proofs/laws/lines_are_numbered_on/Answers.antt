use Rattle.std.proofs.Common.{true, false}
use Rattle.hg_wire.proofs.Numbering.{read_from_start}
use Rattle.hg_wire.proofs.laws.lines_are_numbered_on.Goals as goal

pub returns : goal.returns
returns c = λ k stream. (read_from_start true k stream, read_from_start false k stream)
