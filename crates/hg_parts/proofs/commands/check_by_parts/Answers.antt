use Rattle.hg_check.specs.Printing.{check_text}
use Rattle.hg_check.proofs.Fronts.{wrote_none}
use Rattle.hg_parts.proofs.commands.check_by_parts.Goals as goal

pub returns-in-Err-clause-front : goal.returns-in-Err-clause-front
returns-in-Err-clause-front g c is = wrote_none check_text c.args.streams.now.input.calls c.args.streams.now.output.calls
