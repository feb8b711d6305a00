use Rattle.std.specs.Prelude.{◌/◌}
use Rattle.hg_model.specs.Change.{empty_content}
use Rattle.hg_sets.specs.Interning.{first_table}
use Rattle.hg_check.specs.Explaining.{explain_text}
use Rattle.hg_check.proofs.Running.{wrote_none}
use Rattle.hg_check.proofs.explain.commands.explain.Goals as goal

pub returns-in-Err-clause-front : goal.returns-in-Err-clause-front
returns-in-Err-clause-front g c is =
    wrote_none (first_table 262144) empty_content (explain_text (c.args.address / 4) c.args.form) c.args.streams.now.input.calls c.args.streams.now.output.calls
