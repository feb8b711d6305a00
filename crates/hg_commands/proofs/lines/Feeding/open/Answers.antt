use Rattle.hg_checkpoint.specs.declared.phase.Phase.TheVariants.{Written}
use Rattle.hg_store.specs.Shown.{IsIn}
use Rattle.hg_commands.proofs.Checkpointed.{step_fails}
use Rattle.hg_commands.proofs.lines.Feeding.open.Goals as goal

pub returns-clause-cause : goal.returns-clause-cause
returns-clause-cause g c =
    let s = c.args.self.now.store in
    step_fails s (IsIn Written s) c.note_step.result c.open_root-done.result c.requires.written.0 c.requires.written.1 c.open_root-done.ensures.done.allowed c.note_step.ensures.told
