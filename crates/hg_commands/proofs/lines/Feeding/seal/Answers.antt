use Rattle.hg_checkpoint.specs.declared.phase.Phase.TheVariants.{Sealed}
use Rattle.hg_store.specs.Shown.{IsFlushed}
use Rattle.hg_commands.proofs.Checkpointed.{step_fails, works_in}
use Rattle.hg_commands.proofs.lines.Feeding.seal.Goals as goal

pub returns-clause-sealed : goal.returns-clause-sealed
returns-clause-sealed g c =
    works_in c.seal_pages-done.new.self c.note_step.new.self.store Sealed c.note_step.result c.seal_pages-done.result c.note_step.ensures.store c.note_step.ensures.answer c.seal_pages-done.ensures.done.works c.seal_pages-done.ensures.done.phase

pub returns-clause-cause : goal.returns-clause-cause
returns-clause-cause g c =
    let s = c.args.self.now.store in
    step_fails s (IsFlushed s) c.note_step.result c.seal_pages-done.result c.requires.flushed.0 c.requires.flushed.1 c.seal_pages-done.ensures.done.allowed c.note_step.ensures.told
