use Rattle.hg_checkpoint.specs.declared.phase.Phase.TheVariants.{Prepared, Sealed}
use Rattle.hg_store.specs.Shown.{IsIn}
use Rattle.hg_commands.proofs.Checkpointed.{step_fails, stepped_roots, works_in}
use Rattle.hg_commands.proofs.lines.Feeding.prepare.Goals as goal

pub note_step-requires-clause-stepped : goal.note_step-requires-clause-stepped
note_step-requires-clause-stepped g c =
    stepped_roots g.D.Disk c.of-began.result.value c.args.self.now.store c.prepare_root-done.new.self c.prepare_root-done.result c.of-began.ensures c.prepare_root-done.ensures.slots c.prepare_root-done.ensures.done.committed c.prepare_root-done.ensures.done.pending
    c.prepare_root-done.ensures.device (λ honest. c.prepare_root-done.ensures.images honest)

pub returns-clause-prepared : goal.returns-clause-prepared
returns-clause-prepared g c =
    works_in c.prepare_root-done.new.self c.note_step.new.self.store Prepared c.note_step.result c.prepare_root-done.result c.note_step.ensures.store c.note_step.ensures.answer c.prepare_root-done.ensures.done.works c.prepare_root-done.ensures.done.phase

pub returns-clause-cause : goal.returns-clause-cause
returns-clause-cause g c =
    let s = c.args.self.now.store in
    step_fails s (IsIn Sealed s) c.note_step.result c.prepare_root-done.result c.requires.sealed.0 c.requires.sealed.1 c.prepare_root-done.ensures.done.allowed c.note_step.ensures.told
