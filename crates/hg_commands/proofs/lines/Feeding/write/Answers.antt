use Rattle.hg_checkpoint.specs.declared.phase.Phase.TheVariants.{Prepared, Written}
use Rattle.hg_store.specs.Shown.{IsIn}
use Rattle.hg_commands.proofs.Checkpointed.{stepped_roots, works_in, writing_fails}
use Rattle.hg_commands.proofs.lines.Feeding.write.Goals as goal

pub note_step-requires-clause-stepped : goal.note_step-requires-clause-stepped
note_step-requires-clause-stepped g c =
    stepped_roots g.D.Disk c.of-began.result.value c.args.self.now.store c.write_root-done.new.self c.write_root-done.result c.of-began.ensures c.write_root-done.ensures.slots c.write_root-done.ensures.done.committed c.write_root-done.ensures.done.pending
    c.write_root-done.ensures.device (λ honest. c.write_root-done.ensures.images honest)

pub returns-clause-written : goal.returns-clause-written
returns-clause-written g c =
    works_in c.write_root-done.new.self c.note_step.new.self.store Written c.note_step.result c.write_root-done.result c.note_step.ensures.store c.note_step.ensures.answer c.write_root-done.ensures.done.works c.write_root-done.ensures.done.phase

pub returns-clause-cause : goal.returns-clause-cause
returns-clause-cause g c =
    let s = c.args.self.now.store in
    writing_fails s (IsIn Prepared s) c.note_step.result c.write_root-done.result c.requires.prepared.0 c.requires.prepared.1 c.write_root-done.ensures.done.allowed c.note_step.ensures.told
