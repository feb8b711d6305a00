use Rattle.std.proofs.Common.{◌≡◌, false, ◌∙◌, refl, subst, sym}
use Rattle.std.proofs.lemmas.Result.{on_ok_weaker}
use Rattle.hg_checkpoint.specs.declared.phase.Phase.TheVariants.{Flushing}
use Rattle.hg_store.specs.Shown.{ShownStore}
use Rattle.hg_commands.specs.Keeping.{KeepsOn}
use Rattle.hg_commands.proofs.Checkpointed.{step_fails, works_in, wrote_one}
use Rattle.hg_store.specs.Runs.{Makes}
use Rattle.hg_store.specs.declared.steps.Step.TheVariants as step
use Rattle.hg_store.specs.declared.steps.StepResult.TheVariants as told
use Rattle.hg_commands.proofs.lines.Feeding.put.Goals as goal

pub note_step-requires-clause-made : goal.note_step-requires-clause-made
note_step-requires-clause-made g c =
    let e = c.put-done.ensures in
    let r = c.put-done.result in
    subst (λ (s : ShownStore g.row.D.Denot). Makes g.D.Disk s c.put-done.new.self (step.Put c.args.page) (told.Put r)) (sym c.of-began.ensures) (record {
      done = (
        r,
        refl,
        record {
          done = e.done;
          written = e.written;
          stale = e.stale;
          nothing = e.nothing;
          waiting = e.waiting;
          roots = e.roots;
          journals = e.journals;
          counted = e.counted;
          progress = e.progress;
          frozen = e.frozen;
        },
      );
      failures = e.device;
      content = λ honest. e.live honest;
      images = λ honest. e.images honest;
    })

pub returns-clause-flushing : goal.returns-clause-flushing
returns-clause-flushing g c =
    works_in c.put-done.new.self c.note_step.new.self.store Flushing c.note_step.result c.put-done.result c.note_step.ensures.store c.note_step.ensures.answer c.put-done.ensures.done.works
    (on_ok_weaker c.put-done.result (λ same. same ∙ c.requires.flushing.1) c.put-done.ensures.done.phase)

pub returns-clause-written : goal.returns-clause-written
returns-clause-written g c =
    wrote_one c.args.self.now.store c.put-done.new.self c.note_step.new.self.store c.args.page c.note_step.result c.put-done.result c.note_step.ensures.store c.note_step.ensures.answer c.requires.waits c.put-done.ensures.stale c.put-done.ensures.waiting

pub returns-clause-cause : goal.returns-clause-cause
returns-clause-cause g c =
    let s = c.args.self.now.store in
    step_fails s (s.is_broken ≡ false) c.note_step.result c.put-done.result c.requires.flushing.0 c.requires.flushing.0 c.put-done.ensures.done.allowed c.note_step.ensures.told

pub returns-clause-kept : goal.returns-clause-kept
returns-clause-kept g c =
    let calls = c.args.output.now.calls in
    subst (λ (s : ShownStore g.row.D.Denot). KeepsOn g.D.Disk s calls c.args.self.now.moments c.note_step.new.self.store calls c.note_step.new.self.moments) c.of-began.ensures c.note_step.ensures.kept
