use Rattle.std.proofs.Common.{ap, refl, subst, sym, ◌∙◌}
use Rattle.std.proofs.lemmas.Result.{IfErr-weaker}
use Rattle.hg_checkpoint.specs.declared.phase.Phase.TheVariants.{Flushing}
use Rattle.hg_store.specs.Shown.{ShownStore}
use Rattle.hg_store.specs.declared.devices.Devices.{Devices}
use Rattle.hg_commands.specs.FeedFaults.{IsCheckpointFault, IsToldBy}
use Rattle.hg_commands.proofs.Checkpointed.{freeze_fails, works_in}
use Rattle.hg_commands.proofs.GivingUp.{turned_by}
use Rattle.hg_store.specs.Runs.{Makes}
use Rattle.hg_store.specs.declared.steps.Step.TheVariants as step
use Rattle.hg_store.specs.declared.steps.StepResult.TheVariants as told
use Rattle.hg_commands.proofs.lines.Feeding.freeze.Goals as goal

pub note_step-requires-clause-made : goal.note_step-requires-clause-made
note_step-requires-clause-made g c =
    let e = c.freeze-done.ensures in
    let r = c.freeze-done.result in
    subst (λ (s : ShownStore g.row.D.Denot). Makes g.D.Disk s c.freeze-done.new.self step.Freeze (told.Frozen r)) (sym c.of-began.ensures) (record {
      done = (
        r,
        refl,
        record {
          done = e.done;
          last = e.last;
          number = e.number;
          frozen = e.frozen;
          turned = e.turned;
          current = e.current;
          counted = e.counted;
          slots = e.slots;
          roots = e.roots;
        },
      );
      failures = e.device;
      content = λ honest. (r, refl, record { live = e.live honest; undamaged = e.undamaged honest });
      images = λ honest. e.images honest;
    })

pub returns-clause-begun : goal.returns-clause-begun
returns-clause-begun g c =
    works_in c.freeze-done.new.self c.note_step.new.self.store Flushing c.note_step.result c.freeze-done.result c.note_step.ensures.store c.note_step.ensures.answer c.freeze-done.ensures.done.works c.freeze-done.ensures.done.phase

pub returns-clause-cause : goal.returns-clause-cause
returns-clause-cause g c =
    let s = c.args.self.now.store in
    let m = c.freeze-done.new.self in
    let now = c.note_step.new.self.store.devices in
    IfErr-weaker c.note_step.result (IsToldBy c.freeze-done.result) (IsCheckpointFault g.D.Disk s now)
    (λ r told. subst (λ (d : Devices g.row.D.Denot). IsCheckpointFault g.D.Disk s d r) (ap (λ (x : ShownStore g.row.D.Denot). x.devices) (sym c.note_step.ensures.store))
    (freeze_fails g.D.Disk s m c.freeze-done.result r c.requires.rests c.stands.ensures.newest c.freeze-done.ensures.done.refused c.freeze-done.ensures.done.allowed c.freeze-done.ensures.undamaged told))
    c.note_step.ensures.told

pub returns-clause-turned : goal.returns-clause-turned
returns-clause-turned g c =
    turned_by c.args.self.now.store c.freeze-done.new.self c.note_step.new.self.store c.note_step.result c.freeze-done.result c.note_step.ensures.store c.note_step.ensures.answer c.freeze-done.ensures.turned
