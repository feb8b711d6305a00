use Rattle.hg_store.specs.declared.devices.Devices.{Devices}
use Rattle.hg_migration.proofs.Whole.{former_contents}
use Rattle.hg_migration.proofs.migrating.migrate.Goals as goal

pub returns-in-Ok-clause-contents : goal.returns-in-Ok-clause-contents
returns-in-Ok-clause-contents g c honest =
    let devices : Devices g.row.D.Denot = record {
      journal0 = c.make_journals.new.journal0;
      journal1 = c.make_journals.new.journal1;
      slots = c.args.old.slots;
      root0 = c.args.old.root0;
      root1 = c.args.old.root1;
    } in
    former_contents g.D.Disk (g.D.Disk.state c.args.old.journal).contents devices honest (c.in-Ok.ensures.header honest) c.in-Ok.ensures.made
