use Rattle.hg_store.specs.Shown.{live}
use Rattle.hg_commands.proofs.GivingUp.{counts_all, gives_up, opened_stays, reaches}
use Rattle.hg_commands.proofs.lines.Feeding.make_checkpoint.Goals as goal

pub returns-clause-made : goal.returns-clause-made
returns-clause-made g c honest =
    let same = c.give_up.ensures.same in
    opened_stays g.D.Disk c.make_root.new.self.store.devices c.give_up.new.self.store.devices c.in_ok-number.number (live g.D.Disk c.args.self.now.store) same.slots same.root0 same.root1 (c.in_ok-number.ensures.made honest)

pub returns-clause-given_up : goal.returns-clause-given_up
returns-clause-given_up g c honest =
    let old = c.args.self.now.store in
    let s = c.make_root.new.self.store in
    let counts = counts_all g.D.Disk old s (c.stands.ensures.backs honest) c.requires.rests c.make_root.ensures.stays.committed c.in_ok-number.ensures.counted in
    gives_up g.D.Disk old s c.give_up.new.self.store c.in_ok-give_up.field-0 (c.stands.ensures.kept honest c.requires.rests.0) c.in_ok-number.ensures.turned
    (reaches g.D.Disk s (c.stands-2.ensures.kept honest c.in_ok-number.ensures.works) (c.stands-2.ensures.backs honest) counts)
    c.in_ok-give_up.ensures.retired
