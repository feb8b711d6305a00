use Rattle.std.proofs.Common.{sym, subst}
use Rattle.hg_pool.specs.Kept.{Stays}
use Rattle.hg_pool.specs.Sound.{shown_of}
use Rattle.hg_pool.specs.declared.parts.Parts.{Parts}
use Rattle.hg_pool.proofs.Writing.{stays_written}
use Rattle.hg_pool.proofs.parts.Parts.write_unnamed.Goals as goal

pub returns-clause-writes : goal.returns-clause-writes
returns-clause-writes g c =
    let p = c.args.self.now in
    let e = c.write_slot.ensures in
    let n = c.requires in
    record {
      stays = subst (λ (x : Parts g.row.D.Denot). Stays g.D.Disk (shown_of p) (shown_of x)) (sym e.rest)
          (stays_written g.D.Disk (shown_of p) c.write_slot.new.self.file c.args.slot n.not_root n.not_frozen n.not_live e.others e.any_moment e.long e.works e.cause);
      broken = e.broken;
      breaks = e.breaks;
      device = e.device;
      calls = e.calls;
    }
