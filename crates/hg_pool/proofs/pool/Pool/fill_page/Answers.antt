use Rattle.hg_pool.proofs.Filled.{faithful_filled, frames_within, is_filled, live_filled, still_present}
use Rattle.hg_pool.proofs.pool.Pool.fill_page.Goals as goal

pub returns-clause-cells : goal.returns-clause-cells
returns-clause-cells g c w =
    let p = c.args.self.now in
    let made = is_filled c.args.number c.args.from c.args.to c.args.cell p.frames c.update.new.self.frames c.requires.present c.requires.in_order c.requires.in_page c.update.ensures.frames in
    live_filled g.D.Disk c.args.number c.args.from c.args.to c.args.cell made.0 p c.update.new.self c.update.ensures.rest made.1 w

pub returns-clause-present : goal.returns-clause-present
returns-clause-present g c q is =
    let p = c.args.self.now in
    let made = is_filled c.args.number c.args.from c.args.to c.args.cell p.frames c.update.new.self.frames c.requires.present c.requires.in_order c.requires.in_page c.update.ensures.frames in
    still_present c.args.number c.args.from c.args.to c.args.cell made.0 p.frames c.update.new.self.frames q made.1 is

pub returns-clause-within : goal.returns-clause-within
returns-clause-within g c n m is within =
    let p = c.args.self.now in
    let made = is_filled c.args.number c.args.from c.args.to c.args.cell p.frames c.update.new.self.frames c.requires.present c.requires.in_order c.requires.in_page c.update.ensures.frames in
    frames_within c.args.number c.args.from c.args.to c.args.cell made.0 p.frames c.update.new.self.frames n m made.1 is within

pub returns-clause-faithful : goal.returns-clause-faithful
returns-clause-faithful g c n m is h =
    faithful_filled g.D.Disk c.args.number c.args.from c.args.to c.args.cell c.args.self.now c.update.new.self n m c.update.ensures.went (λ w. returns-clause-cells g c w) is h
