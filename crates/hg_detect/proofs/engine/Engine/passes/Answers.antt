use Rattle.std.proofs.Common.{sym, ◌∙◌}
use Rattle.hg_detect.specs.Engine.{actor_of}
use Rattle.hg_detect.proofs.Plans.{owned_new, owned_on}
use Rattle.hg_detect.proofs.engine.Engine.passes.Goals as goal

pub returns-in-New : goal.returns-in-New
returns-in-New g c = λ passes write.
    let e = c.args.self.now in
    owned_new e.graph e.sets.sets (actor_of e c.args.access.now write) c.args.cell c.in-New.is

pub returns-in-Exclusive : goal.returns-in-Exclusive
returns-in-Exclusive g c = λ passes write.
    let e = c.args.self.now in
    owned_on e.graph e.sets.sets (actor_of e c.args.access.now write) c.args.cell c.in-Exclusive.owner c.in-Exclusive.is (sym c.reaches_now.ensures.value ∙ passes)
