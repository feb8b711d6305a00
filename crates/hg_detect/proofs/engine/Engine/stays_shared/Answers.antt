use Rattle.std.proofs.Common.{inl, inr, length, subst}
use Rattle.hg_cells.specs.declared.cell.Cell.TheVariants.{SharedModified, SharedRead}
use Rattle.hg_cells.specs.Cells.{IsWithin}
use Rattle.hg_detect.specs.Engine.{actor_of}
use Rattle.hg_detect.proofs.Alike.{modified_stays, read_stays, stays_asked, stays_planned}
use Rattle.hg_detect.proofs.engine.Engine.stays_shared.Goals as goal

pub returns-then-not-write-clause-asked : goal.returns-then-not-write-clause-asked
returns-then-not-write-clause-asked g c = λ keeps.
    let e = c.args.self.now in
    let v = c.in-SharedRead in
    let within = subst (λ x. IsWithin (length e.graph) (length e.sets.sets) x) v.is c.requires.within in
    stays_asked e.graph e.sets (actor_of e c.args.access.now c.args.write) c.args.cell v.threads v.locks (inl v.is) within.0 within.1 (c.keeps_sets.ensures.threads keeps) (c.keeps_sets.ensures.locks keeps)

pub returns-then-not-write-clause-planned : goal.returns-then-not-write-clause-planned
returns-then-not-write-clause-planned g c = λ keeps.
    let e = c.args.self.now in
    let v = c.in-SharedRead in
    let a = actor_of e c.args.access.now c.args.write in
    stays_planned e.graph e.sets.sets a c.args.cell (SharedRead v.threads v.locks) v.is c.requires.within (read_stays e.graph e.sets.sets a v.threads v.locks c.if-not-write.true (c.keeps_sets.ensures.threads keeps) (c.keeps_sets.ensures.locks keeps))

pub returns-in-SharedModified-clause-asked : goal.returns-in-SharedModified-clause-asked
returns-in-SharedModified-clause-asked g c = λ keeps.
    let e = c.args.self.now in
    let v = c.in-SharedModified in
    let within = subst (λ x. IsWithin (length e.graph) (length e.sets.sets) x) v.is c.requires.within in
    stays_asked e.graph e.sets (actor_of e c.args.access.now c.args.write) c.args.cell v.threads v.locks (inr v.is) within.0 within.1 (c.keeps_sets-in-SharedModified.ensures.threads keeps) (c.keeps_sets-in-SharedModified.ensures.locks keeps)

pub returns-in-SharedModified-clause-planned : goal.returns-in-SharedModified-clause-planned
returns-in-SharedModified-clause-planned g c = λ keeps.
    let e = c.args.self.now in
    let v = c.in-SharedModified in
    let a = actor_of e c.args.access.now c.args.write in
    stays_planned e.graph e.sets.sets a c.args.cell (SharedModified v.threads v.locks) v.is c.requires.within (modified_stays e.graph e.sets.sets a v.threads v.locks (c.keeps_sets-in-SharedModified.ensures.threads keeps) (c.keeps_sets-in-SharedModified.ensures.locks keeps))
