use Rattle.std.proofs.Common.{◌≡◌, Some, Result, Ok, Err, OnErr, subst}
use Rattle.hg_cells.specs.Cells.{meaning}
use Rattle.hg_detect.specs.Engine.{LacksForCell, actor_of}
use Rattle.hg_detect.specs.Making.{Asks, sets_in}
use Rattle.hg_detect.specs.Planning.{Actor, touched_by}
use Rattle.hg_detect.proofs.Growing.{asks_lacks}
use Rattle.hg_detect.proofs.engine.Engine.plan_for.Goals as goal

always_err : {T E P : Type 0} (r : Result T E) → P → OnErr r P
always_err (Ok x) p = tt
always_err (Err e) p = p

pub returns-in_err-plan_word-clause-lacks : goal.returns-in_err-plan_word-clause-lacks
returns-in_err-plan_word-clause-lacks g c =
    let old = c.args.self.now in
    let a = c.args.access.now in
    let acts : record { thread = a.t; segment = c.present.result; write = c.args.write; locks = c.counted-locks.result.now } ≡ actor_of old a c.args.write =
    λ i. record { thread = a.t; segment = c.present.ensures.value i; write = c.args.write; locks = c.counted-locks.ensures.value i } in
    let f = c.in_err-plan_word.field-0.0 in
    let asked : Asks old.sets (sets_in (touched_by old.graph (actor_of old a c.args.write) (meaning old.sets.sets c.args.cell))) (Some f) c.plan_word.new.sets =
    subst (λ (x : Actor). Asks old.sets (sets_in (touched_by old.graph x (meaning old.sets.sets c.args.cell))) (Some f) c.plan_word.new.sets) acts c.in_err-plan_word.ensures.asked in
    let lacks : LacksForCell old a c.args.write c.args.cell = asks_lacks _ old.sets c.plan_word.new.sets f asked in
    always_err c.from_residual.result lacks
