use Rattle.std.proofs.Common.{◌∷◌, ◌+◌, drop, sym, subst, true≢false}
use Rattle.hg_sets.specs.Soundness.{HasRoomFor, table_of}
use Rattle.hg_sets.proofs.Reserved.{room_at, room_for_first}
use Rattle.hg_sets.proofs.Restored.{not_new}
use Rattle.hg_sets.proofs.interner.Interner.fill.Goals as goal
use Rattle.hg_sets.proofs.interner.Interner.fill.Goals.{After-as_slice-in-loop-i}

-- there is room for this set, and for all behind it
room : (c : After-as_slice-in-loop-i) → HasRoomFor (c.as_slice-in-loop-i.result.now ∷ drop (c.loop-i.i + 1) c.args.sets.now) c.loop-i.self
room c =
    let sets = c.args.sets.now in
    let here = room_at sets c.loop-i.i c.index-sets-i.result c.loop-i-test.true c.index-sets-i.is c.loop-i.self c.loop-i.invariant.room in
    subst (λ x. HasRoomFor (x ∷ drop (c.loop-i.i + 1) sets) c.loop-i.self) (sym c.as_slice-in-loop-i.ensures) here

pub add-requires-clause-room : goal.add-requires-clause-room
add-requires-clause-room c =
    let here = room (goal.at.add-requires-clause-room c).After-as_slice-in-loop-i in
    room_for_first c.as_slice-in-loop-i.result.now (drop (c.loop-i.i + 1) c.args.sets.now) c.loop-i.self here

pub returns-then-not-add-clause-answer : goal.returns-then-not-add-clause-answer
returns-then-not-add-clause-answer c =
    let refused = not_new c.args.self.now.limit c.loop-i.i c.args.sets.now c.index-sets-i.result c.as_slice-in-loop-i.result.now
    (table_of c.loop-i.self) c.loop-i-test.true c.index-sets-i.is c.as_slice-in-loop-i.ensures c.loop-i.invariant.table
    (λ may. true≢false (sym (c.if-not-add.ensures.answer.1 may))) in
    (λ wrong. absurd (true≢false (sym wrong)), λ are. absurd (refused are))
