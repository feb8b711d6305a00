use Rattle.std.proofs.Common.{length, sym, ap, arith}
use Rattle.std.proofs.lemmas.Bool.{eqb-false}
use Rattle.hg_sets.specs.Interning.{Table}
use Rattle.hg_sets.proofs.Remembering.{joins_none, meets_none}
use Rattle.hg_sets.proofs.Reserved.{room_behind_first}
use Rattle.hg_sets.proofs.table.SetTable.restore.Goals as goal

pub fill-requires-clause-room : goal.fill-requires-clause-room
fill-requires-clause-room c =
    let made = c.in_ok-interner.ensures in
    let one = ap (λ (t : Table). length t.sets) made.table in
    let some = eqb-false (length c.args.sets.now) 0 (sym c.if-is_empty.ensures) in
    room_behind_first c.args.sets.now c.in-Some.room c.in_ok-interner.interner c.in-Some.ensures.room made.room one (omega (arith, some))

pub invariant_of-result : goal.invariant_of-result
invariant_of-result c =
    record {
      sound = c.if-not-fill.ensures.sound;
      joins = rw c.in_ok-joins.ensures (joins_none c.fill.new.self.lists.all);
      meets = rw c.in_ok-meets.ensures (meets_none c.fill.new.self.lists.all);
    }
