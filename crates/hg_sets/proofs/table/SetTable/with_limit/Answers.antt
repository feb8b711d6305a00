use Rattle.hg_sets.proofs.Remembering.{joins_none, meets_none}
use Rattle.hg_sets.proofs.table.SetTable.with_limit.Goals as goal

pub invariant_of-result : goal.invariant_of-result
invariant_of-result c =
    record {
      sound = c.in_ok-interner.ensures.sound;
      joins = rw c.in_ok-joins.ensures (joins_none c.in_ok-interner.interner.lists.all);
      meets = rw c.in_ok-meets.ensures (meets_none c.in_ok-interner.interner.lists.all);
    }
