-- What the fields of a table stand for, and what holds of them.
use Rattle.hg_sets.specs.declared.table.SetTable.TheInside.{Inside}
use Rattle.hg_sets.specs.Interning.{Table}
use Rattle.hg_sets.specs.Soundness.{table_of, IsSound}
use Rattle.hg_sets.specs.Remembered.{AreTrueJoins, AreTrueMeets}

-- the table that contracts see, without the remembered answers
abbrev pub shown : Inside → Table
shown t = table_of t.interner

-- the sets are in order, and what is remembered is true
pub record IsConsistent (t : Inside) : Type 0 where
  pub sound : IsSound t.interner
  pub joins : AreTrueJoins t.interner.lists.all t.joins.items
  pub meets : AreTrueMeets t.interner.lists.all t.meets.items
