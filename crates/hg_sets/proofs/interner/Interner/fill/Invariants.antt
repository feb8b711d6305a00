use Rattle.std.proofs.Common.{◌≡◌, take, drop}
use Rattle.hg_sets.specs.Interning.{table_with}
use Rattle.hg_sets.specs.Soundness.{HasRoomFor, IsSound, table_of}
use Rattle.hg_sets.proofs.interner.Interner.fill.Given as goal

-- the first sets stand in the table, and there is memory for the others
abbrev pub invariant-loop-i : goal.invariant-loop-i
invariant-loop-i l = record {
  sound : IsSound l.self;
  table : table_of l.self ≡ table_with l.initial.self.limit (take l.i l.sets);
  room : HasRoomFor (drop l.i l.sets) l.self;
}
