use Rattle.std.proofs.Common.{refl}
use Rattle.hg_rules.proofs.First.{empty_tables, empty_started}
use Rattle.hg_rules.proofs.table.ThreadTable.empty.Goals as goal

pub invariant_of-result : goal.invariant_of-result
invariant_of-result c = empty_tables c.in_ok-empty_slots.field-0.items c.in_ok-vec.field-0.items 1024 65536 refl refl c.in_ok-empty_slots.ensures (c.in_ok-vec.ensures.items_if_clones_equal (λ y h. h))

pub returns : goal.returns
returns c = empty_started c.in_ok-empty_slots.field-0.items 1024 c.in_ok-empty_slots.ensures
