use Rattle.std.proofs.Common.{◌≡◌, length}
use Rattle.hg_sets.specs.Listing.{AreFound, HoldNumbers, lists_of, taken}
use Rattle.hg_sets.proofs.lists.slots_for.Given as goal

-- the first lists are found
abbrev pub invariant-loop-i : goal.invariant-loop-i
invariant-loop-i l = record {
  len : length l.slots.items ≡ l.count;
  numbers : HoldNumbers (length l.spans) l.slots.items;
  one_slot_each : taken l.slots.items ≡ l.i;
  found : AreFound (lists_of l.elements l.spans) l.slots.items l.i;
}
