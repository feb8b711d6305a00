use Rattle.std.proofs.Common.{◌≡◌, ◌<◌, length}
use Rattle.hg_sets.specs.Listing.{first_slot}
use Rattle.hg_sets.proofs.Slots.{IsPassed}
use Rattle.hg_sets.proofs.lists.put_entry.Given as goal

-- nothing was changed, and no slot that was passed is free
abbrev pub invariant-loop : goal.invariant-loop
invariant-loop l = record {
  within : 0 < length l.slots → l.at < length l.slots;
  same : l.slots ≡ l.initial.slots;
  passed : IsPassed l.slots (first_slot (length l.slots) l.hash) l.counter l.at;
}
