use Rattle.std.proofs.Common.{ℕ, ◌+◌, ◌-◌, ◌<◌, length}
use Rattle.hg_sets.specs.Interning.{StandsAt}
use Rattle.hg_sets.specs.Listing.{IsMet, lists_of}
use Rattle.hg_sets.proofs.lists.find_among.Given as goal

-- the list's number, if it has one, is met from here on
abbrev pub invariant-loop : goal.invariant-loop
invariant-loop l = record {
  within : 0 < length l.slots → l.at < length l.slots;
  ahead : (id : ℕ) → StandsAt (lists_of l.elements l.spans) l.list id → IsMet l.slots (id + 1) l.at (length l.slots - l.counter);
}
