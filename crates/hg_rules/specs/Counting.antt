-- Several accesses of one source, counted at once.
use Rattle.std.specs.Prelude.{◌≡◌, ℕ, ◌+◌, ◌-◌, ◌^◌, ◌≤◌, ◌==◌, ◌&&◌, nat_le, nat_lt, slice_index, if◌then◌else◌}
use Rattle.hg_model.specs.declared.limits.TheConstants.{GREATEST_SOURCE}
use Rattle.hg_model.specs.Parts.{Parts}

-- a count with so many more, which stays below 2^64
abbrev pub counted_on : ℕ → ℕ → ℕ
counted_on n more = if nat_lt (n + more) (2 ^ 64) then n + more else 2 ^ 64 - 1

-- So many accesses of a source were counted, and nothing else: the events are so many more, and so is the last number of the source,
-- where it is one that a trace may have.
pub record CountsAccesses (old : Parts) (source count : ℕ) (new : Parts) : Type 0 where
  pub rest : new ≡ record old { events = new.events; last = new.last }
  pub events : new.events ≡ counted_on old.events count
  pub last : (s : ℕ) → slice_index new.last s ≡ (if (source == s) && nat_le source GREATEST_SOURCE then counted_on (slice_index old.last s) count else slice_index old.last s)
  pub never_less : old.events ≤ new.events
