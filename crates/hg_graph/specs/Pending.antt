-- What is kept of the messages that were sent and not received. (No promise to a reader rests on this file.)
use Rattle.std.specs.Prelude.{◌≡◌, ℕ, nat_eq, true, false, List, Option, None, Some, ◌==◌, if◌then◌else◌}
use Rattle.std.specs.Map.{lookup}
use Rattle.hg_model.specs.declared.segment.Segment.{Segment}
use Rattle.hg_model.specs.Messages.{sent_in, was_received, was_sent}
use Rattle.hg_graph.specs.declared.pending.Pending.{Pending}
use Rattle.hg_graph.specs.Clocks.{IsClock}

-- what is kept of message k
abbrev pub kept_of : List (ℕ × Pending) → ℕ → Option Pending
kept_of entries k = lookup (nat_eq k) entries

-- From then on this is kept of message k, or nothing, and of each other message what was.
abbrev pub Notes : List (ℕ × Pending) → ℕ → Option Pending → List (ℕ × Pending) → Type 0
Notes old k kept new = (j : ℕ) → kept_of new j ≡ (if k == j then kept else kept_of old j)

-- What is kept of message k, which one of these segments sent, is the segment that its send ended and the clock of that segment,
-- among all segments.
pub record IsKeptOf (all segments : List Segment) (k : ℕ) (kept : Pending) : Type 0 where
  pub segment : kept.segment ≡ sent_in segments k
  pub clock : IsClock all kept.segment kept.clock

-- Each message that these segments sent and did not receive is kept, and no other one.
pub record AreKept (all segments : List Segment) (entries : List (ℕ × Pending)) : Type 0 where
  pub each : (k : ℕ) → was_sent segments k ≡ true → was_received segments k ≡ false → (m : Pending) × (kept_of entries k ≡ Some m) × IsKeptOf all segments k m
  pub not_sent : (k : ℕ) → was_sent segments k ≡ false → kept_of entries k ≡ None
  pub received : (k : ℕ) → was_received segments k ≡ true → kept_of entries k ≡ None
  pub sent_first : (k : ℕ) → was_received segments k ≡ true → was_sent segments k ≡ true

-- Each message that was sent and not received is kept, and no other one.
abbrev pub ArePending : List Segment → List (ℕ × Pending) → Type 0
ArePending segments entries = AreKept segments segments entries
