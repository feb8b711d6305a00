-- A batch of events of which a shard sees some, and passes over the others.
use Rattle.std.specs.Prelude.{◌≡◌, ℕ, ◌+◌, ◌<◌, ◌≤◌, Bool, true, List, [], ◌∷◌, ◌++◌, reverse, take, slice_get, Option, Some}
use Rattle.hg_model.specs.declared.event.Event.{Event}
use Rattle.hg_model.specs.declared.event.Named.{Named}
use Rattle.hg_model.specs.declared.verdict.Verdict.TheVariants.{Accept}
use Rattle.hg_model.specs.Verdicts.{IsAccepted}
use Rattle.hg_shards.specs.declared.shard.Shard.{Shard}
use Rattle.hg_shards.specs.declared.shards.Stop.{Stop}
use Rattle.hg_shards.specs.Batches.{StopsAs}
use Rattle.hg_shards.specs.Stopping.{accepted_of}
use Rattle.hg_shards.specs.Sharding.{Follows, GoesOn, HasOwnSets, IsReady, verdict_after}

-- the events of one source that it numbers from `first` on
abbrev pub named : ℕ → ℕ → List Event → List Named
named source first [] = []
named source first (e ∷ events) = record { source = source; number = first; event = e } ∷ named source (first + 1) events

-- a trace with so many events of a batch
abbrev pub upto : List Named → List Named → ℕ → List Named
upto events trace p = reverse (take p events) ++ trace

-- A shard was offered those of the first p events of a batch that it sees, accepted each, and passed over the others. Of a trace that it
-- followed before: each event that it saw is accepted by the rules, if those before it are. If all are, it follows the trace with them and
-- has its own sets of it. It has what the trace makes of its words with the first events alone, as far as these are accepted.
pub record SeesUpto (old : Shard) (events : List Named) (sees : Event → Bool) (p : ℕ) (s : Shard) : Type 0 where
  pub rest : s ≡ record old { detector = s.detector; log = s.log }
  pub ready : IsReady s
  pub accepts : (trace : List Named) → Follows trace old → (i : ℕ) (n : Named) → i < p → slice_get events i ≡ Some n → sees n.event ≡ true → IsAccepted (upto events trace i)
      → verdict_after (upto events trace i) n ≡ Accept
  pub follows : (trace : List Named) → Follows trace old → IsAccepted (upto events trace p) → Follows (upto events trace p) s
  pub sets : (trace : List Named) → Follows trace old → IsAccepted (upto events trace p) → (limit : ℕ) → HasOwnSets limit trace old → HasOwnSets limit (upto events trace p) s
  pub goes_on : (trace : List Named) → Follows trace old → (limit : ℕ) → HasOwnSets limit trace old → (i : ℕ) → i ≤ p → IsAccepted (upto events trace i) → GoesOn (upto events trace i) s

-- A shard is offered a batch of which it sees some events, in order, up to the first that it does not accept.
pub record TakesSeen (old : Shard) (events : List Named) (sees : Event → Bool) (stop : Option Stop) (new : Shard) : Type 0 where
  pub between : Shard
  pub took : SeesUpto old events sees (accepted_of events stop) between
  pub stops : StopsAs between events stop new
