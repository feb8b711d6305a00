-- A batch of events that is offered to a shard, and to the shards of all parts.
use Rattle.std.specs.Prelude.{◌≡◌, ℕ, ◌<◌, ◌++◌, nat_lt, List, [], ◌∷◌, length, reverse, take, slice_get, slice_index_or, Option, Some, None, Result, Ok, Err, if◌then◌else◌}
use Rattle.hg_model.specs.declared.event.Named.{Named}
use Rattle.hg_model.specs.declared.verdict.Refusal.{Refusal}
use Rattle.hg_cells.specs.contracts.paged.PagedWordsWords.TheImpl as paged
use Rattle.hg_detect.specs.declared.detector.Answer.{Answer}
use Rattle.hg_detect.specs.declared.detector.Answer.TheVariants as answers
use Rattle.hg_shards.specs.declared.shard.Shard.{Shard}
use Rattle.hg_shards.specs.declared.shards.Cause.{Cause}
use Rattle.hg_shards.specs.declared.shards.Cause.TheVariants as causes
use Rattle.hg_shards.specs.declared.shards.Stop.{Stop}
use Rattle.hg_shards.specs.Sharding.{AnswersShard, BeginsFor, Follows, GrowsTo, HasOwnSets, IsReady, PassesOthers, WantsOwnRoom}

-- why an event with this answer was not accepted
abbrev pub cause_of : Result Answer Refusal → Option Cause
cause_of (Ok answers.Accepted) = None
cause_of (Ok (answers.Duplicate last)) = Some (causes.Duplicate last)
cause_of (Err r) = Some (causes.Refused r)

-- the stop that comes first, or the first of two at one place
abbrev pub earlier_stop : Option Stop → Option Stop → Option Stop
earlier_stop None other = other
earlier_stop (Some stop) None = Some stop
earlier_stop (Some stop) (Some other) = if nat_lt other.place stop.place then Some other else Some stop

-- the first of several stops
abbrev pub first_stop : List (Option Stop) → Option Stop
first_stop [] = None
first_stop (stop ∷ stops) = earlier_stop stop (first_stop stops)

-- the events of a batch before a stop
abbrev pub before_stop : List Named → Option Stop → List Named
before_stop events None = events
before_stop events (Some stop) = take stop.place events

-- A shard that followed a trace follows it with these events too, and its table and its log have their sets, at their ends.
pub record TakesAll (old : Shard) (events : List Named) (new : Shard) : Type 0 where
  pub rest : new ≡ record old { detector = new.detector; log = new.log }
  pub ready : IsReady new
  pub grows : GrowsTo old new
  pub follows : (trace : List Named) → Follows trace old → Follows (reverse events ++ trace) new
  pub sets : (trace : List Named) → Follows trace old → (limit : ℕ) → HasOwnSets limit trace old → HasOwnSets limit (reverse events ++ trace) new

-- What the offer of an event that was not accepted gives a shard.
pub record RefusesAs (old : Shard) (n : Named) (cause : Cause) (new : Shard) : Type 0 where
  pub answer : Result Answer Refusal
  pub cause_is : cause_of answer ≡ Some cause
  pub answers : AnswersShard old n answer new
  pub passes : PassesOthers old n answer
  pub grows : WantsOwnRoom paged.ghosts old n answer

-- The shard is as it was where there is no stop. At a stop it was offered that event of the batch, and did not accept it.
abbrev pub StopsAs : Shard → List Named → Option Stop → Shard → Type 0
StopsAs old events None new = new ≡ old
StopsAs old events (Some stop) new = (n : Named) × (slice_get events stop.place ≡ Some n) × RefusesAs old n stop.cause new

-- A shard is offered a batch of events in order, up to the first that it does not accept.
pub record TakesBatch (old : Shard) (events : List Named) (stop : Option Stop) (new : Shard) : Type 0 where
  pub between : Shard
  pub takes : TakesAll old (before_stop events stop) between
  pub stops : StopsAs between events stop new

-- Each of several shards is offered the batch, and these are their stops.
abbrev pub EachTakes : List Shard → List Named → List (Option Stop) → List Shard → Type 0
EachTakes [] events [] [] = Unit {0}
EachTakes (old ∷ olds) events (stop ∷ stops) (new ∷ news) = TakesBatch old events stop new × EachTakes olds events stops news
EachTakes olds events stops news = ⊥

-- Each of several shards is offered the batch, and this is the first of their stops.
pub record TakeBatch (olds : List Shard) (events : List Named) (first : Option Stop) (news : List Shard) : Type 0 where
  pub stops : List (Option Stop)
  pub each : EachTakes olds events stops news
  pub first_is : first ≡ first_stop stops

-- The shards are those of the first `made` parts of an empty trace, of `count` parts, in order.
pub record BeginUpTo (made count limit : ℕ) (shards : List Shard) : Type 0 where
  pub count_is : length shards ≡ made
  pub begin : (k : ℕ) (d : Shard) → k < made → BeginsFor count k limit (slice_index_or shards k d)

-- The shards are those of all parts of an empty trace.
abbrev pub AllBegin : ℕ → ℕ → List Shard → Type 0
AllBegin count = BeginUpTo count count
