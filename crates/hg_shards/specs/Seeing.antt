-- What a part sees of a batch that stands in lists, one event after another.
use Rattle.std.specs.Prelude.{◌≡◌, ℕ, ◌+◌, ◌^◌, ◌<◌, ◌≤◌, List, [], ◌∷◌, length, Option, Result}
use Rattle.hg_model.specs.declared.event.Event.{Event}
use Rattle.hg_model.specs.declared.event.Named.{Named}
use Rattle.hg_model.specs.declared.verdict.Refusal.{Refusal}
use Rattle.hg_cells.specs.contracts.paged.PagedWordsWords.TheImpl as paged
use Rattle.hg_detect.specs.declared.detector.Answer.{Answer}
use Rattle.hg_rules.specs.Counting.{counted_on}
use Rattle.hg_shards.specs.declared.lists.Next.{Next}
use Rattle.hg_shards.specs.declared.lists.Next.TheVariants as next
use Rattle.hg_shards.specs.declared.routes.OwnAccess.{OwnAccess}
use Rattle.hg_shards.specs.declared.routes.Placed.{Placed}
use Rattle.hg_shards.specs.declared.shard.Shard.{Shard}
use Rattle.hg_shards.specs.declared.shards.Cause.{Cause}
use Rattle.hg_shards.specs.declared.shards.Stop.{Stop}
use Rattle.hg_model.specs.Accessing.{access_event}
use Rattle.hg_shards.specs.Batches.{cause_of}
use Rattle.hg_shards.specs.Following.{TakesSeen, named}
use Rattle.hg_shards.specs.Routing.{common_from, is_seen, own_from}
use Rattle.hg_shards.specs.Sharding.{AnswersShard, GrowsTo, IsReady, PassesOthers, PassesOver, WantsOwnRoom}

-- The first event of the list stands behind this place.
abbrev pub BeginsBehind : ℕ → List OwnAccess → Type 0
BeginsBehind place [] = Unit {0}
BeginsBehind place (o ∷ own) = place < o.place

-- The first event of the list does not stand before this place.
abbrev pub NoneBefore : ℕ → List Placed → Type 0
NoneBefore place [] = Unit {0}
NoneBefore place (c ∷ common) = place ≤ c.place

-- What comes next is the first event of one of the lists, by their places.
abbrev pub ComesNext : List OwnAccess → List Placed → Next → Type 0
ComesNext own common next.End = (own ≡ []) × (common ≡ [])
ComesNext own common (next.Own o) = (rest : List OwnAccess) × (own ≡ o ∷ rest) × NoneBefore o.place common
ComesNext own common (next.Common c) = (rest : List Placed) × (common ≡ c ∷ rest) × BeginsBehind c.place own

-- the access of a list, as an event
abbrev pub event_of : OwnAccess → Event
event_of o = access_event o.write (record { t = o.t; at = o.at; len = o.len })

-- an event at a place of a batch that the source numbers from `first` on
abbrev pub at_place : ℕ → ℕ → ℕ → Event → Named
at_place source first place e = record { source = source; number = counted_on first place; event = e }

-- A shard passes over so many events, and is offered the next one.
pub record OffersNext (old : Shard) (source gap : ℕ) (n : Named) (cause : Option Cause) (new : Shard) : Type 0 where
  pub between : Shard
  pub over : PassesOver old source gap between
  pub answer : Result Answer Refusal
  pub cause_is : cause ≡ cause_of answer
  pub answers : AnswersShard between n answer new
  pub passes : PassesOthers between n answer
  pub grows : WantsOwnRoom paged.ghosts between n answer

-- A shard is offered what stands in the lists of its part, and passes over the rest of so many events. Where these are the lists of a
-- batch, it is offered the batch as far as it sees it.
pub record TakesLists (old : Shard) (source first : ℕ) (own : List OwnAccess) (common : List Placed) (count : ℕ) (stop : Option Stop) (new : Shard) : Type 0 where
  pub rest : new ≡ record old { detector = new.detector; log = new.log }
  pub ready : IsReady new
  pub grows : GrowsTo old new
  pub takes : (events : List Event) → own ≡ own_from old.count old.part 0 events → common ≡ common_from 0 events → count ≡ length events → first + length events ≤ 2 ^ 64
      → TakesSeen old (named source first events) (is_seen old.count old.part) stop new
