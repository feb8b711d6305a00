-- A batch in lists, offered to the shards of all parts.
use Rattle.std.specs.Prelude.{◌≡◌, ℕ, List, [], ◌∷◌, Option}
use Rattle.hg_shards.specs.declared.routes.OwnAccess.{OwnAccess}
use Rattle.hg_shards.specs.declared.routes.Placed.{Placed}
use Rattle.hg_shards.specs.declared.shard.Shard.{Shard}
use Rattle.hg_shards.specs.declared.shards.Stop.{Stop}
use Rattle.hg_shards.specs.Batches.{first_stop}
use Rattle.hg_shards.specs.Seeing.{TakesLists}

module _ (source first : ℕ) (common : List Placed) (count : ℕ) where
  -- Each of several shards is offered its list and the common one, and these are their stops.
  abbrev pub EachLists : List Shard → List (List OwnAccess) → List (Option Stop) → List Shard → Type 0
  EachLists [] [] [] [] = Unit {0}
  EachLists (old ∷ olds) (own ∷ lists) (stop ∷ stops) (new ∷ news) = TakesLists old source first own common count stop new × EachLists olds lists stops news
  EachLists olds lists stops news = ⊥

  -- Each of several shards is offered its list and the common one, and this is the first of their stops.
  pub record TakeLists (olds : List Shard) (lists : List (List OwnAccess)) (found : Option Stop) (news : List Shard) : Type 0 where
    pub stops : List (Option Stop)
    pub each : EachLists olds lists stops news
    pub first_is : found ≡ first_stop stops
