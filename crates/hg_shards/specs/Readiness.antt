-- That shards may be offered events is a fact: it has one proof at most, so a type may carry it as a ghost field.
use Rattle.std.proofs.Props.{props}
use Rattle.std.specs.Coded.{Unit-prop, le_prop, ×_prop}
use Rattle.std.specs.Prelude.{ℕ, List, [], ◌∷◌, All}
use Rattle.hg_cells.specs.declared.cell.Cell.{Cell}
use Rattle.hg_cells.specs.declared.cell.Cell.TheVariants.{Exclusive, New, SharedModified, SharedRead}
use Rattle.hg_cells.specs.Cells.{IsWithin}
use Rattle.hg_shards.specs.declared.shard.Shard.{Shard}
use Rattle.hg_shards.specs.Logging.{NeverFalls}
use Rattle.hg_shards.specs.Sharding.{IsReady}

within_prop : (segments sets : ℕ) (c : Cell) → IsProp (IsWithin segments sets c)
within_prop segments sets New = Unit-prop
within_prop segments sets (Exclusive segment) = le_prop
within_prop segments sets (SharedRead threads locks) = ×_prop le_prop le_prop
within_prop segments sets (SharedModified threads locks) = ×_prop le_prop le_prop

falls_prop : (events : List ℕ) → IsProp (NeverFalls events)
falls_prop [] = hlevel
falls_prop (event ∷ events) = let rest : IsProp (NeverFalls events) = falls_prop events in hlevel (rest, props)

pub all_ready_prop : (shards : List Shard) → IsProp (All IsReady shards)
all_ready_prop shards =
    let within : (segments sets : ℕ) (c : Cell) → IsProp (IsWithin segments sets c) = within_prop in
    let falls : (events : List ℕ) → IsProp (NeverFalls events) = falls_prop in
    hlevel (within, falls, props)
