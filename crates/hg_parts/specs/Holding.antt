-- What a batch holds.
use Rattle.std.specs.Prelude.{◌≡◌, ℕ, List, [], ◌∷◌, nat_lt, if◌then◌else◌}
use Rattle.hg_model.specs.declared.event.Event.{Event}
use Rattle.hg_wire.specs.declared.reader.Reading.{Reading}
use Rattle.hg_shards.specs.Pushing.{parts_in}
use Rattle.hg_parts.specs.declared.batch.Batch.{Batch}
use Rattle.hg_parts.specs.Batches.{readings_in}

-- for how many parts it is
abbrev pub parts_of_batch : Batch → ℕ
parts_of_batch b = parts_in b.routes

-- what is read of its lines
abbrev pub readings_held : Batch → List Reading
readings_held b = readings_in b.lines

-- It holds no lines.
pub record HasNone (b : Batch) : Type 0 where
  pub lines : b.lines ≡ []
  pub greatest : b.greatest ≡ 0

-- It holds one line more, behind the others.
pub record HasLine (old : Batch) (line : ℕ) (e : Event) (new : Batch) : Type 0 where
  pub parts : parts_of_batch new ≡ parts_of_batch old
  pub lines : new.lines ≡ record { line = line; event = e } ∷ old.lines
  pub greatest : new.greatest ≡ (if nat_lt old.greatest line then line else old.greatest)
