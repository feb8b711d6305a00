-- The calls of a disk that were made.
use Rattle.std.specs.Prelude.{List, [], ◌∷◌, if◌then◌else◌}
use Rattle.hg_disk.specs.Event.{Event}
use Rattle.hg_disk.specs.Fuse.{is_refusal}

-- all but those that were refused
abbrev pub made : List Event → List Event
made [] = []
made (e ∷ earlier) = if is_refusal e.told.answer then made earlier else e ∷ made earlier
