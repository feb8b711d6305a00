-- A disk's calls, replayed to compute an image.
use Rattle.std.specs.Prelude.{◌≡◌, ℕ, List, ◌∷◌}
use Rattle.hg_disk.specs.Blots.{limit_of}
use Rattle.hg_disk.specs.Event.{Event}
use Rattle.hg_disk.specs.History.{replay}
use Rattle.hg_disk.specs.Tear.{IsTorn, left_of}
use Rattle.hg_disk.specs.declared.replay.Replay.{Replay}

-- the replay is at the point after these calls
pub record Stands (r : Replay) (start : List ℕ) (events : List Event) : Type 0 where
  pub contents : r.contents.items ≡ (replay start events).contents
  pub torn : IsTorn r.tear start events r.torn.items
  pub left : r.left ≡ left_of (limit_of r.tear) events

-- Wherever the replay was, it has moved on by one call.
abbrev pub StandsAfter : Event → (old new : Replay) → Type 0
StandsAfter e old new = (start : List ℕ) (earlier : List Event) → Stands old start earlier → Stands new start (e ∷ earlier)
