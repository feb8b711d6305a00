-- What an accepted event may need memory for.
use Rattle.std.specs.Prelude.{◌⊎◌, ◌<◌, ℕ, length, All, Contains}
use Rattle.hg_model.specs.declared.limits.TheConstants.{MOST_REPORTS}
use Rattle.hg_model.specs.declared.event.Event.{Event}
use Rattle.hg_model.specs.declared.event.Event.TheVariants as event
use Rattle.hg_model.specs.Change.{new_reports}
use Rattle.hg_cells.specs.declared.words.Words as words
use Rattle.hg_cells.specs.Words.{ForOverlapped}
use Rattle.hg_detect.specs.Making.{sets_asked}
use Rattle.hg_detect.specs.Shown.{ShownDetector, content}

module _ {W : Type 0} (g : words.Ghosts W) where
  -- a word that so many bytes overlap is not brought, or not kept
  abbrev pub LacksWords : ShownDetector W → ℕ → ℕ → Type 0
  LacksWords d at len = ¬ ForOverlapped at len (λ w. g.is_brought d.words w × g.is_kept d.words w)

  -- the event asks for a set that the table does not have
  abbrev pub LacksSets : ShownDetector W → Event → Type 0
  LacksSets d e = ¬ All (Contains d.sets.sets) (sets_asked (content g.cell_of d) e)

  -- the event makes a report, and not as many are kept as may be
  abbrev pub KeepsReports : ShownDetector W → Event → Type 0
  KeepsReports d e = (0 < length (new_reports (content g.cell_of d) e)) × (length d.kept < MOST_REPORTS)

  -- an access may make the map, the table or the kept reports grow
  abbrev pub AccessMayGrow : ShownDetector W → ℕ → ℕ → Event → Type 0
  AccessMayGrow d at len e = LacksWords d at len ⊎ (LacksSets d e ⊎ KeepsReports d e)

  -- The event may make something grow. A fork, a join, a send and a receive open segments.
  abbrev pub MayGrow : ShownDetector W → Event → Type 0
  MayGrow d (event.Read a) = AccessMayGrow d a.at a.len (event.Read a)
  MayGrow d (event.Write a) = AccessMayGrow d a.at a.len (event.Write a)
  MayGrow d (event.Alloc b) = LacksWords d b.at b.len
  MayGrow d (event.Free b) = LacksWords d b.at b.len
  MayGrow d (event.Fork p c) = Unit {0}
  MayGrow d (event.Join p c) = Unit {0}
  MayGrow d (event.Send t k) = Unit {0}
  MayGrow d (event.Recv t k) = Unit {0}
  MayGrow d _ = ⊥
