-- The lines that `explain` reads of a store are read as their events.
use Rattle.std.specs.Prelude.{◌≡◌, ℕ, List, [], ◌∷◌, ◌++◌}
use Rattle.hg_model.specs.declared.event.Event.{Event}
use Rattle.hg_wire.specs.declared.verb.Verb.{Verb}
use Rattle.hg_wire.specs.Lines.{IsLine}
use Rattle.hg_wire.specs.Verbs.{Makes}
use Rattle.hg_tasks.specs.Lines.{event_line}

-- The text is one line of a trace, with its line feed, and spells the event.
pub record IsLineOf (text : List ℕ) (event : Event) : Type 0 where
  pub line : List ℕ
  pub is : text ≡ line ++ 10 ∷ []
  pub spells : IsLine line event

-- The line of each event that a verb makes of numbers that fit it is read as that event.
abbrev pub LinesAreRead : Type 0
LinesAreRead = (verb : Verb) (numbers : List ℕ) (event : Event) → Makes verb numbers event → IsLineOf (event_line event) event
