-- How events fill a table of sets, and what table is too small for them.
use Rattle.std.specs.Prelude.{◌≡◌, ◌++◌, ℕ, List, [], ◌∷◌, Some, None}
use Rattle.hg_model.specs.declared.event.Named.{Named}
use Rattle.hg_model.specs.declared.verdict.Verdict.TheVariants.{Accept}
use Rattle.hg_model.specs.Contents.{Content}
use Rattle.hg_model.specs.Verdicts.{verdict, standing_of}
use Rattle.hg_model.specs.Change.{after}
use Rattle.hg_sets.specs.Interning.{Table}
use Rattle.hg_sets.specs.declared.fault.SetFault.TheVariants.{Full}
use Rattle.hg_detect.specs.Making.{Asks, sets_asked}
use Rattle.hg_journals.specs.Journals.{behind}

-- The rules accept the event after this content.
abbrev pub IsAccepted : Content → Named → Type 0
IsAccepted c n = verdict (standing_of c) n ≡ Accept

-- From a content and a table of sets, the events lead to the last content and table; each is accepted after those before
-- it.
abbrev pub Fills : List Named → Content → Table → Content → Table → Type 0
Fills [] c table last filled = (last ≡ c) × (filled ≡ table)
Fills (n ∷ events) c table last filled =
    IsAccepted c n × (mid : Table) × Asks table (sets_asked c n.event) None mid × Fills events (after c n) mid last filled

-- The events that journals keep behind a base: those behind the ones that the first content counts take the first table of
-- sets to this one.
abbrev pub HasSets : (start : Content) (first : Table) (base : ℕ) (events : List Named) (c : Content) (table : Table) → Type 0
HasSets start first base events c table = Fills (behind base start.events events) start first c table

-- A table of sets has no room for the sets of these events. Behind as many as the first content counts come the events
-- `front`, and after these the event `next` asks for a set too many.
pub record IsTooSmall (start : Content) (first : Table) (base : ℕ) (events : List Named) : Type 0 where
  pub front : List Named
  pub next : Named
  pub rest : List Named
  pub begins : behind base start.events events ≡ front ++ next ∷ rest
  pub c : Content
  pub table : Table
  pub fills : Fills front start first c table
  pub accepted : IsAccepted c next
  pub left : Table
  pub full : Asks table (sets_asked c next.event) (Some Full) left
