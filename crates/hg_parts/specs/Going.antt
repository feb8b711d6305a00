-- What lines lead to where one detector accepts them, and what a judge comes to that they are offered to.
use Rattle.std.specs.Prelude.{◌≡◌, List, [], ◌∷◌, ◌++◌, Option, Some, None, Result, Ok, Err}
use Rattle.hg_model.specs.declared.event.Event.{Event}
use Rattle.hg_model.specs.declared.verdict.Refusal.{Refusal}
use Rattle.hg_model.specs.declared.verdict.Verdict.TheVariants.{Accept}
use Rattle.hg_model.specs.Contents.{Content}
use Rattle.hg_model.specs.Change.{after}
use Rattle.hg_model.specs.Verdicts.{standing_of, verdict}
use Rattle.hg_sets.specs.Interning.{Table}
use Rattle.hg_detect.specs.Making.{Asks, sets_asked}
use Rattle.hg_wire.specs.declared.line.LineFault.{LineFault}
use Rattle.hg_wire.specs.declared.reader.Reading.{Reading}
use Rattle.hg_reading.specs.declared.ending.Ending.{Ending}
use Rattle.hg_shards.specs.declared.judge.Judge.{Judge}
use Rattle.hg_shards.specs.Judging.{HasReports, IsAt}
use Rattle.hg_check.specs.Checking.{LeadsTo, next_named}

-- The line has an event, which one detector accepts as the next one of source 0; `later` holds of the content and the table behind it.
abbrev pub PassesOne : Result Event LineFault → Content → Table → (Content → Table → Type 0) → Type 0
PassesOne (Err fault) c table later = ⊥
PassesOne (Ok e) c table later =
    (verdict (standing_of c) (next_named c e) ≡ Accept) × (mid : Table) × Asks table (sets_asked c e) None mid × later (after c (next_named c e)) mid

-- From this content and table one detector accepts the events of the lines in order, and they lead to the last content and table.
abbrev pub Passes : List Reading → Content → Table → Content → Table → Type 0
Passes [] c table last filled = (last ≡ c) × (filled ≡ table)
Passes (r ∷ later) c table last filled = PassesOne r.event c table (λ d t. Passes later d t last filled)

-- Whatever follows these lines, they end the run in this way, and accept no event.
abbrev pub Stops : List Reading → Content → Table → Ending → Type 0
Stops lines c table end = (later : List Reading) → LeadsTo (lines ++ later) table c c end

-- The judge stands at this content and table, and all events so far are of source 0.
pub record At (c : Content) (table : Table) (j : Judge) : Type 0 where
  pub is_at : IsAt c table j
  pub counted : c.last 0 ≡ c.events

-- The judge stands somewhere.
abbrev pub IsSomewhere : Judge → Type 0
IsSomewhere j = (c : Content) × (table : Table) × At c table j

-- What the judge came to, by the answer: it stands at the last content and table, and these lines are not judged yet; or the first of the
-- lines that are left ended the run, and it has all reports up to there; or memory was refused.
abbrev pub Comes : Result (Option Ending) Refusal → List Reading → List Reading → Content → Table → Judge → Type 0
Comes (Ok None) left kept last filled j = (left ≡ kept) × At last filled j
Comes (Ok (Some end)) left kept last filled j = Stops left last filled end × HasReports last j
Comes (Err r) left kept last filled j = Unit {0}

-- Lines that were due were judged, and lead to the last content and table. `kept` are those that are still due where each was passed.
pub record Goes (c : Content) (table : Table) (due : List Reading) (r : Result (Option Ending) Refusal) (kept : List Reading) (j : Judge) : Type 0 where
  pub judged : List Reading
  pub left : List Reading
  pub last : Content
  pub filled : Table
  pub joined : due ≡ judged ++ left
  pub passes : Passes judged c table last filled
  pub comes : Comes r left kept last filled j

-- From wherever the judge stands, the lines go there.
abbrev pub GoesFrom : Judge → List Reading → Result (Option Ending) Refusal → List Reading → Judge → Type 0
GoesFrom old due r kept new = (c : Content) (table : Table) → At c table old → Goes c table due r kept new
