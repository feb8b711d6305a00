-- Contents from which accepted events go on: the empty one, those of roots, and those after events on these.
use Rattle.std.specs.Prelude.{◌≡◌, ◌<◌, ◌≤◌, ℕ, List, length, Option, Some, Result, All}
use Rattle.std.specs.List.{AllByRecursion}
use Rattle.hg_model.specs.declared.event.Named.{Named}
use Rattle.hg_model.specs.declared.verdict.Refusal.{Refusal}
use Rattle.hg_model.specs.declared.verdict.Verdict.TheVariants.{Accept}
use Rattle.hg_model.specs.declared.word.WordState.{WordState}
use Rattle.hg_model.specs.declared.word.WordState.TheVariants.{New, Exclusive, SharedRead, SharedModified}
use Rattle.hg_model.specs.Contents.{Content}
use Rattle.hg_model.specs.ThreadSets.{HasThreadSets}
use Rattle.hg_model.specs.Verdicts.{standing_of, verdict}
use Rattle.hg_model.specs.Change.{after, empty_content, followed}
use Rattle.hg_records.specs.Records.{RecordFits}
use Rattle.hg_cells.specs.declared.cell.Cell.{Cell}
use Rattle.hg_cells.specs.Cells.{IsWithin, meaning}
use Rattle.hg_sets.specs.Interning.{AreSets, Table}
use Rattle.hg_sets.specs.declared.fault.SetFault.{SetFault}
use Rattle.hg_detect.specs.Making.{Asks, AsksBy, sets_asked}
use Rattle.hg_detect.specs.Shown.{ShownDetector, content}
use Rattle.hg_pages.specs.Slots.{IsKnown}
use Rattle.hg_root.specs.Checkpoints.{Checkpoint, HasPages}
use Rattle.hg_root.specs.Grammar.{SetFits}
use Rattle.hg_root.specs.Lawful.{IsLawful}
use Rattle.hg_contents.specs.Heads.{FitsARoot}
use Rattle.hg_contents.specs.Images.{content_of}
use Rattle.hg_contents.specs.Lawful.{IsLawfulContent}
use Rattle.hg_contents.specs.Spellings.{HasSpellings}

-- The segment that owns the word is below this number; a shared word has at least two threads.
abbrev pub IsLawfulWord : ℕ → WordState → Type 0
IsLawfulWord segments New = Unit {0}
IsLawfulWord segments (Exclusive s) = s < segments
IsLawfulWord segments (SharedRead threads locks) = 2 ≤ length threads
IsLawfulWord segments (SharedModified threads locks) = 2 ≤ length threads

-- The content obeys the rules of a root, its messages, locks and sets have a spelling, its thread sets are sets of thread numbers, and its words are lawful.
pub record IsLawfulState (c : Content) : Type 0 where
  pub lawful : IsLawfulContent c
  pub spelled : HasSpellings c
  pub sets : HasThreadSets c
  pub words : (w : ℕ) → IsLawfulWord (length c.segments) (c.words w)

-- The empty content is a lawful state.
abbrev pub EmptyIsLawful : Type 0
EmptyIsLawful = IsLawfulState empty_content

-- Each accepted event leads from a lawful state to one.
abbrev pub StatesStayLawful : Type 0
StatesStayLawful = (c : Content) (n : Named) → IsLawfulState c → RecordFits n → verdict (standing_of c) n ≡ Accept → IsLawfulState (after c n)

-- So do several events in turn.
abbrev pub FollowedStayLawful : Type 0
FollowedStayLawful = (c d : Content) (events : List Named) → IsLawfulState c → AllByRecursion RecordFits events → followed c events ≡ Some d → IsLawfulState d

-- The content of a lawful root with its pages is a lawful state.
abbrev pub RootsHaveLawfulStates : Type 0
RootsHaveLawfulStates = (c : Checkpoint) (slots : List ℕ) → IsLawful c.root → HasPages slots c → IsLawfulState (content_of c)

-- A detector fits a root if its content is a lawful state, its sets have spellings, and its reports name sets of the table.
abbrev pub StatesFit : {W : Type 0} → (W → ℕ → Cell) → Type 0
StatesFit {W} cell_of = (d : ShownDetector W) → IsLawfulState (content cell_of d) → AreSets d.sets → All SetFits d.sets.sets → All (λ r. r.threads < length d.sets.sets) d.kept → FitsARoot cell_of d

-- A table of sets with spellings keeps them when an accepted event asks for its sets.
abbrev pub TablesStaySpelled : Type 0
TablesStaySpelled =
    (c : Content) (n : Named) (old new : Table) (refused : Option SetFault) → IsLawfulState c → RecordFits n → verdict (standing_of c) n ≡ Accept → Asks old (sets_asked c n.event) refused new
    → All SetFits old.sets → All SetFits new.sets

-- So it does whatever the answer is, even if memory ran out.
abbrev pub AnswersStaySpelled : Type 0
AnswersStaySpelled =
    (c : Content) (n : Named) (old new : Table) (answer : Result (Unit {0}) Refusal) → IsLawfulState c → RecordFits n → verdict (standing_of c) n ≡ Accept → AsksBy old (sets_asked c n.event) answer new
    → All SetFits old.sets → All SetFits new.sets

-- The cell of a word of a lawful state may go into a slot, if its numbers are within the segments and the sets.
abbrev pub LiveWordsAreKnown : Type 0
LiveWordsAreKnown =
    (c : Content) (segments : ℕ) (sets : List (List ℕ)) (cell : Cell) (w : ℕ) → IsLawfulState c → c.words w ≡ meaning sets cell → IsWithin segments (length sets) cell → IsKnown segments sets cell
