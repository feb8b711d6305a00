-- Contents whose messages, locks and sets have a spelling in a root.
use Rattle.std.specs.Prelude.{◌≡◌, ℕ, List, Option, Some, All}
use Rattle.std.specs.List.{AllByRecursion}
use Rattle.hg_model.specs.declared.event.Named.{Named}
use Rattle.hg_model.specs.Contents.{Content}
use Rattle.hg_model.specs.Change.{after, empty_content, followed}
use Rattle.hg_records.specs.Records.{RecordFits}
use Rattle.hg_sets.specs.Interning.{Table}
use Rattle.hg_sets.specs.declared.fault.SetFault.{SetFault}
use Rattle.hg_detect.specs.Making.{Asks, sets_asked, sets_in}
use Rattle.hg_root.specs.Grammar.{LockFits, MarkFits, SetFits}

-- the messages of the segments, the locks that are held, and the sets of each word
pub record HasSpellings (c : Content) : Type 0 where
  pub messages : All (λ s. MarkFits s.mark) c.segments
  pub locks : All (λ t. All LockFits t.held) c.threads
  pub words : (w : ℕ) → All SetFits (sets_in (c.words w))

-- If each event has a record, the content has spellings.
abbrev pub ContentsHaveSpellings : Type 0
ContentsHaveSpellings = (events : List Named) (c : Content) → AllByRecursion RecordFits events → followed empty_content events ≡ Some c → HasSpellings c

-- A table of sets with spellings keeps them when an event asks for its sets.
abbrev pub TablesHaveSpellings : Type 0
TablesHaveSpellings =
    (c : Content) (n : Named) (old new : Table) (refused : Option SetFault) → HasSpellings (after c n) → Asks old (sets_asked c n.event) refused new
    → All SetFits old.sets → All SetFits new.sets
