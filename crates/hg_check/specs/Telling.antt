-- For proofs alone: how much of a word's life was told.
use Rattle.std.specs.Prelude.{◌≡◌, ℕ, ◌+◌, ◌-◌, ◌≤◌, suc, List, [], ◌∷◌, ◌++◌}
use Rattle.hg_model.specs.Contents.{Content}
use Rattle.hg_model.specs.Change.{empty_content}
use Rattle.hg_sets.specs.Interning.{Table}
use Rattle.hg_detect.specs.declared.detector.Detector.{Detector}
use Rattle.hg_cells.specs.declared.paged.PagedWords.{PagedWords}
use Rattle.hg_detect.specs.Memory.{content_of}
use Rattle.hg_streams.specs.declared.call.ReadCall.{ReadCall}
use Rattle.hg_streams.specs.declared.call.WriteCall.{WriteCall}
use Rattle.hg_streams.specs.Holding.{IsDue}
use Rattle.hg_wire.specs.declared.reader.Reading.{Reading}
use Rattle.hg_wire.specs.Streams.{readings}
use Rattle.hg_reading.specs.declared.ending.Ending.{Ending}
use Rattle.hg_streams.specs.Calls.{MayBe}
use Rattle.hg_check.specs.Checking.{ChecksTo}
use Rattle.hg_check.specs.Printing.{ReadsFrom}
use Rattle.hg_check.specs.Running.{ReportsGrow}
use Rattle.hg_check.specs.declared.explain.form.Form.{Form}
use Rattle.hg_check.specs.Life.{life, more_text}

-- What an accepted line added to the held text, and to the count of accesses that are not shown.
pub record Tells (w : ℕ) (form : Form) (c : Content) (k : ℕ) (r : Reading) (d : Content) (j : ℕ) (held kept : List ℕ) : Type 0 where
  pub added : List ℕ
  pub held_on : kept ≡ held ++ added
  pub counted : d.events ≡ c.events + 1
  pub few : k ≤ c.last 0 → j ≤ d.last 0
  pub text : (n : ℕ) (later : List Reading) → life w form c k (suc n) (r ∷ later) ≡ added ++ life w form d j n later

-- A line that ended the run changed neither the content nor the held text.
pub record Stays (before : Detector PagedWords) (k : ℕ) (held : List ℕ) (now : Detector PagedWords) (j : ℕ) (kept : List ℕ) : Type 0 where
  pub content : content_of now ≡ content_of before
  pub more : j ≡ k
  pub text : kept ≡ held
  pub reports : ReportsGrow (content_of before) (content_of now)

-- What all reads led to from a table and a content on, and what was told of it.
pub record HasToldAll (table : Table) (start : Content) (w : ℕ) (form : Form) (first now : List ReadCall) (c : Content) (end : Ending) (k : ℕ) (told : List ℕ) : Type 0 where
  pub leads : ReadsFrom table start first now c end
  pub text : (input : List ℕ) → MayBe leads.later input → life w form start 0 (c.events - start.events) (readings input) ≡ told ++ more_text k

-- From a table and a content on, the run came to an ending, and what was told of it was written or is held.
pub record HasRun (table : Table) (start : Content) (w : ℕ) (form : Form) (reads_old reads_new : List ReadCall) (old now : List WriteCall) (held kept : List ℕ) (c : Content) (k : ℕ) (end : Ending) : Type 0 where
  pub told : List ℕ
  pub leads : HasToldAll table start w form reads_old reads_new c end k told
  pub due : (first : List WriteCall) (goal : List ℕ) → IsDue first old held [] goal → IsDue first now kept [] (goal ++ told)

-- The lines of a text were offered, up to an ending, and what was told of it was written or is held.
pub record HasRunText (w : ℕ) (form : Form) (input : List ℕ) (old now : List WriteCall) (held kept : List ℕ) (c : Content) (k : ℕ) (end : Ending) : Type 0 where
  pub told : List ℕ
  pub leads : ChecksTo input c end
  pub text : life w form empty_content 0 c.events (readings input) ≡ told ++ more_text k
  pub due : (first : List WriteCall) (goal : List ℕ) → IsDue first old held [] goal → IsDue first now kept [] (goal ++ told)
