-- Definition: part of what `explain_behind` promises. What is printed of a word from a content on, the events before which are gone.
use Rattle.std.specs.Prelude.{◌≡◌, ℕ, zero, suc, List, [], ◌++◌, Result, OnErr, codes}
use Rattle.std.specs.Fmt.{decimal}
use Rattle.hg_model.specs.declared.word.WordState.{WordState}
use Rattle.hg_model.specs.Contents.{Content}
use Rattle.hg_detect.specs.declared.detector.Detector.{Detector}
use Rattle.hg_cells.specs.declared.paged.PagedWords.{PagedWords}
use Rattle.hg_detect.specs.Memory.{content_of}
use Rattle.hg_streams.specs.Shown.{Incoming, Outgoing}
use Rattle.hg_streams.specs.Texts.{line_text}
use Rattle.hg_streams.specs.declared.streams.Streams.{Streams}
use Rattle.hg_reading.specs.declared.ending.Ending.{Ending}
use Rattle.hg_reading.specs.Endings.{status_of}
use Rattle.hg_check.specs.declared.explain.form.Asked.{Asked}
use Rattle.hg_check.specs.declared.explain.form.Form.{Form}
use Rattle.hg_check.specs.Explaining.{TellsFrom, WroteFrontFrom, life_text, word_line}
use Rattle.hg_check.specs.Life.{state_text}

-- So many events are no longer kept, after which the word had this state. Where none are gone, nothing is said.
abbrev pub gone_line : ℕ → WordState → List ℕ
gone_line zero state = []
gone_line (suc n) state = line_text ((codes "events 1 to " ++ decimal (suc n)) ++ (codes " are no longer kept ;" ++ state_text state))

-- what is said of the events that a content counts, by the word's state in it
abbrev pub gone_text : ℕ → Content → List ℕ
gone_text w c = gone_line c.events (c.words w)

-- The text of a word from a content on: its address, what is gone, its life over the accepted lines of the input, and the line at which the
-- input ended.
abbrev pub behind_text : ℕ → Form → Content → List ℕ → Content → Ending → List ℕ
behind_text w form start input last end = life_text (line_text (word_line w) ++ gone_text w start) w form start input last end

-- From a detector on, the run came to this ending by what was read, and the text of the word was printed and flushed.
abbrev pub PrintsLife : {R W : Type 0} → Detector PagedWords → Asked → Incoming R → Incoming R → Outgoing W → Outgoing W → Ending → Type 0
PrintsLife d asked reads later writes now end =
    TellsFrom d.sets (content_of d) (behind_text asked.word asked.form (content_of d)) reads.calls later.calls writes.calls now.calls end

-- For each whole input that the reads allow, the written bytes are a front of the text for it.
abbrev pub WroteFront : {R W : Type 0} → Detector PagedWords → Asked → Incoming R → Incoming R → Outgoing W → Outgoing W → Type 0
WroteFront d asked reads later writes now =
    WroteFrontFrom d.sets (content_of d) (behind_text asked.word asked.form (content_of d)) reads.calls later.calls writes.calls now.calls

-- Where a run failed, what was written is a front of the text for what is asked.
abbrev pub LeavesFront : {T E R W : Type 0} → Result T E → Detector PagedWords → Asked → Incoming R → Incoming R → Outgoing W → Outgoing W → Type 0
LeavesFront r d asked reads later writes now = OnErr r (WroteFront d asked reads later writes now)

-- A status other than 3 says how the run ended, and the text of the word was printed.
abbrev pub EndsWell : {R W V : Type 0} → ℕ → Detector PagedWords → Asked → Streams R W V → Streams R W V → Type 0
EndsWell status d asked before after =
    (status ≡ 3 → ⊥)
    → (end : Ending) × (status ≡ status_of end) × PrintsLife d asked before.input after.input before.output after.output end

-- The status 3 says that what was written is a front of what was due.
abbrev pub EndsEarly : {R W V : Type 0} → ℕ → Detector PagedWords → Asked → Streams R W V → Streams R W V → Type 0
EndsEarly status d asked before after = status ≡ 3 → WroteFront d asked before.input after.input before.output after.output
