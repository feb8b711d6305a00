-- Definition: part of what `explain` promises. What is printed of a trace text, and what was written where a run broke off.
use Rattle.std.specs.Prelude.{◌≡◌, ℕ, ◌-◌, ◌*◌, ◌/◌, List, ◌∷◌, ◌++◌, Result, OnErr, codes}
use Rattle.hg_model.specs.Contents.{Content}
use Rattle.hg_model.specs.Change.{empty_content}
use Rattle.hg_sets.specs.Interning.{Table, first_table}
use Rattle.hg_sets.specs.declared.table.TheConstants.{MOST_SETS}
use Rattle.hg_streams.specs.declared.call.ReadCall.{ReadCall}
use Rattle.hg_streams.specs.declared.call.WriteCall.{WriteCall}
use Rattle.hg_streams.specs.declared.call.WriteCall.TheVariants.{Flushed}
use Rattle.hg_streams.specs.Shown.{Incoming, Outgoing}
use Rattle.hg_wire.specs.Readings.{readings}
use Rattle.hg_wire.specs.Reports.{sixteen_digits}
use Rattle.hg_reading.specs.declared.ending.Ending.{Ending}
use Rattle.hg_check.specs.Checking.{ChecksFrom}
use Rattle.hg_streams.specs.Calls.{MayBe}
use Rattle.hg_check.specs.Printing.{ReadsFrom, last_line}
use Rattle.hg_streams.specs.declared.streams.Streams.{Streams}
use Rattle.hg_streams.specs.Texts.{line_text}
use Rattle.hg_reading.specs.Endings.{status_of}
use Rattle.hg_streams.specs.Written.{Took, TookFront}
use Rattle.hg_check.specs.declared.explain.form.Asked.{Asked}
use Rattle.hg_check.specs.declared.explain.form.Form.{Form}
use Rattle.hg_check.specs.Life.{life, more_text}

-- the first line, by the word's address
abbrev pub word_line : ℕ → List ℕ
word_line w = codes "word 0x" ++ sixteen_digits (4 * w)

-- The text of a word: its address, its life over the accepted lines of the input, and the line at which the input ended.
abbrev pub explain_text : ℕ → Form → List ℕ → Content → Ending → List ℕ
explain_text w form input c end = line_text (word_line w) ++ (life w form empty_content 0 c.events (readings input) ++ line_text (last_line c end))

-- The life of a word from a content on, behind a head: its life over the accepted lines of the input, and the line at which the input
-- ended.
abbrev pub life_text : List ℕ → ℕ → Form → Content → List ℕ → Content → Ending → List ℕ
life_text head w form start input last end =
    head ++ (life w form start 0 (last.events - start.events) (readings input) ++ line_text (last_line last end))

-- What is told of an input, from a table and a content on, by the text that is due for it.
module _ (table : Table) (start : Content) (text : List ℕ → Content → Ending → List ℕ) where
  -- The run came to this ending by what was read. The writer took exactly the text for that input, and was flushed.
  pub record TellsFrom (reads_old reads_new : List ReadCall) (old new : List WriteCall) (end : Ending) : Type 0 where
    pub last : Content
    pub leads : ReadsFrom table start reads_old reads_new last end
    pub printed : (input : List ℕ) → MayBe leads.later input → Took old new (text input last end)
    pub written : List WriteCall
    pub flushed : new ≡ Flushed ∷ written

  -- For each whole input that the reads allow, the written bytes are a front of the text for it.
  pub record WroteFrontFrom (reads_old reads_new : List ReadCall) (old new : List WriteCall) : Type 0 where
    pub later : List ReadCall
    pub since : reads_new ≡ later ++ reads_old
    pub front : (input : List ℕ) (c : Content) (end : Ending) → MayBe later input → ChecksFrom table start input c end → TookFront old new (text input c end)

-- `TellsFrom`, of the text of the word, from the content of an empty trace on.
abbrev pub Explains : ℕ → Form → List ReadCall → List ReadCall → List WriteCall → List WriteCall → Ending → Type 0
Explains w form reads_old reads_new old new end =
    TellsFrom (first_table MOST_SETS) empty_content (explain_text w form) reads_old reads_new old new end

-- `WroteFrontFrom`, of the text of the word, from the content of an empty trace on.
abbrev pub WroteFrontOf : ℕ → Form → List ReadCall → List ReadCall → List WriteCall → List WriteCall → Type 0
WroteFrontOf w form reads_old reads_new old new =
    WroteFrontFrom (first_table MOST_SETS) empty_content (explain_text w form) reads_old reads_new old new

-- `Explains` for what is asked, by the streams.
abbrev pub PrintsLife : {R W : Type 0} → Asked → Incoming R → Incoming R → Outgoing W → Outgoing W → Ending → Type 0
PrintsLife asked reads later writes now end = Explains asked.word asked.form reads.calls later.calls writes.calls now.calls end

-- Where a run failed, what was written is a front of the text for what is asked.
abbrev pub LeavesFront : {T E R W : Type 0} → Result T E → Asked → Incoming R → Incoming R → Outgoing W → Outgoing W → Type 0
LeavesFront r asked reads later writes now = OnErr r (WroteFrontOf asked.word asked.form reads.calls later.calls writes.calls now.calls)

-- the word that has an address, and how its life is to be told
abbrev pub asked_at : ℕ → Form → Asked
asked_at address form = record { word = address / 4; form = form }

-- A status other than 3 says how the run ended, and the text of the word was printed.
abbrev pub EndsWell : {R W V : Type 0} → ℕ → Asked → Streams R W V → Streams R W V → Type 0
EndsWell status asked before after =
    (status ≡ 3 → ⊥)
    → (end : Ending) × (status ≡ status_of end) × PrintsLife asked before.input after.input before.output after.output end

-- The status 3 says that what was written is a front of what was due.
abbrev pub EndsEarly : {R W V : Type 0} → ℕ → Asked → Streams R W V → Streams R W V → Type 0
EndsEarly status asked before after =
    status ≡ 3
    → WroteFrontOf asked.word asked.form before.input.calls after.input.calls before.output.calls after.output.calls

-- what stands behind the last line of an event: how many accesses were not shown, and how the run ended
abbrev pub end_text : ℕ → Content → Ending → List ℕ
end_text more c end = more_text more ++ line_text (last_line c end)
