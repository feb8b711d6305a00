-- Definition: part of what `explain --race` promises. The life of the word of a kept report, over a text that is in memory.
use Rattle.std.specs.Prelude.{◌≡◌, ℕ, zero, suc, ◌/◌, List, ◌∷◌, ◌++◌, Option, None, Some, codes, slice_get, option_map}
use Rattle.std.specs.Fmt.{decimal}
use Rattle.hg_model.specs.Contents.{Content}
use Rattle.hg_streams.specs.declared.call.ReadCall.{ReadCall}
use Rattle.hg_streams.specs.declared.call.WriteCall.{WriteCall}
use Rattle.hg_streams.specs.declared.call.WriteCall.TheVariants.{Flushed}
use Rattle.hg_streams.specs.declared.streams.Streams.{Streams}
use Rattle.hg_streams.specs.Calls.{MayBe}
use Rattle.hg_streams.specs.Shown.{Incoming, Outgoing}
use Rattle.hg_streams.specs.Texts.{line_text}
use Rattle.hg_streams.specs.Written.{Took, TookFront}
use Rattle.hg_reading.specs.declared.ending.Ending.{Ending}
use Rattle.hg_reading.specs.Endings.{status_of}
use Rattle.hg_reading.specs.Whole.{IsKept}
use Rattle.hg_check.specs.declared.explain.form.Asked.{Asked}
use Rattle.hg_check.specs.declared.explain.form.Form.{Form}
use Rattle.hg_check.specs.Checking.{ChecksTo}
use Rattle.hg_check.specs.Explaining.{explain_text}
use Rattle.hg_check.specs.Printing.{last_line}

-- The word of the report that a content keeps as number k, from 1 on. There is none where it keeps fewer.
abbrev pub word_of_race : ℕ → Content → Option ℕ
word_of_race zero c = None
word_of_race (suc index) c = option_map (λ report. report.word / 4) (slice_get c.reports index)

-- what is printed where no report is kept as number k: that, and the last line of `check`
abbrev pub no_race_text : ℕ → Content → Ending → List ℕ
no_race_text k c end = line_text (codes "no race " ++ decimal k) ++ line_text (last_line c end)

-- what is printed of the word of report k, if there is one: what `explain` prints of that word
abbrev pub race_text_of : Option ℕ → ℕ → Form → List ℕ → Content → Ending → List ℕ
race_text_of None k form input c end = no_race_text k c end
race_text_of (Some w) k form input c end = explain_text w form input c end

abbrev pub race_life : ℕ → Form → List ℕ → Content → Ending → List ℕ
race_life k form input c end = race_text_of (word_of_race k c) k form input c end

-- the status: that of `explain`, or 2 where there is no report k
abbrev pub race_status_of : Option ℕ → Ending → ℕ
race_status_of None end = 2
race_status_of (Some w) end = status_of end

abbrev pub race_status : ℕ → Content → Ending → ℕ
race_status k c end = race_status_of (word_of_race k c) end

-- The writer took exactly the text of the word over these bytes, which lead to this ending, and was flushed.
pub record TellsLife (input : List ℕ) (asked : Asked) (old new : List WriteCall) (end : Ending) : Type 0 where
  pub last : Content
  pub leads : ChecksTo input last end
  pub printed : Took old new (explain_text asked.word asked.form input last end)
  pub written : List WriteCall
  pub flushed : new ≡ Flushed ∷ written

-- What was written is a front of the text of the word over these bytes.
abbrev pub TellsLifeFront : List ℕ → Asked → List WriteCall → List WriteCall → Type 0
TellsLifeFront input asked old new = (c : Content) (end : Ending) → ChecksTo input c end → TookFront old new (explain_text asked.word asked.form input c end)

-- The writer took exactly the text of the word of report k of these bytes, and was flushed; and the status is that of this text.
pub record TellsRace (k : ℕ) (form : Form) (input : List ℕ) (old new : List WriteCall) (status : ℕ) : Type 0 where
  pub last : Content
  pub end : Ending
  pub leads : ChecksTo input last end
  pub status_is : status ≡ race_status k last end
  pub printed : Took old new (race_life k form input last end)
  pub written : List WriteCall
  pub flushed : new ≡ Flushed ∷ written

-- What was written is a front of the text of the word of report k of these bytes.
abbrev pub TellsRaceFront : ℕ → Form → List ℕ → List WriteCall → List WriteCall → Type 0
TellsRaceFront k form input old new = (c : Content) (end : Ending) → ChecksTo input c end → TookFront old new (race_life k form input c end)

-- The input was read to its end, and no further, and the text of the word of report k of its bytes was printed.
abbrev pub PrintsRace : {R W : Type 0} → ℕ → Form → Incoming R → Incoming R → Outgoing W → Outgoing W → ℕ → Type 0
PrintsRace k form reads later writes now status = (input : List ℕ) × IsKept reads.calls later.calls input × TellsRace k form input writes.calls now.calls status

-- A status other than 3 says so, and is that of the text.
abbrev pub EndsWell : {R W V : Type 0} → ℕ → ℕ → Form → Streams R W V → Streams R W V → Type 0
EndsWell status k form before after = (status ≡ 3 → ⊥) → PrintsRace k form before.input after.input before.output after.output status

-- For each whole input that the reads allow, the written bytes are a front of the text for it.
pub record WroteRaceFront (k : ℕ) (form : Form) (reads_old reads_new : List ReadCall) (old new : List WriteCall) : Type 0 where
  pub later : List ReadCall
  pub since : reads_new ≡ later ++ reads_old
  pub front : (input : List ℕ) → MayBe later input → TellsRaceFront k form input old new

-- The same of the calls of an input and of an output.
abbrev pub StoppedInRace : {R W : Type 0} → ℕ → Form → Incoming R → Incoming R → Outgoing W → Outgoing W → Type 0
StoppedInRace k form reads later writes now = WroteRaceFront k form reads.calls later.calls writes.calls now.calls

-- The status 3 says that what was written is a front of what was due.
abbrev pub EndsEarly : {R W V : Type 0} → ℕ → ℕ → Form → Streams R W V → Streams R W V → Type 0
EndsEarly status k form before after = status ≡ 3 → StoppedInRace k form before.input after.input before.output after.output

-- What was found of report k in these bytes: its word, or none, and then the text that says so is held.
pub record IsFound (k : ℕ) (input : List ℕ) (word : Option ℕ) (held : List ℕ) : Type 0 where
  pub last : Content
  pub end : Ending
  pub leads : ChecksTo input last end
  pub is : word ≡ word_of_race k last
  pub none : word ≡ None → held ≡ no_race_text k last end
