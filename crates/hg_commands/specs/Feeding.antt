-- What feeding a trace text to a store leads to, and what is printed of it.
use Rattle.std.specs.Prelude.{◌≡◌, ◌⊎◌, ℕ, zero, suc, ◌+◌, ◌-◌, ◌%◌, nat_eq, List, [], ◌∷◌, ◌++◌, length, Option, Some, None, Result, Ok, Err, codes, if◌then◌else◌}
use Rattle.hg_model.specs.declared.event.Event.{Event}
use Rattle.hg_model.specs.declared.event.Named.{Named}
use Rattle.hg_model.specs.declared.verdict.Refusal.TheVariants.{FullSets, FullSlots}
use Rattle.hg_model.specs.declared.verdict.Verdict.{Verdict}
use Rattle.hg_model.specs.declared.verdict.Verdict.TheVariants.{Accept, Duplicate, Refuse}
use Rattle.hg_model.specs.Contents.{Content}
use Rattle.hg_model.specs.Change.{after}
use Rattle.hg_model.specs.Verdicts.{verdict, standing_of}
use Rattle.hg_sets.specs.Interning.{Table}
use Rattle.hg_sets.specs.declared.fault.SetFault.TheVariants.{Full}
use Rattle.hg_wire.specs.declared.line.LineFault.{LineFault}
use Rattle.hg_wire.specs.declared.reader.Reading.{Reading}
use Rattle.hg_detect.specs.Making.{Asks, sets_asked}
use Rattle.hg_reading.specs.declared.ending.Ending.{Ending}
use Rattle.hg_reading.specs.declared.ending.Ending.TheVariants.{Ended, Refused, Bad}
use Rattle.hg_streams.specs.Texts.{line_text, number_text, counts_line}
use Rattle.hg_reading.specs.Endings.{stop_text}

-- the event of the line behind so many others, as its source sent it
abbrev pub sent : ℕ → ℕ → Event → Named
sent source lines e = record { source = source; number = lines + 1; event = e }

-- An accepted event leads on (`later`) from the table with the sets that it asks for and the content after it; where the table has no
-- room for them, or no slot is free for a page, it ends the feeding. An event that was sent before is passed over. An event that the
-- rules refuse ends the feeding.
abbrev pub Answers : Verdict → Table → Content → Named → ℕ → (Table → Content → Type 0) → Content → Ending → Type 0
Answers Accept table c n line later last end =
    ((new : Table) × ((Asks table (sets_asked c n.event) None new × later new (after c n)) ⊎ (Asks table (sets_asked c n.event) (Some Full) new × ((last ≡ c) × (end ≡ Refused line FullSets)))))
    ⊎ ((last ≡ c) × (end ≡ Refused line FullSlots))
Answers (Duplicate k) table c n line later last end = later table c
Answers (Refuse r) table c n line later last end = (last ≡ c) × (end ≡ Refused line r)

abbrev pub IsOffered : Result Event LineFault → ℕ → Table → Content → ℕ → ℕ → (Table → Content → Type 0) → Content → Ending → Type 0
IsOffered (Err fault) source table c lines line later last end = (last ≡ c) × (end ≡ Bad line)
IsOffered (Ok e) source table c lines line later last end = Answers (verdict (standing_of c) (sent source lines e)) table c (sent source lines e) line later last end

-- From this table and content, and after so many event lines, the readings of a source lead to the last content and the ending.
abbrev pub FeedsTo : ℕ → List Reading → Table → Content → ℕ → Content → Ending → Type 0
FeedsTo source [] table c lines last end = (last ≡ c) × (end ≡ Ended)
FeedsTo source (r ∷ later) table c lines last end = IsOffered r.event source table c lines r.line (λ t d. FeedsTo source later t d (lines + 1) last end) last end

-- The content lies on the way of these readings: the first of them lead to it, and the others lead on from it.
pub record LiesOnWay (source : ℕ) (readings : List Reading) (table : Table) (first : Content) (lines : ℕ) (c last : Content) (end : Ending) : Type 0 where
  pub passed : List Reading
  pub rest : List Reading
  pub all : readings ≡ passed ++ rest
  pub before : FeedsTo source passed table first lines c Ended
  pub between : Table
  pub behind : FeedsTo source rest between c (lines + length passed) last end

-- It did not end because no slot was free. All other ends are settled by the text, the table and the content.
abbrev pub HasRoom : Ending → Type 0
HasRoom end = (line : ℕ) → end ≡ Refused line FullSlots → ⊥

-- the line of a commit that made so many events durable
abbrev pub ack_text : ℕ → List ℕ
ack_text events = number_text (codes "ack ") events

-- the lines of commits over so many accepted events: one after each 256th. The store had `events` before.
abbrev pub acks_text : ℕ → ℕ → List ℕ
acks_text events zero = []
acks_text events (suc n) = acks_text events n ++ (if nat_eq (suc n % 256) 0 then ack_text (events + suc n) else [])

-- the last line
abbrev pub feed_end_text : Content → Ending → List ℕ
feed_end_text last Ended = line_text (counts_line last)
feed_end_text last (Refused line refusal) = stop_text (Refused line refusal)
feed_end_text last (Bad line) = stop_text (Bad line)

-- the line of a checkpoint that was made, and none where none was
abbrev pub checkpoint_text : Option ℕ → List ℕ
checkpoint_text None = []
checkpoint_text (Some number) = number_text (codes "checkpoint ") number

-- What `feed` prints between the recovered content and the last one: the line of the last number, the lines of the commits, the line of a
-- checkpoint, and the last line.
abbrev pub feed_text : ℕ → Content → Content → Option ℕ → Ending → List ℕ
feed_text source first last checkpoint end =
    (((number_text (codes "resume ") (first.last source) ++ acks_text first.events (last.events - first.events)) ++ ack_text last.events) ++ checkpoint_text checkpoint) ++ feed_end_text last end
