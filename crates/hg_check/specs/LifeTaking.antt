-- What explaining a word takes of a trace text, and tells of it.
use Rattle.std.specs.Prelude.{◌≡◌, ◌+◌, ◌<◌, ◌≤◌, ◌^◌, ℕ, List, [], ◌++◌, ◌∷◌, Option, None, Some, Result, Ok, Err, IfErr, OnErr}
use Rattle.hg_model.specs.declared.event.Event.{Event}
use Rattle.hg_model.specs.declared.verdict.Refusal.{Refusal}
use Rattle.hg_model.specs.declared.verdict.Refusal.TheVariants.{OutOfMemory}
use Rattle.hg_model.specs.Contents.{Content}
use Rattle.hg_detect.specs.Memory.{IsWhole, content_of}
use Rattle.hg_streams.specs.declared.call.WriteCall.{WriteCall}
use Rattle.hg_streams.specs.Calls.{failed_writes}
use Rattle.hg_streams.specs.Told.{told}
use Rattle.hg_wire.specs.declared.reader.Reading.{Reading}
use Rattle.hg_reading.specs.declared.ending.Ending.{Ending}
use Rattle.hg_streams.specs.Holding.{IsDue}
use Rattle.hg_check.specs.Running.{LeadsFrom, Steps}
use Rattle.hg_streams.specs.Faults.{HasWriteCause}
use Rattle.hg_streams.specs.Written.{TookFront}
use Rattle.hg_streams.specs.Shown.{Incoming, Outgoing}
use Rattle.hg_check.specs.Explaining.{TellsFrom, WroteFrontFrom, life_text, word_line}
use Rattle.hg_check.specs.declared.explain.explaining.Explaining.{Explaining}
use Rattle.hg_check.specs.declared.explain.form.Form.{Form}
use Rattle.hg_streams.specs.Texts.{line_text}
use Rattle.hg_check.specs.declared.explain.event_line.Accepted.{Accepted}
use Rattle.hg_check.specs.Holding.{event_text}
use Rattle.hg_check.specs.Life.{life, look_of, more_text, told_by}
use Rattle.hg_check.specs.RaceLife.{TellsLifeFront}
use Rattle.hg_check.specs.Telling.{HasRun, HasRunText, Stays, Tells}

-- `look` is how the word looks now, and `more` counts at most as many accesses as events came.
pub record IsReady (s : Explaining) : Type 0 where
  pub whole : IsWhole s.detector
  pub word : s.asked.word < 2 ^ 62
  pub few : s.more ≤ (content_of s.detector).last 0
  pub looks : s.look ≡ look_of ((content_of s.detector).words s.asked.word)

-- So many lines may be offered.
abbrev pub MayTake : Explaining → ℕ → Type 0
MayTake s n = IsReady s × ((content_of s.detector).last 0 + n < 2 ^ 64)

-- These lines added this text to the life of a word. They lead from the content c, with k accesses not shown, to the content d, with j.
pub record Adds (w : ℕ) (form : Form) (c : Content) (k : ℕ) (lines : List Reading) (r : Result (Option Ending) Refusal) (d : Content) (j : ℕ) (text : List ℕ) : Type 0 where
  pub count : ℕ
  pub counted : ((x : Refusal) → r ≡ Err x → ⊥) → d.events ≡ c.events + count
  pub on : r ≡ Ok None → (n : ℕ) (later : List Reading) → life w form c k (count + n) (lines ++ later) ≡ text ++ life w form d j n later
  pub ends : (end : Ending) → r ≡ Ok (Some end) → (later : List Reading) → life w form c k count (lines ++ later) ≡ text ++ more_text j

-- Whatever follows these lines, a front of the life that is due was written.
abbrev pub WroteLifeFront : Explaining → List WriteCall → List Reading → List WriteCall → Type 0
WroteLifeFront s before lines now =
    (first : List WriteCall) (goal : List ℕ) → IsDue first before s.held.items [] goal → (n : ℕ) (later : List Reading) (last : Content) (end : Ending) → LeadsFrom s.detector (lines ++ later) last end
    → last.events ≡ (content_of s.detector).events + n → TookFront first now (goal ++ life s.asked.word s.asked.form (content_of s.detector) s.more n (lines ++ later))

-- Lines were offered, or the held text was printed.
pub record ExplainsLines (old : Explaining) (before : List WriteCall) (lines : List Reading) (r : Result (Option Ending) Refusal) (new : Explaining) (now : List WriteCall) : Type 0 where
  pub asked : new.asked ≡ old.asked
  pub steps : Steps old.detector lines r new.detector
  pub ready : r ≡ Ok None → IsReady old → IsReady new
  pub text : List ℕ
  pub adds : Adds old.asked.word old.asked.form (content_of old.detector) old.more lines r (content_of new.detector) new.more text
  pub due : ((x : Refusal) → r ≡ Err x → ⊥) → (first : List WriteCall) (goal : List ℕ) → IsDue first before old.held.items [] goal → IsDue first now new.held.items [] (goal ++ text)
  pub front : (x : Refusal) → r ≡ Err x → WroteLifeFront old before lines now
  pub cause : (x : Refusal) → r ≡ Err x → HasWriteCause before now x
  pub failures : failed_writes now ≡ told r + failed_writes before

-- Nothing was told of the word so far.
pub record IsFresh (s : Explaining) : Type 0 where
  pub ready : IsReady s
  pub none : s.more ≡ 0

-- What is due: the held text, the life of the word from the present content on, and the line at which the input ends.
abbrev pub due_text : Explaining → List ℕ → Content → Ending → List ℕ
due_text s input last end = life_text s.held.items s.asked.word s.asked.form (content_of s.detector) input last end

-- `look` is how the word looks now.
abbrev pub Looks : Explaining → Type 0
Looks s = s.look ≡ look_of ((content_of s.detector).words s.asked.word)

-- An accepted line was told: the held text grew by what it adds.
abbrev pub TellsLine : Explaining → Reading → Explaining → Type 0
TellsLine old line new =
    Tells old.asked.word old.asked.form (content_of old.detector) old.more line (content_of new.detector) new.more old.held.items new.held.items

-- A line that ended the run changed neither the content nor the held text.
abbrev pub StaysAsTold : Explaining → Explaining → Type 0
StaysAsTold old new = Stays old.detector old.more old.held.items new.detector new.more new.held.items

-- A line was offered. It was accepted, and told if it concerns the word; or it ended the run; or memory was refused.
pub record PassesLine (old : Explaining) (line : Reading) (r : Result (Option Ending) Refusal) (new : Explaining) : Type 0 where
  pub asked : new.asked ≡ old.asked
  pub steps : Steps old.detector (line ∷ []) r new.detector
  pub tells : r ≡ Ok None → TellsLine old line new
  pub looks : r ≡ Ok None → Looks new
  pub stays : (end : Ending) → r ≡ Ok (Some end) → StaysAsTold old new
  pub fault : IfErr r (λ x. x ≡ OutOfMemory)

-- What an event that concerns the word adds where it is shown: how many accesses were not shown before it, and its line.
abbrev pub shown_text : Explaining → Accepted → List ℕ
shown_text s x = more_text s.more ++ event_text s.asked x (content_of s.detector)

-- An event that concerns the word was accepted just now, and was told or counted. Before it the word looked as `old` says, and `from`
-- reports were kept.
abbrev pub TellsEvent : Explaining → ℕ → ℕ → Event → Explaining → Type 0
TellsEvent old from line e new =
    (new.held.items ≡ old.held.items ++ (told_by old.asked.word old.asked.form old.look from (content_of old.detector) old.more line e).0)
    × (new.more ≡ (told_by old.asked.word old.asked.form old.look from (content_of old.detector) old.more line e).1)

-- The line of the word is held, or was written.
abbrev pub HoldsWord : Explaining → List WriteCall → List WriteCall → Type 0
HoldsWord s first now = IsDue first now s.held.items [] (line_text (word_line s.asked.word))

-- A run from here on came to an ending, and what is due was printed and flushed.
abbrev pub TellsDue : {R W : Type 0} → Explaining → Incoming R → Incoming R → Outgoing W → Outgoing W → Ending → Type 0
TellsDue s reads later writes now end =
    TellsFrom s.detector.sets (content_of s.detector) (due_text s) reads.calls later.calls writes.calls now.calls end

-- Where a run from here on failed, what was written is a front of what is due.
abbrev pub LeavesFrontOfDue : {T E R W : Type 0} → Result T E → Explaining → Incoming R → Incoming R → Outgoing W → Outgoing W → Type 0
LeavesFrontOfDue r s reads later writes now =
    OnErr r (WroteFrontFrom s.detector.sets (content_of s.detector) (due_text s) reads.calls later.calls writes.calls now.calls)

-- A run came to an ending, and the life of the word was written or is held.
abbrev pub HasTold : {R W : Type 0} → Explaining → Explaining → Incoming R → Incoming R → Outgoing W → Outgoing W → Ending → Type 0
HasTold old new reads later writes now end =
    HasRun old.detector.sets (content_of old.detector) old.asked.word old.asked.form reads.calls later.calls writes.calls now.calls old.held.items new.held.items (content_of new.detector) new.more end

-- `HasTold` of a text in memory.
abbrev pub HasToldText : {W : Type 0} → List ℕ → Explaining → Explaining → Outgoing W → Outgoing W → Ending → Type 0
HasToldText input old new writes now end =
    HasRunText old.asked.word old.asked.form input writes.calls now.calls old.held.items new.held.items (content_of new.detector) new.more end

-- Where offering a text in memory failed, what was written since the line of the word was held is a front of what was due.
abbrev pub LeavesFrontOfText : {T E W : Type 0} → Result T E → List ℕ → Explaining → Outgoing W → Outgoing W → Type 0
LeavesFrontOfText r input s writes now = (first : List WriteCall) → HoldsWord s first writes.calls → OnErr r (TellsLifeFront input s.asked first now.calls)
