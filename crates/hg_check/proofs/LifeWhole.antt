-- What explaining a whole text leads to.
use Rattle.std.proofs.Common.{◌≡◌, ◌+◌, ◌-◌, ℕ, List, [], ◌++◌, Option, None, Some, Result, Ok, Err, refl, sym, ap, ◌∙◌, subst, ⊎_elim, arith}
use Rattle.std.proofs.lemmas.List.{append_assoc}
use Rattle.hg_model.specs.declared.verdict.Refusal.{Refusal}
use Rattle.hg_model.specs.Change.{empty_content}
use Rattle.hg_model.specs.Contents.{Content}
use Rattle.hg_detect.specs.Memory.{content_of}
use Rattle.hg_streams.specs.declared.call.ReadCall.{ReadCall}
use Rattle.hg_streams.specs.declared.call.WriteCall.{WriteCall}
use Rattle.hg_streams.specs.Calls.{given}
use Rattle.hg_wire.specs.declared.reader.Reading.{Reading}
use Rattle.hg_wire.specs.Streams.{ended_readings, readings}
use Rattle.hg_reading.specs.Taking.{AlwaysSettled, ReadBroke, Reads, WasRead}
use Rattle.hg_reading.specs.Whole.{TakesText}
use Rattle.hg_reading.specs.declared.ending.Ending.{Ending}
use Rattle.hg_streams.specs.Holding.{IsDue}
use Rattle.hg_check.specs.Printing.{last_line}
use Rattle.hg_streams.specs.Texts.{line_text}
use Rattle.hg_check.specs.Running.{IsStart, LeadsFrom, StepsTaken}
use Rattle.hg_streams.specs.Faults.{HasCause}
use Rattle.hg_reading.specs.Endings.{ending_of}
use Rattle.hg_streams.specs.Written.{TookFront}
use Rattle.hg_reading.proofs.Inputs.{begins_with}
use Rattle.hg_check.proofs.Ends.{ends_from, from_fresh, passed_on, text_leads}
use Rattle.hg_check.proofs.Running.{due_held, life_of_all}
use Rattle.hg_streams.proofs.Inputs.{none_failed}
use Rattle.hg_streams.proofs.Printed.{front_due, front_more}
use Rattle.hg_check.proofs.Whole.{cause_by_read, cause_of}
use Rattle.hg_check.specs.declared.explain.explaining.Explaining.{Explaining}
use Rattle.hg_check.specs.Explaining.{WroteFrontFrom, explain_text, life_text, word_line}
use Rattle.hg_check.specs.Life.{life, more_text}
use Rattle.hg_check.specs.LifeTaking.{ExplainsLines, IsFresh, due_text}
use Rattle.hg_check.specs.LifeTakingLaws.{events_grow}
use Rattle.hg_check.specs.RaceLife.{TellsLifeFront}
use Rattle.hg_check.specs.Telling.{HasRun, HasRunText}
use Rattle.hg_check.proofs.Told.{life_none}

no_error : (stop : Option Ending) (x : Refusal) → ◌≡◌ {A = Result (Option Ending) Refusal} (Ok stop) (Err x) → ⊥
no_error stop x h = absurd (cc)

-- none was hidden before
from_none : (s : Explaining) (n : ℕ) (lines : List Reading) → IsFresh s
    → life s.asked.word s.asked.form (content_of s.detector) s.more n lines ≡ life s.asked.word s.asked.form (content_of s.detector) 0 n lines
from_none s n lines fresh = ap (λ (k : ℕ). life s.asked.word s.asked.form (content_of s.detector) k n lines) fresh.none

-- the life from the first content on
from_empty : (s : Explaining) (n : ℕ) (lines : List Reading) → IsFresh s → IsStart s.detector
    → life s.asked.word s.asked.form (content_of s.detector) s.more n lines ≡ life s.asked.word s.asked.form empty_content 0 n lines
from_empty s n lines fresh start = from_none s n lines fresh ∙ ap (λ (c : Content). life s.asked.word s.asked.form c 0 n lines) start.content

no_events : (s : Explaining) → IsStart s.detector → (content_of s.detector).events ≡ 0
no_events s start = ap (λ (c : Content). c.events) start.content

told_to : (s t : Explaining) (o p : List WriteCall) (lines rest : List Reading) (stop : Option Ending) (h : ExplainsLines s o lines (Ok stop) t p)
    → life s.asked.word s.asked.form (content_of s.detector) s.more h.adds.count (lines ++ rest) ≡ h.text ++ more_text t.more
told_to s t o p lines rest None h =
    let all : h.adds.count ≡ h.adds.count + 0 = omega arith in
    ap (λ (n : ℕ). life s.asked.word s.asked.form (content_of s.detector) s.more n (lines ++ rest)) all
    ∙ (h.adds.on refl 0 rest ∙ ap (λ x. h.text ++ x) (life_none s.asked.word s.asked.form (content_of t.detector) t.more rest))
told_to s t o p lines rest (Some end) h = h.adds.ends end refl rest

-- The run came to an ending.
pub has_run : (first now : List ReadCall) (s t : Explaining) (o p : List WriteCall) (stop : Option Ending) → IsFresh s → WasRead ExplainsLines AlwaysSettled first now s o (Ok stop) t p
    → HasRun s.detector.sets (content_of s.detector) s.asked.word s.asked.form first now o p s.held.items t.held.items (content_of t.detector) t.more (ending_of stop)
has_run first now s t o p stop fresh w = record {
  told = w.steps.text;
  leads = record {
    leads = record {
      later = w.later;
      since = w.since;
      whole = w.intact;
      needed = record {
        last = w.needed.last;
        earlier = w.needed.earlier;
        newest = w.needed.newest;
        underway = w.needed.underway;
        content = content_of w.needed.now.detector;
        passed = passed_on s.detector w.needed.now.detector (ended_readings (given w.needed.earlier)) w.needed.passed.steps;
      };
      leads = ends_from s.detector t.detector w.later w.lines stop w.steps.steps w.due;
    };
    text = λ input m.
        let rest = begins_with StepsTaken w.later w.lines (Ok stop) input w.due m in
        let count : (content_of t.detector).events - (content_of s.detector).events ≡ w.steps.adds.count = omega (arith, w.steps.adds.counted (no_error stop)) in
        ap (λ (n : ℕ). life s.asked.word s.asked.form (content_of s.detector) 0 n (readings input)) count
        ∙ (ap (λ xs. life s.asked.word s.asked.form (content_of s.detector) 0 w.steps.adds.count xs) rest.1
        ∙ (sym (from_none s w.steps.adds.count (w.lines ++ rest.0) fresh) ∙ told_to s t o p w.lines rest.0 stop w.steps));
  };
  due = λ begun goal h. w.steps.due (no_error stop) begun goal h;
}

-- ---- a run that was broken off

-- what is due in front of the last line
front_last : (head : List ℕ) (s : Explaining) (begun p : List WriteCall) (n : ℕ) (lines : List Reading) (input : List ℕ) (last : Content) (end : Ending) → IsFresh s → readings input ≡ lines
    → last.events ≡ (content_of s.detector).events + n
    → TookFront begun p (head ++ life s.asked.word s.asked.form (content_of s.detector) s.more n lines)
    → TookFront begun p (life_text head s.asked.word s.asked.form (content_of s.detector) input last end)
front_last head s begun p n lines input last end fresh is counted f =
    let c = content_of s.detector in
    let told = life s.asked.word s.asked.form c 0 (last.events - c.events) (readings input) in
    let count : n ≡ last.events - c.events = omega (arith, counted) in
    let same : life s.asked.word s.asked.form c s.more n lines ≡ told = from_none s n lines fresh
    ∙ (ap (λ (k : ℕ). life s.asked.word s.asked.form c 0 k lines) count ∙ ap (λ xs. life s.asked.word s.asked.form c 0 (last.events - c.events) xs) (sym is)) in
    front_more begun p (head ++ told) (line_text (last_line last end)) (life_text head s.asked.word s.asked.form c input last end)
    (append_assoc head told (line_text (last_line last end)))
    (subst (λ x. TookFront begun p (head ++ x)) same f)

front_read : (first now : List ReadCall) (s t : Explaining) (o p : List WriteCall) (x : Refusal) → IsFresh s → WasRead ExplainsLines AlwaysSettled first now s o (Err x) t p
    → WroteFrontFrom s.detector.sets (content_of s.detector) (due_text s) first now o p
front_read first now s t o p x fresh w = record {
  later = w.later;
  since = w.since;
  front = λ input last end m l.
      let c = content_of s.detector in
      let rest = begins_with StepsTaken w.later w.lines (Err x) input w.due m in
      let led = subst (λ xs. LeadsFrom s.detector xs last end) rest.1 l in
      let le = events_grow (readings input) s.detector.sets c last end l in
      let n = last.events - c.events in
      let counted : last.events ≡ c.events + n = omega (arith, le) in
      front_last s.held.items s o p n (w.lines ++ rest.0) input last end fresh rest.1 counted
      (w.steps.front x refl o s.held.items (due_held o s.held.items) n rest.0 last end led counted);
}

front_broke : (first now : List ReadCall) (s t : Explaining) (o p : List WriteCall) (x : Refusal) → IsFresh s → ReadBroke ExplainsLines AlwaysSettled first now s o x t p
    → WroteFrontFrom s.detector.sets (content_of s.detector) (due_text s) first now o p
front_broke first now s t o p x fresh w = record {
  later = w.later;
  since = w.since;
  front = λ input last end m l.
      let head = s.held.items in
      let rest = w.front m.more in
      let is : readings input ≡ w.lines ++ rest.0 = ap readings m.joined ∙ rest.1 in
      let led = w.steps.steps.back refl rest.0 last end (subst (λ xs. LeadsFrom s.detector xs last end) is l) in
      let le = events_grow rest.0 t.detector.sets (content_of t.detector) last end led in
      let n = last.events - (content_of t.detector).events in
      let more = life s.asked.word s.asked.form (content_of t.detector) t.more n rest.0 in
      let counted : last.events ≡ (content_of s.detector).events + (w.steps.adds.count + n) = omega (arith, le, w.steps.adds.counted (no_error None)) in
      let whole : (head ++ w.steps.text) ++ more ≡ head ++ life s.asked.word s.asked.form (content_of s.detector) s.more (w.steps.adds.count + n) (w.lines ++ rest.0) =
      append_assoc head w.steps.text more ∙ ap (λ y. head ++ y) (sym (w.steps.adds.on refl n rest.0)) in
      front_last head s o p (w.steps.adds.count + n) (w.lines ++ rest.0) input last end fresh is counted
      (front_more o p (head ++ w.steps.text) more _ whole
      (front_due o p t.held.items [] (head ++ w.steps.text) (w.steps.due (no_error None) o head (due_held o head))));
}

pub broke : (first now : List ReadCall) (s t : Explaining) (o p : List WriteCall) (x : Refusal) → IsFresh s → Reads ExplainsLines AlwaysSettled first now s o (Err x) t p
    → WroteFrontFrom s.detector.sets (content_of s.detector) (due_text s) first now o p
broke first now s t o p x fresh reads =
    ⊎_elim (λ w. front_read first now s t o p x fresh w) (λ w. front_broke first now s t o p x fresh w) reads

pub broke_cause : (first now : List ReadCall) (s t : Explaining) (o p : List WriteCall) (x : Refusal) → Reads ExplainsLines AlwaysSettled first now s o (Err x) t p → HasCause first now o p x
broke_cause first now s t o p x reads =
    ⊎_elim (λ w. cause_of first now o p x (none_failed first now w.later w.since w.intact) (w.steps.cause x refl)) (λ w. cause_by_read ExplainsLines AlwaysSettled first now s t o p x w w.steps.failures) reads

-- ---- a text in memory

pub has_run_text : (input : List ℕ) (s t : Explaining) (o p : List WriteCall) (stop : Option Ending) → IsFresh s → IsStart s.detector → TakesText ExplainsLines AlwaysSettled input s o (Ok stop) t p
    → HasRunText s.asked.word s.asked.form input o p s.held.items t.held.items (content_of t.detector) t.more (ending_of stop)
has_run_text input s t o p stop fresh start w =
    let count : (content_of t.detector).events ≡ w.steps.adds.count = omega (arith, w.steps.adds.counted (no_error stop), no_events s start) in
    record {
      told = w.steps.text;
      leads = text_leads s.detector t.detector input w.lines w.rest stop start w.joined w.whole w.steps.steps;
      text = ap (λ (n : ℕ). life s.asked.word s.asked.form empty_content 0 n (readings input)) count
          ∙ (ap (λ xs. life s.asked.word s.asked.form empty_content 0 w.steps.adds.count xs) w.joined
          ∙ (sym (from_empty s w.steps.adds.count (w.lines ++ w.rest) fresh start) ∙ told_to s t o p w.lines w.rest stop w.steps));
      due = λ begun goal h. w.steps.due (no_error stop) begun goal h;
    }

pub front_of_text : (input : List ℕ) (s t : Explaining) (o p begun : List WriteCall) (x : Refusal) → IsFresh s → IsStart s.detector → TakesText ExplainsLines AlwaysSettled input s o (Err x) t p
    → IsDue begun o s.held.items [] (line_text (word_line s.asked.word)) → TellsLifeFront input s.asked begun p
front_of_text input s t o p begun x fresh start w due last end l =
    let head = line_text (word_line s.asked.word) in
    let led = subst (λ xs. LeadsFrom s.detector xs last end) w.joined (from_fresh s.detector (readings input) last end start l) in
    let counted : last.events ≡ (content_of s.detector).events + last.events = omega (arith, no_events s start) in
    subst (λ xs. TookFront begun p xs)
    (ap (λ (c : Content). life_text head s.asked.word s.asked.form c input last end) start.content ∙ life_of_all s.asked.word s.asked.form input last end)
    (front_last head s begun p last.events (w.lines ++ w.rest) input last end fresh w.joined counted
    (w.steps.front x refl begun head due last.events w.rest last end led counted))

-- where nothing but the line of the word is held
pub front_of_word : (input : List ℕ) (s : Explaining) (o begun : List WriteCall) → IsDue begun o s.held.items [] (line_text (word_line s.asked.word)) → TellsLifeFront input s.asked begun o
front_of_word input s o begun due last end l =
    front_more begun o (line_text (word_line s.asked.word)) _ (explain_text s.asked.word s.asked.form input last end) refl (front_due begun o s.held.items [] (line_text (word_line s.asked.word)) due)
