-- What reading a whole text leads to, by the detector alone.
use Rattle.std.proofs.Common.{◌≡◌, ℕ, List, [], ◌++◌, Option, None, Some, Result, Ok, Err, refl, sym, ap, ◌∙◌, subst, inl, inr, ⊎_elim, arith}
use Rattle.std.proofs.lemmas.List.{append-nil}
use Rattle.hg_model.specs.declared.verdict.Refusal.{Refusal}
use Rattle.hg_model.specs.Change.{empty_content}
use Rattle.hg_model.specs.Contents.{Content}
use Rattle.hg_sets.specs.Interning.{Table, first_table}
use Rattle.hg_detect.specs.declared.detector.Detector.{Detector}
use Rattle.hg_cells.specs.declared.paged.PagedWords.{PagedWords}
use Rattle.hg_detect.specs.Memory.{content_of}
use Rattle.hg_streams.specs.declared.call.ReadCall.{ReadCall}
use Rattle.hg_streams.specs.declared.call.WriteCall.{WriteCall}
use Rattle.hg_streams.specs.Calls.{given}
use Rattle.hg_wire.specs.declared.reader.Reading.{Reading}
use Rattle.hg_wire.specs.Streams.{ended_readings, readings}
use Rattle.hg_reading.specs.Taking.{AlwaysSettled, AreDue, ReadBroke, WasRead}
use Rattle.hg_reading.proofs.Inputs.{begins_with}
use Rattle.hg_reading.specs.declared.ending.Ending.{Ending}
use Rattle.hg_reading.specs.declared.ending.Ending.TheVariants.{Ended}
use Rattle.hg_check.specs.Checking.{LeadsTo}
use Rattle.hg_check.specs.Printing.{EndsByFrom, ReadsFrom, ReadsTo}
use Rattle.hg_check.specs.Running.{HasFew, HasReports, IsStart, LeadsFrom, ReportsGrow, Steps, StepsTaken}
use Rattle.hg_reading.specs.Endings.{ending_of}
use Rattle.hg_check.proofs.Steps.{leads_grow}

-- ---- from a fresh detector

pub checks_from : (d : Detector PagedWords) (lines : List Reading) (last : Content) (end : Ending) → IsStart d → LeadsFrom d lines last end → LeadsTo lines (first_table 262144) empty_content last end
checks_from d lines last end fresh h =
    subst (λ c. LeadsTo lines (first_table 262144) c last end) fresh.content (subst (λ (t : Table). LeadsTo lines t (content_of d) last end) fresh.sets h)

pub from_fresh : (d : Detector PagedWords) (lines : List Reading) (last : Content) (end : Ending) → IsStart d → LeadsTo lines (first_table 262144) empty_content last end → LeadsFrom d lines last end
from_fresh d lines last end fresh h =
    subst (λ (t : Table). LeadsTo lines t (content_of d) last end) (sym fresh.sets) (subst (λ c. LeadsTo lines (first_table 262144) c last end) (sym fresh.content) h)

-- what holds of its table and content holds of the first ones
pub at_start : (d : Detector PagedWords) (P : Table → Content → Type 0) → IsStart d → P d.sets (content_of d) → P (first_table 262144) empty_content
at_start d P fresh h = subst (λ c. P (first_table 262144) c) fresh.content (subst (λ (t : Table). P t (content_of d)) fresh.sets h)

fresh_few : (d : Detector PagedWords) → IsStart d → HasFew (content_of d)
fresh_few d fresh = subst HasFew (sym fresh.content) (omega arith)

-- ---- to an end

pub passed_on : (d e : Detector PagedWords) (lines : List Reading) → Steps d lines (Ok None) e → LeadsFrom d lines (content_of e) Ended
passed_on d e lines h = subst (λ xs. LeadsFrom d xs (content_of e) Ended) (append-nil lines) (h.leads refl [] (content_of e) Ended (refl, refl))

passed_to : (d e : Detector PagedWords) (lines : List Reading) → IsStart d → Steps d lines (Ok None) e → LeadsTo lines (first_table 262144) empty_content (content_of e) Ended
passed_to d e lines fresh h = checks_from d lines (content_of e) Ended fresh (passed_on d e lines h)

ended_to : (d e : Detector PagedWords) (lines rest : List Reading) (end : Ending) → IsStart d → Steps d lines (Ok (Some end)) e
    → LeadsTo (lines ++ rest) (first_table 262144) empty_content (content_of e) end
ended_to d e lines rest end fresh h = checks_from d (lines ++ rest) (content_of e) end fresh (h.ends end refl rest)

-- a text in memory leads there too
pub text_leads : (d e : Detector PagedWords) (input : List ℕ) (lines rest : List Reading) (stop : Option Ending) → IsStart d → readings input ≡ lines ++ rest
    → (◌≡◌ {A = Result (Option Ending) Refusal} (Ok stop) (Ok None) → rest ≡ []) → Steps d lines (Ok stop) e → LeadsTo (readings input) (first_table 262144) empty_content (content_of e) (ending_of stop)
text_leads d e input lines rest None fresh is whole h =
    subst (λ xs. LeadsTo xs (first_table 262144) empty_content (content_of e) Ended) (sym (is ∙ (ap (λ xs. lines ++ xs) (whole refl) ∙ append-nil lines))) (passed_to d e lines fresh h)
text_leads d e input lines rest (Some end) fresh is whole h =
    subst (λ xs. LeadsTo xs (first_table 262144) empty_content (content_of e) end) (sym is) (ended_to d e lines rest end fresh h)

pub ends_from : (d e : Detector PagedWords) (reads : List ReadCall) (lines : List Reading) (stop : Option Ending) → Steps d lines (Ok stop) e
    → AreDue StepsTaken reads lines (Ok stop) → EndsByFrom d.sets (content_of d) reads (content_of e) (ending_of stop)
ends_from d e reads lines None h due =
    ⊎_elim
    (λ met. inl (met.0, met.1, subst (λ xs. LeadsFrom d xs (content_of e) Ended) met.2 (passed_on d e lines h)))
    (λ stopped. absurd (stopped.0 refl))
    due
ends_from d e reads lines (Some end) h due =
    ⊎_elim
    (λ met. inl (
      met.0,
      met.1,
      subst (λ xs. LeadsFrom d xs (content_of e) end) (append-nil lines ∙ met.2) (h.ends end refl []),
    ))
    (λ stopped. inr (λ more. let rest = stopped.1 more in
    subst (λ xs. LeadsFrom d xs (content_of e) end) (sym rest.1) (h.ends end refl rest.0)))
    due

reads_from : (first now : List ReadCall) (d e : Detector PagedWords) (o p : List WriteCall) (stop : Option Ending) → WasRead StepsTaken AlwaysSettled first now d o (Ok stop) e p
    → ReadsFrom d.sets (content_of d) first now (content_of e) (ending_of stop)
reads_from first now d e o p stop w = record {
  later = w.later;
  since = w.since;
  whole = w.intact;
  needed = record {
    last = w.needed.last;
    earlier = w.needed.earlier;
    newest = w.needed.newest;
    underway = w.needed.underway;
    content = content_of w.needed.now;
    passed = passed_on d w.needed.now (ended_readings (given w.needed.earlier)) w.needed.passed;
  };
  leads = ends_from d e w.later w.lines stop w.steps w.due;
}

pub reads_to : (first now : List ReadCall) (d e : Detector PagedWords) (o p : List WriteCall) (stop : Option Ending) → IsStart d → WasRead StepsTaken AlwaysSettled first now d o (Ok stop) e p
    → ReadsTo first now (content_of e) (ending_of stop)
reads_to first now d e o p stop fresh w =
    at_start d (λ t c. ReadsFrom t c first now (content_of e) (ending_of stop)) fresh (reads_from first now d e o p stop w)

-- ---- the reports so far begin those of whatever the whole input may be

front_any : (d e : Detector PagedWords) (lines : List Reading) (r : Result (Option Ending) Refusal) (later : List Reading) (last : Content) (end : Ending)
    → Steps d lines r e → HasFew (content_of d) → LeadsFrom d (lines ++ later) last end → ReportsGrow (content_of e) last
front_any d e lines (Ok None) later last end s few h = leads_grow later e.sets (content_of e) last end (s.few few) (s.back refl later last end h)
front_any d e lines (Ok (Some x)) later last end s few h = s.front (λ is. absurd (cc)) later last end few h
front_any d e lines (Err x) later last end s few h = s.front (λ is. absurd (cc)) later last end few h

pub reports_read : (first now : List ReadCall) (d e : Detector PagedWords) (o p : List WriteCall) (r : Result (Option Ending) Refusal) → IsStart d → WasRead StepsTaken AlwaysSettled first now d o r e p
    → HasReports first now (content_of e)
reports_read first now d e o p r fresh w = record {
  later = w.later;
  since = w.since;
  grows = λ input last end m l.
      let rest = begins_with StepsTaken w.later w.lines r input w.due m in
      front_any d e w.lines r rest.0 last end w.steps (fresh_few d fresh)
      (subst (λ xs. LeadsFrom d xs last end) rest.1 (from_fresh d (readings input) last end fresh l));
}

pub reports_broke : (first now : List ReadCall) (d e : Detector PagedWords) (o p : List WriteCall) (x : Refusal) → IsStart d → ReadBroke StepsTaken AlwaysSettled first now d o x e p → HasReports first now (content_of e)
reports_broke first now d e o p x fresh w = record {
  later = w.later;
  since = w.since;
  grows = λ input last end m l.
      let rest = w.front m.more in
      front_any d e w.lines (Ok None) rest.0 last end w.steps (fresh_few d fresh)
      (subst (λ xs. LeadsFrom d xs last end) (ap readings m.joined ∙ rest.1) (from_fresh d (readings input) last end fresh l));
}
