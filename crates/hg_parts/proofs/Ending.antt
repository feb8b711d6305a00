-- What reading a whole text leads to, and what was printed of it.
use Rattle.std.proofs.Common.{◌≡◌, ℕ, ◌+◌, ◌^◌, List, [], ◌∷◌, ◌++◌, length, Option, None, Some, Result, Ok, Err, OnOk, refl, sym, ap, ◌∙◌, subst, inl, inr, ⊎_elim, arith}
use Rattle.std.specs.Bool.{⊤}
use Rattle.std.proofs.lemmas.List.{append-nil, append_assoc, length-take}
use Rattle.hg_model.specs.declared.event.Event.{Event}
use Rattle.hg_model.specs.declared.verdict.Refusal.{Refusal}
use Rattle.hg_model.specs.declared.verdict.Refusal.TheVariants.{FullSets}
use Rattle.hg_model.specs.declared.verdict.Verdict.{Verdict}
use Rattle.hg_model.specs.declared.verdict.Verdict.TheVariants.{Accept, Duplicate, Refuse}
use Rattle.hg_model.specs.Change.{after, empty_content, new_reports}
use Rattle.hg_model.specs.Contents.{Content}
use Rattle.hg_model.specs.Verdicts.{standing_of, verdict}
use Rattle.hg_sets.specs.Interning.{Table, first_table}
use Rattle.hg_sets.specs.declared.table.TheConstants.{MOST_SETS}
use Rattle.hg_wire.specs.declared.line.LineFault.{LineFault}
use Rattle.hg_wire.specs.declared.line.LineFault.TheVariants.{Verb}
use Rattle.hg_wire.specs.declared.reader.Reading.{Reading}
use Rattle.hg_wire.specs.Reports.{end_line}
use Rattle.hg_wire.specs.Streams.{readings}
use Rattle.hg_streams.specs.declared.call.ReadCall.{ReadCall}
use Rattle.hg_streams.specs.declared.call.WriteCall.{WriteCall}
use Rattle.hg_streams.specs.declared.listing.Listing.TheVariants.{Reports}
use Rattle.hg_streams.specs.Calls.{failed_writes}
use Rattle.hg_streams.specs.Faults.{HasCause, HasWriteCause}
use Rattle.hg_streams.specs.Texts.{line_text, reports_text}
use Rattle.hg_streams.specs.Written.{TookFront}
use Rattle.hg_streams.proofs.Inputs.{none_failed}
use Rattle.hg_streams.proofs.Printed.{due_at_first}
use Rattle.hg_reading.specs.declared.ending.Ending.{Ending}
use Rattle.hg_reading.specs.declared.ending.Ending.TheVariants.{Bad, Ended, Refused}
use Rattle.hg_reading.specs.Endings.{ending_of}
use Rattle.hg_reading.specs.Taking.{AreDue, ReadBroke, Reads, WasRead}
use Rattle.hg_reading.proofs.Inputs.{begins_with}
use Rattle.hg_shards.specs.declared.judge.Judge.{Judge}
use Rattle.hg_shards.specs.Judging.{HasReports, IsAt}
use Rattle.hg_check.specs.Checking.{Answered, IsRead, LeadsTo, next_named}
use Rattle.hg_check.specs.Printing.{EndsByFrom, ReadsFrom, WroteFront, check_text, last_line}
use Rattle.hg_check.specs.Running.{HasFew, HasReports as GrowInto, ReportsGrow}
use Rattle.hg_check.proofs.Fronts.{wrote_check, wrote_live}
use Rattle.hg_check.proofs.Steps.{leads_grow}
use Rattle.hg_check.proofs.Whole.{cause_by_read, cause_of}
use Rattle.hg_parts.specs.declared.checking.PartsChecking.{PartsChecking}
use Rattle.hg_parts.specs.declared.sink.PartsSink.{PartsSink}
use Rattle.hg_parts.specs.Going.{At, Passes, PassesOne, Stops}
use Rattle.hg_parts.specs.GoingLaws.{events_at}
use Rattle.hg_parts.specs.Running.{Came, StandsBy}
use Rattle.hg_parts.specs.Stopping.{bad_at}
use Rattle.hg_parts.specs.Taking.{Comes, HasPrinted, IsFresh, IsSettled, MayTake, PrintsAllOf, pending}
use Rattle.hg_parts.proofs.Going.{leads_behind, leads_from_behind}
use Rattle.hg_parts.proofs.Sinking.{seen}
use Rattle.hg_parts.proofs.Taking.{Rests, front_now, has_reports}

-- ---- lines, where none was pending

due_lines : (s : PartsChecking) (lines judged left : List Reading) → pending s ≡ [] → pending s ++ lines ≡ judged ++ left → lines ≡ judged ++ left
due_lines s lines judged left none is = ap (λ xs. xs ++ lines) (sym none) ∙ is

-- each was passed, and is judged
pub all_passed : (s u : PartsChecking) (o p : List WriteCall) (lines : List Reading) (c : Content) (t : Table) → pending s ≡ [] → (come : Comes s o lines (Ok None) u p c t) → IsSettled u → LeadsTo lines t c come.went.last Ended
all_passed s u o p lines c t none come settled =
    let w = come.went in
    let whole : lines ≡ w.judged ++ [] = due_lines s lines w.judged w.left none w.joined ∙ ap (λ xs. w.judged ++ xs) (w.comes.0 ∙ settled) in
    subst (λ xs. LeadsTo xs t c w.last Ended) (sym whole) (leads_behind w.judged [] c w.last w.last t w.filled Ended w.passes (refl, refl))

-- one ended the run, whatever follows
pub one_stopped : (s u : PartsChecking) (o p : List WriteCall) (lines : List Reading) (end : Ending) (c : Content) (t : Table) → pending s ≡ [] → (come : Comes s o lines (Ok (Some end)) u p c t) → (rest : List Reading)
    → LeadsTo (lines ++ rest) t c come.went.last end
one_stopped s u o p lines end c t none come rest =
    let w = come.went in
    let whole : lines ++ rest ≡ w.judged ++ (w.left ++ rest) = ap (λ xs. xs ++ rest) (due_lines s lines w.judged w.left none w.joined) ∙ append_assoc w.judged w.left rest in
    subst (λ xs. LeadsTo xs t c w.last end) (sym whole) (leads_behind w.judged (w.left ++ rest) c w.last w.last t w.filled end w.passes (w.comes.0 rest))

-- ---- reports

few_after : (c : Content) (e : Event) → HasFew (after c (next_named c e))
few_after c e = omega (arith, length-take 65536 (c.reports ++ new_reports c e))

few_one : (event : Result Event LineFault) (c d : Content) (t : Table) (later : Content → Table → Type 0) → ((e : Content) (v : Table) → HasFew e → later e v → HasFew d) → PassesOne event c t later → HasFew d
few_one (Err fault) c d t later on h = absurd h
few_one (Ok e) c d t later on h = on (after c (next_named c e)) h.1 (few_after c e) h.3

passes_few : (lines : List Reading) (c d : Content) (t u : Table) → HasFew c → Passes lines c t d u → HasFew d
passes_few [] c d t u few h = subst HasFew (sym h.0) few
passes_few (r ∷ lines) c d t u few h = few_one r.event c d t (λ e v. Passes lines e v d u) (λ e v k g. passes_few lines e d v u k g) h

-- those of the lines that were judged begin those of all that may follow
pub reports_first : (s u : PartsChecking) (o p : List WriteCall) (lines : List Reading) (r : Result (Option Ending) Refusal) (c : Content) (t : Table) → pending s ≡ [] → HasFew c → (come : Comes s o lines r u p c t)
    → (rest : List Reading) (last : Content) (end : Ending) → LeadsTo (lines ++ rest) t c last end → ReportsGrow come.went.last last
reports_first s u o p lines r c t none few come rest last end h =
    let w = come.went in
    let whole : lines ++ rest ≡ w.judged ++ (w.left ++ rest) = ap (λ xs. xs ++ rest) (due_lines s lines w.judged w.left none w.joined) ∙ append_assoc w.judged w.left rest in
    leads_grow (w.left ++ rest) w.filled w.last last end (passes_few w.judged c w.last t w.filled few w.passes)
    (leads_from_behind w.judged (w.left ++ rest) c w.last last t w.filled end w.passes (subst (λ xs. LeadsTo xs t c last end) whole h))

-- ---- no line ends a run as the end of its input does

not_bad : (line : ℕ) → Ended ≡ Bad line → ⊥
not_bad line h = absurd (cc)

not_refused : (line : ℕ) (r : Refusal) → Ended ≡ Refused line r → ⊥
not_refused line r h = absurd (cc)

answered_never : (v : Verdict) (t : Table) (c last : Content) (e : Event) (line : ℕ) (later : Table → Content → Type 0) → ((u : Table) (d : Content) → later u d → ⊥) → Answered v t c e line later last Ended → ⊥
answered_never Accept t c last e line later on h = ⊎_elim (λ went. on h.0 (after c (next_named c e)) went.1) (λ full. not_refused line FullSets full.1.1) h.1
answered_never (Duplicate n) t c last e line later on h = h
answered_never (Refuse r) t c last e line later on h = not_refused line r h.1

read_never : (event : Result Event LineFault) (t : Table) (c last : Content) (line : ℕ) (later : Table → Content → Type 0) → ((u : Table) (d : Content) → later u d → ⊥) → IsRead event t c line later last Ended → ⊥
read_never (Err fault) t c last line later on h = not_bad line h.1
read_never (Ok e) t c last line later on h = answered_never (verdict (standing_of c) (next_named c e)) t c last e line later on h

-- a bad line may follow
bad_ends : (lines : List Reading) (line : ℕ) (fault : LineFault) (t : Table) (c last : Content) → LeadsTo (lines ++ bad_at line fault ∷ []) t c last Ended → ⊥
bad_ends [] line fault t c last h = not_bad line h.1
bad_ends (r ∷ lines) line fault t c last h = read_never r.event t c last r.line (λ u d. LeadsTo (lines ++ bad_at line fault ∷ []) u d last Ended) (λ u d k. bad_ends lines line fault u d last k) h

never_stops : (left : List Reading) (last : Content) (filled : Table) → Stops left last filled Ended → ⊥
never_stops left last filled h = bad_ends left 0 Verb filled last last (h (bad_at 0 Verb ∷ []))

-- ---- at first

pub may_begin : (s : PartsChecking) → IsFresh s → MayTake s (2 ^ 54)
may_begin s fresh =
    let none : s.judge.events ≡ 0 = events_at empty_content (first_table MOST_SETS) s.judge fresh.at in
    let nothing : length (pending s) ≡ 0 = ap (λ (xs : List Reading). length xs) fresh.none in
    (fresh.fit, (empty_content, first_table MOST_SETS, fresh.at), omega (arith, none, nothing))

pub printed_first : (s : PartsChecking) (known : List WriteCall) → IsFresh s → HasPrinted known s known empty_content
printed_first s known fresh = record { front = []; rest = []; grow = refl; count = fresh.printed; read = fresh.read; due = due_at_first known s.held.items fresh.held }

no_error : (stop : Option Ending) (x : Refusal) → ◌≡◌ {A = Result (Option Ending) Refusal} (Ok stop) (Err x) → ⊥
no_error stop x h = absurd (cc)

few_at_first : HasFew empty_content
few_at_first = omega arith

-- ---- how a judge stands at the end

pub reports_known : (end : Ending) (c : Content) (j : Judge) → StandsBy end c j → HasReports c j
reports_known Ended c j h = has_reports c h.0 j h.1
reports_known (Refused line r) c j h = h
reports_known (Bad line) c j h = h

-- the end line has the counts of the judge
pub end_held : (r : Result ⊤ Refusal) (c : Content) (j : Judge) (old mid new : List ℕ) (events total segments : ℕ) → StandsBy Ended c j → events ≡ j.events → ((d : Content) (t : Table) → IsAt d t j → total ≡ d.total)
    → ((d : Content) (t : Table) → IsAt d t j → segments ≡ length d.segments) → mid ≡ old ++ end_line events total segments → OnOk r (new ≡ mid ++ 10 ∷ []) → OnOk r (new ≡ old ++ line_text (last_line c Ended))
end_held (Ok done) c j old mid new events total segments h count reports many is held =
    let at = h.1 in
    let counts : events ≡ c.events = count ∙ events_at c h.0 j at ∙ at.counted in
    let same : end_line events total segments ≡ end_line c.events c.total (length c.segments) =
    ap (λ (n : ℕ). end_line n total segments) counts ∙ ap (λ (n : ℕ). end_line c.events n segments) (reports c h.0 at.is_at) ∙ ap (λ (n : ℕ). end_line c.events c.total n) (many c h.0 at.is_at) in
    held ∙ ap (λ (t : List ℕ). t ++ 10 ∷ []) (is ∙ ap (λ (t : List ℕ). old ++ t) same) ∙ append_assoc old (end_line c.events c.total (length c.segments)) (10 ∷ [])
end_held (Err x) c j old mid new events total segments h count reports many is held = tt

-- ---- a run

abbrev pub checking_of : {T : Type 0} → PartsSink T → PartsChecking
checking_of s = s.checking

module _ {S : Type 0} (checking : S → PartsChecking) where
  abbrev pub judged : S → Type 0
  judged s = IsSettled (checking s)

  ends_by : (s u : S) (o p : List WriteCall) (reads : List ReadCall) (lines : List Reading) (stop : Option Ending) (c : Content) (t : Table) → pending (checking s) ≡ [] → (come : Comes (checking s) o lines (Ok stop) (checking u) p c t)
      → (◌≡◌ {A = Result (Option Ending) Refusal} (Ok stop) (Ok None) → IsSettled (checking u)) → AreDue (seen checking) reads lines (Ok stop) → EndsByFrom t c reads come.went.last (ending_of stop)
  ends_by s u o p reads lines None c t none come settled due =
      ⊎_elim
      (λ met. inl (met.0, met.1, subst (λ xs. LeadsTo xs t c come.went.last Ended) met.2 (all_passed (checking s) (checking u) o p lines c t none come (settled refl))))
      (λ stopped. absurd (stopped.0 refl))
      due
  ends_by s u o p reads lines (Some end) c t none come settled due =
      ⊎_elim
      (λ met. inl (met.0, met.1, subst (λ xs. LeadsTo xs t c come.went.last end) (append-nil lines ∙ met.2) (one_stopped (checking s) (checking u) o p lines end c t none come [])))
      (λ stopped. inr (λ more. let rest = stopped.1 more in
      subst (λ xs. LeadsTo xs t c come.went.last end) (sym rest.1) (one_stopped (checking s) (checking u) o p lines end c t none come rest.0)))
      due

  reads_from : (first now : List ReadCall) (s u : S) (o p : List WriteCall) (stop : Option Ending) (c : Content) (t : Table) → pending (checking s) ≡ [] → (at : At c t (checking s).judge) → (w : WasRead (seen checking) judged first now s o (Ok stop) u p)
      → ReadsFrom t c first now (w.steps.comes c t at).went.last (ending_of stop)
  reads_from first now s u o p stop c t none at w = record {
    later = w.later;
    since = w.since;
    whole = w.intact;
    needed = record {
      last = w.needed.last;
      earlier = w.needed.earlier;
      newest = w.needed.newest;
      underway = w.needed.underway;
      content = (w.needed.passed.comes c t at).went.last;
      passed = all_passed (checking s) (checking w.needed.now) o w.needed.calls _ c t none (w.needed.passed.comes c t at) w.needed.judged;
    };
    leads = ends_by s u o p w.later w.lines stop c t none (w.steps.comes c t at) w.judged w.due;
  }

  -- the reports so far begin those of whatever the whole input may be
  reports_read : (first now : List ReadCall) (s u : S) (o p : List WriteCall) (r : Result (Option Ending) Refusal) → (fresh : IsFresh (checking s)) → (w : WasRead (seen checking) judged first now s o r u p)
      → GrowInto first now (w.steps.comes empty_content (first_table MOST_SETS) fresh.at).went.last
  reports_read first now s u o p r fresh w = record {
    later = w.later;
    since = w.since;
    grows = λ input last end m l.
        let rest = begins_with (seen checking) w.later w.lines r input w.due m in
        reports_first (checking s) (checking u) o p w.lines r empty_content (first_table MOST_SETS) fresh.none few_at_first (w.steps.comes empty_content (first_table MOST_SETS) fresh.at) rest.0 last end
        (subst (λ xs. LeadsTo xs (first_table MOST_SETS) empty_content last end) rest.1 l);
  }

  reports_broke : (first now : List ReadCall) (s u : S) (o p : List WriteCall) (x : Refusal) → (fresh : IsFresh (checking s)) → (w : ReadBroke (seen checking) judged first now s o x u p)
      → GrowInto first now (w.steps.comes empty_content (first_table MOST_SETS) fresh.at).went.last
  reports_broke first now s u o p x fresh w = record {
    later = w.later;
    since = w.since;
    grows = λ input last end m l.
        let rest = w.front m.more in
        reports_first (checking s) (checking u) o p w.lines (Ok None) empty_content (first_table MOST_SETS) fresh.none few_at_first (w.steps.comes empty_content (first_table MOST_SETS) fresh.at) rest.0 last end
        (subst (λ xs. LeadsTo xs (first_table MOST_SETS) empty_content last end) (ap readings m.joined ∙ rest.1) l);
  }

  -- a front of what `check` prints was written
  wrote : (first now : List ReadCall) (o p : List WriteCall) (c : Content) → GrowInto first now c → TookFront o p (reports_text 1 c.reports) → WroteFront check_text first now o p
  wrote first now o p c grow f = wrote_check first now o p (wrote_live Reports first now o p c grow f)

  -- ---- a run that was broken off

  pub broke : (first now : List ReadCall) (s u : S) (o p : List WriteCall) (x : Refusal) → IsFresh (checking s) → Reads (seen checking) judged first now s o (Err x) u p → WroteFront check_text first now o p × HasCause first now o p x
  broke first now s u o p x fresh reads =
      ⊎_elim
      (λ w. let come = w.steps.comes empty_content (first_table MOST_SETS) fresh.at in (
        wrote first now o p come.went.last (reports_read first now s u o p (Err x) fresh w) (come.tells.front x refl o (printed_first (checking s) o fresh)),
        cause_of first now o p x (none_failed first now w.later w.since w.intact) (w.steps.cause x refl),
      ))
      (λ w. let come = w.steps.comes empty_content (first_table MOST_SETS) fresh.at in (
        wrote first now o p come.went.last (reports_broke first now s u o p x fresh w) (front_now o (checking u) p come.went.last (come.tells.printed (no_error None) o (printed_first (checking s) o fresh))),
        cause_by_read (seen checking) judged first now s u o p x w w.steps.failures,
      ))
      reads

  -- ---- behind the last line

  stands : (stop : Option Ending) (a b : PartsChecking) (o p : List WriteCall) (lines : List Reading) (c : Content) (t : Table) → (come : Comes a o lines (Ok stop) b p c t) → StandsBy (ending_of stop) come.went.last b.judge
  stands None a b o p lines c t come = (come.went.filled, come.went.comes.1)
  stands (Some Ended) a b o p lines c t come = absurd (never_stops come.went.left come.went.last come.went.filled come.went.comes.0)
  stands (Some (Refused line r)) a b o p lines c t come = come.went.comes.1
  stands (Some (Bad line)) a b o p lines c t come = come.went.comes.1

  reports_at : (stop : Option Ending) (a b : PartsChecking) (o p : List WriteCall) (lines : List Reading) (c : Content) (t : Table) → (come : Comes a o lines (Ok stop) b p c t) → HasReports come.went.last b.judge
  reports_at None a b o p lines c t come = has_reports come.went.last come.went.filled b.judge come.went.comes.1
  reports_at (Some end) a b o p lines c t come = come.went.comes.1

  no_failure : (stop : Option Ending) (o p q : List WriteCall) (x : Refusal) → failed_writes p ≡ 0 + failed_writes o → HasWriteCause p q x → HasWriteCause o q x
  no_failure stop o p q x same h = ⊎_elim (λ memory. inl (memory.0, omega (arith, memory.1, same))) (λ failed. inr (failed.0, omega (arith, failed.1, same))) h

  -- printing behind the last line was broken off
  pub broke_printing : (first now : List ReadCall) (s u : S) (v : PartsChecking) (o p q : List WriteCall) (stop : Option Ending) (x : Refusal) → IsFresh (checking s) → WasRead (seen checking) judged first now s o (Ok stop) u p
      → PrintsAllOf (checking u) p (Err x) v q → HasWriteCause p q x → WroteFront check_text first now o q × HasCause first now o q x
  broke_printing first now s u v o p q stop x fresh w prints cause =
      let come = w.steps.comes empty_content (first_table MOST_SETS) fresh.at in (
        wrote first now o q come.went.last (reports_read first now s u o p (Ok stop) fresh w)
            (prints come.went.last (reports_at stop (checking s) (checking u) o p w.lines empty_content (first_table MOST_SETS) come) o (come.tells.printed (no_error stop) o (printed_first (checking s) o fresh))).1,
        cause_of first now o q x (none_failed first now w.later w.since w.intact) (no_failure stop o p q x w.steps.failures cause),
      )

  -- all were printed or are held
  pub came : (first now : List ReadCall) (s u : S) (v : PartsChecking) (o p q : List WriteCall) (stop : Option Ending) (done : ⊤) → IsFresh (checking s) → WasRead (seen checking) judged first now s o (Ok stop) u p
      → Rests (checking u) v → PrintsAllOf (checking u) p (Ok done) v q → Came first now o q v (ending_of stop)
  came first now s u v o p q stop done fresh w rest prints =
      let come = w.steps.comes empty_content (first_table MOST_SETS) fresh.at in
      let last = come.went.last in
      record {
        last = last;
        leads = reads_from first now s u o p stop empty_content (first_table MOST_SETS) fresh.none fresh.at w;
        stands = subst (λ (j : Judge). StandsBy (ending_of stop) last j) (sym (ap (λ (x : PartsChecking). x.judge) rest)) (stands stop (checking s) (checking u) o p w.lines empty_content (first_table MOST_SETS) come);
        due = (prints last (reports_at stop (checking s) (checking u) o p w.lines empty_content (first_table MOST_SETS) come) o (come.tells.printed (no_error stop) o (printed_first (checking s) o fresh))).0.all;
        intact = none_failed first now w.later w.since w.intact;
      }
