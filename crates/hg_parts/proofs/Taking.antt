-- What a judge takes of lines, and what it prints.
use Rattle.std.proofs.Common.{◌≡◌, ℕ, suc, ◌+◌, ◌<◌, ◌≤◌, ◌^◌, Bool, true, List, [], ◌∷◌, ◌++◌, length, map, take, Option, None, Some, Result, Ok, Err, IfErr, IfOk, OnErr, OnOk, ◌⊎◌, refl, sym, ap, ◌∙◌, subst, inl, inr, ⊎_elim, arith}
use Rattle.std.specs.Bool.{⊤}
use Rattle.std.proofs.lemmas.List.{append-nil, append_assoc, length-append, length-take, length_push}
use Rattle.hg_model.specs.declared.event.Event.{Event}
use Rattle.hg_model.specs.declared.report.Report.{Report}
use Rattle.hg_model.specs.declared.verdict.Refusal.{Refusal}
use Rattle.hg_model.specs.declared.verdict.Refusal.TheVariants.{OutOfMemory}
use Rattle.hg_model.specs.Change.{empty_content}
use Rattle.hg_model.specs.Contents.{Content, events_of}
use Rattle.hg_model.specs.Reporting.{all_reports}
use Rattle.hg_sets.specs.Interning.{Table}
use Rattle.hg_wire.specs.declared.line.LineFault.{LineFault}
use Rattle.hg_wire.specs.declared.reader.Reading.{Reading}
use Rattle.hg_wire.specs.Reports.{report_line}
use Rattle.hg_wire.specs.Streams.{numbered_on}
use Rattle.hg_streams.specs.declared.call.WriteCall.{WriteCall}
use Rattle.hg_streams.specs.declared.listing.Listing.TheVariants.{Reports}
use Rattle.hg_streams.specs.Calls.{failed_writes}
use Rattle.hg_streams.specs.Faults.{HasWriteCause}
use Rattle.hg_streams.specs.Holding.{IsDue}
use Rattle.hg_streams.specs.Texts.{line_text, reports_text}
use Rattle.hg_streams.specs.Told.{told, told_refusal}
use Rattle.hg_streams.specs.Written.{TookFront}
use Rattle.hg_streams.proofs.Printed.{due_more, front_due, front_more}
use Rattle.hg_reading.specs.declared.ending.Ending.{Ending}
use Rattle.hg_reading.specs.declared.ending.Ending.TheVariants.{Bad, Ended}
use Rattle.hg_shards.specs.declared.judge.Judge.{Judge}
use Rattle.hg_shards.specs.declared.cursor.Cursor.{Cursor}
use Rattle.hg_shards.specs.Judging.{HasReports, NextReport, parts_of}
use Rattle.hg_shards.specs.Reading.{HasRead, ReadsNext}
use Rattle.hg_check.specs.Checking.{LeadsTo}
use Rattle.hg_check.specs.Running.{HasFew, ReportsGrow}
use Rattle.hg_check.proofs.Growing.{live_text_grows}
use Rattle.hg_check.proofs.Sinking.{memory_alone, none_failed}
use Rattle.hg_check.proofs.Steps.{leads_grow}
use Rattle.hg_parts.specs.declared.checking.PartsChecking.{PartsChecking}
use Rattle.hg_parts.specs.declared.line.EventLine.{EventLine}
use Rattle.hg_parts.specs.Batches.{reading_of, readings_in}
use Rattle.hg_parts.specs.Going.{At, Comes as GoesBy, Goes, GoesFrom, Passes}
use Rattle.hg_parts.specs.Holding.{HasLine, parts_of_batch, readings_held}
use Rattle.hg_parts.specs.Stopping.{bad_at, reading_at}
use Rattle.hg_parts.specs.Taking.{HasPrinted, HasPrintedAll, MayTake, PrintedNext, PrintsAllOf, TakesLines, TakesQuietly, Tells, pending}
use Rattle.hg_parts.specs.TakingLaws.{takes_on, takes_room}
use Rattle.hg_parts.proofs.Going.{leads_behind, stops_bad}

-- ---- reports

few_taken : (xs : List Report) → length (take 65536 xs) ≤ 65536
few_taken xs = omega (arith, length-take 65536 xs)

pub few_reports : (c : Content) (j : Judge) → HasReports c j → HasFew c
few_reports c j h = subst (λ (xs : List Report). length xs ≤ 65536) (sym (ap (λ (d : Content). d.reports) h.content)) (few_taken (all_reports (events_of h.trace)))

pub has_reports : (c : Content) (t : Table) (j : Judge) → At c t j → HasReports c j
has_reports c t j at = record { trace = at.is_at.trace; content = at.is_at.content; judged = at.is_at.judged }

pub reports_by : (lines : List Reading) (c d : Content) (t u : Table) → HasFew c → Passes lines c t d u → ReportsGrow c d
reports_by lines c d t u few h = leads_grow (lines ++ []) t c d Ended few (leads_behind lines [] c d d t u Ended h (refl, refl))

abbrev with_reports : List Report → Content
with_reports xs = record empty_content { reports = xs }

-- the text of all reports begins with that of the first ones
pub text_grows : (front rest all : List Report) → all ≡ front ++ rest → (more : List ℕ) × (reports_text 1 front ++ more ≡ reports_text 1 all)
text_grows front rest all is = live_text_grows Reports (with_reports front) (with_reports all) (rest, is)

pub front_of : (first now : List WriteCall) (front rest all : List Report) → all ≡ front ++ rest → TookFront first now (reports_text 1 front) → TookFront first now (reports_text 1 all)
front_of first now front rest all is f = let more = text_grows front rest all is in front_more first now (reports_text 1 front) more.0 (reports_text 1 all) more.1 f

-- what was printed of a content is a front of what a later one has
pub front_printed : (first : List WriteCall) (s : PartsChecking) (now : List WriteCall) (c d : Content) → ReportsGrow c d → HasPrinted first s now c → TookFront first now (reports_text 1 d.reports)
front_printed first s now c d grow h =
    front_of first now h.front (h.rest ++ grow.0) d.reports (grow.1 ∙ ap (λ xs. xs ++ grow.0) h.grow ∙ append_assoc h.front h.rest grow.0) (front_due first now s.held.items [] (reports_text 1 h.front) h.due)

-- ---- nothing is printed

same_printed : (old new : PartsChecking) (first calls : List WriteCall) (c d : Content) → new.printed ≡ old.printed → new.cursor ≡ old.cursor → new.held.items ≡ old.held.items → parts_of new.judge ≡ parts_of old.judge → ReportsGrow c d
    → HasPrinted first old calls c → HasPrinted first new calls d
same_printed old new first calls c d printed cursor held parts grow h = record {
  front = h.front;
  rest = h.rest ++ grow.0;
  grow = grow.1 ∙ ap (λ xs. xs ++ grow.0) h.grow ∙ append_assoc h.front h.rest grow.0;
  count = printed ∙ h.count;
  read = subst (λ (n : ℕ). HasRead n h.front new.cursor) (sym parts) (subst (λ (x : Cursor). HasRead (parts_of old.judge) h.front x) (sym cursor) h.read);
  due = subst (λ (items : List ℕ). IsDue first calls items [] (reports_text 1 h.front)) (sym held) h.due;
}

kept_on : (r : Result (Option Ending) Refusal) (left kept more : List Reading) (last : Content) (filled : Table) (j : Judge) → (r ≡ Ok None → kept ≡ more) → GoesBy r left kept last filled j → GoesBy r left more last filled j
kept_on (Ok None) left kept more last filled j same h = (h.0 ∙ same refl, h.1)
kept_on (Ok (Some end)) left kept more last filled j same h = h
kept_on (Err x) left kept more last filled j same h = h

-- Lines went somewhere, and nothing was printed.
pub takes_by : (old new : PartsChecking) (lines due kept : List Reading) (r : Result (Option Ending) Refusal) → GoesFrom old.judge due r kept new.judge → pending old ++ lines ≡ due → (r ≡ Ok None → kept ≡ pending new)
    → new.printed ≡ old.printed → new.cursor ≡ old.cursor → new.held.items ≡ old.held.items → parts_of new.judge ≡ parts_of old.judge → parts_of_batch new.buffer ≡ parts_of_batch old.buffer → IfErr r (λ x. x ≡ OutOfMemory)
    → TakesQuietly old lines r new
takes_by old new lines due kept r goes is same printed cursor held parts buffer memory calls = record {
  comes = λ c t at.
      let went = goes c t at in
      let grow = reports_by went.judged c went.last t went.filled (few_reports c old.judge (has_reports c t old.judge at)) went.passes in
      record {
        went = record {
          judged = went.judged;
          left = went.left;
          last = went.last;
          filled = went.filled;
          joined = is ∙ went.joined;
          passes = went.passes;
          comes = kept_on r went.left kept (pending new) went.last went.filled new.judge same went.comes;
        };
        tells = record {
          printed = λ fine first h. same_printed old new first calls c went.last printed cursor held parts grow h;
          front = λ x fails first h. front_printed first old calls c went.last grow h;
        };
      };
  fit = λ h. buffer ∙ h ∙ sym parts;
  cause = λ x fails. inl (memory_alone r memory x fails, refl);
  failures = none_failed r (failed_writes calls) memory;
}

-- lines that are due stay so
pub goes_nowhere : (j : Judge) (due : List Reading) → GoesFrom j due (Ok None) due j
goes_nowhere j due c t at = record { judged = []; left = due; last = c; filled = t; joined = refl; passes = (refl, refl); comes = (refl, at) }

pub goes_bad : (j : Judge) (line : ℕ) (fault : LineFault) (due : List Reading) → due ≡ bad_at line fault ∷ [] → GoesFrom j due (Ok (Some (Bad line))) [] j
goes_bad j line fault due is c t at =
    subst (λ (rs : List Reading). Goes c t rs (Ok (Some (Bad line))) [] j) (sym is)
    (record { judged = []; left = bad_at line fault ∷ []; last = c; filled = t; joined = refl; passes = (refl, refl); comes = (stops_bad line fault [] c t, has_reports c t j at) })

-- ---- lines behind a stop

stops_behind : (r : Result (Option Ending) Refusal) (left more kept now : List Reading) (last : Content) (filled : Table) (j : Judge) → (r ≡ Ok None → ⊥) → GoesBy r left kept last filled j → GoesBy r (left ++ more) now last filled j
stops_behind (Ok None) left more kept now last filled j never h = absurd (never refl)
stops_behind (Ok (Some end)) left more kept now last filled j never h =
    (λ later. subst (λ (rs : List Reading). LeadsTo rs filled last last end) (sym (append_assoc left more later)) (h.0 (more ++ later)), h.1)
stops_behind (Err x) left more kept now last filled j never h = h

-- Where the run ended or was broken off before these lines, they play no part.
pub takes_behind : (old new : PartsChecking) (lines : List Reading) (r : Result (Option Ending) Refusal) → (r ≡ Ok None → ⊥) → TakesQuietly old [] r new → TakesQuietly old lines r new
takes_behind old new lines r never takes calls =
    let s = takes calls in
    record {
      comes = λ c t at.
          let come = s.comes c t at in
          record {
            went = record {
              judged = come.went.judged;
              left = come.went.left ++ lines;
              last = come.went.last;
              filled = come.went.filled;
              joined = ap (λ xs. xs ++ lines) (sym (append-nil (pending old)) ∙ come.went.joined) ∙ append_assoc come.went.judged come.went.left lines;
              passes = come.went.passes;
              comes = stops_behind r come.went.left lines (pending new) (pending new) come.went.last come.went.filled new.judge never come.went.comes;
            };
            tells = come.tells;
          };
      fit = s.fit;
      cause = s.cause;
      failures = s.failures;
    }

pub no_stop : (end : Ending) → ◌≡◌ {A = Result (Option Ending) Refusal} (Ok (Some end)) (Ok None) → ⊥
no_stop end h = absurd (cc)

pub no_fault : (x : Refusal) → ◌≡◌ {A = Result (Option Ending) Refusal} (Err x) (Ok None) → ⊥
no_fault x h = absurd (cc)

-- lines that were due before are judged, and these come behind them
pub takes_after : (a b c : PartsChecking) (lines : List Reading) (r : Result (Option Ending) Refusal) → TakesQuietly a [] (Ok None) b → TakesQuietly b lines r c → TakesQuietly a lines r c
takes_after a b c lines r first later calls = takes_on a b c calls calls calls [] lines r (first calls) (later calls)

-- ---- numbers

pub from_none : (lines : List Reading) → map (numbered_on 0) lines ≡ lines
from_none [] = refl
from_none (r ∷ lines) = let same : 0 + r.line ≡ r.line = omega arith in (λ i. record { line = same i; event = r.event } ∷ from_none lines i)

pub on_and_on : (n m : ℕ) (lines : List Reading) → map (numbered_on n) (map (numbered_on m) lines) ≡ map (numbered_on (n + m)) lines
on_and_on n m [] = refl
on_and_on n m (r ∷ lines) = let same : n + (m + r.line) ≡ n + m + r.line = omega arith in (λ i. record { line = same i; event = r.event } ∷ on_and_on n m lines i)

-- ---- printing

text_of_one_more : (k : ℕ) (xs : List Report) (x : Report) → reports_text k (xs ++ x ∷ []) ≡ reports_text k xs ++ line_text (report_line (k + length xs) x)
text_of_one_more k [] x = let same : k ≡ k + 0 = omega arith in append-nil (line_text (report_line k x)) ∙ ap (λ (n : ℕ). line_text (report_line n x)) same
text_of_one_more k (y ∷ xs) x =
    let same : k + 1 + length xs ≡ k + suc (length xs) = omega arith in
    ap (λ t. line_text (report_line k y) ++ t) (text_of_one_more (k + 1) xs x ∙ ap (λ (n : ℕ). reports_text (k + 1) xs ++ line_text (report_line n x)) same)
    ∙ sym (append_assoc (line_text (report_line k y)) (reports_text (k + 1) xs) (line_text (report_line (k + suc (length xs)) x)))

pub one_more_due : (first now : List WriteCall) (held : List ℕ) (front : List Report) (x : Report) (k : ℕ) → k ≡ length front + 1 → IsDue first now held [] (reports_text 1 front)
    → IsDue first now held (line_text (report_line k x) ++ []) (reports_text 1 (front ++ x ∷ []))
one_more_due first now held front x k is h =
    let same : 1 + length front ≡ k = omega (arith, is) in
    subst (λ (goal : List ℕ). IsDue first now held (line_text (report_line k x) ++ []) goal)
    (ap (λ t. reports_text 1 front ++ t) (append-nil (line_text (report_line k x))) ∙ ap (λ (n : ℕ). reports_text 1 front ++ line_text (report_line n x)) (sym same) ∙ sym (text_of_one_more 1 front x))
    (due_more first now held (reports_text 1 front) (line_text (report_line k x) ++ []) h)

-- ---- what calls come to

length_readings : (lines : List EventLine) → length (readings_in lines) ≡ length lines
length_readings [] = refl
length_readings (l ∷ earlier) = length_push (readings_in earlier) (reading_of l) ∙ (let same = length_readings earlier in omega (arith, same))

-- the lines of a batch fit where their readings do
pub batch_fits : (events n : ℕ) (lines : List EventLine) → events + n + length (readings_in lines) < 2 ^ 63 → events + length lines < 2 ^ 63
batch_fits events n lines h = let many = length_readings lines in omega (arith, h, many)

pub buffer_fits : (events : ℕ) (lines : List EventLine) → events + length (readings_in lines) + 0 < 2 ^ 63 → events + length lines < 2 ^ 63
buffer_fits events lines h = let many = length_readings lines in omega (arith, h, many)

pub may_none : (s : PartsChecking) (n : ℕ) → MayTake s n → MayTake s 0
may_none s n may = (may.0, may.1, (let room = may.2 in omega (arith, room)))

pub may_mid : (a b : PartsChecking) (n : ℕ) → MayTake a n → TakesQuietly a [] (Ok None) b → MayTake b n
may_mid a b n may takes =
    let same : n ≡ 0 + n = omega arith in
    takes_room a b [] [] [] n (subst (λ (k : ℕ). MayTake a k) same may) (takes [])

-- the buffer was judged
pub takes_buffer : (old new : PartsChecking) (r : Result (Option Ending) Refusal) → GoesFrom old.judge (map (numbered_on 0) (pending old)) r [] new.judge → (r ≡ Ok None → [] ≡ pending new) → new.printed ≡ old.printed
    → new.cursor ≡ old.cursor → new.held.items ≡ old.held.items → parts_of new.judge ≡ parts_of old.judge → parts_of_batch new.buffer ≡ parts_of_batch old.buffer → IfErr r (λ x. x ≡ OutOfMemory) → TakesQuietly old [] r new
takes_buffer old new r goes same printed cursor held parts buffer memory =
    takes_by old new [] (map (numbered_on 0) (pending old)) [] r goes (append-nil (pending old) ∙ sym (from_none (pending old))) same printed cursor held parts buffer memory

-- a line was put into the buffer
pub takes_pushed : (old new : PartsChecking) (line : ℕ) (e : Event) → HasLine old.buffer line e new.buffer → new.judge ≡ old.judge → new.printed ≡ old.printed → new.cursor ≡ old.cursor → new.held.items ≡ old.held.items
    → TakesQuietly old (reading_at line e ∷ []) (Ok None) new
takes_pushed old new line e pushed judge printed cursor held =
    let due = pending old ++ reading_at line e ∷ [] in
    takes_by old new (reading_at line e ∷ []) due due (Ok None) (subst (λ (j : Judge). GoesFrom old.judge due (Ok None) due j) (sym judge) (goes_nowhere old.judge due)) refl
    (λ none. sym (ap readings_in pushed.lines)) printed cursor held (ap parts_of judge) pushed.parts tt

-- lines were judged at once, with none in front of them
pub takes_at_once : (old new : PartsChecking) (lines : List Reading) (r : Result (Option Ending) Refusal) → pending old ≡ [] → GoesFrom old.judge lines r [] new.judge → new.buffer ≡ old.buffer → new.printed ≡ old.printed → new.cursor ≡ old.cursor
    → new.held.items ≡ old.held.items → parts_of new.judge ≡ parts_of old.judge → IfErr r (λ x. x ≡ OutOfMemory) → TakesQuietly old lines r new
takes_at_once old new lines r settled goes buffer printed cursor held parts memory =
    takes_by old new lines lines [] r goes (ap (λ xs. xs ++ lines) settled) (λ none. sym (ap readings_held buffer ∙ settled)) printed cursor held parts (ap parts_of_batch buffer) memory

-- a bad line
pub takes_bad : (s : PartsChecking) (line : ℕ) (fault : LineFault) → pending s ≡ [] → TakesQuietly s (bad_at line fault ∷ []) (Ok (Some (Bad line))) s
takes_bad s line fault settled =
    takes_at_once s s (bad_at line fault ∷ []) (Ok (Some (Bad line))) settled (goes_bad s.judge line fault (bad_at line fault ∷ []) refl) refl refl refl refl refl tt

goes_broken : (j : Judge) (due : List Reading) (x : Refusal) → GoesFrom j due (Err x) [] j
goes_broken j due x c t at = record { judged = []; left = due; last = c; filled = t; joined = refl; passes = (refl, refl); comes = tt }

-- want of memory in front of all lines
pub takes_broken : (s : PartsChecking) (lines : List Reading) → TakesQuietly s lines (Err OutOfMemory) s
takes_broken s lines = takes_by s s lines (pending s ++ lines) [] (Err OutOfMemory) (goes_broken s.judge (pending s ++ lines) OutOfMemory) refl (λ is. absurd (no_fault OutOfMemory is)) refl refl refl refl refl refl

-- ---- the next report

next_none : (parts : ℕ) (front rest : List Report) (new : Cursor) → ReadsNext parts front rest None new → (rest ≡ []) × HasRead parts front new
next_none parts front [] new h = (refl, h.1)
next_none parts front (x ∷ rest) new h = absurd (cc (h.0))

next_some : (parts : ℕ) (front rest : List Report) (x : Report) (new : Cursor) → ReadsNext parts front rest (Some x) new → (later : List Report) × (rest ≡ x ∷ later) × HasRead parts (front ++ x ∷ []) new
next_some parts front [] x new h = absurd (cc (h.0))
next_some parts front (y ∷ rest) x new h =
    let same : x ≡ y = cc (h.0) in
    (rest, ap (λ (z : Report). z ∷ rest) (sym same), subst (λ (z : Report). HasRead parts (front ++ z ∷ []) new) (sym same) h.1)

-- all reports were read
pub printed_all : (first : List WriteCall) (old new : PartsChecking) (now : List WriteCall) (c : Content) → HasReports c old.judge → NextReport old.judge old.cursor None new.cursor → new.judge ≡ old.judge → new.printed ≡ old.printed
    → new.held.items ≡ old.held.items → HasPrinted first old now c → HasPrintedAll first new now c
printed_all first old new now c reports next judge printed held h =
    let done = next_none (parts_of old.judge) h.front h.rest new.cursor (next c h.front h.rest reports h.read h.grow) in
    let whole : c.reports ≡ h.front = h.grow ∙ ap (λ xs. h.front ++ xs) done.0 ∙ append-nil h.front in
    record {
      count = printed ∙ h.count ∙ ap (λ (xs : List Report). length xs) (sym whole);
      read = subst (λ (xs : List Report). HasRead (parts_of new.judge) xs new.cursor) (sym whole) (subst (λ (j : Judge). HasRead (parts_of j) h.front new.cursor) (sym judge) done.1);
      all = subst (λ (xs : List Report). IsDue first now new.held.items [] (reports_text 1 xs)) (sym whole) (subst (λ (items : List ℕ). IsDue first now items [] (reports_text 1 h.front)) (sym held) h.due);
    }

-- the next report was read, and is to be held
pub record IsNext (first : List WriteCall) (old : PartsChecking) (now : List WriteCall) (x : Report) (cursor : Cursor) (c : Content) : Type 0 where
  pub front : List Report
  pub rest : List Report
  pub grow : c.reports ≡ front ++ rest
  pub count : old.printed + 1 ≡ length front
  pub read : HasRead (parts_of old.judge) front cursor
  pub due : IsDue first now old.held.items (line_text (report_line (old.printed + 1) x) ++ []) (reports_text 1 front)

pub is_next : (first : List WriteCall) (old : PartsChecking) (now : List WriteCall) (x : Report) (cursor : Cursor) (c : Content) → HasReports c old.judge → NextReport old.judge old.cursor (Some x) cursor → HasPrinted first old now c
    → IsNext first old now x cursor c
is_next first old now x cursor c reports next h =
    let found = next_some (parts_of old.judge) h.front h.rest x cursor (next c h.front h.rest reports h.read h.grow) in
    let count = h.count in
    record {
      front = h.front ++ x ∷ [];
      rest = found.0;
      grow = h.grow ∙ ap (λ xs. h.front ++ xs) found.1 ∙ sym (append_assoc h.front (x ∷ []) found.0);
      count = (let more = length_push h.front x in omega (arith, count, more));
      read = found.2;
      due = one_more_due first now old.held.items h.front x (old.printed + 1) (omega (arith, count)) h.due;
    }

pub printed_next : (first : List WriteCall) (old new : PartsChecking) (before now : List WriteCall) (x : Report) (cursor : Cursor) (c : Content) → (next : IsNext first old before x cursor c) → new.judge ≡ old.judge → new.cursor ≡ cursor
    → new.printed ≡ old.printed + 1 → IsDue first now new.held.items [] (reports_text 1 next.front) → HasPrinted first new now c
printed_next first old new before now x cursor c next judge is printed due = record {
  front = next.front;
  rest = next.rest;
  grow = next.grow;
  count = printed ∙ next.count;
  read = subst (λ (j : Judge). HasRead (parts_of j) next.front new.cursor) (sym judge) (subst (λ (k : Cursor). HasRead (parts_of old.judge) next.front k) (sym is) next.read);
  due = due;
}

pub front_next : (first : List WriteCall) (old : PartsChecking) (before now : List WriteCall) (x : Report) (cursor : Cursor) (c : Content) → (next : IsNext first old before x cursor c) → TookFront first now (reports_text 1 next.front)
    → TookFront first now (reports_text 1 c.reports)
front_next first old before now x cursor c next f = front_of first now next.front next.rest c.reports next.grow f

pub front_now : (first : List WriteCall) (s : PartsChecking) (now : List WriteCall) (c : Content) → HasPrinted first s now c → TookFront first now (reports_text 1 c.reports)
front_now first s now c h = front_of first now h.front h.rest c.reports h.grow (front_due first now s.held.items [] (reports_text 1 h.front) h.due)

-- as many were printed as are kept
pub all_read : (first : List WriteCall) (s : PartsChecking) (now : List WriteCall) (c : Content) → HasReports c s.judge → 65536 ≤ s.printed → HasPrinted first s now c → HasPrintedAll first s now c
all_read first s now c reports many h =
    let few = few_reports c s.judge reports in
    let count = h.count in
    let total = ap (λ (xs : List Report). length xs) h.grow ∙ length-append h.front h.rest in
    let none : length h.rest ≡ 0 = omega (arith, few, count, total, many) in
    let whole : c.reports ≡ h.front = h.grow ∙ ap (λ xs. h.front ++ xs) (no_items h.rest none) ∙ append-nil h.front in
    record {
      count = count ∙ ap (λ (xs : List Report). length xs) (sym whole);
      read = subst (λ (xs : List Report). HasRead (parts_of s.judge) xs s.cursor) (sym whole) h.read;
      all = subst (λ (xs : List Report). IsDue first now s.held.items [] (reports_text 1 xs)) (sym whole) h.due;
    }
  where
    no_items : (xs : List Report) → length xs ≡ 0 → xs ≡ []
    no_items [] is = refl
    no_items (x ∷ xs) is = absurd (omega (arith, is))

-- what holding it came to
pub prints_next : (r : Result Bool Refusal) (first : List WriteCall) (old new : PartsChecking) (before now : List WriteCall) (x : Report) (cursor : Cursor) (c : Content) → (next : IsNext first old before x cursor c) → IfOk r (λ more. more ≡ true)
    → OnOk r (IsDue first now new.held.items [] (reports_text 1 next.front)) → OnErr r (TookFront first now (reports_text 1 next.front)) → new.judge ≡ old.judge → new.cursor ≡ cursor → new.printed ≡ old.printed + 1
    → IfOk r (λ more. PrintedNext more first new old.printed now c) × OnErr r (TookFront first now (reports_text 1 c.reports))
prints_next (Ok more) first old new before now x cursor c next is due front judge same printed = (
  subst (λ (b : Bool). PrintedNext b first new old.printed now c) (sym is) (printed, printed_next first old new before now x cursor c next judge same printed due),
  tt,
)
prints_next (Err e) first old new before now x cursor c next is due front judge same printed = (tt, front_next first old before now x cursor c next front)

-- ---- all of them

pub all_are_printed : (first : List WriteCall) (s : PartsChecking) (now : List WriteCall) (c : Content) → HasPrintedAll first s now c → HasPrinted first s now c
all_are_printed first s now c h = record { front = c.reports; rest = []; grow = sym (append-nil c.reports); count = h.count; read = h.read; due = h.all }

-- what is held was written
pub written_all : (r : Result ⊤ Refusal) (first : List WriteCall) (s t : PartsChecking) (now later : List WriteCall) (c : Content) → HasPrintedAll first s now c → t.judge ≡ s.judge → t.cursor ≡ s.cursor → t.printed ≡ s.printed
    → OnOk r (IsDue first later t.held.items [] (reports_text 1 c.reports)) → OnErr r (TookFront first later (reports_text 1 c.reports))
    → OnOk r (HasPrintedAll first t later c) × OnErr r (TookFront first later (reports_text 1 c.reports))
written_all (Ok done) first s t now later c h judge cursor printed due front = (
  record {
    count = printed ∙ h.count;
    read = subst (λ (j : Judge). HasRead (parts_of j) c.reports t.cursor) (sym judge) (subst (λ (k : Cursor). HasRead (parts_of s.judge) c.reports k) (sym cursor) h.read);
    all = due;
  },
  tt,
)
written_all (Err x) first s t now later c h judge cursor printed due front = (tt, front)

-- the engine with other fields of printing
abbrev pub Rests : PartsChecking → PartsChecking → Type 0
Rests s t = t ≡ record s { cursor = t.cursor; printed = t.printed; held = t.held }

pub reports_still : (s t : PartsChecking) (c : Content) → Rests s t → HasReports c s.judge → HasReports c t.judge
reports_still s t c rest h = subst (λ (j : Judge). HasReports c j) (sym (ap (λ (x : PartsChecking). x.judge) rest)) h

pub rests_on : (s t u : PartsChecking) → Rests s t → Rests t u → Rests s u
rests_on s t u first later = later ∙ ap (λ (x : PartsChecking). record x { cursor = u.cursor; printed = u.printed; held = u.held }) first

printing : (s t : PartsChecking) (before now : List WriteCall) (r : Result (Option Ending) Refusal) → Rests s t → (r ≡ Ok None ⊎ ((x : Refusal) × (r ≡ Err x)))
    → ((c : Content) → HasReports c s.judge → Tells s before r t now c c) → ((x : Refusal) → r ≡ Err x → HasWriteCause before now x) → failed_writes now ≡ told r + failed_writes before → TakesLines s before [] r t now
printing s t before now r rest which tells cause failures = record {
  comes = λ c table at. record {
    went = record {
      judged = [];
      left = pending s;
      last = c;
      filled = table;
      joined = append-nil (pending s);
      passes = (refl, refl);
      comes = by r which c table at;
    };
    tells = tells c (has_reports c table s.judge at);
  };
  fit = λ h. ap (λ (x : PartsChecking). parts_of_batch x.buffer) rest ∙ h ∙ sym (ap (λ (x : PartsChecking). parts_of x.judge) rest);
  cause = cause;
  failures = failures;
}
  where
    by : (given : Result (Option Ending) Refusal) → (given ≡ Ok None ⊎ ((x : Refusal) × (given ≡ Err x))) → (c : Content) (table : Table) → At c table s.judge → GoesBy given (pending s) (pending t) c table t.judge
    by (Ok None) is c table at = (sym (ap pending rest), subst (λ (j : Judge). At c table j) (sym (ap (λ (x : PartsChecking). x.judge) rest)) at)
    by (Ok (Some end)) is c table at = absurd (⊎_elim (no_stop end) (λ fault. absurd (cc (fault.1))) is)
    by (Err x) is c table at = tt

pub print_ok : (done : ⊤) (s t : PartsChecking) (before now : List WriteCall) → Rests s t → PrintsAllOf s before (Ok done) t now → failed_writes now ≡ 0 + failed_writes before → TakesLines s before [] (Ok None) t now
print_ok done s t before now rest prints failures =
    printing s t before now (Ok None) rest (inl refl)
    (λ c reports. record { printed = λ fine first h. all_are_printed first t now c (prints c reports first h).0; front = λ x is. absurd (cc is) })
    (λ x is. absurd (cc is)) failures

pub print_err : (x : Refusal) (s t : PartsChecking) (before now : List WriteCall) → Rests s t → PrintsAllOf s before (Err x) t now → HasWriteCause before now x → failed_writes now ≡ told_refusal x + failed_writes before → TakesLines s before [] (Err x) t now
print_err x s t before now rest prints cause failures =
    printing s t before now (Err x) rest (inr (x, refl))
    (λ c reports. record { printed = λ fine. absurd (fine x refl); front = λ y is first h. (prints c reports first h).1 })
    (λ y is. subst (λ (z : Refusal). HasWriteCause before now z) (same_refusal x y is) cause) failures
  where
    same_refusal : (y z : Refusal) → ◌≡◌ {A = Result (Option Ending) Refusal} (Err y) (Err z) → y ≡ z
    same_refusal y z h = cc
