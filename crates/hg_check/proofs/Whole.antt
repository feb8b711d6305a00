-- What reading a whole text leads to.
use Rattle.std.proofs.Common.{◌≡◌, ◌+◌, ℕ, List, [], ◌∷◌, ◌++◌, length, Option, None, Result, Ok, Err, refl, sym, ap, ◌∙◌, subst, inl, inr, ⊎_elim, arith}
use Rattle.std.proofs.lemmas.List.{append-nil, length-append}
use Rattle.hg_streams.specs.declared.listing.Listing.{Listing}
use Rattle.hg_streams.specs.declared.listing.Listing.TheVariants.{Reports, Segments}
use Rattle.hg_model.specs.declared.report.Report.{Report}
use Rattle.hg_model.specs.declared.verdict.Refusal.{Refusal}
use Rattle.hg_model.specs.declared.verdict.Refusal.TheVariants.{OutOfMemory}
use Rattle.hg_model.specs.Change.{empty_content}
use Rattle.hg_model.specs.Contents.{Content}
use Rattle.hg_detect.specs.declared.detector.Detector.{Detector}
use Rattle.hg_cells.specs.declared.paged.PagedWords.{PagedWords}
use Rattle.hg_detect.specs.Memory.{content_of}
use Rattle.hg_streams.specs.declared.call.ReadCall.{ReadCall}
use Rattle.hg_streams.specs.declared.call.WriteCall.{WriteCall}
use Rattle.hg_streams.specs.Calls.{NoneFailedSince, failed_reads, failed_writes, refused_reads}
use Rattle.hg_streams.proofs.Inputs.{failed_reads_on, none_failed, refused_reads_on}
use Rattle.hg_wire.specs.declared.reader.Reading.{Reading}
use Rattle.hg_reading.specs.Taking.{AlwaysSettled, ReadBroke, Reads, Taking, WasRead}
use Rattle.hg_reading.specs.declared.ending.Ending.{Ending}
use Rattle.hg_check.specs.declared.checking.Checking.{Checking}
use Rattle.hg_streams.specs.Holding.{IsDue}
use Rattle.hg_check.specs.Printing.{ReadsTo, WroteFront}
use Rattle.hg_streams.specs.Texts.{reports_text}
use Rattle.hg_check.specs.Running.{ReportsGrow, StepsTaken, live_text}
use Rattle.hg_streams.specs.Faults.{HasCause, HasWriteCause}
use Rattle.hg_check.specs.Taking.{ChecksLines, IsFresh, IsPrinted}
use Rattle.hg_reading.specs.Endings.{ending_of}
use Rattle.hg_streams.specs.Written.{TookFront}
use Rattle.hg_reading.proofs.Through.{broke_through, read_through}
use Rattle.hg_check.proofs.Ends.{reads_to, reports_broke, reports_read}
use Rattle.hg_check.proofs.Fronts.{wrote_live}
use Rattle.hg_streams.proofs.Printed.{due_failed, front_due, front_more}
use Rattle.hg_check.proofs.Growing.{live_text_grows}

-- ---- a run as its detector sees it

steps_seen : (a b : Checking) (at_a at_b : List WriteCall) (lines : List Reading) (r : Result (Option Ending) Refusal) → ChecksLines a at_a lines r b at_b → (r ≡ Ok None → AlwaysSettled b) → StepsTaken a.detector at_a lines r b.detector at_b
steps_seen a b at_a at_b lines r h judged = h.steps

seen : (first now : List ReadCall) (s t : Checking) (o p : List WriteCall) (r : Result (Option Ending) Refusal) → WasRead ChecksLines AlwaysSettled first now s o r t p → WasRead StepsTaken AlwaysSettled first now s.detector o r t.detector p
seen = read_through ChecksLines AlwaysSettled StepsTaken (λ s. s.detector) steps_seen

seen_broke : (first now : List ReadCall) (s t : Checking) (o p : List WriteCall) (x : Refusal) → ReadBroke ChecksLines AlwaysSettled first now s o x t p → ReadBroke StepsTaken AlwaysSettled first now s.detector o x t.detector p
seen_broke = broke_through ChecksLines AlwaysSettled StepsTaken (λ s. s.detector) steps_seen

-- ---- what was printed

nothing_live : (listing : Listing) → [] ≡ live_text listing empty_content
nothing_live Reports = refl
nothing_live Segments = refl

fresh_due : (listing : Listing) (known : List WriteCall) (held : List ℕ) → held ≡ [] → IsDue known known held [] (live_text listing empty_content)
fresh_due listing known held none =
    subst (λ t. IsDue known known held [] t) (nothing_live listing) (record { written = []; appended = record { later = []; since = refl; whole = refl; all = refl }; whole = ap (λ xs. xs ++ []) none })

printed_first : (listing : Listing) (s : Checking) (known : List WriteCall) → IsFresh listing s → IsPrinted known s known
printed_first listing s known fresh = record {
  before = empty_content;
  count = fresh.printed;
  grow = subst (λ c. ReportsGrow empty_content c) (sym fresh.start.content) ([], refl);
  due = fresh_due s.listing known s.held.items fresh.held;
}

no_error : (stop : Option Ending) (x : Refusal) → ◌≡◌ {A = Result (Option Ending) Refusal} (Ok stop) (Err x) → ⊥
no_error stop x h = absurd (cc)

same_reports : (xs ys more : List Report) → ys ≡ xs ++ more → length xs ≡ length ys → xs ≡ ys
same_reports xs ys [] is same = sym (is ∙ append-nil xs)
same_reports xs ys (r ∷ more) is same = absurd (omega (arith, same, ap length is, length-append xs (r ∷ more)))

live_same : (listing : Listing) (c d : Content) → c.reports ≡ d.reports → live_text listing c ≡ live_text listing d
live_same Reports c d is = ap (λ xs. reports_text 1 xs) is
live_same Segments c d is = refl

-- Where all reports were printed, the text of them all is due.
pub all_printed : (s : Checking) (first now : List WriteCall) → s.printed ≡ length (content_of s.detector).reports → IsPrinted first s now → IsDue first now s.held.items [] (live_text s.listing (content_of s.detector))
all_printed s first now all p =
    subst (λ t. IsDue first now s.held.items [] t)
    (live_same s.listing p.before (content_of s.detector) (same_reports p.before.reports (content_of s.detector).reports p.grow.0 p.grow.1 (sym p.count ∙ all)))
    p.due

-- ---- a run that was broken off

pub cause_of : (reads now : List ReadCall) (before after : List WriteCall) (x : Refusal) → NoneFailedSince reads now → HasWriteCause before after x → HasCause reads now before after x
cause_of reads now before after x none h = ⊎_elim (λ memory. inl (memory.0, (none.0, memory.1))) (λ failed. inr (failed.0, (none.1, inr failed.1))) h

-- memory was refused where what is due so far was written, or is held
pub cause_by_memory : (reads now : List ReadCall) (before after : List WriteCall) (held rest goal : List ℕ) (x : Refusal) → NoneFailedSince reads now → IsDue before after held rest goal → x ≡ OutOfMemory → HasCause reads now before after x
cause_by_memory reads now before after held rest goal x none due is = inl (is, (none.0, due_failed before after held rest goal due))

due_of : (s t : Checking) (o p : List WriteCall) (lines : List Reading) (listing : Listing) → IsFresh listing s → ChecksLines s o lines (Ok None) t p → IsPrinted o t p
due_of s t o p lines listing fresh h = h.printed (no_error None) o (printed_first listing s o fresh)

front_printed : (t : Checking) (first now : List WriteCall) → IsPrinted first t now → TookFront first now (live_text t.listing (content_of t.detector))
front_printed t first now p =
    let more = live_text_grows t.listing p.before (content_of t.detector) p.grow in
    front_more first now (live_text t.listing p.before) more.0 (live_text t.listing (content_of t.detector)) more.1 (front_due first now t.held.items [] (live_text t.listing p.before) p.due)

pub cause_by_read : {S : Type 0} (takes : Taking S Ending) (settled : S → Type 0) (first now : List ReadCall) (s t : S) (o p : List WriteCall) (x : Refusal) → ReadBroke takes settled first now s o x t p → failed_writes p ≡ 0 + failed_writes o → HasCause first now o p x
cause_by_read takes settled first now s t o p x w written =
    ⊎_elim
    (λ memory. inl (memory.0, (omega (arith, memory.1.0, ap failed_reads w.since, failed_reads_on w.later first), omega (arith, written))))
    (λ failed. inr (
      failed.0,
      (
        omega (arith, failed.1.0, ap refused_reads w.since, refused_reads_on w.later first),
        inl (⊎_elim
            (λ one. inl (omega (arith, one, ap failed_reads w.since, failed_reads_on w.later first)))
            (λ many. inr (omega (arith, many, ap length w.since, length-append w.later first)))
            failed.1.1),
      ),
    ))
    w.cause

pub broke : (listing : Listing) (first now : List ReadCall) (s t : Checking) (o p : List WriteCall) (x : Refusal) → IsFresh listing s → Reads ChecksLines AlwaysSettled first now s o (Err x) t p
    → WroteFront (λ c end. live_text s.listing c) first now o p × HasCause first now o p x
broke listing first now s t o p x fresh reads =
    ⊎_elim
    (λ w. (
      wrote_live s.listing first now o p (content_of t.detector) (reports_read first now s.detector t.detector o p (Err x) fresh.start (seen first now s t o p (Err x) w)) (w.steps.front x refl o (printed_first listing s o fresh)),
      cause_of first now o p x (none_failed first now w.later w.since w.intact) (w.steps.cause x refl),
    ))
    (λ w. (
      wrote_live s.listing first now o p (content_of t.detector) (reports_broke first now s.detector t.detector o p x fresh.start (seen_broke first now s t o p x w))
          (subst (λ l. TookFront o p (live_text l (content_of t.detector))) w.steps.listing (front_printed t o p (due_of s t o p w.lines listing fresh w.steps))),
      cause_by_read ChecksLines AlwaysSettled first now s t o p x w w.steps.failures,
    ))
    reads

-- ---- what is printed at the end

-- what was printed behind the last line, which was broken off
pub broke_printing : (listing : Listing) (first now : List ReadCall) (s t u : Checking) (o p q : List WriteCall) (stop : Option Ending) (x : Refusal) → IsFresh listing s
    → WasRead ChecksLines AlwaysSettled first now s o (Ok stop) t p → ChecksLines t p [] (Err x) u q → u.detector ≡ t.detector
    → WroteFront (λ c end. live_text s.listing c) first now o q × HasCause first now o q x
broke_printing listing first now s t u o p q stop x fresh w h same = (
  wrote_live s.listing first now o q (content_of t.detector) (reports_read first now s.detector t.detector o p (Ok stop) fresh.start (seen first now s t o p (Ok stop) w))
      (subst (λ l. TookFront o q (live_text l (content_of t.detector))) w.steps.listing
      (subst (λ (d : Detector PagedWords). TookFront o q (live_text t.listing (content_of d))) same (h.front x refl o (w.steps.printed (no_error stop) o (printed_first listing s o fresh))))),
  cause_of first now o q x (none_failed first now w.later w.since w.intact) (⊎_elim (λ memory. inl (memory.0, omega (arith, memory.1, w.steps.failures))) (λ failed. inr (failed.0, omega (arith, failed.1, w.steps.failures))) (h.cause x refl)),
)

-- all reports were printed or are held
pub due_at_end : (listing : Listing) (first now : List ReadCall) (s t u : Checking) (o p q : List WriteCall) (stop : Option Ending) → IsFresh listing s
    → WasRead ChecksLines AlwaysSettled first now s o (Ok stop) t p → ChecksLines t p [] (Ok None) u q → u.detector ≡ t.detector → u.printed ≡ length (content_of t.detector).reports
    → IsDue o q u.held.items [] (live_text s.listing (content_of u.detector))
due_at_end listing first now s t u o p q stop fresh w h same count =
    subst (λ l. IsDue o q u.held.items [] (live_text l (content_of u.detector))) (h.listing ∙ w.steps.listing)
    (all_printed u o q (count ∙ ap (λ (d : Detector PagedWords). length (content_of d).reports) (sym same)) (h.printed (no_error None) o (w.steps.printed (no_error stop) o (printed_first listing s o fresh))))

pub reads_to_end : (listing : Listing) (first now : List ReadCall) (s t u : Checking) (o p : List WriteCall) (stop : Option Ending) → IsFresh listing s → WasRead ChecksLines AlwaysSettled first now s o (Ok stop) t p → u.detector ≡ t.detector
    → ReadsTo first now (content_of u.detector) (ending_of stop)
reads_to_end listing first now s t u o p stop fresh w same =
    subst (λ (d : Detector PagedWords). ReadsTo first now (content_of d) (ending_of stop)) (sym same) (reads_to first now s.detector t.detector o p stop fresh.start (seen first now s t o p (Ok stop) w))

-- ---- what a command asks of a run

pub live_due : (first now : List WriteCall) (held : List ℕ) (c : Content) (is listing : Listing) → is ≡ listing → IsDue first now held [] (live_text is c) → IsDue first now held [] (live_text listing c)
live_due first now held c is listing same h = subst (λ l. IsDue first now held [] (live_text l c)) same h

pub live_front : (reads reads_new : List ReadCall) (first now : List WriteCall) (is listing : Listing) → is ≡ listing → WroteFront (λ c end. live_text is c) reads reads_new first now
    → WroteFront (λ c end. live_text listing c) reads reads_new first now
live_front reads reads_new first now is listing same h = subst (λ l. WroteFront (λ c end. live_text l c) reads reads_new first now) same h
