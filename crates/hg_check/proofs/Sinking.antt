-- What a detector takes of one line, and what it prints.
use Rattle.std.proofs.Common.{◌≡◌, ◌+◌, ℕ, List, [], ◌∷◌, ◌++◌, length, drop, Option, None, Result, Ok, Err, IfErr, OnErr, OnOk, refl, sym, ap, ◌∙◌, subst, inl, arith}
use Rattle.hg_streams.specs.declared.listing.Listing.{Listing}
use Rattle.hg_streams.specs.declared.listing.Listing.TheVariants.{Reports, Segments}
use Rattle.hg_model.specs.declared.verdict.Refusal.{Refusal}
use Rattle.hg_model.specs.declared.verdict.Refusal.TheVariants.{OutOfMemory}
use Rattle.hg_model.specs.Contents.{Content}
use Rattle.hg_detect.specs.declared.detector.Detector.{Detector}
use Rattle.hg_cells.specs.declared.paged.PagedWords.{PagedWords}
use Rattle.hg_detect.specs.Memory.{content_of}
use Rattle.hg_streams.specs.declared.call.WriteCall.{WriteCall}
use Rattle.hg_streams.specs.Calls.{failed_writes}
use Rattle.hg_streams.specs.Told.{told, told_refusal}
use Rattle.hg_wire.specs.declared.reader.Reading.{Reading}
use Rattle.hg_reading.specs.declared.ending.Ending.{Ending}
use Rattle.hg_check.specs.declared.checking.Checking.{Checking}
use Rattle.hg_streams.specs.Holding.{IsDue}
use Rattle.hg_streams.specs.Texts.{reports_text}
use Rattle.hg_check.specs.Running.{ReportsGrow, Steps, live_text}
use Rattle.hg_streams.specs.Faults.{HasWriteCause}
use Rattle.hg_check.specs.Taking.{ChecksLines}
use Rattle.hg_check.specs.TakingLaws.{steps_none}
use Rattle.hg_streams.specs.Written.{TookFront}
use Rattle.hg_streams.proofs.Printed.{front_due, front_more}
use Rattle.hg_check.proofs.Steps.{leads_grow, reports_grow_on, reports_stay}
use Rattle.hg_check.proofs.Growing.{live_text_grows, new_reports_due}

pub memory_alone : (r : Result (Option Ending) Refusal) → IfErr r (λ x. x ≡ OutOfMemory) → (x : Refusal) → r ≡ Err x → x ≡ OutOfMemory
memory_alone (Ok stop) h x is = absurd (cc)
memory_alone (Err y) h x is = let same : y ≡ x = cc in sym same ∙ h

pub none_failed : (r : Result (Option Ending) Refusal) (n : ℕ) → IfErr r (λ x. x ≡ OutOfMemory) → n ≡ told r + n
none_failed (Ok stop) n h = omega arith
none_failed (Err x) n h = omega (arith, ap told_refusal h)

-- what was written is a front of the reports of a later content
front_grown : (first now : List WriteCall) (before mid last : Content) (listing : Listing) → ReportsGrow before mid → ReportsGrow mid last → TookFront first now (live_text listing before) → TookFront first now (live_text listing last)
front_grown first now before mid last listing grow on f =
    let more = live_text_grows listing before last (reports_grow_on before mid last grow on) in
    front_more first now (live_text listing before) more.0 (live_text listing last) more.1 f

-- one line was offered
pub takes_line : (old new : Checking) (calls : List WriteCall) (reading : Reading) (r : Result (Option Ending) Refusal) → Steps old.detector (reading ∷ []) r new.detector → IfErr r (λ x. x ≡ OutOfMemory)
    → new.listing ≡ old.listing → new.printed ≡ old.printed → new.held.items ≡ old.held.items
    → ChecksLines old calls (reading ∷ []) r new calls
takes_line old new calls reading r steps memory listing printed held = record {
  steps = steps;
  listing = listing;
  printed = λ fine first p. record {
    before = p.before;
    count = printed ∙ p.count;
    grow = reports_grow_on p.before (content_of old.detector) (content_of new.detector) p.grow steps.reports;
    due = subst (λ items. IsDue first calls items [] (live_text new.listing p.before)) (sym held) (subst (λ l. IsDue first calls old.held.items [] (live_text l p.before)) (sym listing) p.due);
  };
  front = λ x is first p. front_grown first calls p.before (content_of old.detector) (content_of new.detector) old.listing p.grow steps.reports (front_due first calls old.held.items [] (live_text old.listing p.before) p.due);
  cause = λ x is. inl (memory_alone r memory x is, refl);
  failures = none_failed r (failed_writes calls) memory;
}

-- printing that is broken off changes no content
pub steps_stay : (d : Detector PagedWords) (x : Refusal) → Steps d [] (Err x) d
steps_stay d x = record {
  leads = λ is. absurd (cc);
  back = λ is. absurd (cc);
  ends = λ end is. absurd (cc);
  front = λ never later last end few h. leads_grow later d.sets (content_of d) last end few h;
  few = λ h. h;
  reports = reports_stay (content_of d);
  counted = omega arith;
  whole = λ h. h;
}

-- The new reports were printed, or that was broken off.
pub takes_printed : {T : Type 0} (old new : Checking) (before now : List WriteCall) (r : Result T Refusal)
    → old.listing ≡ Reports → new.detector ≡ old.detector → new.listing ≡ old.listing → new.printed ≡ length (content_of old.detector).reports
    → ((first : List WriteCall) (rest goal : List ℕ) → IsDue first before old.held.items (reports_text (old.printed + 1) (drop old.printed (content_of old.detector).reports) ++ rest) goal
    → OnOk r (IsDue first now new.held.items rest goal))
    → ((first : List WriteCall) (rest goal : List ℕ) → IsDue first before old.held.items (reports_text (old.printed + 1) (drop old.printed (content_of old.detector).reports) ++ rest) goal
    → OnErr r (TookFront first now goal))
    → IfErr r (λ x. HasWriteCause before now x)
    → failed_writes now ≡ told r + failed_writes before
    → OnOk r (ChecksLines old before [] (Ok None) new now) × IfErr r (λ x. ChecksLines old before [] (Err x) new now)
takes_printed old new before now (Ok done) is_listing detector listing counted printed front cause failures = (
  record {
    steps = subst (λ (d : Detector PagedWords). Steps old.detector [] (Ok None) d) (sym detector) (steps_none old.detector);
    listing = listing;
    printed = λ fine first p. record {
      before = content_of old.detector;
      count = counted;
      grow = subst (λ (d : Detector PagedWords). ReportsGrow (content_of old.detector) (content_of d)) (sym detector) (reports_stay (content_of old.detector));
      due = subst (λ l. IsDue first now new.held.items [] (live_text l (content_of old.detector))) (sym is_listing ∙ sym listing)
          (printed first [] (reports_text 1 (content_of old.detector).reports)
          (new_reports_due first before old.held.items p.before (content_of old.detector) old.printed p.count p.grow
          (subst (λ l. IsDue first before old.held.items [] (live_text l p.before)) is_listing p.due)));
    };
    front = λ x is. absurd (cc);
    cause = λ x is. absurd (cc);
    failures = failures;
  },
  tt,
)
takes_printed old new before now (Err y) is_listing detector listing counted printed front cause failures = (
  tt,
  record {
    steps = subst (λ (d : Detector PagedWords). Steps old.detector [] (Err y) d) (sym detector) (steps_stay old.detector y);
    listing = listing;
    printed = λ fine. absurd (fine y refl);
    front = λ x is first p.
        subst (λ (d : Detector PagedWords). TookFront first now (live_text old.listing (content_of d))) (sym detector)
        (subst (λ l. TookFront first now (live_text l (content_of old.detector))) (sym is_listing)
        (front first [] (reports_text 1 (content_of old.detector).reports)
        (new_reports_due first before old.held.items p.before (content_of old.detector) old.printed p.count p.grow
        (subst (λ l. IsDue first before old.held.items [] (live_text l p.before)) is_listing p.due))));
    cause = λ x is. let same : y ≡ x = cc in subst (λ z. HasWriteCause before now z) same cause;
    failures = failures;
  },
)

-- Nothing was to be printed.
pub takes_nothing : (old new : Checking) (calls : List WriteCall) → old.listing ≡ Segments → new.detector ≡ old.detector → new.listing ≡ old.listing → new.printed ≡ length (content_of old.detector).reports → new.held.items ≡ old.held.items
    → ChecksLines old calls [] (Ok None) new calls
takes_nothing old new calls is_listing detector listing counted held = record {
  steps = subst (λ (d : Detector PagedWords). Steps old.detector [] (Ok None) d) (sym detector) (steps_none old.detector);
  listing = listing;
  printed = λ fine first p. record {
    before = content_of old.detector;
    count = counted;
    grow = subst (λ (d : Detector PagedWords). ReportsGrow (content_of old.detector) (content_of d)) (sym detector) (reports_stay (content_of old.detector));
    due = subst (λ items. IsDue first calls items [] (live_text new.listing (content_of old.detector))) (sym held)
        (subst (λ l. IsDue first calls old.held.items [] (live_text l (content_of old.detector))) (sym is_listing ∙ sym listing)
        (subst (λ l. IsDue first calls old.held.items [] (live_text l p.before)) is_listing p.due));
  };
  front = λ x is. absurd (cc);
  cause = λ x is. absurd (cc);
  failures = omega arith;
}
