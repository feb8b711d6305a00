-- The laws of a detector that checks a trace text.
use Rattle.std.specs.Prelude.{◌≡◌, ◌+◌, ℕ, List, [], ◌++◌, length, Option, None, Result, Ok, Err, refl}
use Rattle.std.proofs.Common.{sym, ap, ◌∙◌, subst, inl, inr, ⊎_elim, arith}
use Rattle.std.proofs.lemmas.List.{append-nil, append_assoc, length-append}
use Rattle.hg_model.specs.declared.verdict.Refusal.{Refusal}
use Rattle.hg_model.specs.Contents.{Content}
use Rattle.hg_detect.specs.declared.detector.Detector.{Detector}
use Rattle.hg_cells.specs.declared.paged.PagedWords.{PagedWords}
use Rattle.hg_detect.specs.Memory.{content_of}
use Rattle.hg_streams.specs.declared.call.WriteCall.{WriteCall}
use Rattle.hg_streams.specs.Calls.{failed_writes}
use Rattle.hg_wire.specs.declared.reader.Reading.{Reading}
use Rattle.hg_reading.specs.declared.ending.Ending.{Ending}
use Rattle.hg_check.specs.declared.checking.Checking.{Checking}
use Rattle.hg_check.specs.Running.{LeadsFrom, ReportsGrow, Steps, live_text}
use Rattle.hg_streams.specs.Faults.{HasWriteCause}
use Rattle.hg_check.specs.Taking.{ChecksLines, MayTake}
use Rattle.hg_streams.specs.Written.{TookFront}

no_error : (x : Refusal) → ◌≡◌ {A = Result (Option Ending) Refusal} (Ok None) (Err x) → ⊥
no_error x h = absurd (cc)

grow_on : (a b c : Content) → ReportsGrow a b → ReportsGrow b c → ReportsGrow a c
grow_on a b c first second = (first.0 ++ second.0, second.1 ∙ (ap (λ xs. xs ++ second.0) first.1 ∙ append_assoc a.reports first.0 second.0))

pub steps_none : (d : Detector PagedWords) → Steps d [] (Ok None) d
steps_none d = record {
  leads = λ is later last end h. h;
  back = λ is later last end h. h;
  ends = λ end is. absurd (cc);
  front = λ never. absurd (never refl);
  few = λ h. h;
  reports = ([], sym (append-nil (content_of d).reports));
  counted = omega arith;
  whole = λ h. h;
}

pub steps_on : (a b c : Detector PagedWords) (first later : List Reading) (r : Result (Option Ending) Refusal) → Steps a first (Ok None) b → Steps b later r c → Steps a (first ++ later) r c
steps_on a b c first later r s t = record {
  leads = λ is more last end h. subst (λ xs. LeadsFrom a xs last end) (sym (append_assoc first later more)) (s.leads refl (later ++ more) last end (t.leads is more last end h));
  back = λ is more last end h. t.back is more last end (s.back refl (later ++ more) last end (subst (λ xs. LeadsFrom a xs last end) (append_assoc first later more) h));
  ends = λ end is more. subst (λ xs. LeadsFrom a xs (content_of c) end) (sym (append_assoc first later more)) (s.leads refl (later ++ more) (content_of c) end (t.ends end is more));
  front = λ never more last end few h. t.front never more last end (s.few few) (s.back refl (later ++ more) last end (subst (λ xs. LeadsFrom a xs last end) (append_assoc first later more) h));
  few = λ h. t.few (s.few h);
  reports = grow_on (content_of a) (content_of b) (content_of c) s.reports t.reports;
  counted = omega (arith, s.counted, t.counted, length-append first later);
  whole = λ h. t.whole (s.whole h);
}

pub takes_none : (s : Checking) (calls : List WriteCall) → ChecksLines s calls [] (Ok None) s calls
takes_none s calls = record {
  steps = steps_none s.detector;
  listing = refl;
  printed = λ fine first p. p;
  front = λ x is. absurd (no_error x is);
  cause = λ x is. absurd (no_error x is);
  failures = omega arith;
}

pub cause_on : (a b c : List WriteCall) (x : Refusal) → failed_writes b ≡ 0 + failed_writes a → HasWriteCause b c x → HasWriteCause a c x
cause_on a b c x same h = ⊎_elim (λ memory. inl (memory.0, omega (arith, same, memory.1))) (λ failed. inr (failed.0, omega (arith, same, failed.1))) h

pub takes_on : (a b c : Checking) (at_a at_b at_c : List WriteCall) (first later : List Reading) (r : Result (Option Ending) Refusal)
    → ChecksLines a at_a first (Ok None) b at_b → ChecksLines b at_b later r c at_c → ChecksLines a at_a (first ++ later) r c at_c
takes_on a b c at_a at_b at_c first later r s t = record {
  steps = steps_on a.detector b.detector c.detector first later r s.steps t.steps;
  listing = t.listing ∙ s.listing;
  printed = λ fine start p. t.printed fine start (s.printed no_error start p);
  front = λ x is start p. subst (λ listing. TookFront start at_c (live_text listing (content_of c.detector))) s.listing (t.front x is start (s.printed no_error start p));
  cause = λ x is. cause_on at_a at_b at_c x s.failures (t.cause x is);
  failures = omega (arith, s.failures, t.failures);
}

pub takes_room : (a b : Checking) (at_a at_b : List WriteCall) (first : List Reading) (n : ℕ) → MayTake a (length first + n) → ChecksLines a at_a first (Ok None) b at_b → MayTake b n
takes_room a b at_a at_b first n may s = (s.steps.whole may.0, omega (arith, may.1, s.steps.counted))

pub takes_fewer : (s : Checking) (n more : ℕ) → MayTake s (n + more) → MayTake s n
takes_fewer s n more may = (may.0, omega (arith, may.1))
