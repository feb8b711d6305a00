-- Accepted events lead from lawful states to lawful states.
use Rattle.std.proofs.Common.{◌≡◌, inl, inr, ℕ, suc, ◌+◌, List, [], ◌∷◌, slice_get, Some, None, All, cond, refl, ap, ◌∙◌, arith}
use Rattle.std.specs.List.{AllByRecursion}
use Rattle.std.specs.Option.{option_and_then}
use Rattle.std.proofs.lemmas.List.Elements.{recursion_from_All}
use Rattle.hg_model.specs.declared.segment.Segment.{Segment}
use Rattle.hg_model.specs.declared.event.Named.{Named}
use Rattle.hg_model.specs.declared.report.Report.{Report}
use Rattle.hg_model.specs.declared.thread.ThreadState.{ThreadState}
use Rattle.hg_model.specs.declared.verdict.Verdict.TheVariants.{Accept}
use Rattle.hg_model.specs.declared.word.WordState.{WordState}
use Rattle.hg_model.specs.declared.word.WordState.TheVariants.{New, Exclusive, SharedRead, SharedModified}
use Rattle.hg_model.specs.Contents.{Content}
use Rattle.hg_model.specs.Verdicts.{standing_of, verdict}
use Rattle.hg_model.specs.Change.{after, empty_content, followed, is_accept}
use Rattle.hg_model.proofs.ThreadSets.{kept, start}
use Rattle.hg_records.specs.Records.{RecordFits}
use Rattle.hg_cells.specs.declared.cell.Cell.{Cell}
use Rattle.hg_detect.specs.Making.{sets_in}
use Rattle.hg_root.specs.Grammar.{LockFits, MarkFits, SetFits}
use Rattle.hg_contents.specs.Lawful.{AreInOrder, IsBefore, IsLawfulContent, IsReportOf}
use Rattle.hg_contents.specs.Spellings.{HasSpellings}
use Rattle.hg_contents.specs.States.{IsLawfulState, StatesFit}
use Rattle.hg_contents.proofs.lawful.Fitting.{AreFit}
use Rattle.hg_contents.proofs.lawful.Holding.{EachHolds, Holds, holds_after}
use Rattle.hg_contents.proofs.lawful.Lawful.{lawful, lawful_with}
use Rattle.hg_contents.proofs.lawful.Lists.{each_weaker}
use Rattle.hg_contents.proofs.lawful.Ordering.{AreOrdered, IsSorted, ordered_after}
use Rattle.hg_contents.proofs.lawful.Parting.{apart, living}
use Rattle.hg_contents.proofs.lawful.Passing.{kept_along, kept_with}
use Rattle.hg_contents.proofs.lawful.Reporting.{IsMade}
use Rattle.hg_contents.proofs.lawful.Sending.{HasSent, sent_after}
use Rattle.hg_contents.proofs.lawful.Sharing.{AreShared, shared_after}
use Rattle.hg_contents.proofs.lawful.Spelling.{IsFew, IsSpelled, LocksFit, candidates, none_few, spelled_after}
use Rattle.hg_contents.proofs.lawful.Tables.{has_spellings, spellings}

-- ---- what a lawful state keeps

before_both : (a b c : Report) → IsBefore a b → IsBefore b c → IsBefore a c
before_both a b c (inl one) (inl other) = inl (omega (arith, one, other))
before_both a b c (inl one) (inr other) = let same = other.0 in inl (omega (arith, one, same))
before_both a b c (inr one) (inl other) = let same = one.0 in inl (omega (arith, same, other))
before_both a b c (inr one) (inr other) = let first = one.1 in let second = other.1 in inr (one.0 ∙ other.0, omega (arith, first, second))

later_order : (x : Report) (xs : List Report) → AreInOrder (x ∷ xs) → AreInOrder xs
later_order x xs order k a b at next =
    let up : suc k + 1 ≡ suc (k + 1) = omega arith in
    order (suc k) a b at (ap (slice_get (x ∷ xs)) up ∙ next)

-- each before the next is each before all later ones
sorted : (reports : List Report) → AreInOrder reports → IsSorted IsBefore reports
sorted [] order = tt
sorted (x ∷ []) order = (tt, tt)
sorted (x ∷ y ∷ ys) order =
    let first : IsBefore x y = order 0 x y refl refl in
    let rest = sorted (y ∷ ys) (later_order x (y ∷ ys) order) in
    ((first, each_weaker (IsBefore y) (IsBefore x) (λ z next. before_both x y z first next) ys rest.0), rest)

fit : (c : Content) → IsLawfulContent c → AreFit c
fit c is = record {
  grown = record {
    counted = record { events = is.events; some = is.segment_count.0; few = is.segment_count.1; total = is.total; kept = is.kept };
    named = record { named = is.named; lawful = is.segments };
  };
  living = living c.threads is.threads;
  apart = apart c.threads is.threads;
}

ordered : (c : Content) → IsLawfulContent c → AreOrdered c
ordered c is = record {
  made = each_weaker (IsReportOf c.events) (IsMade c.events) (λ r of. record { event = of.event; word = of.word; member = of.member }) c.reports (recursion_from_All (IsReportOf c.events) c.reports is.reports);
  sorted = sorted c.reports is.order;
}

holds : (c : Content) → IsLawfulContent c → EachHolds c
holds c is = recursion_from_All Holds c.threads is.held

locks_few : (state : WordState) → All SetFits (sets_in state) → IsFew (candidates state)
locks_few New all = none_few
locks_few (Exclusive s) all = none_few
locks_few (SharedRead threads locks) all = let fits = (recursion_from_All SetFits (threads ∷ locks ∷ []) all).1.0 in record { len = fits.0; each = fits.1 }
locks_few (SharedModified threads locks) all = let fits = (recursion_from_All SetFits (threads ∷ locks ∷ []) all).1.0 in record { len = fits.0; each = fits.1 }

spelled : (c : Content) → IsLawfulContent c → HasSpellings c → IsSpelled c
spelled c is has = record {
  holds = holds c is;
  messages = recursion_from_All (λ (s : Segment). MarkFits s.mark) c.segments has.messages;
  locks = each_weaker (λ x. All LockFits x.held) LocksFit (λ x all. recursion_from_All LockFits x.held all) c.threads (recursion_from_All (λ (x : ThreadState). All LockFits x.held) c.threads has.locks);
  words = λ w. locks_few (c.words w) (has.words w);
}

-- ---- and leads to

pub first : IsLawfulState empty_content
first = record { lawful = lawful [] empty_content refl; spelled = spellings [] empty_content tt refl; sets = start; words = λ w. tt }

pub followed_stay : (c d : Content) (events : List Named) → IsLawfulState c → AllByRecursion RecordFits events → followed c events ≡ Some d → IsLawfulState d
followed_stay c d events state fits led =
    let is = state.lawful in
    let sets = kept c d events led state.sets in
    let shared = kept_along AreShared shared_after c d events led (record { fit = fit c is; words = state.words }) in
    record {
      lawful = lawful_with d shared.fit (kept_along HasSent sent_after c d events led is.last) (kept_along AreOrdered ordered_after c d events led (ordered c is))
          (kept_along EachHolds holds_after c d events led (holds c is)) sets;
      spelled = has_spellings d (kept_with RecordFits IsSpelled spelled_after c d events fits led (spelled c is state.spelled)) sets;
      sets = sets;
      words = shared.words;
    }

pub one_stays : (c : Content) (n : Named) → IsLawfulState c → RecordFits n → verdict (standing_of c) n ≡ Accept → IsLawfulState (after c n)
one_stays c n state fits accepted = followed_stay c (after c n) (n ∷ []) state (fits, tt) (ap (λ v. option_and_then (λ d. followed d []) (cond (is_accept v) (Some (after c n)) None)) accepted)

pub fits_a_root : {W : Type 0} (cell_of : W → ℕ → Cell) → StatesFit cell_of
fits_a_root cell_of d state table members named = record { lawful = state.lawful; table = table; members = members; messages = state.spelled.messages; locks = state.spelled.locks; named = named }
