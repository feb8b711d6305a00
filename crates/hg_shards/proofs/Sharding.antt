-- What a shard knows goes on with each event.
use Rattle.std.proofs.Common.{◌≡◌, ℕ, zero, suc, ◌+◌, ◌<◌, Bool, List, [], ◌∷◌, ◌++◌, length, take, None, Some, refl, sym, ap, ◌∙◌, subst, length-append, append-nil}
use Rattle.std.proofs.lemmas.List.Elements.{filter-append}
use Rattle.std.specs.Prelude.{◌==◌, ◌/◌, if◌then◌else◌}
use Rattle.hg_model.specs.declared.event.Event.{Event}
use Rattle.hg_model.specs.declared.event.Named.{Named}
use Rattle.hg_model.specs.declared.report.Report.{Report}
use Rattle.hg_model.specs.declared.verdict.Verdict.TheVariants.{Accept}
use Rattle.hg_model.specs.Messages.{was_received, was_sent}
use Rattle.hg_model.specs.Reporting.{all_reports, reports_at_last}
use Rattle.hg_model.specs.Contents.{Content, events_of, summary}
use Rattle.hg_model.specs.Change.{after, new_reports}
use Rattle.hg_model.specs.Verdicts.{IsAccepted, standing_of, verdict}
use Rattle.hg_model.proofs.Accepted.{passes}
use Rattle.hg_model.proofs.Central.{summary_step}
use Rattle.hg_model.proofs.Words.{history_fits, reports_law}
use Rattle.hg_sets.specs.Interning.{Table}
use Rattle.hg_sets.specs.declared.fault.SetFault.TheVariants.{Full}
use Rattle.hg_detect.specs.Answering.{after_passing}
use Rattle.hg_detect.specs.Making.{Asks, sets_asked}
use Rattle.hg_shards.specs.Alike.{AreAlike, ContentsAgree, PassesBy, reports_within}
use Rattle.hg_shards.specs.Asking.{HasSets, asked, asked_after, asked_at_last, size_with}
use Rattle.hg_shards.specs.Sharding.{Knows, reports_of_group, verdict_after}
use Rattle.hg_shards.proofs.Asking.{sets_are_lem}
use Rattle.hg_shards.proofs.Steps.{passing_lem, steps_agree_lem}
use Rattle.hg_shards.proofs.Tables.{asks_full, asks_none}

pub take_more : {X : Type 0} (n : ℕ) (xs ys : List X) → take n (take n xs ++ ys) ≡ take n (xs ++ ys)
take_more zero xs ys = refl
take_more (suc n) [] ys = refl
take_more (suc n) (x ∷ xs) ys = λ i. x ∷ take_more n xs ys i

-- What an event does of its own: its reports are of words of the group, and so are the sets that it asks for.
pub record IsOwn (within : ℕ → Bool) (c : Content) (e : Event) : Type 0 where
  pub reports : reports_within within (new_reports c e) ≡ new_reports c e
  pub sets : sets_asked c e ≡ asked_after within c e

module _ (within : ℕ → Bool) (trace : List Named) (c : Content) (k : Knows within trace c) where
  -- the verdict is that after the whole trace
  pub same_verdict : (n : Named) → verdict_after trace n ≡ verdict (standing_of c) n
  same_verdict n =
      λ i. verdict (record {
        events = k.content.events i;
        segments = length (k.content.segments i);
        threads = k.content.threads i;
        last = sym k.last i;
        sent = was_sent (k.content.segments i);
        received = was_received (k.content.segments i);
      }) n

  module _ (n : Named) (accepts : verdict_after trace n ≡ Accept) where
    accepted : IsAccepted (n ∷ trace)
    accepted = (k.accepted, accepts)

    -- the reports of the group, with those of the event
    reports_on : reports_of_group within (n ∷ trace) ≡ reports_of_group within trace ++ reports_within within (new_reports (summary trace) n.event)
    reports_on =
        filter-append (λ (r : Report). within (r.word / 4)) (all_reports (events_of trace)) (reports_at_last (n.event ∷ events_of trace))
        ∙ ap (λ (new : List Report). reports_of_group within trace ++ reports_within within new) (reports_law trace n.event (passes trace n accepts) (history_fits trace k.accepted))

    kept_on : (new : List Report) → new ≡ reports_within within (new_reports (summary trace) n.event) → take 65536 (c.reports ++ new) ≡ take 65536 (reports_of_group within (n ∷ trace))
    kept_on new is =
        (λ i. take 65536 (k.reports i ++ is i))
        ∙ take_more 65536 (reports_of_group within trace) (reports_within within (new_reports (summary trace) n.event))
        ∙ ap (λ (all : List Report). take 65536 all) (sym reports_on)

    total_on : (new : List Report) → new ≡ reports_within within (new_reports (summary trace) n.event) → c.total + length new ≡ length (reports_of_group within (n ∷ trace))
    total_on new is =
        (λ i. k.total i + length (is i))
        ∙ sym (length-append (reports_of_group within trace) (reports_within within (new_reports (summary trace) n.event)))
        ∙ ap (λ (all : List Report). length all) (sym reports_on)

    last_on : (source : ℕ) → n.source ≡ source → (λ s. if source == s then c.last s + 1 else c.last s) ≡ (summary (n ∷ trace)).last
    last_on source same = (λ i s. if sym same i == s then k.last i s + 1 else k.last i s) ∙ sym (ap (λ (d : Content). d.last) (summary_step n trace accepted))

    -- An event that the group cannot tell from the trace's, and that does all that it does to the group.
    pub knows_event : (m : Named) → n.source ≡ m.source → AreAlike within n.event m.event → IsOwn within c m.event → Knows within (n ∷ trace) (after c m)
    knows_event m same alike own =
        let step = steps_agree_lem within (summary trace) c n m k.content alike in
        let new = sym own.reports ∙ sym step.reports in
        record {
          accepted = accepted;
          content = subst (λ (d : Content). ContentsAgree within d (after c m)) (sym (summary_step n trace accepted)) step.content;
          last = last_on m.source same;
          reports = kept_on (new_reports c m.event) new;
          total = total_on (new_reports c m.event) new;
        }

    -- An event that does nothing to the group, and is counted.
    pub knows_passed : PassesBy within n.event → Knows within (n ∷ trace) (after_passing c n.source)
    knows_passed by =
        let passing = passing_lem within (summary trace) n by in
        let none = reports_on ∙ ap (λ (new : List Report). reports_of_group within trace ++ new) passing.1 ∙ append-nil (reports_of_group within trace) in
        record {
          accepted = accepted;
          content =
              subst (λ (d : Content). ContentsAgree within d (after_passing c n.source)) (sym (summary_step n trace accepted))
              (record {
                events = passing.0.events ∙ ap (λ (e : ℕ). e + 1) k.content.events;
                segments = passing.0.segments ∙ k.content.segments;
                threads = passing.0.threads ∙ k.content.threads;
                words = λ w inside. passing.0.words w inside ∙ k.content.words w inside;
              });
          last = last_on n.source refl;
          reports = k.reports ∙ ap (λ (all : List Report). take 65536 all) (sym none);
          total = k.total ∙ ap (λ (all : List Report). length all) (sym none);
        }

    -- the sets that an own event asks for are those of the trace's event, for the group
    asked_on : (m : Named) → AreAlike within n.event m.event → IsOwn within c m.event → sets_asked c m.event ≡ asked_at_last within (events_of (n ∷ trace))
    asked_on m alike own = own.sets ∙ sym (steps_agree_lem within (summary trace) c n m k.content alike).asked ∙ (sets_are_lem n trace accepted).0 within

    pub sets_on : (m : Named) → AreAlike within n.event m.event → IsOwn within c m.event → (limit : ℕ) (old new : Table) → HasSets limit (asked within (events_of trace)) old → Asks old (sets_asked c m.event) None new
        → HasSets limit (asked within (events_of (n ∷ trace))) new
    sets_on m alike own limit old new has asks =
        asks_none limit (asked within (events_of trace)) (asked_at_last within (events_of (n ∷ trace))) old new has
        (subst (λ (sets : List (List ℕ)). Asks old sets None new) (asked_on m alike own) asks)

    pub full_on : (m : Named) → AreAlike within n.event m.event → IsOwn within c m.event → (limit : ℕ) (old new : Table) → HasSets limit (asked within (events_of trace)) old → Asks old (sets_asked c m.event) (Some Full) new
        → limit < size_with (asked within (events_of (n ∷ trace)))
    full_on m alike own limit old new has asks =
        asks_full limit (asked within (events_of trace)) (asked_at_last within (events_of (n ∷ trace))) old new has
        (subst (λ (sets : List (List ℕ)). Asks old sets (Some Full) new) (asked_on m alike own) asks)
