-- What stays where a detector goes on.
use Rattle.std.proofs.Common.{◌≡◌, ℕ, ◌+◌, ◌<◌, ◌≤◌, Bool, true, false, List, [], ◌∷◌, ◌++◌, filter, map, take, Result, refl, sym, ap, ◌∙◌, arith, append-nil}
use Rattle.std.specs.List.{AllByRecursion}
use Rattle.std.specs.Prelude.{if◌then◌else◌}
use Rattle.hg_model.specs.declared.event.Access.{Access}
use Rattle.hg_model.specs.declared.event.Event.{Event}
use Rattle.hg_model.specs.declared.event.Event.TheVariants.{Read, Write}
use Rattle.hg_model.specs.declared.event.Named.{Named}
use Rattle.hg_model.specs.declared.report.Report.{Report}
use Rattle.hg_model.specs.declared.verdict.Refusal.{Refusal}
use Rattle.hg_model.specs.Change.{after, becomes_racy, new_reports}
use Rattle.hg_model.specs.Contents.{Content}
use Rattle.hg_model.specs.Reporting.{words_of}
use Rattle.hg_cells.specs.declared.words.Words as words
use Rattle.hg_detect.specs.declared.detector.Answer.{Answer}
use Rattle.hg_detect.specs.Answering.{AnswersOffer, AnswersPass, after_passing, is_accepted}
use Rattle.hg_detect.specs.Engine.{AtPresent}
use Rattle.hg_detect.specs.Shown.{ShownDetector, content, reports_of}
use Rattle.hg_shards.proofs.Logging.{all_weaker}
use Rattle.hg_shards.proofs.Sharding.{take_more}

-- ---- the reports of one event

each_made : (f : ℕ → Report) (k : ℕ) → ((w : ℕ) → (f w).event ≡ k) → (ws : List ℕ) → AllByRecursion (λ r. r.event ≡ k) (map f ws)
each_made f k is [] = tt
each_made f k is (w ∷ ws) = (is w, each_made f k is ws)

new_event : (c : Content) (e : Event) → AllByRecursion (λ r. r.event ≡ c.events + 1) (new_reports c e)
new_event c (Read a) = each_made _ (c.events + 1) (λ w. refl) (filter (becomes_racy c (Read a)) (words_of a.at a.len))
new_event c (Write a) = each_made _ (c.events + 1) (λ w. refl) (filter (becomes_racy c (Write a)) (words_of a.at a.len))
new_event c e = tt

-- ---- the reports of a detector

-- Where the first of some reports were kept, the first of these and of later ones are.
pub record ReportsGo {W : Type 0} (old new : ShownDetector W) : Type 0 where
  pub events : old.parts.events ≤ new.parts.events
  pub late : List Report
  pub reports : (all : List Report) → reports_of old ≡ take 65536 all → reports_of new ≡ take 65536 (all ++ late)
  pub later : AllByRecursion (λ r. old.parts.events < r.event) late

pub reports_stay : {W : Type 0} (old new : ShownDetector W) → reports_of new ≡ reports_of old → old.parts.events ≤ new.parts.events → ReportsGo old new
reports_stay old new same le =
    record {
      events = le;
      late = [];
      reports = λ all is. same ∙ is ∙ ap (take 65536) (sym (append-nil all));
      later = tt;
    }

module _ {W : Type 0} (g : words.Ghosts W) (old new : ShownDetector W) where
  reports_more : (n : Named) → content g.cell_of new ≡ after (content g.cell_of old) n → ReportsGo old new
  reports_more n is =
      record {
        events = let e = ap (λ (c : Content). c.events) is in omega (arith, e);
        late = new_reports (content g.cell_of old) n.event;
        reports = λ all are.
            ap (λ (c : Content). c.reports) is
            ∙ ap (λ (rs : List Report). take 65536 (rs ++ new_reports (content g.cell_of old) n.event)) are
            ∙ take_more 65536 all (new_reports (content g.cell_of old) n.event);
        later =
            all_weaker (λ (r : Report). r.event ≡ old.parts.events + 1) (λ (r : Report). old.parts.events < r.event) (new_reports (content g.cell_of old) n.event) (λ r e. omega (arith, e))
            (new_event (content g.cell_of old) n.event);
      }

  pub offer_goes : (n : Named) (answer : Result Answer Refusal) → AtPresent g.is_faithful old → AnswersOffer g old n answer new → ReportsGo old new
  offer_goes n answer faithful h = by (is_accepted answer) (h.content faithful)
    where
      by : (b : Bool) → content g.cell_of new ≡ (if b then after (content g.cell_of old) n else content g.cell_of old) → ReportsGo old new
      by true is = reports_more n is
      by false is = reports_stay old new (ap (λ (c : Content). c.reports) is) (let e = ap (λ (c : Content). c.events) is in omega (arith, e))

  pub pass_goes : (source number : ℕ) (a : Access) (answer : Result Answer Refusal) → AnswersPass g old source number a answer new → ReportsGo old new
  pass_goes source number a answer h = by (is_accepted answer) h.content
    where
      by : (b : Bool) → content g.cell_of new ≡ (if b then after_passing (content g.cell_of old) source else content g.cell_of old) → ReportsGo old new
      by true is = reports_stay old new (ap (λ (c : Content). c.reports) is) (let e = ap (λ (c : Content). c.events) is in omega (arith, e))
      by false is = reports_stay old new (ap (λ (c : Content). c.reports) is) (let e = ap (λ (c : Content). c.events) is in omega (arith, e))
