-- The reports of a trace rise.
use Rattle.std.proofs.Common.{◌≡◌, ℕ, suc, ◌*◌, ◌<◌, ◌≤◌, List, [], ◌∷◌, ◌++◌, length, map, filter, refl, sym, ◌∙◌, subst, inl, inr, arith}
use Rattle.std.specs.List.{AllByRecursion}
use Rattle.hg_model.specs.declared.event.Event.{Event}
use Rattle.hg_model.specs.declared.report.Report.{Report}
use Rattle.hg_model.specs.Reporting.{is_reported, reports_at_last, all_reports}
use Rattle.hg_model.proofs.Rising.{From}
use Rattle.hg_shards.specs.Asking.{accessed}
use Rattle.hg_shards.specs.Alike.{touch}
use Rattle.hg_shards.specs.Laws.{ReportsRise}
use Rattle.hg_shards.specs.Merging.{IsBefore, Rises}
use Rattle.hg_shards.proofs.Sets.{from_filter}
use Rattle.hg_shards.proofs.Reports.{accessed_rise, report_by, reports_by}
use Rattle.hg_shards.proofs.Order.{before, each_both, each_weaker}

pub rises_both : (xs ys : List Report) → Rises xs → Rises ys → AllByRecursion (λ x. AllByRecursion (IsBefore x) ys) xs → Rises (xs ++ ys)
rises_both [] ys g h across = h
rises_both (x ∷ xs) ys g h across = (each_both (IsBefore x) xs ys g.0 across.0, rises_both xs ys g.1 h across.1)

-- reports of one event, by rising words
module _ (f : ℕ → Report) (n : ℕ) (event : (w : ℕ) → (f w).event ≡ n) (word : (w : ℕ) → (f w).word ≡ 4 * w) where
  above : (v k : ℕ) (ws : List ℕ) → v < k → From k ws → AllByRecursion (IsBefore (f v)) (map f ws)
  above v k [] lt h = tt
  above v k (w ∷ ws) lt h = (
    before (f v) (f w) (inr (event v ∙ sym (event w), let a = word v in let b = word w in let l = h.0 in omega arith)),
    above v (suc w) ws (let l = h.0 in omega arith) h.1,
  )

  words_rise : (k : ℕ) (ws : List ℕ) → From k ws → Rises (map f ws)
  words_rise k [] h = tt
  words_rise k (w ∷ ws) h = (above w (suc w) ws (omega arith) h.1, words_rise (suc w) ws h.1)

  at_event : (ws : List ℕ) → AllByRecursion (λ (r : Report). r.event ≡ n) (map f ws)
  at_event [] = tt
  at_event (w ∷ ws) = (event w, at_event ws)

abbrev reported_words : Event → List Event → List ℕ
reported_words e past = filter (is_reported (e ∷ past)) (accessed e)

pub last_rise : (trace : List Event) → Rises (reports_at_last trace)
last_rise [] = tt
last_rise (e ∷ past) =
    subst Rises (sym (reports_by e past))
    (words_rise (λ w. report_by (e ∷ past) (touch w e) w) (suc (length past)) (λ w. refl) (λ w. refl) 0 (reported_words e past) (from_filter (is_reported (e ∷ past)) 0 (accessed e) (accessed_rise e)))

pub last_event : (e : Event) (past : List Event) → AllByRecursion (λ r. r.event ≡ suc (length past)) (reports_at_last (e ∷ past))
last_event e past =
    subst (AllByRecursion (λ (r : Report). r.event ≡ suc (length past))) (sym (reports_by e past))
    (at_event (λ w. report_by (e ∷ past) (touch w e) w) (suc (length past)) (λ w. refl) (λ w. refl) (reported_words e past))

pub early : (trace : List Event) → AllByRecursion (λ r. r.event ≤ length trace) (all_reports trace)
early [] = tt
early (e ∷ past) =
    each_both (λ (r : Report). r.event ≤ suc (length past)) (all_reports past) (reports_at_last (e ∷ past))
    (each_weaker (λ (r : Report). r.event ≤ length past) (λ (r : Report). r.event ≤ suc (length past)) (λ r le. omega arith) (all_reports past) (early past))
    (each_weaker (λ (r : Report). r.event ≡ suc (length past)) (λ (r : Report). r.event ≤ suc (length past)) (λ r is. omega arith) (reports_at_last (e ∷ past)) (last_event e past))

pub reports_rise_lem : (trace : List Event) → Rises (all_reports trace)
reports_rise_lem [] = tt
reports_rise_lem (e ∷ past) =
    rises_both (all_reports past) (reports_at_last (e ∷ past)) (reports_rise_lem past) (last_rise (e ∷ past))
    (each_weaker (λ (r : Report). r.event ≤ length past) (λ (r : Report). AllByRecursion (IsBefore r) (reports_at_last (e ∷ past)))
    (λ r le. each_weaker (λ (s : Report). s.event ≡ suc (length past)) (IsBefore r) (λ s is. before r s (inl (omega arith))) (reports_at_last (e ∷ past)) (last_event e past))
    (all_reports past) (early past))

front_rises : (reports more : List Report) → Rises (reports ++ more) → Rises reports
front_rises [] more h = tt
front_rises (r ∷ reports) more h = (each_front (IsBefore r) reports more h.0, front_rises reports more h.1)
  where
    each_front : (P : Report → Type 0) (xs ys : List Report) → AllByRecursion P (xs ++ ys) → AllByRecursion P xs
    each_front P [] ys k = tt
    each_front P (x ∷ xs) ys k = (k.0, each_front P xs ys k.1)

rest_rises : (reports more : List Report) → Rises (reports ++ more) → Rises more
rest_rises [] more h = h
rest_rises (r ∷ reports) more h = rest_rises reports more h.1

pub rise_lem : ReportsRise
rise_lem = record { all = reports_rise_lem; front = front_rises; rest = rest_rises }
