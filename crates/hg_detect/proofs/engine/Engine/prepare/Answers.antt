use Rattle.std.proofs.Common.{◌≡◌, ◌+◌, ◌-◌, ◌/◌, ℕ, true, length, Result, Ok, Err, inl, inr, refl, sym, ap, ◌∙◌, subst}
use Rattle.hg_model.specs.Accessing.{access_event}
use Rattle.hg_model.specs.History.{overlaps}
use Rattle.hg_model.specs.declared.verdict.Refusal.{Refusal}
use Rattle.hg_cells.specs.Words.{SameCells}
use Rattle.hg_detect.specs.Engine.{actor_of, shown_of}
use Rattle.hg_detect.specs.Planning.{Actor, ArePlanned}
use Rattle.hg_detect.specs.Shown.{reports_some}
use Rattle.hg_detect.proofs.Growing.{access_grows, lacks_sets, makes_reports}
use Rattle.hg_detect.proofs.engine.Engine.prepare.Goals as goal

no_ok : (r : Refusal) → ◌≡◌ {A = Result (Unit {0}) Refusal} (Err r) (Ok tt) → ⊥
no_ok r is = absurd (cc)

pub returns-in_err-plan_words-clause-grows : goal.returns-in_err-plan_words-clause-grows
returns-in_err-plan_words-clause-grows g c h out =
    let words = g.W.Words in
    let old = c.args.self.now in
    let a = c.args.access.now in
    let write = c.args.write in
    let acts : record { thread = a.t; segment = c.present.result; write = write; locks = c.counted.result.now } ≡ actor_of old a write =
    λ i. record { thread = a.t; segment = c.present.ensures.value i; write = write; locks = c.counted.ensures.value i } in
    let same : SameCells (words.cell_of old.words) (words.cell_of c.bring.new.self) = c.bring.ensures.cells (length old.graph) (length old.sets.sets) h in
    access_grows words (shown_of old) write a
    (inr (inl (lacks_sets words (shown_of old) (access_event write a) write a _ c.args.first c.args.end c.in_err-plan_words.field-0.0 (words.cell_of c.bring.new.self) c.plan_words.new.sets
    refl c.requires.some acts c.requires.first c.requires.end same c.in_err-plan_words.ensures.asked)))

pub returns-in_err-keep-clause-grows : goal.returns-in_err-keep-clause-grows
returns-in_err-keep-clause-grows g c h out =
    let words = g.W.Words in
    let old = c.args.self.now in
    let a = c.args.access.now in
    let len : c.from-len.result ≡ a.len = c.from-len.ensures in
    access_grows words (shown_of old) c.args.write a
    (inl (λ ready.
    let here : (w : ℕ) → overlaps a.at c.from-len.result w ≡ true → words.is_brought old.words w × words.is_kept old.words w =
    λ w is. ready w (subst (λ (n : ℕ). overlaps a.at n w ≡ true) len is) in
    no_ok c.in_err-keep.field-0.0 (c.in_err-keep.ensures.again (λ w is. c.in_ok-bring.ensures.stay (λ v at. (here v at).0) w (here w is).1))))

pub returns-in_err-reserve_reports-clause-grows : goal.returns-in_err-reserve_reports-clause-grows
returns-in_err-reserve_reports-clause-grows g c h out =
    let words = g.W.Words in
    let old = c.args.self.now in
    let a = c.args.access.now in
    let write = c.args.write in
    let mid = c.bring.new.self in
    let told = c.in_err-reserve_reports.ensures.grows in
    let plan = c.plan_words.new.plan.items in
    let actor : Actor = record { thread = a.t; segment = c.present.result; write = write; locks = c.counted.result.now } in
    let acts : actor ≡ actor_of old a write =
    λ i. record { thread = a.t; segment = c.present.ensures.value i; write = write; locks = c.counted.ensures.value i } in
    let same : SameCells (words.cell_of old.words) (words.cell_of mid) = c.bring.ensures.cells (length old.graph) (length old.sets.sets) h in
    let any : reports_some plan ≡ true = ap reports_some (sym c.as_slice.ensures.value) ∙ told.0 in
    let len : length plan ≡ (a.at + a.len + 3) / 4 - a.at / 4 = c.in_ok-plan_words.ensures.len ∙ (λ i. c.requires.end i - c.requires.first i) in
    let planned : ArePlanned old.graph old.sets.sets c.plan_words.new.sets.sets actor (words.cell_of mid) (a.at / 4) plan =
    subst (λ (n : ℕ). ArePlanned old.graph old.sets.sets c.plan_words.new.sets.sets actor (words.cell_of mid) n plan) c.requires.first c.in_ok-plan_words.ensures.planned in
    access_grows words (shown_of old) write a
    (inr (inr (makes_reports words (shown_of old) (access_event write a) write a actor (words.cell_of mid) c.plan_words.new.sets.sets plan refl c.requires.some acts same planned len any, told.1)))
