use Rattle.std.proofs.Common.{◌≡◌, ◌⊎◌, ◌+◌, ◌-◌, ◌/◌, ◌<◌, ◌≤◌, ◌++◌, ℕ, length, take, replicate, add-zero, Ok, Err, IfOk, OnOk, IfErr, OnErr, None, inl, inr, ⊎_elim, refl, sym, ap, ◌∙◌, subst, arith}
use Rattle.std.specs.Prelude.{◌≢◌}
use Rattle.std.proofs.lemmas.List.{append-nil, length-replicate, take_all}
use Rattle.hg_model.specs.Accessing.{access_event}
use Rattle.hg_model.specs.Verdicts.{standing, verdict}
use Rattle.hg_model.specs.declared.verdict.Refusal.TheVariants as refusal
use Rattle.hg_cells.specs.Cells.{meaning}
use Rattle.hg_detect.specs.Engine.{LacksForCell, LacksRoom, actor_of, named_of, shown_of}
use Rattle.hg_detect.specs.Making.{Asks, AsksBy, sets_in}
use Rattle.hg_detect.specs.Planning.{IsPlanned, touched_by}
use Rattle.hg_detect.specs.Shown.{found, reports_some}
use Rattle.hg_detect.proofs.Accesses.{asked_from}
use Rattle.hg_detect.proofs.Alike.{alike_planned, alike_given, alike_found, alike_asked, alike_refused, alike_within, quiet}
use Rattle.hg_detect.proofs.Growing.{access_grows, lacks_alike, makes_reports}
use Rattle.hg_detect.proofs.Passing.{access_passes, few_events, few_words}
use Rattle.hg_detect.proofs.Answering.{KeepsEngine, access_answers, never_damaged, refused_answers, sets_changed}
use Rattle.hg_detect.proofs.Reports.{found_few}
use Rattle.hg_detect.proofs.engine.Engine.access_alike.Goals as goal

pub follow_access-requires : goal.follow_access-requires
follow_access-requires g c = (c.args.named.write, c.args.named.access, ap (λ e. verdict (standing e.state) (named_of c.args.named)) c.plan_for.ensures.others ∙ c.requires.accepted)

pub follow_access-requires-2 : goal.follow_access-requires-2
follow_access-requires-2 g c = (c.args.named.write, c.args.named.access, ap (λ e. verdict (standing e.state) (named_of c.args.named)) c.plan_for.ensures.others ∙ c.requires.accepted)

pub fill-requires : goal.fill-requires
fill-requires g c = subst (λ e. g.W.Words.may_fill e.words c.args.first c.args.count) (sym c.plan_for.ensures.others) c.requires.fillable

pub fill-requires-2 : goal.fill-requires-2
fill-requires-2 g c = subst (λ e. g.W.Words.may_fill e.words c.args.first c.args.count) (sym c.plan_for.ensures.others) c.requires.fillable

pub plan_alike-requires-clause-few : goal.plan_alike-requires-clause-few
plan_alike-requires-clause-few g c = few_words (standing c.args.self.now.state) c.args.named c.args.first c.args.count c.requires.accepted c.requires.first c.requires.count

pub reserve_reports-requires-clause-few : goal.reserve_reports-requires-clause-few
reserve_reports-requires-clause-few g c =
    let few = few_words (standing c.args.self.now.state) c.args.named c.args.first c.args.count c.requires.accepted c.requires.first c.requires.count in
    let len = ap length (c.as_slice.ensures.value ∙ c.plan_alike.ensures.items) ∙ length-replicate c.args.count c.in_ok-planned.planned in
    omega (arith, few, len)

pub add_reports-reports-requires-clause-few : goal.add_reports-reports-requires-clause-few
add_reports-reports-requires-clause-few g c =
    let few = few_words (standing c.args.self.now.state) c.args.named c.args.first c.args.count c.requires.accepted c.requires.first c.requires.count in
    let len = ap length (c.as_slice-2.ensures.value ∙ c.plan_alike.ensures.items) ∙ length-replicate c.args.count c.in_ok-planned.planned in
    omega (arith, few, len)

pub overflow_add-next : goal.overflow_add-next
overflow_add-next g c =
    let few = few_events (standing c.args.self.now.state) (named_of c.args.named) c.requires.accepted in
    omega (arith, few, c.events-next.ensures, ap (λ e. e.state.events) c.plan_for.ensures.others)

pub returns-in_err-planned-clause-went : goal.returns-in_err-planned-clause-went
returns-in_err-planned-clause-went g c = subst (λ e. g.W.Words.went c.args.self.now.words e.words) (sym c.plan_for.ensures.others) (g.met.W.Words.went_nowhere c.args.self.now.words)

pub returns-then-are_same-clause-went : goal.returns-then-are_same-clause-went
returns-then-are_same-clause-went g c = subst (λ e. g.W.Words.went c.args.self.now.words e.words) (sym c.plan_for.ensures.others) (g.met.W.Words.went_nowhere c.args.self.now.words)

pub returns-in_err-reserve_reports-clause-went : goal.returns-in_err-reserve_reports-clause-went
returns-in_err-reserve_reports-clause-went g c = subst (λ e. g.W.Words.went c.args.self.now.words e.words) (sym c.plan_for.ensures.others) (g.met.W.Words.went_nowhere c.args.self.now.words)

pub returns-in_err-planned-clause-answers : goal.returns-in_err-planned-clause-answers
returns-in_err-planned-clause-answers g c =
    let words = g.W.Words in
    let laws = g.met.W.Words in
    let old = c.args.self.now in
    let a = c.args.named.access in
    let passed = access_passes (standing old.state) (named_of c.args.named) c.args.named.write a refl c.requires.accepted in
    let actor = actor_of old a c.args.named.write in
    let first = a.at / 4 in
    let n : ℕ = (a.at + a.len + 3) / 4 - first in
    let some : 0 < n = let l = passed.some in omega arith in
    let alike : (w : ℕ) → first ≤ w → w < first + n → words.cell_of old.words w ≡ c.args.cell = λ w low high. c.requires.cells w (omega (arith, c.requires.first)) (omega (arith, c.requires.first, c.requires.count)) in
    let r = c.in_err-planned.field-0.0 in
    let fails : c.plan_for.result ≡ Err r = grind arith in
    let same : c.from_residual.result ≡ Err r = grind arith in
    let asked : AsksBy old.sets (sets_in (touched_by old.graph actor (meaning old.sets.sets c.args.cell))) (Err r) c.plan_for.new.self.sets =
    subst (λ x. IfErr x (λ e. AsksBy old.sets (sets_in (touched_by old.graph actor (meaning old.sets.sets c.args.cell))) (Err e) c.plan_for.new.self.sets)) fails c.plan_for.ensures.refused
    in
    let cause : (r ≡ refusal.FullSets) ⊎ (r ≡ refusal.OutOfMemory) = subst (λ x. IfErr x (λ e. (e ≡ refusal.FullSets) ⊎ (e ≡ refusal.OutOfMemory))) fails c.plan_for.ensures.refusal in
    let k = sets_changed words.cell_of words.may_bring words.is_faithful old c.plan_for.new.self c.plan_for.ensures.others c.plan_for.ensures.sets c.plan_for.ensures.numbers c.requires.sound in
    refused_answers words old c.plan_for.new.self (named_of c.args.named) c.from_residual.result r
    same k laws.brings_more laws.more_faithful laws.faithful_within c.requires.sound c.requires.lawful
    (λ h. asked_from words.cell_of (shown_of old) (access_event c.args.named.write c.args.named.access) c.args.named.write a actor _ c.from_residual.result (Err r) c.plan_for.new.self.sets refl passed.some refl refl same
    (alike_refused old.graph old.sets c.plan_for.new.self.sets actor (words.cell_of old.words) c.args.cell first n r some alike cause asked))
    (subst (λ x. IfErr x (LacksRoom (words.may_refuse c.plan_for.new.self.words))) (sym same) (⊎_elim (λ full. inl full) (λ out. inr (inl out)) cause))
    (λ t. subst (λ x. IfErr x (λ e. e ≢ refusal.Damaged)) (sym same) (never_damaged r cause))
    (λ h out. access_grows words (shown_of old) c.args.named.write a
    (inr (inl (lacks_alike words (shown_of old) (access_event c.args.named.write a) c.args.named.write a actor c.args.cell refl passed.some refl (alike first (omega arith) (omega arith))
    (subst (λ x. OnErr x (LacksForCell old a c.args.named.write c.args.cell)) fails c.plan_for.ensures.lacks)))))

pub returns-then-are_same-clause-answers : goal.returns-then-are_same-clause-answers
returns-then-are_same-clause-answers g c =
    let words = g.W.Words in
    let laws = g.met.W.Words in
    let old = c.args.self.now in
    let mid = c.plan_for.new.self in
    let a = c.args.named.access in
    let passed = access_passes (standing old.state) (named_of c.args.named) c.args.named.write a refl c.requires.accepted in
    let actor = actor_of old a c.args.named.write in
    let first = a.at / 4 in
    let n : ℕ = (a.at + a.len + 3) / 4 - first in
    let some : 0 < n = let l = passed.some in omega arith in
    let alike : (w : ℕ) → first ≤ w → w < first + n → words.cell_of old.words w ≡ c.args.cell = λ w low high. c.requires.cells w (omega (arith, c.requires.first)) (omega (arith, c.requires.first, c.requires.count)) in
    let others = c.plan_for.ensures.others in
    let alike_mid : (w : ℕ) → first ≤ w → w < first + n → words.cell_of mid.words w ≡ c.args.cell = λ w low high. ap (λ e. words.cell_of e.words w) others ∙ alike w low high in
    let p = c.in_ok-planned.planned in
    let ok : c.plan_for.result ≡ Ok p = grind arith in
    let planned : IsPlanned old.graph old.sets.sets mid.sets.sets actor c.args.cell p = subst (λ x. IfOk x (IsPlanned old.graph old.sets.sets mid.sets.sets actor c.args.cell)) ok c.plan_for.ensures.planned in
    let asked_one : Asks old.sets (sets_in (touched_by old.graph actor (meaning old.sets.sets c.args.cell))) None mid.sets = subst (λ x. OnOk x (Asks old.sets (sets_in (touched_by old.graph actor (meaning old.sets.sets c.args.cell))) None mid.sets)) ok c.plan_for.ensures.asked in
    let asked = alike_asked old.graph old.sets mid.sets actor (words.cell_of old.words) c.args.cell first n None some asked_one alike in
    let plan = replicate n p in
    let all_planned = alike_planned old.graph old.sets.sets mid.sets.sets actor (words.cell_of mid.words) c.args.cell p first n planned alike_mid in
    let k = sets_changed words.cell_of words.may_bring words.is_faithful old c.plan_for.new.self c.plan_for.ensures.others c.plan_for.ensures.sets c.plan_for.ensures.numbers c.requires.sound in
    let none = alike_found (mid.state.events + 1) c.args.named.write a.t first p n (quiet p.reported c.if-not-planned.true) in
    let same : p.cell ≡ c.args.cell = c.are_same.ensures.0 c.if-are_same.true in
    access_answers words old mid _ (named_of c.args.named) c.args.named.write a (mid.state.events + 1) 0 _ plan
    refl passed k laws.brings_more laws.more_faithful laws.faithful_within c.requires.sound c.requires.lawful
    (c.follow_access.ensures c.args.named.write c.args.named.access) refl refl refl refl all_planned (length-replicate n p)
    (alike_given (words.cell_of mid.words) (words.cell_of mid.words) p first n (λ w low high. alike_mid w low high ∙ sym same) (λ w out. refl))
    (λ s m each h. h)
    (λ s m each h. h)
    refl (sym (ap (λ xs. take 65536 (mid.kept.items ++ xs)) none ∙ ap (take 65536) (append-nil mid.kept.items) ∙ take_all 65536 mid.kept.items (omega (arith, c.requires.sound.few, ap length k.kept)))) (sym (ap length none)) (sym (add-zero mid.total))
    (λ h. asked_from words.cell_of (shown_of old) (access_event c.args.named.write c.args.named.access) c.args.named.write a actor _ (Ok tt) (Ok tt) mid.sets refl passed.some refl refl refl asked)

pub returns-then-not-planned-clause-answers : goal.returns-then-not-planned-clause-answers
returns-then-not-planned-clause-answers g c =
    let words = g.W.Words in
    let laws = g.met.W.Words in
    let old = c.args.self.now in
    let mid = c.plan_for.new.self in
    let a = c.args.named.access in
    let passed = access_passes (standing old.state) (named_of c.args.named) c.args.named.write a refl c.requires.accepted in
    let actor = actor_of old a c.args.named.write in
    let first = a.at / 4 in
    let n : ℕ = (a.at + a.len + 3) / 4 - first in
    let some : 0 < n = let l = passed.some in omega arith in
    let alike : (w : ℕ) → first ≤ w → w < first + n → words.cell_of old.words w ≡ c.args.cell = λ w low high. c.requires.cells w (omega (arith, c.requires.first)) (omega (arith, c.requires.first, c.requires.count)) in
    let others = c.plan_for.ensures.others in
    let alike_mid : (w : ℕ) → first ≤ w → w < first + n → words.cell_of mid.words w ≡ c.args.cell = λ w low high. ap (λ e. words.cell_of e.words w) others ∙ alike w low high in
    let p = c.in_ok-planned.planned in
    let ok : c.plan_for.result ≡ Ok p = grind arith in
    let planned : IsPlanned old.graph old.sets.sets mid.sets.sets actor c.args.cell p = subst (λ x. IfOk x (IsPlanned old.graph old.sets.sets mid.sets.sets actor c.args.cell)) ok c.plan_for.ensures.planned in
    let asked_one : Asks old.sets (sets_in (touched_by old.graph actor (meaning old.sets.sets c.args.cell))) None mid.sets = subst (λ x. OnOk x (Asks old.sets (sets_in (touched_by old.graph actor (meaning old.sets.sets c.args.cell))) None mid.sets)) ok c.plan_for.ensures.asked in
    let asked = alike_asked old.graph old.sets mid.sets actor (words.cell_of old.words) c.args.cell first n None some asked_one alike in
    let plan = replicate n p in
    let all_planned = alike_planned old.graph old.sets.sets mid.sets.sets actor (words.cell_of mid.words) c.args.cell p first n planned alike_mid in
    let k = sets_changed words.cell_of words.may_bring words.is_faithful old c.plan_for.new.self c.plan_for.ensures.others c.plan_for.ensures.sets c.plan_for.ensures.numbers c.requires.sound in
    let none = alike_found (mid.state.events + 1) c.args.named.write a.t first p n (quiet p.reported c.if-not-planned.true) in
    let inside : (w : ℕ) → first ≤ w → w < first + n → words.cell_of c.fill.new.self w ≡ p.cell = λ w low high. c.fill.ensures.inside w (omega (arith, c.requires.first)) (omega (arith, c.requires.first, c.requires.count)) in
    let outside : (w : ℕ) → (w < first) ⊎ (first + n ≤ w) → words.cell_of c.fill.new.self w ≡ words.cell_of mid.words w =
    λ w out. c.fill.ensures.outside w (⊎_elim (λ low. inl (omega (arith, c.requires.first))) (λ high. inr (omega (arith, c.requires.first, c.requires.count))) out) in
    access_answers words old mid _ (named_of c.args.named) c.args.named.write a (mid.state.events + 1) 0 _ plan
    refl passed k laws.brings_more laws.more_faithful laws.faithful_within c.requires.sound c.requires.lawful
    (c.follow_access.ensures c.args.named.write c.args.named.access) refl refl refl refl all_planned (length-replicate n p)
    (alike_given (words.cell_of mid.words) (words.cell_of c.fill.new.self) p first n inside outside)
    (λ s m each h. c.fill.ensures.lawful s m (alike_within s m p n some each) h)
    (λ s m each h. c.fill.ensures.faithful s m (alike_within s m p n some each) h)
    refl (sym (ap (λ xs. take 65536 (mid.kept.items ++ xs)) none ∙ ap (take 65536) (append-nil mid.kept.items) ∙ take_all 65536 mid.kept.items (omega (arith, c.requires.sound.few, ap length k.kept)))) (sym (ap length none)) (sym (add-zero mid.total))
    (λ h. asked_from words.cell_of (shown_of old) (access_event c.args.named.write c.args.named.access) c.args.named.write a actor _ (Ok tt) (Ok tt) mid.sets refl passed.some refl refl refl asked)

pub returns-in_err-reserve_reports-clause-answers : goal.returns-in_err-reserve_reports-clause-answers
returns-in_err-reserve_reports-clause-answers g c =
    let words = g.W.Words in
    let laws = g.met.W.Words in
    let old = c.args.self.now in
    let mid = c.plan_for.new.self in
    let a = c.args.named.access in
    let passed = access_passes (standing old.state) (named_of c.args.named) c.args.named.write a refl c.requires.accepted in
    let actor = actor_of old a c.args.named.write in
    let first = a.at / 4 in
    let n : ℕ = (a.at + a.len + 3) / 4 - first in
    let some : 0 < n = let l = passed.some in omega arith in
    let alike : (w : ℕ) → first ≤ w → w < first + n → words.cell_of old.words w ≡ c.args.cell = λ w low high. c.requires.cells w (omega (arith, c.requires.first)) (omega (arith, c.requires.first, c.requires.count)) in
    let others = c.plan_for.ensures.others in
    let alike_mid : (w : ℕ) → first ≤ w → w < first + n → words.cell_of mid.words w ≡ c.args.cell = λ w low high. ap (λ e. words.cell_of e.words w) others ∙ alike w low high in
    let p = c.in_ok-planned.planned in
    let ok : c.plan_for.result ≡ Ok p = grind arith in
    let planned : IsPlanned old.graph old.sets.sets mid.sets.sets actor c.args.cell p = subst (λ x. IfOk x (IsPlanned old.graph old.sets.sets mid.sets.sets actor c.args.cell)) ok c.plan_for.ensures.planned in
    let asked_one : Asks old.sets (sets_in (touched_by old.graph actor (meaning old.sets.sets c.args.cell))) None mid.sets = subst (λ x. OnOk x (Asks old.sets (sets_in (touched_by old.graph actor (meaning old.sets.sets c.args.cell))) None mid.sets)) ok c.plan_for.ensures.asked in
    let asked = alike_asked old.graph old.sets mid.sets actor (words.cell_of old.words) c.args.cell first n None some asked_one alike in
    let plan = replicate n p in
    let all_planned = alike_planned old.graph old.sets.sets mid.sets.sets actor (words.cell_of mid.words) c.args.cell p first n planned alike_mid in
    let k = sets_changed words.cell_of words.may_bring words.is_faithful old c.plan_for.new.self c.plan_for.ensures.others c.plan_for.ensures.sets c.plan_for.ensures.numbers c.requires.sound in
    let roomy = record mid { plan = c.plan_alike.new.plan; kept = c.reserve_reports.new.kept } in
    let roomier : KeepsEngine words.cell_of words.may_bring words.is_faithful old roomy =
    record {
      state = k.state;
      graph = k.graph;
      kept = c.reserve_reports.ensures.items ∙ k.kept;
      total = k.total;
      plan = c.plan_alike.ensures.room;
      sets = k.sets;
      numbers = k.numbers;
      lawful = k.lawful;
      faithful = k.faithful;
      cells = k.cells;
    }
    in
    let same : c.from_residual-in_err-reserve_reports.result ≡ Err refusal.OutOfMemory = grind arith in
    refused_answers words old roomy (named_of c.args.named) c.from_residual-in_err-reserve_reports.result refusal.OutOfMemory
    same roomier laws.brings_more laws.more_faithful laws.faithful_within c.requires.sound c.requires.lawful
    (λ h. asked_from words.cell_of (shown_of old) (access_event c.args.named.write c.args.named.access) c.args.named.write a actor _ c.from_residual-in_err-reserve_reports.result (Err refusal.OutOfMemory) mid.sets refl passed.some refl refl same (inr (refl, inl asked)))
    (subst (λ x. IfErr x (LacksRoom (words.may_refuse mid.words))) (sym same) (inr (inl refl)))
    (λ t. subst (λ x. IfErr x (λ e. e ≢ refusal.Damaged)) (sym same) (never_damaged refusal.OutOfMemory (inr refl)))
    (λ h out.
    let told = c.in_err-reserve_reports.ensures.grows in
    let slice : c.as_slice.result.now ≡ plan = c.as_slice.ensures.value ∙ c.plan_alike.ensures.items ∙ ap (λ (x : ℕ). replicate x p) (omega (arith, c.requires.count, c.requires.first)) in
    let made = makes_reports words (shown_of old) (access_event c.args.named.write a) c.args.named.write a actor (words.cell_of mid.words) mid.sets.sets plan refl passed.some refl
    (λ w. ap (λ e. words.cell_of e.words w) others) all_planned (length-replicate n p) (sym (ap reports_some slice) ∙ told.0) in
    access_grows words (shown_of old) c.args.named.write a (inr (inr (made, omega (arith, told.1, ap (λ e. length e.kept.items) others)))))

pub add_reports-reports-requires-clause-fits : goal.add_reports-reports-requires-clause-fits
add_reports-reports-requires-clause-fits g c =
    let old = c.args.self.now in
    let a = c.args.named.access in
    let passed = access_passes (standing old.state) (named_of c.args.named) c.args.named.write a refl c.requires.accepted in
    let len = ap length (c.as_slice-2.ensures.value ∙ c.plan_alike.ensures.items) ∙ length-replicate c.args.count c.in_ok-planned.planned in
    omega (arith, len, c.requires.count, c.requires.first, passed.within, passed.some)

pub overflow_add-self : goal.overflow_add-self
overflow_add-self g c =
    let old = c.args.self.now in
    let a = c.args.named.access in
    let passed = access_passes (standing old.state) (named_of c.args.named) c.args.named.write a refl c.requires.accepted in
    let few = found_few (c.events-next.result + 1) c.args.named.write a.t c.args.first c.as_slice-2.result.now in
    let len = ap length (c.as_slice-2.ensures.value ∙ c.plan_alike.ensures.items) ∙ length-replicate c.args.count c.in_ok-planned.planned in
    omega (arith, few, len, c.add_reports-reports.ensures.count, ap (λ e. e.total) c.plan_for.ensures.others, c.requires.sound.total, passed.events, c.requires.count, c.requires.first, passed.few, passed.some)

pub returns-clause-answers : goal.returns-clause-answers
returns-clause-answers g c =
    let words = g.W.Words in
    let laws = g.met.W.Words in
    let old = c.args.self.now in
    let mid = c.plan_for.new.self in
    let a = c.args.named.access in
    let passed = access_passes (standing old.state) (named_of c.args.named) c.args.named.write a refl c.requires.accepted in
    let actor = actor_of old a c.args.named.write in
    let first = a.at / 4 in
    let n : ℕ = (a.at + a.len + 3) / 4 - first in
    let some : 0 < n = let l = passed.some in omega arith in
    let alike : (w : ℕ) → first ≤ w → w < first + n → words.cell_of old.words w ≡ c.args.cell = λ w low high. c.requires.cells w (omega (arith, c.requires.first)) (omega (arith, c.requires.first, c.requires.count)) in
    let others = c.plan_for.ensures.others in
    let alike_mid : (w : ℕ) → first ≤ w → w < first + n → words.cell_of mid.words w ≡ c.args.cell = λ w low high. ap (λ e. words.cell_of e.words w) others ∙ alike w low high in
    let p = c.in_ok-planned.planned in
    let ok : c.plan_for.result ≡ Ok p = grind arith in
    let planned : IsPlanned old.graph old.sets.sets mid.sets.sets actor c.args.cell p = subst (λ x. IfOk x (IsPlanned old.graph old.sets.sets mid.sets.sets actor c.args.cell)) ok c.plan_for.ensures.planned in
    let asked_one : Asks old.sets (sets_in (touched_by old.graph actor (meaning old.sets.sets c.args.cell))) None mid.sets = subst (λ x. OnOk x (Asks old.sets (sets_in (touched_by old.graph actor (meaning old.sets.sets c.args.cell))) None mid.sets)) ok c.plan_for.ensures.asked in
    let asked = alike_asked old.graph old.sets mid.sets actor (words.cell_of old.words) c.args.cell first n None some asked_one alike in
    let plan = replicate n p in
    let all_planned = alike_planned old.graph old.sets.sets mid.sets.sets actor (words.cell_of mid.words) c.args.cell p first n planned alike_mid in
    let k = sets_changed words.cell_of words.may_bring words.is_faithful old c.plan_for.new.self c.plan_for.ensures.others c.plan_for.ensures.sets c.plan_for.ensures.numbers c.requires.sound in
    let roomy = record mid { plan = c.plan_alike.new.plan; kept = c.reserve_reports.new.kept } in
    let roomier : KeepsEngine words.cell_of words.may_bring words.is_faithful old roomy =
    record {
      state = k.state;
      graph = k.graph;
      kept = c.reserve_reports.ensures.items ∙ k.kept;
      total = k.total;
      plan = c.plan_alike.ensures.room;
      sets = k.sets;
      numbers = k.numbers;
      lawful = k.lawful;
      faithful = k.faithful;
      cells = k.cells;
    }
    in
    let planned_room : c.plan_alike.new.plan.items ≡ replicate n p = c.plan_alike.ensures.items ∙ ap (λ (x : ℕ). replicate x p) (omega (arith, c.requires.count, c.requires.first)) in
    let inside : (w : ℕ) → first ≤ w → w < first + n → words.cell_of c.fill-2.new.self w ≡ p.cell = λ w low high. c.fill-2.ensures.inside w (omega (arith, c.requires.first)) (omega (arith, c.requires.first, c.requires.count)) in
    let outside : (w : ℕ) → (w < first) ⊎ (first + n ≤ w) → words.cell_of c.fill-2.new.self w ≡ words.cell_of mid.words w =
    λ w out. c.fill-2.ensures.outside w (⊎_elim (λ low. inl (omega (arith, c.requires.first))) (λ high. inr (omega (arith, c.requires.first, c.requires.count))) out) in
    let slice : c.as_slice-2.result.now ≡ replicate n p = c.as_slice-2.ensures.value ∙ planned_room in
    let items = c.add_reports-reports.ensures.items ∙ (λ i. take 65536 (c.reserve_reports.new.kept.items ++ found (c.events-next.result + 1) c.args.named.write a.t (c.requires.first i) (slice i))) in
    let count = c.add_reports-reports.ensures.count ∙ (λ i. length (found (c.events-next.result + 1) c.args.named.write a.t (c.requires.first i) (slice i))) in
    access_answers words old roomy _ (named_of c.args.named) c.args.named.write a (c.events-next.result + 1) c.add_reports-reports.result _ plan
    refl passed roomier laws.brings_more laws.more_faithful laws.faithful_within c.requires.sound c.requires.lawful
    (c.follow_access-2.ensures c.args.named.write c.args.named.access) refl refl refl refl all_planned (length-replicate n p)
    (alike_given (words.cell_of mid.words) (words.cell_of c.fill-2.new.self) p first n inside outside)
    (λ s m each h. c.fill-2.ensures.lawful s m (alike_within s m p n some each) h)
    (λ s m each h. c.fill-2.ensures.faithful s m (alike_within s m p n some each) h)
    (ap (λ (x : ℕ). x + 1) c.events-next.ensures) items count refl
    (λ h. asked_from words.cell_of (shown_of old) (access_event c.args.named.write c.args.named.access) c.args.named.write a actor _ (Ok tt) (Ok tt) mid.sets refl passed.some refl refl refl asked)
