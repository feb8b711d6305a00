use Rattle.std.proofs.Common.{◌≡◌, ◌+◌, ◌/◌, ℕ, Ok, Err, refl, sym, ap, ◌∙◌, subst, arith, length, take, ◌++◌, All}
use Rattle.std.specs.Prelude.{◌≢◌, IfErr, vec_capacity}
use Rattle.hg_model.specs.declared.verdict.Refusal.TheVariants.{Damaged}
use Rattle.hg_model.specs.Accessing.{access_event, access_named}
use Rattle.hg_model.specs.Verdicts.{standing}
use Rattle.hg_detect.specs.Engine.{LacksRoom, actor_of, shown_of}
use Rattle.hg_detect.specs.Shown.{HasRoom, found, given}
use Rattle.hg_cells.specs.Cells.{IsWithin}
use Rattle.hg_detect.proofs.Accesses.{asked_from, last_word}
use Rattle.hg_detect.proofs.Passing.{access_passes}
use Rattle.hg_detect.proofs.Answering.{KeepsEngine, access_answers, refused_answers}
use Rattle.hg_detect.proofs.Reports.{found_few}
use Rattle.hg_detect.proofs.engine.Engine.access_unlike.Goals as goal

pub returns-in_err-prepare-clause-answers : goal.returns-in_err-prepare-clause-answers
returns-in_err-prepare-clause-answers g c =
    let words = g.W.Words in
    let old = c.args.self.now in
    let p = c.prepare.ensures in
    let k : KeepsEngine words.cell_of words.may_bring words.is_faithful old c.prepare.new.self =
    record {
      state = p.state;
      graph = p.graph;
      kept = p.reports;
      total = p.total;
      plan = p.plan;
      sets = p.sets;
      numbers = p.numbers;
      lawful = λ _. p.lawful;
      faithful = p.faithful;
      cells = p.cells;
    }
    in
    let a = c.args.access in
    let passed = access_passes (standing old.state) (access_named c.args.source c.args.number c.args.write c.args.access) c.args.write a refl c.requires.accepted in
    let same : c.from_residual.result ≡ c.prepare.result = grind arith in
    let fails : c.from_residual.result ≡ Err c.in_err-prepare.field-0.0 = grind arith in
    refused_answers words old c.prepare.new.self (access_named c.args.source c.args.number c.args.write c.args.access) c.from_residual.result c.in_err-prepare.field-0.0
    fails k g.met.W.Words.brings_more g.met.W.Words.more_faithful g.met.W.Words.faithful_within c.requires.sound c.requires.lawful
    (λ h. asked_from words.cell_of (shown_of old) (access_event c.args.write c.args.access) c.args.write a (actor_of old a c.args.write) _ c.from_residual.result c.prepare.result c.prepare.new.self.sets refl passed.some refl (last_word a c.from.result c.from.ensures passed.some) same (p.asked (length old.graph) (length old.sets.sets) h))
    (subst (λ x. IfErr x (LacksRoom (words.may_refuse c.prepare.new.self.words))) (sym same) p.refusal)
    (λ t. subst (λ x. IfErr x (λ r. r ≢ Damaged)) (sym same) (p.undamaged t))
    (λ h out. p.grows h (sym same ∙ out))

pub overflow_add-self : goal.overflow_add-self
overflow_add-self g c =
    let old = c.args.self.now in
    let a = c.args.access in
    let passed = access_passes (standing old.state) (access_named c.args.source c.args.number c.args.write c.args.access) c.args.write a refl c.requires.accepted in
    let few = found_few (c.events-event.result + 1) c.args.write a.t (a.at / 4) c.prepare.new.self.plan.items in
    let count = c.add_reports.ensures.count ∙ ap (λ xs. length (found (c.events-event.result + 1) c.args.write a.t (a.at / 4) xs)) c.as_slice-2.ensures.value in
    omega (arith, count, c.prepare.ensures.total, c.requires.sound.total, passed.events, c.in_ok-prepare.ensures.len, c.from.ensures, passed.few)

pub returns-clause-answers : goal.returns-clause-answers
returns-clause-answers g c =
    let words = g.W.Words in
    let laws = g.met.W.Words in
    let old = c.args.self.now in
    let mid = c.prepare.new.self in
    let a = c.args.access in
    let p = c.prepare.ensures in
    let done = c.in_ok-prepare.ensures in
    let k : KeepsEngine words.cell_of words.may_bring words.is_faithful old mid =
    record {
      state = p.state;
      graph = p.graph;
      kept = p.reports;
      total = p.total;
      plan = p.plan;
      sets = p.sets;
      numbers = p.numbers;
      lawful = λ _. p.lawful;
      faithful = p.faithful;
      cells = p.cells;
    }
    in
    let passed = access_passes (standing old.state) (access_named c.args.source c.args.number c.args.write c.args.access) c.args.write a refl c.requires.accepted in
    let ok : Ok tt ≡ c.prepare.result = grind arith in
    let plan = mid.plan.items in
    let first = a.at / 4 in
    let slice = c.as_slice.ensures.value in
    let cells = subst (λ xs. (w : ℕ) → words.cell_of c.set_words.new.words w ≡ given (words.cell_of mid.words) first xs w) slice c.set_words.ensures.cells in
    let lawful = subst (λ xs. (n m : ℕ) → All (λ x. IsWithin n m x.cell) xs → words.may_bring mid.words n m → words.may_bring c.set_words.new.words n m) slice c.set_words.ensures.lawful in
    let faithful = subst (λ xs. (n m : ℕ) → All (λ x. IsWithin n m x.cell) xs → words.is_faithful mid.words n m → words.is_faithful c.set_words.new.words n m) slice c.set_words.ensures.faithful in
    let items = c.add_reports.ensures.items ∙ ap (λ xs. take 65536 (mid.kept.items ++ found (c.events-event.result + 1) c.args.write a.t first xs)) c.as_slice-2.ensures.value in
    let count = c.add_reports.ensures.count ∙ ap (λ xs. length (found (c.events-event.result + 1) c.args.write a.t first xs)) c.as_slice-2.ensures.value in
    let ends = last_word a c.from.result c.from.ensures passed.some in
    access_answers words old mid _ (access_named c.args.source c.args.number c.args.write c.args.access) c.args.write a (c.events-event.result + 1) c.add_reports.result _ plan
    refl passed k laws.brings_more laws.more_faithful laws.faithful_within c.requires.sound c.requires.lawful
    (c.follow_access.ensures c.args.write c.args.access) refl refl refl ends done.planned done.len cells lawful faithful
    (ap (λ (x : ℕ). x + 1) c.events-event.ensures) items count refl
    (λ h. asked_from words.cell_of (shown_of old) (access_event c.args.write c.args.access) c.args.write a (actor_of old a c.args.write) _ (Ok tt) c.prepare.result mid.sets refl passed.some refl ends ok (p.asked (length old.graph) (length old.sets.sets) h))

pub add_reports-requires-clause-room : goal.add_reports-requires-clause-room
add_reports-requires-clause-room g c =
    let mid = c.prepare.new.self in
    subst (λ xs. HasRoom mid.kept.items (vec_capacity mid.kept) xs) (sym c.as_slice-2.ensures.value) c.in_ok-prepare.ensures.room

pub returns-clause-went : goal.returns-clause-went
returns-clause-went g c = g.met.W.Words.went_on c.args.self.now.words c.prepare.new.self.words c.set_words.new.words c.prepare.ensures.went c.set_words.ensures.went
