use Rattle.std.proofs.Common.{◌≡◌, ◌+◌, ◌-◌, ◌/◌, ◌<◌, ◌≤◌, ◌++◌, ℕ, length, take, replicate, add-zero, Ok, None, All, inl, inr, ◌⊎◌, ⊎_elim, refl, sym, ap, ◌∙◌, subst, arith}
use Rattle.std.proofs.lemmas.List.{append-nil, length-replicate, take_all}
use Rattle.hg_model.specs.Accessing.{access_event}
use Rattle.hg_model.specs.Verdicts.{standing}
use Rattle.hg_cells.specs.declared.cell.Cell.TheVariants.{Exclusive}
use Rattle.hg_model.specs.declared.word.WordState.TheVariants as state
use Rattle.hg_cells.specs.Cells.{IsWithin, meaning}
use Rattle.hg_detect.specs.Planning.{touched_by}
use Rattle.hg_detect.proofs.Plans.{owned_asked}
use Rattle.hg_detect.specs.declared.plan.Planned.{Planned}
use Rattle.hg_detect.specs.Engine.{HasEffect, actor_of, named_of, shown_of}
use Rattle.hg_detect.proofs.Accesses.{asked_from}
use Rattle.hg_detect.proofs.Alike.{alike_asked, alike_found, alike_given, alike_planned, alike_within, passing_planned, owned, unchanged}
use Rattle.hg_detect.proofs.Passing.{access_passes}
use Rattle.hg_detect.proofs.Answering.{access_answers, nothing_changed}
use Rattle.hg_detect.proofs.engine.Engine.access_quickly.Goals as goal

pub returns-in-Stay-clause-answers : goal.returns-in-Stay-clause-answers
returns-in-Stay-clause-answers g c =
    let words = g.W.Words in
    let laws = g.met.W.Words in
    let old = c.args.self.now in
    let a = c.args.named.access in
    let passed = access_passes (standing old.state) (named_of c.args.named) c.args.named.write a refl c.requires.accepted in
    let actor = actor_of old a c.args.named.write in
    let first = a.at / 4 in
    let n : ℕ = (a.at + a.len + 3) / 4 - first in
    let some : 0 < n = let l = passed.some in omega arith in
    let alike : (w : ℕ) → first ≤ w → w < first + n → words.cell_of old.words w ≡ c.args.quick.cell = λ w low high. c.requires.quick.cells w (omega (arith, c.requires.quick.first)) (omega (arith, c.requires.quick.first, c.requires.quick.count)) in
    let effect = subst (HasEffect old a c.args.named.write c.args.quick.cell) c.in-Stay.is c.requires.quick.effect in
    let p = unchanged c.args.quick.cell in
    let none = alike_found (old.state.events + 1) c.args.named.write a.t first p n refl in
    access_answers words old old _ (named_of c.args.named) c.args.named.write a (old.state.events + 1) 0 _ (replicate n p)
    refl passed (nothing_changed words.cell_of words.may_bring words.is_faithful old c.requires.sound) laws.brings_more laws.more_faithful laws.faithful_within c.requires.sound c.requires.lawful
    (c.follow_access.ensures c.args.named.write c.args.named.access) refl refl refl refl (alike_planned old.graph old.sets.sets old.sets.sets actor (words.cell_of old.words) c.args.quick.cell p first n effect.0 alike) (length-replicate n p)
    (alike_given (words.cell_of old.words) (words.cell_of old.words) p first n alike (λ w out. refl))
    (λ s m each h. h)
    (λ s m each h. h)
    refl (sym (ap (λ xs. take 65536 (old.kept.items ++ xs)) none ∙ ap (take 65536) (append-nil old.kept.items) ∙ take_all 65536 old.kept.items c.requires.sound.few)) (sym (ap length none)) (sym (add-zero old.total))
    (λ h. asked_from words.cell_of (shown_of old) (access_event c.args.named.write c.args.named.access) c.args.named.write a actor _ (Ok tt) (Ok tt) old.sets refl passed.some refl refl refl
    (alike_asked old.graph old.sets old.sets actor (words.cell_of old.words) c.args.quick.cell first n None some effect.1 alike))

pub returns-in-Pass-clause-answers : goal.returns-in-Pass-clause-answers
returns-in-Pass-clause-answers g c =
    let words = g.W.Words in
    let laws = g.met.W.Words in
    let old = c.args.self.now in
    let a = c.args.named.access in
    let passed = access_passes (standing old.state) (named_of c.args.named) c.args.named.write a refl c.requires.accepted in
    let actor = actor_of old a c.args.named.write in
    let first = a.at / 4 in
    let n : ℕ = (a.at + a.len + 3) / 4 - first in
    let some : 0 < n = let l = passed.some in omega arith in
    let segment = c.present.ensures.value in
    let within : actor.segment < length old.graph = let lt = c.present.ensures.within in omega (arith, segment) in
    let passes : touched_by old.graph actor (meaning old.sets.sets c.args.quick.cell) ≡ state.Exclusive actor.segment = (subst (HasEffect old a c.args.named.write c.args.quick.cell) c.in-Pass.is c.requires.quick.effect) c.args.named.write in
    let alike : (w : ℕ) → first ≤ w → w < first + n → words.cell_of old.words w ≡ c.args.quick.cell = λ w low high. c.requires.quick.cells w (omega (arith, c.requires.quick.first)) (omega (arith, c.requires.quick.first, c.requires.quick.count)) in
    let p = owned actor.segment in
    let inside : (w : ℕ) → first ≤ w → w < first + n → words.cell_of c.fill.new.self w ≡ Exclusive actor.segment =
    λ w low high. c.fill.ensures.inside w (omega (arith, c.requires.quick.first)) (omega (arith, c.requires.quick.first, c.requires.quick.count)) ∙ ap Exclusive segment
    in
    let outside : (w : ℕ) → (w < first) ⊎ (first + n ≤ w) → words.cell_of c.fill.new.self w ≡ words.cell_of old.words w =
    λ w out. c.fill.ensures.outside w (⊎_elim (λ low. inl (omega (arith, c.requires.quick.first))) (λ high. inr (omega (arith, c.requires.quick.first, c.requires.quick.count))) out)
    in
    let named : (s m : ℕ) → All (λ (q : Planned). IsWithin s m q.cell) (replicate n p) → IsWithin s m (Exclusive c.present.result) = λ s m each. subst (IsWithin s m) (sym (ap Exclusive segment)) (alike_within s m p n some each) in
    let none = alike_found (old.state.events + 1) c.args.named.write a.t first p n refl in
    access_answers words old old _ (named_of c.args.named) c.args.named.write a (old.state.events + 1) 0 _ (replicate n p)
    refl passed (nothing_changed words.cell_of words.may_bring words.is_faithful old c.requires.sound) laws.brings_more laws.more_faithful laws.faithful_within c.requires.sound c.requires.lawful
    (c.follow_access.ensures c.args.named.write c.args.named.access) refl refl refl refl (alike_planned old.graph old.sets.sets old.sets.sets actor (words.cell_of old.words) c.args.quick.cell p first n (passing_planned old.graph old.sets.sets actor c.args.quick.cell within passes) alike) (length-replicate n p)
    (alike_given (words.cell_of old.words) (words.cell_of c.fill.new.self) p first n inside outside)
    (λ s m each h. c.fill.ensures.lawful s m (named s m each) h)
    (λ s m each h. c.fill.ensures.faithful s m (named s m each) h)
    refl (sym (ap (λ xs. take 65536 (old.kept.items ++ xs)) none ∙ ap (take 65536) (append-nil old.kept.items) ∙ take_all 65536 old.kept.items c.requires.sound.few)) (sym (ap length none)) (sym (add-zero old.total))
    (λ h. asked_from words.cell_of (shown_of old) (access_event c.args.named.write c.args.named.access) c.args.named.write a actor _ (Ok tt) (Ok tt) old.sets refl passed.some refl refl refl
    (alike_asked old.graph old.sets old.sets actor (words.cell_of old.words) c.args.quick.cell first n None some (owned_asked old.sets (touched_by old.graph actor (meaning old.sets.sets c.args.quick.cell)) actor.segment passes) alike))
