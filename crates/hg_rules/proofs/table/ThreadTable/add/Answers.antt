use Rattle.std.proofs.Common.{◌+◌, length, nat_lt, sym, ap, ◌∙◌, refl, subst, arith}
use Rattle.std.proofs.lemmas.Bool.{and_parts}
use Rattle.hg_model.specs.Locks.{IsByRisingLock}
use Rattle.hg_rules.proofs.Restoring.{Underway, below, none_has, added_behind, absent_next, refused_next, taken_next, all_taken, ended, is_true, is_false}
use Rattle.hg_rules.proofs.table.ThreadTable.add.Goals as goal

pub start-requires-clause-fresh : goal.start-requires-clause-fresh
start-requires-clause-fresh c =
    let t = c.args.thread.now.number in
    let old = c.args.self.now in
    none_has t old (and_parts (nat_lt t 1024) (below t old) (sym c.is_next.ensures ∙ c.if-not-is_next.false)).1

pub loop-hold-init : goal.loop-hold-init
loop-hold-init c =
    let t = c.args.thread.now.number in
    let old = c.args.self.now in
    record {
      is = c.start.ensures ∙ added_behind _ old (and_parts (nat_lt t 1024) (below t old) (sym c.is_next.ensures ∙ c.if-not-is_next.false)).1;
      apart = refl;
    }

pub hold-requires-clause-absent : goal.hold-requires-clause-absent
hold-requires-clause-absent c =
    let t = c.args.thread.now.number in
    let old = c.args.self.now in
    let slice = c.as_slice-hold-items.ensures in
    absent_next old c.loop-hold.self t c.as_slice-hold-items.result.now c.loop-hold.hold-index _ (and_parts (nat_lt t 1024) (below t old) (sym c.is_next.ensures ∙ c.if-not-is_next.false)).1
    (subst (λ hs. Underway old c.loop-hold.self t hs c.loop-hold.hold-index) (sym slice.value) c.loop-hold.invariant) (subst IsByRisingLock (sym slice.value) slice.rising) c.loop-hold-test.true

pub returns-then-not-hold-clause-answer : goal.returns-then-not-hold-clause-answer
returns-then-not-hold-clause-answer c =
    let slice = c.as_slice-hold-items.ensures in
    sym (refused_next c.args.self.now c.loop-hold.self c.args.thread.now c.as_slice-hold-items.result.now c.loop-hold.hold-index _ slice.value c.loop-hold.invariant (subst IsByRisingLock (sym slice.value) slice.rising) c.loop-hold-test.true
    (is_true _ (sym c.if-not-hold.true ∙ c.hold.ensures.answer)))

pub loop-hold-preserved : goal.loop-hold-preserved
loop-hold-preserved c =
    let t = c.args.thread.now.number in
    let old = c.args.self.now in
    let slice = c.as_slice-hold-items.ensures in
    subst (λ hs. Underway old c.hold.new.self t hs (c.loop-hold.hold-index + 1)) slice.value
    (taken_next old c.loop-hold.self c.hold.new.self t c.as_slice-hold-items.result.now c.loop-hold.hold-index _ (and_parts (nat_lt t 1024) (below t old) (sym c.is_next.ensures ∙ c.if-not-is_next.false)).1
    (subst (λ hs. Underway old c.loop-hold.self t hs c.loop-hold.hold-index) (sym slice.value) c.loop-hold.invariant) (subst IsByRisingLock (sym slice.value) slice.rising) c.loop-hold-test.true
    (is_false _ (sym c.if-not-hold.false ∙ c.hold.ensures.answer)) (c.hold.ensures.held c.if-not-hold.false))

pub returns-then-not-thread-clause-added : goal.returns-then-not-thread-clause-added
returns-then-not-thread-clause-added c = λ _.
    let t = c.args.thread.now.number in
    let old = c.args.self.now in
    let slice = c.as_slice-hold-items.ensures in
    let done = all_taken old c.loop-hold.self t c.args.thread.now.held c.loop-hold.hold-index c.loop-hold.invariant (omega (arith, c.loop-hold-test.false, ap length slice.value)) in
    ended old c.loop-hold.self c.end.new.self c.args.thread.now (and_parts (nat_lt t 1024) (below t old) (sym c.is_next.ensures ∙ c.if-not-is_next.false)).1 c.if-not-thread.true done.0 c.end.ensures
