use Rattle.std.proofs.Common.{◌≤◌, List, length, Some, Err, subst, sym, ap, ◌∙◌, arith}
use Rattle.std.proofs.lemmas.Result.{err_from_is_err_and}
use Rattle.hg_model.specs.declared.segment.Segment.{Segment}
use Rattle.hg_model.specs.declared.thread.ThreadState.{ThreadState}
use Rattle.hg_graph.specs.Restoring.{AreSegments}
use Rattle.hg_root.specs.Body.{FrontParts, seen}
use Rattle.hg_root.specs.Checking.{made_parts}
use Rattle.hg_root.specs.declared.fault.RootFault.{RootFault}
use Rattle.hg_root.specs.Last.{IsLastTable}
use Rattle.hg_root.proofs.Bodies.{all_checked, back_there, err_is, fails_so, found, front_again, lawful_front, middle_there, refuses, to_root}
use Rattle.hg_root.proofs.root.Root.decode.Goals as goal

pub returns-clause-found : goal.returns-clause-found
returns-clause-found c =
    let f : FrontParts = (c.in_ok-front.front.0, (c.in_ok-front.front.1.0, c.in_ok-front.front.1.1.items)) in
    let same = c.deref.ensures.value in
    let table : IsLastTable f.1.1 c.deref-2.result.now = subst (IsLastTable f.1.1) (sym c.deref-2.ensures.value) (subst (λ (s : List Segment). IsLastTable s c.in_ok-lasts.lasts.items) same c.in_ok-lasts.ensures.table) in
    to_root c.checked.result c.args.body.now (made_parts f.0 f.1.0 f.1.1 c.deref-4.result.now (seen c.in_ok-back.back)) c.checked.ensures.parts c.checked.ensures.checked
    (found c.args.body.now (λ i. omega (arith, c.type_inv.body i)) f c.in_ok-front.rest.now c.deref-4.result.now c.in_ok-threads.rest.now (seen c.in_ok-back.back) c.in_ok-front.ensures (subst AreSegments same c.in_ok-lasts.ensures.lawful)
    (subst (λ (s : List Segment). (1 ≤ length s) × (length s ≤ 1048576)) same c.in_ok-lasts.ensures.count)
    (c.in_ok-threads.ensures f.1.1 table ∙ ap (λ (ts : List ThreadState). Some (ts, c.in_ok-threads.rest.now)) (sym c.deref-4.ensures.value)) c.in_ok-back.ensures)

pub returns-in_err-front-clause-damaged : goal.returns-in_err-front-clause-damaged
returns-in_err-front-clause-damaged c =
    let p = err_from_is_err_and c.from_residual.result c.from_residual.ensures.1 in
    rw (p.1, p.2) (λ is. refuses c.in_err-front.field-0.0 c.args.body.now _ c.in_err-front.ensures (λ q root. (_, front_again c.args.body.now q root)) (err_is _ _ is))

pub returns-in_err-lasts-clause-damaged : goal.returns-in_err-lasts-clause-damaged
returns-in_err-lasts-clause-damaged c =
    let p = err_from_is_err_and c.from_residual-in_err-lasts.result c.from_residual-in_err-lasts.ensures.1 in
    let f : FrontParts = (c.in_ok-front.front.0, (c.in_ok-front.front.1.0, c.in_ok-front.front.1.1.items)) in
    rw (p.1, p.2) (λ is q root.
    let lawful = lawful_front c.args.body.now f c.in_ok-front.rest.now c.in_ok-front.ensures q root in
    let same = sym c.deref.ensures.value in
    c.in_err-lasts.ensures.damaged (ap (λ (e : RootFault). Err e) (err_is _ _ is)) (subst (λ (s : List Segment). 1 ≤ length s) same lawful.0) (subst (λ (s : List Segment). length s ≤ 1048576) same lawful.1) (subst AreSegments same lawful.2))

pub returns-in_err-threads-clause-damaged : goal.returns-in_err-threads-clause-damaged
returns-in_err-threads-clause-damaged c =
    let p = err_from_is_err_and c.from_residual-in_err-threads.result c.from_residual-in_err-threads.ensures.1 in
    let f : FrontParts = (c.in_ok-front.front.0, (c.in_ok-front.front.1.0, c.in_ok-front.front.1.1.items)) in
    let table : IsLastTable f.1.1 c.deref-2.result.now = subst (IsLastTable f.1.1) (sym c.deref-2.ensures.value) (subst (λ (s : List Segment). IsLastTable s c.in_ok-lasts.lasts.items) c.deref.ensures.value c.in_ok-lasts.ensures.table) in
    rw (p.1, p.2) (λ is. refuses c.in_err-threads.field-0.0 c.args.body.now _ (c.in_err-threads.ensures f.1.1 table) (λ q root. (_, middle_there c.args.body.now f c.in_ok-front.rest.now c.in_ok-front.ensures q root)) (err_is _ _ is))

pub returns-in_err-threads-clause-fault : goal.returns-in_err-threads-clause-fault
returns-in_err-threads-clause-fault c =
    let p = err_from_is_err_and c.from_residual-in_err-threads.result c.from_residual-in_err-threads.ensures.1 in
    let f : FrontParts = (c.in_ok-front.front.0, (c.in_ok-front.front.1.0, c.in_ok-front.front.1.1.items)) in
    let table : IsLastTable f.1.1 c.deref-2.result.now = subst (IsLastTable f.1.1) (sym c.deref-2.ensures.value) (subst (λ (s : List Segment). IsLastTable s c.in_ok-lasts.lasts.items) c.deref.ensures.value c.in_ok-lasts.ensures.table) in
    rw (p.1, p.2) (fails_so c.in_err-threads.field-0.0 _ (c.in_err-threads.ensures f.1.1 table))

pub returns-in_err-back-clause-damaged : goal.returns-in_err-back-clause-damaged
returns-in_err-back-clause-damaged c =
    let p = err_from_is_err_and c.from_residual-in_err-back.result c.from_residual-in_err-back.ensures.1 in
    let f : FrontParts = (c.in_ok-front.front.0, (c.in_ok-front.front.1.0, c.in_ok-front.front.1.1.items)) in
    let table : IsLastTable f.1.1 c.deref-2.result.now = subst (IsLastTable f.1.1) (sym c.deref-2.ensures.value) (subst (λ (s : List Segment). IsLastTable s c.in_ok-lasts.lasts.items) c.deref.ensures.value c.in_ok-lasts.ensures.table) in
    rw (p.1, p.2) (λ is. refuses c.in_err-back.field-0.0 c.args.body.now _ c.in_err-back.ensures
    (λ q root. (_, back_there c.args.body.now f c.in_ok-front.rest.now c.in_ok-front.ensures q root c.in_ok-threads.threads.items c.in_ok-threads.rest.now (c.in_ok-threads.ensures f.1.1 table))) (err_is _ _ is))

pub returns-clause-damaged : goal.returns-clause-damaged
returns-clause-damaged c = λ is q root.
    let f : FrontParts = (c.in_ok-front.front.0, (c.in_ok-front.front.1.0, c.in_ok-front.front.1.1.items)) in
    let table : IsLastTable f.1.1 c.deref-2.result.now = subst (IsLastTable f.1.1) (sym c.deref-2.ensures.value) (subst (λ (s : List Segment). IsLastTable s c.in_ok-lasts.lasts.items) c.deref.ensures.value c.in_ok-lasts.ensures.table) in
    c.checked.ensures.damaged is (all_checked c.args.body.now f c.in_ok-front.rest.now c.in_ok-front.ensures q root c.deref-4.result.now c.in_ok-threads.rest.now
    (c.in_ok-threads.ensures f.1.1 table ∙ ap (λ (ts : List ThreadState). Some (ts, c.in_ok-threads.rest.now)) (sym c.deref-4.ensures.value)) (seen c.in_ok-back.back) c.in_ok-back.ensures)
