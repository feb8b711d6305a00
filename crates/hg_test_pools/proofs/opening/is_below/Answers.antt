use Rattle.std.proofs.Common.{◌≡◌, ◌<◌, ◌^◌, ℕ, [], ◌∷◌, get_or, length, take, All, ap, sym, subst, arith}
use Rattle.std.proofs.lemmas.List.{get_or_read, take_all, take_more}
use Rattle.std.proofs.lemmas.List.Elements.{All-append, All-cons}
use Rattle.hg_pool.specs.Tables.{AreBelow}
use Rattle.hg_test_pools.proofs.opening.is_below.Goals as goal

pub loop-i-preserved : goal.loop-i-preserved
loop-i-preserved c =
    let P : ℕ × ℕ → Type 0 = λ e. (e.0 < 2 ^ 54) × (e.1 < c.args.slots) in
    let items = c.args.table.now.entries in
    let i = c.loop-i.i in
    let inside : i < length items = omega (arith, c.loop-i-test.true, c.len-i-end.ensures.value) in
    let here : c.at-entry.result ≡ get_or items i (0, 0) = get_or_read items i c.at-entry.result inside c.at-entry.ensures (0, 0) in
    let one : P c.at-entry.result = (omega arith, omega arith) in
    subst (All P) (sym (take_more items i (0, 0) inside)) (All-append P (take i items) (get_or items i (0, 0) ∷ []) c.loop-i.invariant (All-cons P (get_or items i (0, 0)) [] (subst P here one) (λ k d lt. absurd (omega (arith, lt)))))

pub returns : goal.returns
returns c is = subst (AreBelow c.args.slots) (take_all c.loop-i.i c.args.table.now.entries (omega (arith, c.loop-i-test.false, c.len-i-end.ensures.value))) c.loop-i.invariant
