use Rattle.std.proofs.Common.{◌≡◌, ◌+◌, ◌-◌, ℕ, List, [], ◌∷◌, ◌++◌, length, replicate, ap, ◌∙◌, arith, append_assoc}
use Rattle.std.proofs.lemmas.List.{replicate-append-replicate}
use Rattle.hg_shards.proofs.set_log.fill_up_to.Goals as goal

pub loop-preserved : goal.loop-preserved
loop-preserved c =
    let start = c.args.events.now.items in
    let event = c.args.event in
    let le = c.loop.invariant.2 in
    let lt = c.loop-test.true in
    let more : c.loop.counter - length start + 1 ≡ c.loop.counter + 1 - length start = omega (arith, le) in (
      c.push_reserved.ensures.items
          ∙ ap (λ (xs : List ℕ). xs ++ event ∷ []) c.loop.invariant.0
          ∙ append_assoc start (replicate (c.loop.counter - length start) event) (event ∷ [])
          ∙ ap (λ (xs : List ℕ). start ++ xs) (replicate-append-replicate (c.loop.counter - length start) 1 event)
          ∙ ap (λ n. start ++ replicate n event) more,
      c.push_reserved.ensures.capacity ∙ c.loop.invariant.1,
      omega (arith, le),
      omega (arith, lt),
    )

pub returns-clause-items : goal.returns-clause-items
returns-clause-items c =
    let start = c.args.events.now.items in
    let most = c.loop.invariant.3 in
    let same : c.loop.counter - length start ≡ c.args.count - length start = omega (arith, most) in
    c.loop.invariant.0 ∙ ap (λ n. start ++ replicate n c.args.event) same
