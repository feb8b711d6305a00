use Rattle.std.proofs.Common.{◌≡◌, ℕ, ◌≤◌, ◌∷◌, ◌++◌, [], None, replicate, ap, ◌∙◌, arith}
use Rattle.std.proofs.lemmas.List.{replicate_more}
use Rattle.hg_rules.proofs.places.empty_slots.Goals as goal

pub loop-preserved : goal.loop-preserved
loop-preserved c = c.in_ok-push.ensures.items ∙ ap (λ xs. xs ++ None ∷ []) c.loop.invariant ∙ replicate_more c.loop.counter None

pub returns : goal.returns
returns c = c.loop.invariant ∙ ap (λ m. replicate m None) (all c.loop.counter c.loop-test.false c.loop.auto.counter-end)
  where
    all : (n : ℕ) → 1024 ≤ n → n ≤ 1024 → n ≡ 1024
    all n a b = omega arith
