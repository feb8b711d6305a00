use Rattle.std.proofs.Common.{◌≡◌, ℕ, ◌+◌, drop, subst, arith}
use Rattle.hg_wire.specs.InFront.{HasRun}
use Rattle.hg_wire.proofs.number.with_fours_at.Goals as goal

pub returns-clause-digits : goal.returns-clause-digits
returns-clause-digits c = λ start h.
    let eight = c.in-Some-with_four_digits_at.ensures start (c.in-Some.ensures start h) in
    let twelve = c.in-Some-with_four_digits_at-2.ensures start (subst (λ k. HasRun 16 16 start (drop k c.args.bytes.now) c.in-Some-with_four_digits_at.eight) (plus c.args.at 4 4) eight) in
    subst (λ k. HasRun 16 16 start (drop k c.args.bytes.now) c.in-Some-with_four_digits_at-2.twelve) (plus c.args.at 8 4) twelve
  where
    plus : (n a b : ℕ) → n + a + b ≡ n + (a + b)
    plus n a b = omega arith
