use Rattle.std.proofs.Common.{ℕ, sym, nat_le, arith}
use Rattle.std.proofs.lemmas.Bool.{le-leb}
use Rattle.std.proofs.lemmas.List.Sums.{position_or_len_is}
use Rattle.hg_model.proofs.held.place_among.Goals as goal

pub returns-then-number-n-clause-place : goal.returns-then-number-n-clause-place
returns-then-number-n-clause-place c =
    sym (position_or_len_is (λ (n : ℕ). nat_le c.args.number n) c.args.numbers.now c.loop-i.i 0 (omega arith)
    (λ k lt. c.loop-i.invariant k 0 lt) (λ _. le-leb _ _ c.if-number-n.true))

pub returns-clause-place : goal.returns-clause-place
returns-clause-place c =
    sym (position_or_len_is (λ (n : ℕ). nat_le c.args.number n) c.args.numbers.now _ 0 (omega arith)
    (λ k lt. c.loop-i.invariant k 0 (omega arith)) (λ lt. absurd (omega arith)))
