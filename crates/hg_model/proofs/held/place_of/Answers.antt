use Rattle.std.proofs.Common.{false, sym, nat_le, arith}
use Rattle.std.proofs.lemmas.Bool.{le-leb}
use Rattle.std.proofs.lemmas.List.Sums.{position_or_len_is}
use Rattle.hg_model.specs.declared.held.HeldLock.{HeldLock}
use Rattle.hg_model.proofs.held.place_of.Goals as goal

pub returns-then-lock-h-clause-place : goal.returns-then-lock-h-clause-place
returns-then-lock-h-clause-place c =
    sym (position_or_len_is (λ (h : HeldLock). nat_le c.args.lock h.lock) c.args.holds.now c.loop-i.i (record { lock = 0; write = false }) (omega arith)
    (λ k lt. c.loop-i.invariant k (record { lock = 0; write = false }) lt) (λ _. le-leb _ _ c.if-lock-h.true))

pub returns-clause-place : goal.returns-clause-place
returns-clause-place c =
    sym (position_or_len_is (λ (h : HeldLock). nat_le c.args.lock h.lock) c.args.holds.now _ (record { lock = 0; write = false }) (omega arith)
    (λ k lt. c.loop-i.invariant k (record { lock = 0; write = false }) (omega arith)) (λ lt. absurd (omega arith)))
