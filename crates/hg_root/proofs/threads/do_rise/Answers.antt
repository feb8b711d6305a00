use Rattle.std.proofs.Common.{arith, false, refl}
use Rattle.std.proofs.lemmas.Bool.{false≢true}
use Rattle.std.proofs.lemmas.List.{length-map}
use Rattle.hg_model.specs.declared.held.HeldLock.{HeldLock}
use Rattle.hg_root.proofs.Rising.{rises_not, rises_on}
use Rattle.hg_root.proofs.threads.do_rise.Goals as goal

abbrev none : HeldLock
none = record { lock = 0; write = false }

pub returns-then-locks-i : goal.returns-then-locks-i
returns-then-locks-i c = (λ yes. absurd (false≢true yes), λ rises. absurd (rises_not (λ h. h.lock) c.args.locks.now c.loop-i.i none (omega arith) c.loop-i-test.true c.if-locks-i.true rises))

pub loop-i-preserved : goal.loop-i-preserved
loop-i-preserved c = rises_on (λ h. h.lock) c.args.locks.now c.loop-i.i none (omega arith) c.loop-i-test.true c.if-locks-i.false c.loop-i.invariant

pub returns : goal.returns
returns c = (λ _ k lt. c.loop-i.invariant k (omega (arith, length-map c.args.locks.now (λ (h : HeldLock). h.lock))), λ _. refl)
