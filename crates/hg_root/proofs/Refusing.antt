-- What a refusal says of parts that were tested.
use Rattle.std.proofs.Common.{◌≡◌, ℕ, ◌+◌, Bool, true, false, cond, Result, Ok, Err, ap, sym, ◌∙◌, arith}
use Rattle.std.specs.Prelude.{IsTrue, IsErrAnd, IsErrOf}
use Rattle.std.proofs.lemmas.Bool.{false≢true}
use Rattle.hg_root.specs.Fault.{after_fault, failures_after}
use Rattle.hg_root.specs.declared.fault.RootFault.{RootFault}
use Rattle.hg_root.specs.declared.fault.RootFault.TheVariants.{Broken, Damaged, DeviceFault, OutOfMemory}

-- A test that fails refutes what it tests.
pub refuted : {b : Bool} {P : Type 0} → b ≡ false → (P → IsTrue b) → ¬ P
refuted is holds p = false≢true (sym is ∙ holds p)

-- Memory that is refused says nothing of the parts.
pub of_memory : {T P : Type 0} (r : Result T RootFault) → IsErrAnd r (λ fault. fault ≡ OutOfMemory) → IsErrOf r Damaged → P
of_memory (Ok x) refused damaged = absurd refused
of_memory (Err fault) refused damaged = absurd cc

-- A fault that is passed on.
pub passed_on : {T U : Type 0} (r : Result T RootFault) (fault : RootFault) → IsErrAnd r (λ last. last ≡ fault) → IsErrOf r Damaged → IsErrOf {T = U} (Err fault) Damaged
passed_on (Ok x) fault same damaged = absurd same
passed_on (Err last) fault same damaged = let e : fault ≡ Damaged = cc in ap Err e

-- What answered has not failed.
pub ok_is_no_err : {T E A : Type 0} {x : T} {error : E} → Ok x ≡ Err error → A
ok_is_no_err is = absurd (cc is)

-- ---- how many calls have failed

one_fails : (fault : RootFault) (a b n m : ℕ) → a ≡ n → b ≡ after_fault fault m → a + b ≡ after_fault fault (n + m)
one_fails Broken a b n m same more = omega (arith, same, more)
one_fails Damaged a b n m same more = omega (arith, same, more)
one_fails OutOfMemory a b n m same more = omega (arith, same, more)
one_fails DeviceFault a b n m same more = omega (arith, same, more)

other_fails : (fault : RootFault) (a b n m : ℕ) → a ≡ after_fault fault n → b ≡ m → a + b ≡ after_fault fault (n + m)
other_fails Broken a b n m more same = omega (arith, same, more)
other_fails Damaged a b n m more same = omega (arith, same, more)
other_fails OutOfMemory a b n m more same = omega (arith, same, more)
other_fails DeviceFault a b n m more same = omega (arith, same, more)

-- A call of the file that is written next did not fail, and then one of the other did.
pub newer_failed : {T D : Type 0} (f : D → ℕ) (turned : Bool) (r : Result T RootFault) (fault : RootFault) (one one_after other other_after : D) → IsErrAnd r (λ last. last ≡ fault) → f one_after ≡ f one → f other_after ≡ after_fault fault (f other)
    → f (cond turned other_after one_after) + f (cond turned one_after other_after) ≡ failures_after r (f (cond turned other one) + f (cond turned one other))
newer_failed f turned (Ok x) fault one one_after other other_after same kept more = absurd same
newer_failed f true (Err last) fault one one_after other other_after same kept more = other_fails last (f other_after) (f one_after) (f other) (f one) (more ∙ ap (λ x. after_fault x (f other)) (sym same)) kept
newer_failed f false (Err last) fault one one_after other other_after same kept more = one_fails last (f one_after) (f other_after) (f one) (f other) kept (more ∙ ap (λ x. after_fault x (f other)) (sym same))
