use Rattle.std.proofs.Common.{◌≡◌, List, Result, Err, IfErr, sym, ap, subst, ⊎_elim, inl, inr, arith}
use Rattle.hg_model.specs.declared.thread.ThreadState.{ThreadState}
use Rattle.hg_model.specs.declared.verdict.Refusal.{Refusal}
use Rattle.hg_model.specs.Parts.{Parts}
use Rattle.hg_model.specs.Restoring.{AreInRange, AreThreads, RefusesUnless}
use Rattle.hg_rules.proofs.state.TraceState.restore.Goals as goal

-- threads that don't fit are parts that are out of range
passed : {S : Type 0} (p : Parts) (threads : List ThreadState) (answer : Result S Refusal) (f : Refusal) → p.threads ≡ threads → RefusesUnless (AreThreads threads) f → answer ≡ Err f → IfErr answer (RefusesUnless (AreInRange p))
passed p threads answer f is why fails =
    subst (λ a. IfErr a (RefusesUnless (AreInRange p))) (sym fails)
    (⊎_elim (λ bad. inl (bad.0, λ range. bad.1 (subst AreThreads is range.threads))) (λ out. inr out) why)

pub returns-in_err-threads-clause-refusal : goal.returns-in_err-threads-clause-refusal
returns-in_err-threads-clause-refusal c = λ p is.
    let fails : c.from_residual.result ≡ Err c.in_err-threads.field-0.0 = grind arith in
    passed p c.args.threads.now c.from_residual.result c.in_err-threads.field-0.0 (ap (λ (q : Parts). q.threads) is) c.in_err-threads.ensures.refusal fails
