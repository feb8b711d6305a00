use Rattle.std.proofs.Common.{◌≡◌, ℕ, Bool, true, false, ◌&&◌, nat_eq, List, refl, sym, ◌∙◌, Option, Some, None, Bor}
use Rattle.std.specs.List.{list_any}
use Rattle.std.specs.Option.{option_copied, is_some}
use Rattle.hg_model.specs.declared.thread.ThreadState.{ThreadState}
use Rattle.hg_model.specs.Verdicts.{has_thread}
use Rattle.hg_rules.specs.Tables.{test_at}
use Rattle.hg_rules.proofs.table.ThreadTable.is_used.Goals as goal

and_true : (b : Bool) → (b && true) ≡ b
and_true true = refl
and_true false = refl

always : (threads : List ThreadState) (t : ℕ) → has_thread threads t (λ x. true) ≡ list_any (λ x. nat_eq x.number t) threads
always threads t = λ i. list_any (λ x. and_true (nat_eq x.number t) i) threads

some_is : (o : Option (Bor ThreadState)) → is_some o ≡ test_at (λ x. true) (option_copied o)
some_is None = refl
some_is (Some x) = refl

pub returns : goal.returns
returns c = c.is_some.ensures ∙ some_is c.thread.result ∙ sym (c.thread.ensures.test (λ x. true)) ∙ always c.args.self.now c.args.t
