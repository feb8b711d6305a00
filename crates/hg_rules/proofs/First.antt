-- The tables of no thread.
use Rattle.std.proofs.Common.{◌≡◌, ℕ, zero, suc, ◌+◌, List, [], length, get_or, Option, None, replicate, refl, ap, sym, ◌∙◌, subst, arith}
use Rattle.std.proofs.lemmas.List.{get_or-replicate, length-replicate}
use Rattle.hg_model.specs.declared.thread.ThreadState.{ThreadState}
use Rattle.hg_rules.specs.declared.table.LockUse.{LockUse}
use Rattle.hg_rules.specs.declared.table.LockUse.TheVariants.{Reading, Writing}
use Rattle.hg_rules.specs.Tables.{started, IsNumbered, writers, use_of, TablesAgree}

none_started : (n : ℕ) → started (replicate n None) ≡ []
none_started zero = refl
none_started (suc n) = none_started n

none_numbered : (k n : ℕ) → IsNumbered k (replicate n None)
none_numbered k zero = tt
none_numbered k (suc n) = none_numbered (k + 1) n

-- over any sizes, so that no table of that size is ever written out
pub empty_tables : (slots : List (Option ThreadState)) (uses : List LockUse) (n m : ℕ) → n ≡ 1024 → m ≡ 65536 → slots ≡ replicate n None → uses ≡ replicate m (Reading 0) → TablesAgree slots uses
empty_tables slots uses n m en em es eu =
    let none : started slots ≡ [] = ap started es ∙ none_started n in
    record {
      slots_len = ap length es ∙ length-replicate n None ∙ en;
      uses_len = ap length eu ∙ length-replicate m (Reading 0) ∙ em;
      numbered = subst (IsNumbered 0) (sym es) (none_numbered 0 n);
      each_use = λ l lt. ap (λ us. get_or us l Writing) eu ∙ get_or-replicate m l (Reading 0) Writing (omega arith) ∙ ap (λ threads. use_of threads l) (sym none);
      one_writer = λ l some. absurd (let no : writers (started slots) l ≡ 0 = ap (λ threads. writers threads l) none in omega arith);
    }

pub empty_started : (slots : List (Option ThreadState)) (n : ℕ) → slots ≡ replicate n None → started slots ≡ []
empty_started slots n es = ap started es ∙ none_started n
