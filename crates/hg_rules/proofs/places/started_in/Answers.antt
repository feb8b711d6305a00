use Rattle.std.proofs.Common.{◌≡◌, ℕ, ◌+◌, ◌<◌, List, [], ◌∷◌, ◌++◌, length, drop, get_or, Option, Some, None, refl, sym, ap, ◌∙◌, append_assoc}
use Rattle.std.proofs.lemmas.List.{drop_more}
use Rattle.hg_model.specs.declared.thread.ThreadState.{ThreadState}
use Rattle.hg_rules.specs.Tables.{started}
use Rattle.hg_rules.proofs.places.started_in.Goals as goal

first : (slot : Option ThreadState) (slots : List (Option ThreadState)) → started (slot ∷ []) ++ started slots ≡ started (slot ∷ slots)
first None slots = refl
first (Some x) slots = refl

-- the threads of one place more
next : (slots : List (Option ThreadState)) (before after : List ThreadState) (slot : Option ThreadState) (i : ℕ) → i < length slots → slot ≡ get_or slots i slot → after ≡ before ++ started (slot ∷ []) → before ++ started (drop i slots) ≡ started slots
    → after ++ started (drop (i + 1) slots) ≡ started slots
next slots before after slot i within is added all =
    ap (λ (ts : List ThreadState). ts ++ started (drop (i + 1) slots)) added
    ∙ append_assoc before (started (slot ∷ [])) (started (drop (i + 1) slots))
    ∙ ap (λ (ts : List ThreadState). before ++ ts) (first slot (drop (i + 1) slots) ∙ ap started (ap (λ (x : Option ThreadState). x ∷ drop (i + 1) slots) is ∙ sym (drop_more slots i slot within)))
    ∙ all

pub loop-slot-preserved : goal.loop-slot-preserved
loop-slot-preserved c = next c.args.slots.now c.loop-slot.threads.items c.push_started.new.threads.items c.slot-item.result c.loop-slot.slot-index c.loop-slot-test.true c.slot-item.is c.in_ok-push_started.ensures c.loop-slot.invariant
