-- Texts that are put behind one another.
use Rattle.std.proofs.Common.{◌≡◌, ℕ, List, ◌++◌, Result, Ok, Err, OnOk, ap, ◌∙◌, append_assoc}

pub two_texts : {T E : Type 0} (result : Result T E) (old between new first second : List ℕ) → between ≡ old ++ first → OnOk result (new ≡ between ++ second)
    → OnOk result (new ≡ old ++ (first ++ second))
two_texts (Ok value) old between new first second one two = two ∙ (ap (λ t. t ++ second) one ∙ append_assoc old first second)
two_texts (Err error) old between new first second one two = two
