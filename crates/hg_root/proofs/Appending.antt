-- Texts put one behind the other.
use Rattle.std.proofs.Common.{◌≡◌, ◌∙◌, ℕ, ◌+◌, ◌<◌, List, [], ◌∷◌, ◌++◌, length, get_or, take, ap, sym, append-nil, append_assoc, Result}
use Rattle.std.specs.Prelude.{Ok, Err, OnOk}
use Rattle.std.specs.Bool.{if◌then◌else◌}
use Rattle.std.specs.Result.{is_ok}
use Rattle.std.specs.List.{flat_map}
use Rattle.std.proofs.lemmas.List.{take_more}
use Rattle.std.proofs.lemmas.List.Concat.{flat_map-append}

-- One more text stands behind those of the items before.
pub one_more : {X : Type 0} (text : X → List ℕ) (items : List X) (i : ℕ) (item none : X) (before so_far : List ℕ) → i < length items → item ≡ get_or items i none → so_far ≡ before ++ flat_map text (take i items)
    → so_far ++ text item ≡ before ++ flat_map text (take (i + 1) items)
one_more text items i item none before so_far lt is so =
    let last : flat_map text (get_or items i none ∷ []) ≡ text item = append-nil (text (get_or items i none)) ∙ ap text (sym is) in
    let more : flat_map text (take (i + 1) items) ≡ flat_map text (take i items) ++ text item =
    ap (flat_map text) (take_more items i none lt) ∙ flat_map-append text (take i items) (get_or items i none ∷ []) ∙ ap (λ (l : List ℕ). flat_map text (take i items) ++ l) last in
    ap (λ (l : List ℕ). l ++ text item) so ∙ append_assoc before (flat_map text (take i items)) (text item) ∙ ap (λ (l : List ℕ). before ++ l) (sym more)

-- A second text is put behind the first one.
pub put_twice : {T E : Type 0} (result : Result T E) (out first last one other its_one its_other : List ℕ) → first ≡ out ++ one → last ≡ (if is_ok result then first ++ other else first) → one ≡ its_one → other ≡ its_other → OnOk result (last ≡ out ++ (its_one ++ its_other))
put_twice (Ok value) out first last one other its_one its_other begins ends is also = ends ∙ ap (λ (l : List ℕ). l ++ other) begins ∙ append_assoc out one other ∙ ap (λ (l : List ℕ). out ++ (l ++ other)) is ∙ ap (λ (l : List ℕ). out ++ (its_one ++ l)) also
put_twice (Err error) out first last one other its_one its_other begins ends is also = tt
