-- What is stored of a line, and what is shown of it.
use Rattle.std.proofs.Common.{◌≡◌, ℕ, zero, suc, ◌-◌, ◌<◌, ◌≤◌, Bool, true, false, cond, eqb, List, [], ◌∷◌, ◌++◌, length, get_or, take, drop, refl, sym, ◌∙◌, ap, subst, arith, inl, inr}
use Rattle.std.proofs.lemmas.Bool.{cond-true, cond-false, cases_Bool, lt-ltb, le-ltb}
use Rattle.std.proofs.lemmas.List.{append_assoc, append-nil, length-append, length-take, take_at, nil_from_length, length-take-le, take-append-drop}
use Rattle.std.specs.Str.Lines.{strip_carriage_return}
use Rattle.hg_wire.specs.Streams.{stored}

-- a 0 stands for the bytes that were cut off
abbrev pub mark : Bool → List ℕ
mark cut = cond cut (0 ∷ []) []

pub stored_short : (bytes : List ℕ) → length bytes ≤ 257 → stored bytes ≡ bytes
stored_short bytes short = cond-false _ _ _ (le-ltb _ _ short)

pub stored_long : (bytes : List ℕ) → 257 < length bytes → stored bytes ≡ take 257 bytes ++ 0 ∷ []
stored_long bytes long = cond-true _ _ _ (lt-ltb _ _ long)

pub pushed_fits : (items bytes now : List ℕ) (cut : Bool) → length items ≤ 257 → (cut ≡ true → length items ≡ 257) → length bytes ≤ 257 - length items → now ≡ items ++ bytes
    → now ++ mark cut ≡ stored ((items ++ mark cut) ++ bytes)
pushed_fits items bytes now true short full room is =
    let whole : length items ≡ 257 = full refl in
    let nothing : bytes ≡ [] = nil_from_length bytes (omega arith) in
    let long : 257 < length (items ++ 0 ∷ []) = omega (arith, length-append items (0 ∷ [])) in
    let cut : take 257 (items ++ 0 ∷ []) ≡ items = take_at items (0 ∷ []) 257 whole in
    let same : now ≡ items = is ∙ (ap (λ b. items ++ b) nothing ∙ append-nil items) in
    let all : (items ++ 0 ∷ []) ++ bytes ≡ items ++ 0 ∷ [] = ap (λ b. (items ++ 0 ∷ []) ++ b) nothing ∙ append-nil (items ++ 0 ∷ []) in
    ap (λ b. b ++ 0 ∷ []) same ∙ sym (ap stored all ∙ (stored_long (items ++ 0 ∷ []) long ∙ ap (λ b. b ++ 0 ∷ []) cut))
pushed_fits items bytes now false short full room is =
    let all : (items ++ []) ++ bytes ≡ items ++ bytes = ap (λ b. b ++ bytes) (append-nil items) in
    let fits : length (items ++ bytes) ≤ 257 = omega (arith, length-append items bytes) in
    append-nil now ∙ (is ∙ sym (ap stored all ∙ stored_short (items ++ bytes) fits))

pub pushed_cut : (items bytes now : List ℕ) (cut : Bool) → length items ≤ 257 → (cut ≡ true → length items ≡ 257) → 257 - length items < length bytes
    → now ≡ items ++ take (257 - length items) bytes → now ++ 0 ∷ [] ≡ stored ((items ++ mark cut) ++ bytes)
pushed_cut items bytes now true short full room is =
    let whole : length items ≡ 257 = full refl in
    let none : 257 - length items ≡ 0 = omega arith in
    let same : now ≡ items = is ∙ (ap (λ k. items ++ take k bytes) none ∙ append-nil items) in
    let all = (items ++ 0 ∷ []) ++ bytes in
    let regrouped : all ≡ items ++ 0 ∷ bytes = append_assoc items (0 ∷ []) bytes in
    let long : 257 < length all = omega (arith, length-append (items ++ 0 ∷ []) bytes, length-append items (0 ∷ [])) in
    ap (λ b. b ++ 0 ∷ []) same ∙ sym (stored_long all long ∙ ap (λ b. b ++ 0 ∷ []) (ap (take 257) regrouped ∙ take_at items (0 ∷ bytes) 257 whole))
pushed_cut items bytes now false short full room is =
    let k = 257 - length items in
    let all : (items ++ []) ++ bytes ≡ items ++ bytes = ap (λ b. b ++ bytes) (append-nil items) in
    let parted : items ++ bytes ≡ (items ++ take k bytes) ++ drop k bytes =
    ap (λ b. items ++ b) (sym (take-append-drop k bytes)) ∙ sym (append_assoc items (take k bytes) (drop k bytes)) in
    let taken : length (take k bytes) ≡ k = length-take-le k bytes (omega arith) in
    let count : length (items ++ take k bytes) ≡ 257 = omega (arith, length-append items (take k bytes)) in
    let long : 257 < length (items ++ bytes) = omega (arith, length-append items bytes) in
    ap (λ b. b ++ 0 ∷ []) is ∙ sym (ap stored all ∙ (stored_long (items ++ bytes) long ∙ ap (λ b. b ++ 0 ∷ []) (ap (take 257) parted ∙ take_at (items ++ take k bytes) (drop k bytes) 257 count)))

pub take_whole : (xs : List ℕ) (n : ℕ) → length xs ≤ n → take n xs ≡ xs
take_whole [] zero h = refl
take_whole [] (suc n) h = refl
take_whole (x ∷ xs) zero h = absurd (omega arith)
take_whole (x ∷ xs) (suc n) h = ap (λ ys. x ∷ ys) (take_whole xs n (omega arith))

pub length_stripped : (line : List ℕ) (n : ℕ) → length line ≤ n → length (strip_carriage_return line) ≤ n
length_stripped line n short =
    let P : List ℕ → Type 0 = λ xs. length xs ≤ n in
    elim (cases_Bool (eqb (get_or line (length line - 1) 0) 13)) [
      | inl hit ↦ subst P (sym (cond-true _ _ _ hit)) (omega (arith, length-take (length line - 1) line))
      | inr miss ↦ subst P (sym (cond-false _ _ _ miss)) short
    ]

pub shown_whole : (items bytes : List ℕ) → length items ≤ 257 → bytes ≡ strip_carriage_return items → bytes ≡ take 257 (strip_carriage_return (items ++ []))
shown_whole items bytes short is =
    let fits : length (strip_carriage_return items) ≤ 257 = length_stripped items 257 short in
    is ∙ (sym (take_whole (strip_carriage_return items) 257 fits) ∙ ap (λ b. take 257 (strip_carriage_return b)) (sym (append-nil items)))
