-- Bytes put one behind the other.
use Rattle.std.proofs.Common.{◌≡◌, ◌≤◌, ◌+◌, ◌∙◌, ℕ, List, ◌++◌, length, take, drop, sym, ap, arith, length-append}
use Rattle.std.specs.Int.{w32, to_be_bytes}
use Rattle.std.proofs.lemmas.List.{append_assoc, drop-drop, drop_at, length-take-le, take_at}
use Rattle.hg_disk.specs.State.{replaced}
use Rattle.hg_pages.specs.Reading.{text_of}

-- what is put behind what was put, is put with it
put_behind : (old : List ℕ) (at : ℕ) (a b : List ℕ) → at ≤ length old → replaced (replaced old at a) (at + length a) b ≡ replaced old at (a ++ b)
put_behind old at a b fits =
    let front : List ℕ = take at old ++ a in
    let rest : List ℕ = drop (at + length a) old in
    let end : ℕ = at + length a in
    let long : length front ≡ end = omega (arith, length-append (take at old) a, length-take-le at old fits) in
    let once : replaced old at a ≡ front ++ rest = sym (append_assoc (take at old) a rest) in
    let before : take end (replaced old at a) ≡ front = ap (λ (l : List ℕ). take end l) once ∙ take_at front rest end long in
    let behind : drop end (replaced old at a) ≡ rest = ap (λ (l : List ℕ). drop end l) once ∙ drop_at front rest end long in
    let far : drop (end + length b) (replaced old at a) ≡ drop (end + length b) old =
    sym (drop-drop (length b) end (replaced old at a)) ∙ ap (λ (l : List ℕ). drop (length b) l) behind ∙ drop-drop (length b) end old in
    let sum : end + length b ≡ at + length (a ++ b) = omega (arith, length-append a b) in
    (λ i. before i ++ (b ++ far i)) ∙ append_assoc (take at old) a (b ++ drop (end + length b) old) ∙ ap (λ (l : List ℕ). take at old ++ l) (sym (append_assoc a b (drop (end + length b) old)))
    ∙ ap (λ (n : ℕ). take at old ++ ((a ++ b) ++ drop n old)) sum

-- three numbers put one behind the other
pub put_three : (old one two three : List ℕ) (at a b c : ℕ) → at ≤ length old → one ≡ replaced old at (to_be_bytes w32 a) → two ≡ replaced one (at + 4) (to_be_bytes w32 b) → three ≡ replaced two (at + 8) (to_be_bytes w32 c)
    → three ≡ replaced old at (text_of (a, b, c))
put_three old one two three at a b c fits first second third =
    let both : two ≡ replaced old at (to_be_bytes w32 a ++ to_be_bytes w32 b) = second ∙ ap (λ (l : List ℕ). replaced l (at + 4) (to_be_bytes w32 b)) first ∙ put_behind old at (to_be_bytes w32 a) (to_be_bytes w32 b) fits in
    third ∙ ap (λ (l : List ℕ). replaced l (at + 8) (to_be_bytes w32 c)) both ∙ put_behind old at (to_be_bytes w32 a ++ to_be_bytes w32 b) (to_be_bytes w32 c) fits
