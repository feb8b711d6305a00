-- The bytes of a cell, as three numbers.
use Rattle.std.proofs.Common.{◌≡◌, ◌<◌, ◌≤◌, ◌+◌, ◌∙◌, ℕ, zero, suc, List, [], ◌∷◌, ◌++◌, length, take, drop, get_or, refl, sym, ap, arith, length-drop, take-append-drop}
use Rattle.std.specs.Int.{w32, to_be_bytes}
use Rattle.std.proofs.lemmas.List.{drop-drop, length-take-le, take_all}
use Rattle.std.proofs.lemmas.Nat.{be_bytes_4}
use Rattle.hg_pages.specs.Reading.{number_at, text_of}

-- each is a byte
abbrev pub AreBytes : List ℕ → Type 0
AreBytes bytes = (i : ℕ) → get_or bytes i 0 < 256

taken : (n : ℕ) (bytes : List ℕ) → AreBytes bytes → AreBytes (take n bytes)
taken zero bytes each i = omega arith
taken (suc n) [] each i = omega arith
taken (suc n) (x ∷ bytes) each zero = each 0
taken (suc n) (x ∷ bytes) each (suc i) = taken n bytes (λ k. each (suc k)) i

dropped : (n : ℕ) (bytes : List ℕ) → AreBytes bytes → AreBytes (drop n bytes)
dropped zero bytes each i = each i
dropped (suc n) [] each i = omega arith
dropped (suc n) (x ∷ bytes) each i = dropped n bytes (λ k. each (suc k)) i

-- the four bytes of a number
four : (bytes : List ℕ) (at : ℕ) → at + 4 ≤ length bytes → AreBytes bytes → to_be_bytes w32 (number_at bytes at) ≡ take 4 (drop at bytes)
four bytes at long each = be_bytes_4 (take 4 (drop at bytes)) (number_at bytes at) (length-take-le 4 (drop at bytes) (omega (arith, long, length-drop at bytes))) (taken 4 (drop at bytes) (dropped at bytes each)) refl

-- twelve bytes are four, four and four
three : (bytes : List ℕ) → length bytes ≡ 12 → take 4 (drop 0 bytes) ++ (take 4 (drop 4 bytes) ++ take 4 (drop 8 bytes)) ≡ bytes
three bytes size =
    let last : take 4 (drop 8 bytes) ≡ drop 4 (drop 4 bytes) = take_all 4 (drop 8 bytes) (omega (arith, size, length-drop 8 bytes)) ∙ sym (drop-drop 4 4 bytes) in
    ap (λ (l : List ℕ). take 4 bytes ++ (take 4 (drop 4 bytes) ++ l)) last ∙ ap (λ (l : List ℕ). take 4 bytes ++ l) (take-append-drop 4 (drop 4 bytes)) ∙ take-append-drop 4 bytes

-- the numbers that twelve bytes spell
pub in_text : (bytes : List ℕ) (a b c : ℕ) → length bytes ≡ 12 → AreBytes bytes → a ≡ number_at bytes 0 → b ≡ number_at bytes 4 → c ≡ number_at bytes 8 → text_of (a, b, c) ≡ bytes
in_text bytes a b c size each first second third =
    (λ i. text_of (first i, second i, third i))
    ∙ (λ i. four bytes 0 (omega (arith, size)) each i ++ (four bytes 4 (omega (arith, size)) each i ++ four bytes 8 (omega (arith, size)) each i))
    ∙ three bytes size
