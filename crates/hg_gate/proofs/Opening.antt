-- What an open file has behind its gate.
use Rattle.std.proofs.Common.{◌≡◌, ◌≤◌, ◌<◌, ◌^◌, ◌+◌, ℕ, List, [], ◌∷◌, ◌++◌, length, take, drop, get_or, refl, sym, ◌∙◌, ap, arith, append_assoc, length-append, length-drop, take-append-drop}
use Rattle.std.proofs.lemmas.List.{drop-drop, length-take-le, take_all, take-take, take_at}
use Rattle.std.proofs.lemmas.Nat.{from_be_bytes-to_be_bytes_8}
use Rattle.std.specs.Int.{w64, to_be_bytes, from_be_bytes}
use Rattle.hg_gate.specs.Batches.{open_gate, IsClosed}
use Rattle.hg_gate.specs.Gated.{framed, HasFront, HasLength, IsOpenWith}

-- a file by its first byte
by_gate : (file : List ℕ) → 1 ≤ length file → file ≡ get_or file 0 0 ∷ drop 1 file
by_gate [] some = absurd (omega arith)
by_gate (gate ∷ rest) some = refl

pub open_with : (file body : List ℕ) (n : ℕ) → 9 + n ≤ length file → get_or file 0 0 ≡ open_gate → take 8 (drop 1 file) ≡ to_be_bytes w64 n → body ≡ take n (drop 9 file) → IsOpenWith body file
open_with file body n within gate number is =
    let size : length body ≡ n = ap length is ∙ length-take-le n (drop 9 file) (omega (arith, within, length-drop 9 file)) in
    let tail : drop 9 file ≡ body ++ drop n (drop 9 file) = sym (take-append-drop n (drop 9 file)) ∙ ap (λ (l : List ℕ). l ++ drop n (drop 9 file)) (sym is) in
    let behind : drop 1 file ≡ to_be_bytes w64 n ++ drop 9 file = sym (take-append-drop 8 (drop 1 file)) ∙ (λ i. number i ++ drop-drop 8 1 file i) in
    record {
      rest = drop n (drop 9 file);
      spelling = by_gate file (omega (arith, within)) ∙ (λ i. gate i ∷ behind i) ∙ ap (λ (l : List ℕ). open_gate ∷ (to_be_bytes w64 n ++ l)) tail
          ∙ ap (λ (k : ℕ). open_gate ∷ (to_be_bytes w64 k ++ (body ++ drop n (drop 9 file)))) (sym size)
          ∙ ap (λ (l : List ℕ). open_gate ∷ l) (sym (append_assoc (to_be_bytes w64 (length body)) body (drop n (drop 9 file))));
    }

-- a file with an open gate is not closed
pub not_closed : (file : List ℕ) → get_or file 0 0 ≡ open_gate → IsClosed file → ⊥
not_closed file gate closed = closed.closed (sym (ap (λ (l : List ℕ). get_or l 0 0) closed.spelling) ∙ gate)

-- the length that an open file spells
length_is : (file body : List ℕ) → length file < 2 ^ 64 → IsOpenWith body file → length body ≡ from_be_bytes w64 (take 8 (drop 1 file))
length_is file body small is =
    let fits : length body < 2 ^ 64 = omega (arith, small, ap length is.spelling, length-append (framed body) is.rest, length-append (to_be_bytes w64 (length body)) body) in
    sym (from_be_bytes-to_be_bytes_8 (length body) fits) ∙ ap (λ (l : List ℕ). from_be_bytes w64 (take 8 (drop 1 l))) (sym is.spelling)

body_is : (file body : List ℕ) → IsOpenWith body file → take (length body) (drop 9 file) ≡ body
body_is file body is =
    ap (λ (l : List ℕ). take (length body) (drop 9 l)) (is.spelling ∙ ap (λ (l : List ℕ). open_gate ∷ l) (append_assoc (to_be_bytes w64 (length body)) body is.rest)) ∙ take_at body is.rest (length body) refl

pub one_body : (file first second : List ℕ) → length file < 2 ^ 64 → IsOpenWith first file → IsOpenWith second file → first ≡ second
one_body file first second small one two =
    let same : length first ≡ length second = length_is file first small one ∙ sym (length_is file second small two) in
    sym (body_is file first one) ∙ ap (λ (n : ℕ). take n (drop 9 file)) same ∙ body_is file second two

-- the whole of a front
pub whole_front : (head : List ℕ) → length head ≡ 36 → take 28 (drop 8 head) ≡ drop 8 head
whole_front head is = take_all 28 (drop 8 head) (omega (arith, is, length-drop 8 head))

-- the length of an open file's body, and its front
pub front_is : (file head body : List ℕ) (n : ℕ) → length file < 2 ^ 64 → 9 + n ≤ length file → get_or file 0 0 ≡ open_gate → HasLength file n → HasFront file head n → IsOpenWith body file
    → (length body ≡ n) × (28 ≤ n → drop 8 head ≡ take 28 body)
front_is file head body n small within gate number front opened =
    let whole = open_with file (take n (drop 9 file)) n within gate number refl in
    let same : body ≡ take n (drop 9 file) = one_body file body (take n (drop 9 file)) small opened whole in (
      ap length same ∙ length-take-le n (drop 9 file) (omega (arith, within, length-drop 9 file)),
      λ more. front more ∙ (sym (take-take 28 n (drop 9 file) more) ∙ ap (take 28) (sym same)),
    )
