-- Pieces that make a line.
use Rattle.std.proofs.Common.{◌≡◌, List, ℕ, zero, suc, ◌+◌, ◌-◌, ◌*◌, ◌/◌, ◌%◌, ◌^◌, ◌<◌, ◌≤◌, bit_and, length, take, get_or, map, Result, Ok, Err, true, [], ◌∷◌, ◌++◌, sym, ◌∙◌, ap, arith}
use Rattle.std.proofs.Math.Nat.{pow-suc, pow-zero}
use Rattle.std.proofs.lemmas.Nat.{pow-add, and_mask}
use Rattle.std.proofs.lemmas.Slice.{first_rest}
use Rattle.std.specs.Char.{digit_char}
use Rattle.std.specs.Fmt.{decimal}
use Rattle.std.specs.List.{between, flat_map, join_with_byte}
use Rattle.std.specs.Result.{is_err, OnOk}
use Rattle.std.proofs.lemmas.Bool.{true≢false}
use Rattle.std.proofs.lemmas.List.{append_assoc, append-nil, take_all, take_more, take-append-le}
use Rattle.std.proofs.lemmas.List.Concat.{flat_map-append}

pub four_pieces : (a b c d a' b' c' d' : List ℕ) → a ≡ a' → b ≡ b' → c ≡ c' → d ≡ d' → a ++ (b ++ (c ++ (d ++ []))) ≡ a' ++ b' ++ c' ++ d'
four_pieces a b c d a' b' c' d' p q r s = rw (p, q, r, s) (simp (append_assoc, append-nil))

pub six_pieces : (a b c d e f a' b' c' d' e' f' : List ℕ) → a ≡ a' → b ≡ b' → c ≡ c' → d ≡ d' → e ≡ e' → f ≡ f'
    → a ++ (b ++ (c ++ (d ++ (e ++ (f ++ []))))) ≡ a' ++ b' ++ c' ++ d' ++ e' ++ f'
six_pieces a b c d e f a' b' c' d' e' f' p q r s t u = rw (p, q, r, s, t, u) (simp (append_assoc, append-nil))

-- a hexadecimal digit is four bits
pow_sixteen : (k : ℕ) → 2 ^ (4 * k) ≡ 16 ^ k
pow_sixteen zero = pow-zero 2 ∙ sym (pow-zero 16)
pow_sixteen (suc k) =
    let four : 4 * suc k ≡ 4 * k + 4 = omega arith in
    ap (λ e. 2 ^ e) four ∙ (pow-add 2 (4 * k) 4 ∙ (ap (λ p. p * 16) (pow_sixteen k) ∙ sym (pow-suc 16 k)))

pub digit_of_shifted : (token i : ℕ) → i < 16 → digit_char (bit_and (token / 2 ^ (60 - 4 * i)) 15) ≡ digit_char (token / 16 ^ (15 - i) % 16)
digit_of_shifted token i within =
    let place : 60 - 4 * i ≡ 4 * (15 - i) = omega arith in
    let power : 2 ^ (60 - 4 * i) ≡ 16 ^ (15 - i) = ap (λ e. 2 ^ e) place ∙ pow_sixteen (15 - i) in
    ap digit_char (and_mask (token / 2 ^ (60 - 4 * i)) 4 ∙ ap (λ p. token / p % 16) power)

-- each number after the first is led by a comma
joined_from : (t : ℕ) (ts : List ℕ) → join_with_byte 44 (map decimal (t ∷ ts)) ≡ decimal t ++ flat_map (λ n. 44 ∷ decimal n) ts
joined_from t [] = sym (append-nil (decimal t))
joined_from t (u ∷ ts) = ap (λ more. decimal t ++ (44 ∷ more)) (joined_from u ts)

pub numbers_joined : (old middle new numbers : List ℕ) (i : ℕ) → 1 ≤ length numbers → middle ≡ old ++ decimal (get_or numbers 0 0)
    → length (between 1 (length numbers) numbers) ≤ i → new ≡ middle ++ flat_map (λ n. 44 ∷ decimal n) (take i (between 1 (length numbers) numbers))
    → new ≡ old ++ join_with_byte 44 (map decimal numbers)
numbers_joined old middle new numbers i some first ends is =
    let others = between 1 (length numbers) numbers in
    let all : take i others ≡ others = take_all i others ends in
    is ∙ (ap (λ ns. middle ++ flat_map (λ n. 44 ∷ decimal n) ns) all ∙ (ap (λ m. m ++ flat_map (λ n. 44 ∷ decimal n) others) first
    ∙ (append_assoc old (decimal (get_or numbers 0 0)) (flat_map (λ n. 44 ∷ decimal n) others)
    ∙ ap (λ text. old ++ text) (sym (joined_from (get_or numbers 0 0) others) ∙ ap (λ ns. join_with_byte 44 (map decimal ns)) (sym (first_rest numbers 0 some))))))

pub ten_pieces : (a b c d e f g h i j a' b' c' d' e' f' g' h' i' j' : List ℕ) → a ≡ a' → b ≡ b' → c ≡ c' → d ≡ d' → e ≡ e' → f ≡ f' → g ≡ g' → h ≡ h' → i ≡ i' → j ≡ j'
    → a ++ (b ++ (c ++ (d ++ (e ++ (f ++ (g ++ (h ++ (i ++ (j ++ ([])))))))))) ≡ a' ++ b' ++ c' ++ d' ++ e' ++ f' ++ g' ++ h' ++ i' ++ j'
ten_pieces a b c d e f g h i j a' b' c' d' e' f' g' h' i' j' pa pb pc pd pe pf pg ph pi pj = rw (pa, pb, pc, pd, pe, pf, pg, ph, pi, pj) (simp (append_assoc, append-nil))

-- one more text stands behind those of the items before
pub one_more : {X : Type 0} (text : X → List ℕ) (items : List X) (i : ℕ) (none : X) (before so_far now : List ℕ) → i < length items → so_far ≡ before ++ flat_map text (take i items)
    → now ≡ so_far ++ text (get_or items i none) → now ≡ before ++ flat_map text (take (i + 1) items)
one_more text items i none before so_far now lt so is =
    let item = get_or items i none in
    let more : flat_map text (take (i + 1) items) ≡ flat_map text (take i items) ++ text item =
    ap (flat_map text) (take_more items i none lt)
    ∙ (flat_map-append text (take i items) (item ∷ []) ∙ ap (λ (l : List ℕ). flat_map text (take i items) ++ l) (append-nil (text item))) in
    is ∙ (ap (λ (l : List ℕ). l ++ text item) so ∙ (append_assoc before (flat_map text (take i items)) (text item) ∙ ap (λ (l : List ℕ). before ++ l) (sym more)))

-- what was added is cut off again
pub cut_back : (old more now after : List ℕ) (len : ℕ) → now ≡ old ++ more → len ≡ length old → after ≡ take len now → after ≡ old
cut_back old more now after len is len_is cut =
    cut ∙ (ap (λ (n : ℕ). take n now) len_is ∙ (ap (take (length old)) is ∙ (take-append-le (length old) old more (omega arith) ∙ take_all (length old) old (omega arith))))

-- two texts stand behind what was there
pub appended_on : (old first second mid now : List ℕ) → mid ≡ old ++ first → now ≡ mid ++ second → now ≡ old ++ (first ++ second)
appended_on old first second mid now is then = then ∙ (ap (λ (l : List ℕ). l ++ second) is ∙ append_assoc old first second)

pub never_ok : {T E : Type 0} (P : Type 0) (r : Result T E) → is_err r ≡ true → OnOk r P
never_ok P (Ok x) e = absurd (true≢false (sym e))
never_ok P (Err d) e = tt
