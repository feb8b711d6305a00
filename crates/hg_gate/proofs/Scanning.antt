-- What a log has at a place behind its header.
use Rattle.std.proofs.Common.{◌≡◌, ◌<◌, ◌≤◌, ◌+◌, ℕ, zero, suc, Fits, w8, lit<, List, [], ◌∷◌, ◌++◌, length, take, drop, get_or, refl, sym, ◌∙◌, ap, subst, arith, append_assoc, length-append, length-drop, take-append-drop}
use Rattle.std.proofs.lemmas.List.{take_all, get_or-take, length-take}
use Rattle.std.proofs.lemmas.Nat.{from_be_bytes-to_be_bytes_4, be_bytes_4}
use Rattle.std.specs.List.{flat_map}
use Rattle.std.specs.Int.{w32, to_be_bytes, from_be_bytes}
use Rattle.hg_gate.specs.Batches.{open_gate, IsBody, IsBodyLength, batch}
use Rattle.hg_gate.specs.Scan.{IsTail, IsOpen}

-- a batch with a body, and something behind it
pub record Begins (tail : List ℕ) : Type 0 where
  pub body : List ℕ
  pub more : List ℕ
  pub spelling : tail ≡ open_gate ∷ (to_be_bytes w32 (length body) ++ (body ++ more))
  pub is_body : IsBody body
  pub some : 0 < length more

pub tail_some : (tail : List ℕ) (bodies : List (List ℕ)) → IsTail tail bodies → 0 < length tail
tail_some tail bodies t = omega (arith, ap length t.spelling, length-append (flat_map batch bodies) (t.gate ∷ t.rest))

-- an open gate begins a batch
pub begins : (tail : List ℕ) (bodies : List (List ℕ)) → IsTail tail bodies → get_or tail 0 0 ≡ open_gate → Begins tail
begins tail [] t is =
    let gate : t.gate ≡ open_gate = sym (ap (λ (l : List ℕ). get_or l 0 0) t.spelling) ∙ is in
    absurd (t.closed gate)
begins tail (b ∷ bodies) t is = record {
  body = b;
  more = flat_map batch bodies ++ t.gate ∷ t.rest;
  spelling = t.spelling ∙ append_assoc (batch b) (flat_map batch bodies) (t.gate ∷ t.rest) ∙ ap (λ (l : List ℕ). open_gate ∷ l) (append_assoc (to_be_bytes w32 (length b)) b (flat_map batch bodies ++ t.gate ∷ t.rest));
  is_body = t.each.0;
  some = omega (arith, length-append (flat_map batch bodies) (t.gate ∷ t.rest));
}

pub begins_len : (tail : List ℕ) (b : Begins tail) → length tail ≡ 5 + (length b.body + length b.more)
begins_len tail b = omega (arith, ap length b.spelling, length-append (to_be_bytes w32 (length b.body)) (b.body ++ b.more), length-append b.body b.more)

-- the four bytes behind the first
abbrev pub number : List ℕ → List ℕ
number head = get_or head 1 0 ∷ get_or head 2 0 ∷ get_or head 3 0 ∷ get_or head 4 0 ∷ []

pub number_is : (head tail : List ℕ) (b : Begins tail) → head ≡ take 5 tail → from_be_bytes w32 (number head) ≡ length b.body
number_is head tail b front =
    let is : head ≡ open_gate ∷ to_be_bytes w32 (length b.body) = front ∙ ap (λ (l : List ℕ). take 5 l) b.spelling in
    ap (λ (l : List ℕ). from_be_bytes w32 (number l)) is ∙ from_be_bytes-to_be_bytes_4 (length b.body) (omega (arith, b.is_body.1))

five : (l : List ℕ) → 5 ≤ length l → take 5 l ≡ get_or l 0 0 ∷ number l
five [] long = absurd (omega arith)
five (a ∷ []) long = absurd (omega arith)
five (a ∷ b ∷ []) long = absurd (omega arith)
five (a ∷ b ∷ c ∷ []) long = absurd (omega arith)
five (a ∷ b ∷ c ∷ d ∷ []) long = absurd (omega arith)
five (a ∷ b ∷ c ∷ d ∷ e ∷ l) long = refl

front_is : (head tail : List ℕ) (n : ℕ) → head ≡ take 5 tail → 5 ≤ length head → get_or head 0 0 ≡ open_gate → n ≡ from_be_bytes w32 (number head) → ((i : ℕ) → get_or (number head) i 0 < 256)
    → take 5 tail ≡ open_gate ∷ to_be_bytes w32 n
front_is head tail n front long gate is bytes =
    let whole : take 5 head ≡ head = take_all_five head tail front in
    sym front ∙ sym whole ∙ five head long ∙ (λ i. gate i ∷ sym (be_bytes_4 (number head) n refl bytes is) i)
  where
    take_all_five : (head tail : List ℕ) → head ≡ take 5 tail → take 5 head ≡ head
    take_all_five head tail front = take_all 5 head (omega (arith, ap length front, length-take 5 tail))

pub head_is : (head tail : List ℕ) (n : ℕ) → head ≡ take 5 tail → 5 ≤ length head → get_or head 0 0 ≡ open_gate → n ≡ from_be_bytes w32 (number head) → ((i : ℕ) → get_or (number head) i 0 < 256)
    → IsBodyLength n → 5 + n < length tail → IsOpen tail n
head_is head tail n front long gate is bytes fits room = record {
  rest = drop 5 tail;
  spelling = sym (take-append-drop 5 tail) ∙ ap (λ (l : List ℕ). l ++ drop 5 tail) (front_is head tail n front long gate is bytes);
  is_length = fits;
  long = omega (arith, room, length-drop 5 tail);
}

pub gate_is : (head tail : List ℕ) → head ≡ take 5 tail → get_or head 0 0 ≡ open_gate → get_or tail 0 0 ≡ open_gate
gate_is head tail front gate = sym (get_or-take 5 tail 0 0 (omega arith)) ∙ ap (λ (l : List ℕ). get_or l 0 0) (sym front) ∙ gate

pub not_short : (head tail : List ℕ) (bodies : List (List ℕ)) → head ≡ take 5 tail → get_or head 0 0 ≡ open_gate → IsTail tail bodies → 5 ≤ length head
not_short head tail bodies front gate is =
    let b = begins tail bodies is (gate_is head tail front gate) in
    omega (arith, begins_len tail b, ap length front, length-take 5 tail)

-- the length of a batch fits
pub length_fits : (head tail : List ℕ) (bodies : List (List ℕ)) (n : ℕ) → head ≡ take 5 tail → get_or head 0 0 ≡ open_gate → n ≡ from_be_bytes w32 (number head) → IsTail tail bodies
    → IsBodyLength n × (5 + n < length tail)
length_fits head tail bodies n front gate number_of is =
    let b = begins tail bodies is (gate_is head tail front gate) in
    let same : n ≡ length b.body = number_of ∙ number_is head tail b front in
    (subst IsBodyLength (sym same) b.is_body, omega (arith, same, begins_len tail b, b.some))

pub four_bytes : (head : List ℕ) → ((i : ℕ) → Fits w8 (get_or head i 0)) → (i : ℕ) → get_or (number head) i 0 < 256
four_bytes head is zero = omega (arith, is 1)
four_bytes head is (suc zero) = omega (arith, is 2)
four_bytes head is (suc (suc zero)) = omega (arith, is 3)
four_bytes head is (suc (suc (suc zero))) = omega (arith, is 4)
four_bytes head is (suc (suc (suc (suc i)))) = lit< tt
