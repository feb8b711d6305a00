-- Batch after batch, as a log has them.
use Rattle.std.proofs.Common.{◌≡◌, ◌≤◌, ◌+◌, ℕ, Result, Ok, Err, IfOk, List, [], ◌∷◌, ◌++◌, length, drop, get_or, refl, sym, ◌∙◌, ap, arith, append_assoc, length-append}
use Rattle.std.proofs.lemmas.List.{drop_at}
use Rattle.std.proofs.lemmas.Grind.{flat_map-append}
use Rattle.std.specs.List.{flat_map, AllByRecursion}
use Rattle.std.specs.Int.{w32, to_be_bytes}
use Rattle.hg_gate.specs.Batches.{EndsBehind, open_gate, IsClosed, IsBody, batch, IsLog}
use Rattle.hg_gate.specs.Scan.{EndsAt, IsTail}
use Rattle.hg_gate.proofs.Crash.{spelled_push}

each_left : (seen left : List (List ℕ)) → AllByRecursion IsBody (seen ++ left) → AllByRecursion IsBody left
each_left [] left each = each
each_left (s ∷ seen) left each = each_left seen left each.1

-- what is known of a value that is answered
pub if_ok : {T E : Type 0} {A B : T → Type 0} (result : Result T E) → ((value : T) → A value → B value) → IfOk result A → IfOk result B
if_ok (Ok value) f is = f value is
if_ok (Err error) f is = is

-- what stands behind the front of a log
pub behind : (front file : List ℕ) (bodies : List (List ℕ)) → IsLog front file bodies → IsTail (drop (length front) file) bodies
behind front file bodies has = record {
  gate = has.gate;
  rest = has.rest;
  spelling = ap (λ (l : List ℕ). drop (length front) l) (has.spelling ∙ append_assoc front (flat_map batch bodies) (has.gate ∷ has.rest)) ∙ drop_at front (flat_map batch bodies ++ has.gate ∷ has.rest) (length front) refl;
  closed = has.closed;
  each = has.each;
}

-- and a log of it
pub in_front : (front file : List ℕ) (n : ℕ) (bodies : List (List ℕ)) → file ≡ front ++ drop n file → IsTail (drop n file) bodies → IsLog front file bodies
in_front front file n bodies begins t = record {
  gate = t.gate;
  rest = t.rest;
  spelling = begins ∙ ap (λ (l : List ℕ). front ++ l) t.spelling ∙ sym (append_assoc front (flat_map batch bodies) (t.gate ∷ t.rest));
  closed = t.closed;
  each = t.each;
}

pub ends_behind : (front file : List ℕ) (n len : ℕ) → file ≡ front ++ drop n file → EndsAt (drop n file) len → EndsBehind front file len
ends_behind front file n len begins ends = record { bodies = ends.bodies; has = in_front front file n ends.bodies begins ends.has; place = ends.place }

in_two : (bytes : List ℕ) (seen left : List (List ℕ)) (has : IsTail bytes (seen ++ left)) → bytes ≡ flat_map batch seen ++ (flat_map batch left ++ has.gate ∷ has.rest)
in_two bytes seen left has =
    let end = has.gate ∷ has.rest in
    has.spelling ∙ ap (λ (l : List ℕ). l ++ end) (flat_map-append batch seen left) ∙ append_assoc (flat_map batch seen) (flat_map batch left) end

-- what stands behind the batches that were seen
pub tail_at : (bytes : List ℕ) (at : ℕ) (seen left : List (List ℕ)) → at ≡ length (flat_map batch seen) → IsTail bytes (seen ++ left) → IsTail (drop at bytes) left
tail_at bytes at seen left place has =
    let end = has.gate ∷ has.rest in
    record {
      gate = has.gate;
      rest = has.rest;
      spelling = ap (λ (l : List ℕ). drop at l) (in_two bytes seen left has) ∙ drop_at (flat_map batch seen) (flat_map batch left ++ end) at (sym place);
      closed = has.closed;
      each = each_left seen left has.each;
    }

-- the place of the next batch is within the file
pub place_within : (front file : List ℕ) (at : ℕ) (seen left : List (List ℕ)) → at ≡ length (flat_map batch seen) → IsLog front file (seen ++ left) → length front + at ≤ length file
place_within front file at seen left place has =
    let t = behind front file (seen ++ left) has in
    omega (
      arith,
      place,
      ap length has.spelling,
      length-append (front ++ flat_map batch (seen ++ left)) (has.gate ∷ has.rest),
      length-append front (flat_map batch (seen ++ left)),
      ap length (flat_map-append batch seen left),
      length-append (flat_map batch seen) (flat_map batch left),
    )

-- at a gate that is closed none are left
pub none_left : (tail : List ℕ) (left : List (List ℕ)) → IsTail tail left → IsClosed tail → left ≡ []
none_left tail [] is closed = refl
none_left tail (b ∷ left) is closed = let opened : closed.gate ≡ open_gate = ap (λ (l : List ℕ). get_or l 0 0) (sym closed.spelling ∙ is.spelling) in absurd (closed.closed opened)

pub push_length : (seen : List (List ℕ)) (body : List ℕ) → length (flat_map batch (seen ++ body ∷ [])) ≡ length (flat_map batch seen) + (5 + length body)
push_length seen body = omega (arith, length-append (to_be_bytes w32 (length body)) body, ap length (spelled_push [] seen body []), length-append (flat_map batch (seen ++ body ∷ [])) [], length-append (flat_map batch seen) (batch body ++ []), length-append (batch body) [])
