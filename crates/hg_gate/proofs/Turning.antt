-- How one batch after the other becomes the present one.
use Rattle.std.proofs.Common.{◌≡◌, ◌≤◌, ◌<◌, ◌+◌, ◌-◌, ◌∙◌, ℕ, Option, Some, None, IfSome, List, [], ◌∷◌, ◌++◌, length, take, drop, min, slice_range, refl, sym, ap, subst, arith, append_assoc, length-append, length-drop, take-append-drop}
use Rattle.std.proofs.Math.Seq.{take-append-add}
use Rattle.std.proofs.lemmas.List.{append-nil, drop-drop, drop-take, drop_at, length-take, take-take, take_all, take_at, take_min}
use Rattle.std.specs.List.{flat_map}
use Rattle.std.specs.Int.{w32, to_be_bytes}
use Rattle.std.specs.Prelude.{◌≢◌, IsErrOf, IfErr, Result, Ok, Err}
use Rattle.hg_gate.specs.declared.fault.GateFault.{GateFault}
use Rattle.hg_gate.specs.declared.fault.GateFault.TheVariants.{Damaged}
use Rattle.hg_gate.specs.declared.reader.LogReader.{LogReader}
use Rattle.hg_gate.specs.Batches.{batch, open_gate}
use Rattle.hg_gate.specs.Scan.{IsHead, IsOpen, IsTail}
use Rattle.hg_gate.specs.Turning.{EndsWithin, HasAhead, IsReadTo, IsTurned, PassesBatch, ShowsFirst, WentOver, ahead_of, rest_of}
use Rattle.hg_gate.proofs.Reading.{push_length}
use Rattle.hg_gate.proofs.Walking.{first_of, strip}

-- what is left of a front behind some bytes
front_left : (n k : ℕ) (xs : List ℕ) → n ≤ k → drop n (take k xs) ≡ take (k - n) (drop n xs)
front_left n k xs le =
    let whole : k ≡ n + (k - n) = omega (arith, le) in
    ap (λ (j : ℕ). drop n (take j xs)) whole ∙ drop-take n (k - n) xs

-- the unread bytes of a batch behind some of them
pub passed : (from to count : ℕ) (xs : List ℕ) → from + count ≤ to → slice_range xs (from + count) to ≡ drop count (slice_range xs from to)
passed from to count xs le =
    let less : to - (from + count) ≡ (to - from) - count = omega (arith, le) in
    ap (λ (n : ℕ). take n (drop (from + count) xs)) less ∙ ap (λ (l : List ℕ). take ((to - from) - count) l) (sym (drop-drop count from xs)) ∙ sym (front_left count (to - from) (drop from xs) (omega (arith, le)))

-- a batch that stands whole in the bytes, in a front that is longer
pub open_in_front : (k n : ℕ) (bytes : List ℕ) → 5 + n < k → IsOpen bytes n → IsOpen (take k bytes) n
open_in_front k n bytes longer o =
    let split : k ≡ 5 + (k - 5) = omega (arith, longer) in
    record {
      rest = take (k - 5) o.rest;
      spelling = ap (λ (j : ℕ). take j bytes) split ∙ ap (λ (l : List ℕ). take (5 + (k - 5)) l) o.spelling ∙ take-append-add (open_gate ∷ to_be_bytes w32 n) o.rest (k - 5);
      is_length = o.is_length;
      long = omega (arith, o.long, longer, length-take (k - 5) o.rest);
    }

-- and one that stands in a front of the bytes stands in them
pub open_further : (k n : ℕ) (tail : List ℕ) → IsOpen (take k tail) n → IsOpen tail n
open_further k n tail o = record {
  rest = o.rest ++ drop k tail;
  spelling = sym (take-append-drop k tail) ∙ ap (λ (l : List ℕ). l ++ drop k tail) o.spelling ∙ ap (λ (l : List ℕ). open_gate ∷ l) (append_assoc (to_be_bytes w32 n) o.rest (drop k tail));
  is_length = o.is_length;
  long = omega (arith, o.long, length-append o.rest (drop k tail));
}

pub open_len : (n : ℕ) (bytes : List ℕ) → IsOpen bytes n → 5 + n < length bytes
open_len n bytes o = omega (arith, ap length o.spelling, length-append (to_be_bytes w32 n) o.rest, o.long)

-- the bytes that were read ahead behind the next batch
pub over : (old new : LogReader) (n : ℕ) → new.piece.items ≡ old.piece.items → new.from ≡ old.to + 5 → new.to ≡ new.from + n → ahead_of new ≡ drop (5 + n) (ahead_of old)
over old new n same from to =
    let piece = old.piece.items in
    let behind : new.to ≡ old.to + (5 + n) = omega (arith, from, to) in
    ap (λ (l : List ℕ). drop new.to l) same ∙ ap (λ (j : ℕ). drop j piece) behind ∙ sym (drop-drop (5 + n) old.to piece)

pub went_over : (old new : LogReader) (n : ℕ) → new.piece.items ≡ old.piece.items → new.next ≡ old.next + (5 + n) → new.from ≡ old.to + 5 → new.to ≡ new.from + n → WentOver (5 + n) old new
went_over old new n same next from to = record { place = next; ahead = over old new n same from to }

-- nothing was read ahead, so it is the file's
pub none_of_it : (file : List ℕ) (r : LogReader) → ahead_of r ≡ [] → HasAhead file r
none_of_it file r none = none ∙ sym (ap (λ (l : List ℕ). take (length l) (drop r.next file)) none)

-- a batch that was read ahead is one of the file
pub passes : (file : List ℕ) (old new : LogReader) (n : ℕ) → HasAhead file old → IsOpen (ahead_of old) n → WentOver (5 + n) old new → PassesBatch file old new
passes file old new n at begins went =
    let k = length (ahead_of old) in
    let tail = drop old.next file in
    let fits : 5 + n < k = open_len n (ahead_of old) begins in
    let less : length (ahead_of new) ≡ k - (5 + n) = ap length went.ahead ∙ length-drop (5 + n) (ahead_of old) in
    record {
      len = n;
      begins = open_further k n tail (subst (λ (l : List ℕ). IsOpen l n) at begins);
      place = went.place;
      ahead = went.ahead ∙ ap (λ (l : List ℕ). drop (5 + n) l) at ∙ front_left (5 + n) k tail (omega (arith, fits)) ∙ ap (λ (l : List ℕ). take (k - (5 + n)) l) (drop-drop (5 + n) old.next file)
          ∙ ap (λ (j : ℕ). take (k - (5 + n)) (drop j file)) (sym went.place) ∙ ap (λ (j : ℕ). take j (drop new.next file)) (sym less);
    }

-- what was read ahead ends where it did
pub same_end : (size : ℕ) (old new : LogReader) (n : ℕ) → EndsWithin size old → IsOpen (ahead_of old) n → WentOver (5 + n) old new → (old.next < new.next) × EndsWithin size new
same_end size old new n within begins went =
    let less : length (ahead_of new) ≡ length (ahead_of old) - (5 + n) = ap length went.ahead ∙ length-drop (5 + n) (ahead_of old) in (
      omega (arith, went.place),
      omega (arith, within, went.place, less, open_len n (ahead_of old) begins),
    )

-- what is not told
pub undamaged : {T : Type 0} (result : Result T GateFault) → ¬ IsErrOf result Damaged → IfErr result (λ e. e ≢ Damaged)
undamaged (Ok value) h = tt
undamaged (Err fault) h = λ same. h (ap (λ (e : GateFault). Err e) same)

-- what a head begins, if it is a batch
pub head_opens : (bytes : List ℕ) (found : Option ℕ) → IsHead bytes found → IfSome found (IsOpen bytes)
head_opens bytes None is = tt
head_opens bytes (Some n) is = is

-- the head at the front of a piece
pub front_is : (tail piece : List ℕ) (room count k : ℕ) → room ≡ length tail → count ≡ min room 65536 → piece ≡ take count tail → k ≡ min count 5 → take k piece ≡ take 5 tail
front_is tail piece room count k size few is least =
    let first : k ≡ min 5 (length tail) = omega (arith, size, few, least) in
    ap (λ (l : List ℕ). take k l) is ∙ take-take k count tail (omega (arith, least)) ∙ ap (λ (n : ℕ). take n tail) first ∙ take_min 5 tail

-- the first bytes of what was read ahead
pub ahead_front : (n count : ℕ) (xs : List ℕ) → length xs ≤ n → count ≡ min (length (take n xs)) 5 → take count (take n xs) ≡ take 5 xs
ahead_front n count xs fits least =
    let all = take_all n xs fits in
    let first : count ≡ min 5 (length xs) = omega (arith, least, ap length all) in
    ap (λ (l : List ℕ). take count l) all ∙ ap (λ (k : ℕ). take k xs) first ∙ take_min 5 xs

-- nothing was read ahead
pub none_ahead : (left : List (List ℕ)) → ShowsFirst [] left
none_ahead left [] rest each is = (left, refl)
none_ahead left (body ∷ whole) rest each is = let none : length (batch body ++ (flat_map batch whole ++ rest)) ≡ 0 = ap length (sym (is ∙ append_assoc (batch body) (flat_map batch whole) rest)) in absurd (omega (arith, none))

-- the front of what a log has behind the batches that were seen
pub front_shows : (k : ℕ) (tail : List ℕ) (left : List (List ℕ)) → IsTail tail left → ShowsFirst (take k tail) left
front_shows k tail left t whole rest each is =
    let whole_tail : tail ≡ flat_map batch whole ++ (rest ++ drop k tail) = sym (take-append-drop k tail) ∙ ap (λ (l : List ℕ). l ++ drop k tail) is ∙ append_assoc (flat_map batch whole) rest (drop k tail) in
    let found = strip whole left (rest ++ drop k tail) t.gate t.rest each t.each t.closed (sym t.spelling ∙ whole_tail) in
    (found.more, found.all)

-- batches are added behind those that are left
pub stays_on_append : (r : LogReader) (seen left added : List (List ℕ)) → IsReadTo r seen left → IsReadTo r seen (left ++ added)
stays_on_append r seen left added at = record {
  place = at.place;
  ahead = λ whole rest each is.
      let found = at.ahead whole rest each is in
      (found.0 ++ added, ap (λ (l : List (List ℕ)). l ++ added) found.1 ∙ append_assoc whole found.0 added);
}

module _ (old new : LogReader) (n : ℕ) (seen left : List (List ℕ)) (at : IsReadTo old seen left) (begins : IsOpen (ahead_of old) n) where
  -- the next batch is the present one, once it was read ahead
  pub turned : new.piece.items ≡ old.piece.items → new.next ≡ old.next + (5 + n) → new.from ≡ old.to + 5 → new.to ≡ new.from + n → IsTurned new seen left
  turned same next from to =
      let piece = old.piece.items in
      let first = first_of (ahead_of old) n begins in
      let body = first.body in
      let found = at.ahead (body ∷ []) first.more (first.is_body, tt) (first.spelling ∙ ap (λ (l : List ℕ). l ++ first.more) (sym (append-nil (batch body)))) in
      let few : new.to - new.from ≡ n = omega (arith, to) in
      let present : rest_of new ≡ body =
      ap (λ (l : List ℕ). take (new.to - new.from) (drop new.from l)) same ∙ ap (λ (j : ℕ). take j (drop new.from piece)) few ∙ ap (λ (j : ℕ). take n (drop j piece)) from
      ∙ ap (λ (l : List ℕ). take n l) (sym (drop-drop 5 old.to piece)) ∙ ap (λ (l : List ℕ). take n (drop 5 l)) first.spelling ∙ take_at body first.more n first.size in
      let size : length (batch body) ≡ 5 + n = omega (arith, first.size, length-append (to_be_bytes w32 (length body)) body) in
      let rest : ahead_of new ≡ first.more = over old new n same from to ∙ ap (λ (l : List ℕ). drop (5 + n) l) first.spelling ∙ drop_at (batch body) first.more (5 + n) size in
      let length_is : length (rest_of new) ≡ n = ap length present ∙ first.size in
      record {
        later = found.0;
        first = found.1 ∙ ap (λ (l : List ℕ). l ∷ found.0) (sym present);
        at = record {
          place = omega (arith, next, at.place, length_is, push_length seen (rest_of new));
          ahead = λ whole more each is.
              let both = at.ahead (body ∷ whole) more (first.is_body, each) (first.spelling ∙ ap (λ (l : List ℕ). batch body ++ l) (sym rest ∙ is) ∙ sym (append_assoc (batch body) (flat_map batch whole) more)) in
              (both.0, ap (λ (l : List (List ℕ)). drop 1 l) (sym found.1 ∙ both.1));
        };
      }
