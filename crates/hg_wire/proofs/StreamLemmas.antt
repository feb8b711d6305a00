-- The lines of a stream, as its bytes come.
use Rattle.std.proofs.Common.{◌≡◌, ◌≢◌, ℕ, zero, suc, ◌+◌, ◌-◌, ◌<◌, ◌≤◌, eqb, Bool, true, false, if◌then◌else◌, List, [], ◌∷◌, ◌++◌, length, get_or, take, drop, map, Some, None, refl, sym, ◌∙◌, ap, subst, arith, inl, inr}
use Rattle.std.proofs.lemmas.Bool.{cond-true, cond-false, cases_Bool, eqb-true, eq-eqb, ne_eqb, cases_lt, lt-ltb}
use Rattle.std.proofs.lemmas.List.{append_assoc, append-nil, length-append, length-take-le, get_or-take, take_at, take-append-le, take-append-drop, drop_more}
use Rattle.std.specs.List.{slice_split, onto_first}
use Rattle.std.specs.Str.Lines.{strip_carriage_return}
use Rattle.memchr.specs.Find.{IsFirstByte, is_byte}
use Rattle.hg_wire.specs.Bytes.{NoByte}
use Rattle.hg_wire.specs.Streams.{lines_among, lines_when, stored}
use Rattle.hg_wire.proofs.TokenLemmas.{Parts, led_by, split_parts, split_joined}
use Rattle.hg_wire.proofs.StoredLemmas.{stored_short, stored_long}

-- ---- bytes without line feeds

pub no_byte_append : (c : ℕ) (xs ys : List ℕ) → NoByte c xs → NoByte c ys → NoByte c (xs ++ ys)
no_byte_append c [] ys h k = k
no_byte_append c (x ∷ xs) ys h k = (h.0, no_byte_append c xs ys h.1 k)

no_byte_take : (c n : ℕ) (xs : List ℕ) → NoByte c xs → NoByte c (take n xs)
no_byte_take c zero xs h = tt
no_byte_take c (suc n) [] h = tt
no_byte_take c (suc n) (x ∷ xs) h = (h.0, no_byte_take c n xs h.1)

pub no_byte_stored : (c : ℕ) (xs : List ℕ) → 0 ≢ c → NoByte c xs → NoByte c (stored xs)
no_byte_stored c xs not_zero h =
    elim (cases_lt 257 (length xs)) [
      | inl long ↦ subst (NoByte c) (sym (stored_long xs long)) (no_byte_append c (take 257 xs) (0 ∷ []) (no_byte_take c 257 xs h) (not_zero, tt))
      | inr short ↦ subst (NoByte c) (sym (stored_short xs short)) h
    ]

pub no_byte_everywhere : (c : ℕ) (xs : List ℕ) → ((k : ℕ) → k < length xs → get_or xs k 0 ≢ c) → NoByte c xs
no_byte_everywhere c [] h = tt
no_byte_everywhere c (x ∷ xs) h = (h 0 (omega arith), no_byte_everywhere c xs (λ k within. h (suc k) (omega arith)))

-- ---- the parts between line feeds

abbrev pub parts_of : Bool → List ℕ → List (List ℕ)
parts_of over stream = lines_among over (slice_split (λ b. eqb b 10) stream)

-- the last line, where the stream is over
abbrev pub last_when : Bool → List ℕ → List (List ℕ)
last_when over line = if over then line ∷ [] else []

split_at : (c : ℕ) (xs ys : List ℕ) → NoByte c xs → slice_split (λ b. eqb b c) (xs ++ c ∷ ys) ≡ xs ∷ slice_split (λ b. eqb b c) ys
split_at c [] ys h = cond-true _ _ _ (eq-eqb c c refl)
split_at c (x ∷ xs) ys h = cond-false _ _ _ (ne_eqb x c h.0) ∙ ap (onto_first x) (split_at c xs ys h.1)

-- a line feed ends a part
pub part_ends : (over : Bool) (xs ys : List ℕ) → NoByte 10 xs → parts_of over (xs ++ 10 ∷ ys) ≡ xs ∷ parts_of over ys
part_ends over xs ys h =
    let p = split_parts 10 ys in
    ap (lines_among over) (split_at 10 xs ys h) ∙ (ap (λ parts. lines_among over (xs ∷ parts)) p.2.split ∙ ap (λ parts. xs ∷ lines_among over parts) (sym p.2.split))

one_part : (xs : List ℕ) → NoByte 10 xs → slice_split (λ b. eqb b 10) xs ≡ xs ∷ []
one_part xs h = ap (slice_split (λ b. eqb b 10)) (sym (append-nil xs)) ∙ split_joined 10 xs [] h tt

-- what has no line feed is a line where the stream is over
pub part_alone : (over : Bool) (xs : List ℕ) → 0 < length xs → NoByte 10 xs → parts_of over xs ≡ last_when over xs
part_alone true xs some h = ap (lines_among true) (one_part xs h) ∙ cond-true _ _ _ (lt-ltb _ _ some)
part_alone false xs some h = ap (lines_among false) (one_part xs h)

-- and none where the stream may go on
pub no_part : (xs : List ℕ) → NoByte 10 xs → parts_of false xs ≡ []
no_part xs h = ap (lines_among false) (one_part xs h)

-- ---- lines as they are shown

abbrev pub shown : List ℕ → List ℕ
shown line = take 257 (strip_carriage_return line)

take_of_take : (m n : ℕ) (xs : List ℕ) → m ≤ n → take m (take n xs) ≡ take m xs
take_of_take zero n xs h = refl
take_of_take (suc m) zero xs h = absurd (omega arith)
take_of_take (suc m) (suc n) [] h = refl
take_of_take (suc m) (suc n) (x ∷ xs) h = ap (λ ys. x ∷ ys) (take_of_take m n xs (omega arith))

shown_long : (line : List ℕ) → 257 < length line → shown line ≡ take 257 line
shown_long line long =
    elim (cases_Bool (eqb (get_or line (length line - 1) 0) 13)) [
      | inl hit ↦ ap (take 257) (cond-true _ _ _ hit) ∙ take_of_take 257 (length line - 1) line (omega arith)
      | inr miss ↦ ap (take 257) (cond-false _ _ _ miss)
    ]

-- what is stored of a line shows it, however it goes on
pub shown_stored : (xs more : List ℕ) → shown (stored xs ++ more) ≡ shown (xs ++ more)
shown_stored xs more =
    elim (cases_lt 257 (length xs)) [
      | inl long ↦ (
          let front = take 257 xs in
          let count : length front ≡ 257 = length-take-le 257 xs (omega arith) in
          let stored_is : stored xs ++ more ≡ (front ++ 0 ∷ []) ++ more = ap (λ b. b ++ more) (stored_long xs long) in
          let long_stored : 257 < length ((front ++ 0 ∷ []) ++ more) = omega (arith, length-append (front ++ 0 ∷ []) more, length-append front (0 ∷ [])) in
          let long_whole : 257 < length (xs ++ more) = omega (arith, length-append xs more) in
          ap shown stored_is ∙ (shown_long ((front ++ 0 ∷ []) ++ more) long_stored ∙ (ap (take 257) (append_assoc front (0 ∷ []) more) ∙ (take_at front (0 ∷ more) 257 count
          ∙ (sym (take-append-le 257 xs more (omega arith)) ∙ sym (shown_long (xs ++ more) long_whole)))))
          )
      | inr short ↦ ap (λ b. shown (b ++ more)) (stored_short xs short)
    ]

abbrev pub shown_lines : Bool → List ℕ → List (List ℕ)
shown_lines over stream = map (take 257) (lines_when over stream)

-- a line that a line feed ends
pub shown_line_ends : (over : Bool) (xs first tail more : List ℕ) → NoByte 10 xs → NoByte 10 first → more ≡ first ++ 10 ∷ tail
    → shown_lines over (xs ++ more) ≡ shown (xs ++ first) ∷ shown_lines over tail
shown_line_ends over xs first tail more h k is =
    let regrouped : xs ++ more ≡ (xs ++ first) ++ 10 ∷ tail = ap (λ b. xs ++ b) is ∙ sym (append_assoc xs first (10 ∷ tail)) in
    ap (shown_lines over) regrouped ∙ ap (λ parts. map (take 257) (map strip_carriage_return parts)) (part_ends over (xs ++ first) tail (no_byte_append 10 xs first h k))

-- a last line that lacks it
pub shown_line_alone : (over : Bool) (xs more : List ℕ) → 0 < length xs → NoByte 10 xs → NoByte 10 more → shown_lines over (xs ++ more) ≡ last_when over (shown (xs ++ more))
shown_line_alone true xs more some h k =
    let nonempty : 0 < length (xs ++ more) = omega (arith, length-append xs more) in
    ap (λ parts. map (take 257) (map strip_carriage_return parts)) (part_alone true (xs ++ more) nonempty (no_byte_append 10 xs more h k))
shown_line_alone false xs more some h k =
    ap (λ parts. map (take 257) (map strip_carriage_return parts)) (no_part (xs ++ more) (no_byte_append 10 xs more h k))

-- no line has ended in what has no line feed
pub no_line_shown : (xs : List ℕ) → NoByte 10 xs → shown_lines false (xs ++ []) ≡ []
no_line_shown xs h = ap (shown_lines false) (append-nil xs) ∙ ap (λ parts. map (take 257) (map strip_carriage_return parts)) (no_part xs h)

length_stored_long : (xs : List ℕ) → 257 < length xs → 0 < length (stored xs)
length_stored_long xs long = rw (stored_long xs long) (omega (arith, length-append (take 257 xs) (0 ∷ [])))

shown_stored_long : (over : Bool) (xs more : List ℕ) → 257 < length xs → NoByte 10 xs → shown_lines over (stored xs ++ more) ≡ shown_lines over (xs ++ more)
shown_stored_long over xs more long h = go (split_parts 10 more).0 (split_parts 10 more).1 (split_parts 10 more).2
  where
    none_stored : NoByte 10 (stored xs)
    none_stored = no_byte_stored 10 xs (λ e. omega arith) h

    go : (first : List ℕ) (rest : List (List ℕ)) → Parts 10 more first rest → shown_lines over (stored xs ++ more) ≡ shown_lines over (xs ++ more)
    go first [] p =
        let none_more : NoByte 10 more = subst (NoByte 10) (sym (p.joined ∙ append-nil first)) p.none in
        shown_line_alone over (stored xs) more (length_stored_long xs long) none_stored none_more ∙ (ap (last_when over) (shown_stored xs more)
        ∙ sym (shown_line_alone over xs more (omega arith) h none_more))
    go first (r ∷ rs) p =
        shown_line_ends over (stored xs) first (r ++ led_by 10 rs) more none_stored p.none p.joined ∙ (ap (λ line. line ∷ shown_lines over (r ++ led_by 10 rs)) (shown_stored xs first)
        ∙ sym (shown_line_ends over xs first (r ++ led_by 10 rs) more h p.none p.joined))

-- a line is as good as what is stored of it, however the stream goes on
pub shown_lines_stored : (over : Bool) (xs more : List ℕ) → NoByte 10 xs → shown_lines over (stored xs ++ more) ≡ shown_lines over (xs ++ more)
shown_lines_stored over xs more h =
    elim (cases_lt 257 (length xs)) [
      | inl long ↦ shown_stored_long over xs more long h
      | inr short ↦ ap (λ b. shown_lines over (b ++ more)) (stored_short xs short)
    ]

-- ---- steps of a splitter

-- all of a piece goes onto the line
pub piece_stored : (over : Bool) (begun piece more : List ℕ) → NoByte 10 begun → NoByte 10 piece → shown_lines over (begun ++ (piece ++ more)) ≡ shown_lines over (stored (begun ++ piece) ++ more)
piece_stored over begun piece more h k =
    ap (shown_lines over) (sym (append_assoc begun piece more)) ∙ sym (shown_lines_stored over (begun ++ piece) more (no_byte_append 10 begun piece h k))

-- what stands before the first line feed of a piece, and after it
pub record IsParted (piece : List ℕ) (end : ℕ) : Type 0 where
  pub within : end < length piece
  pub none : NoByte 10 (take end piece)
  pub joined : piece ≡ take end piece ++ 10 ∷ drop (end + 1) piece

-- a line feed ends the line
pub line_taken : (over : Bool) (begun piece more : List ℕ) (end : ℕ) → NoByte 10 begun → IsParted piece end
    → shown_lines over (begun ++ (piece ++ more)) ≡ shown (stored (begun ++ take end piece)) ∷ shown_lines over (drop (end + 1) piece ++ more)
line_taken over begun piece more end h p =
    let front = take end piece in
    let rest = drop (end + 1) piece ++ more in
    let parted : piece ++ more ≡ front ++ 10 ∷ rest = ap (λ b. b ++ more) p.joined ∙ append_assoc front (10 ∷ drop (end + 1) piece) more in
    let alone : shown (stored (begun ++ front)) ≡ shown (begun ++ front) = (
    ap shown (sym (append-nil (stored (begun ++ front)))) ∙ (shown_stored (begun ++ front) [] ∙ ap shown (append-nil (begun ++ front)))) in
    shown_line_ends over begun front rest (piece ++ more) h p.none parted ∙ ap (λ line. line ∷ shown_lines over rest) (sym alone)

pub last_line_taken : (begun : List ℕ) → 0 < length begun → NoByte 10 begun → shown_lines true (begun ++ []) ≡ shown begun ∷ []
last_line_taken begun some h = shown_line_alone true begun [] some h tt ∙ ap (λ b. shown b ∷ []) (append-nil begun)

-- ---- what a search for the first line feed says

pub parted_at : (piece : List ℕ) (end : ℕ) → IsFirstByte (is_byte 10) piece (Some end) → IsParted piece end
parted_at piece end h =
    let within = h.0.high in
    let here : get_or piece end 0 ≡ 10 = eqb-true _ _ h.1 in
    let count : length (take end piece) ≡ end = length-take-le end piece (omega arith) in
    record {
      within = within;
      none = no_byte_everywhere 10 (take end piece) (λ k below. (let before : k < end = omega arith in
          λ e. h.0.before k (omega arith) before (eq-eqb _ _ (sym (get_or-take end piece k 0 before) ∙ e))));
      joined = sym (take-append-drop end piece) ∙ ap (λ b. take end piece ++ b) (drop_more piece end 0 within ∙ ap (λ b. b ∷ drop (end + 1) piece) here);
    }

pub not_parted : (piece : List ℕ) → IsFirstByte (is_byte 10) piece None → NoByte 10 piece
not_parted piece h = no_byte_everywhere 10 piece (λ k within e. h k (omega arith) within (eq-eqb _ _ e))
