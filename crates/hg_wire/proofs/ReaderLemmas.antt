-- What is read of lines.
use Rattle.std.proofs.Common.{◌≡◌, ◌≢◌, ℕ, zero, suc, ◌+◌, ◌-◌, ◌<◌, ◌≤◌, Bool, true, false, not, List, [], ◌∷◌, ◌++◌, length, get_or, take, drop, map, Ok, refl, sym, ◌∙◌, ap, subst, arith, inl, inr}
use Rattle.std.proofs.lemmas.Bool.{cond-true, cond-false, cases_Bool, eq-eqb, ne_eqb, cases_lt, lt-ltb}
use Rattle.std.proofs.lemmas.List.{append_assoc, length-append, length-take-le, length-drop, drop-drop, drop_at, take_at, get_or_at}
use Rattle.std.proofs.lemmas.Slice.{between_to_end}
use Rattle.std.specs.Char.{digit_value}
use Rattle.std.specs.List.{AllByRecursion, between, enumerate_from}
use Rattle.std.specs.Str.Lines.{strip_carriage_return}
use Rattle.hg_model.specs.declared.event.Event.{Event}
use Rattle.hg_wire.specs.declared.reader.Reading.{Reading}
use Rattle.hg_wire.specs.Bytes.{NoByte}
use Rattle.hg_wire.specs.Verbs.{row_of}
use Rattle.hg_wire.specs.Lines.{AreOperands, IsLine, line_of}
use Rattle.hg_wire.specs.InFront.{HasEventLine, EndsLineBefore}
use Rattle.hg_wire.specs.Streams.{lines_when, is_skipped, reading_of, readings_in, readings_when, lines_from, LinesRead, Splitting, EndsLine, EndsNoLine, GivesReading, GivesNoReading}
use Rattle.hg_wire.proofs.NumberLemmas.{number_no_byte}
use Rattle.hg_wire.proofs.TokenLemmas.{led_by}
use Rattle.hg_wire.proofs.VerbLemmas.{each_is_verb, no_low_byte}
use Rattle.hg_wire.proofs.LineLemmas.{event_reads}
use Rattle.hg_wire.proofs.StoredLemmas.{take_whole}
use Rattle.hg_wire.proofs.StreamLemmas.{no_byte_append, part_ends}

-- ---- one line more

cons_same : {a b : Reading} {xs ys : List Reading} → a ≡ b → xs ≡ ys → a ∷ xs ≡ b ∷ ys
cons_same p q = cc

pub read_more : (n : ℕ) (line : List ℕ) (lines : List (ℕ × List ℕ)) → not (is_skipped line) ≡ true → readings_in ((n, line) ∷ lines) ≡ reading_of (n, line) ∷ readings_in lines
read_more n line lines read = ap (map reading_of) (cond-true _ _ _ read)

pub skip_more : (n : ℕ) (line : List ℕ) (lines : List (ℕ × List ℕ)) → not (is_skipped line) ≡ false → readings_in ((n, line) ∷ lines) ≡ readings_in lines
skip_more n line lines skipped = ap (map reading_of) (cond-false _ _ _ skipped)

-- ---- lines that are shown by their first bytes

skipped_shown : (line : List ℕ) → is_skipped (take 257 line) ≡ is_skipped line
skipped_shown [] = refl
skipped_shown (b ∷ line) = refl

line_of_shown : (line : List ℕ) → line_of (take 257 line) ≡ line_of line
unfolding line_of
line_of_shown line =
    elim (cases_lt 257 (length line)) [
      | inl long ↦ (
          let count : length (take 257 line) ≡ 257 = length-take-le 257 line (omega arith) in
          let long_shown : 256 < length (take 257 line) = omega arith in
          let long_whole : 256 < length line = omega arith in
          cond-true _ _ _ (lt-ltb _ _ long_shown) ∙ sym (cond-true _ _ _ (lt-ltb _ _ long_whole))
          )
      | inr short ↦ ap line_of (take_whole line 257 short)
    ]

-- a line is read as what is shown of it
readings_shown : (n : ℕ) (lines : List (List ℕ)) → readings_in (enumerate_from n (map (take 257) lines)) ≡ readings_in (enumerate_from n lines)
readings_shown n [] = refl
readings_shown n (line ∷ lines) =
    let more = readings_shown (n + 1) lines in
    elim (cases_Bool (not (is_skipped line))) [
      | inl read ↦ (let shown_read : not (is_skipped (take 257 line)) ≡ true = ap not (skipped_shown line) ∙ read in
          read_more n (take 257 line) (enumerate_from (n + 1) (map (take 257) lines)) shown_read
          ∙ (cons_same (ap (λ event. record { line = n; event = event }) (line_of_shown line)) more ∙ sym (read_more n line (enumerate_from (n + 1) lines) read)))
      | inr skipped ↦ (let shown_skipped : not (is_skipped (take 257 line)) ≡ false = ap not (skipped_shown line) ∙ skipped in
          skip_more n (take 257 line) (enumerate_from (n + 1) (map (take 257) lines)) shown_skipped
          ∙ (more ∙ sym (skip_more n line (enumerate_from (n + 1) lines) skipped)))
    ]

-- what is read of the rest of a stream, which is over or may go on
abbrev pub read_from : Bool → LinesRead → List ℕ → List Reading
read_from over so_far rest = readings_when over so_far.lines (so_far.begun ++ rest)

pub from_lines : (over : Bool) (so_far : LinesRead) (rest : List ℕ) → read_from over so_far rest ≡ readings_in (lines_from over so_far rest)
from_lines over so_far rest = sym (readings_shown (so_far.lines + 1) (lines_when over (so_far.begun ++ rest)))

-- ---- a line that a splitter ended

pub line_read : (over : Bool) (old new : Splitting) (piece : List ℕ) (used : ℕ) → EndsLine old new piece used → not (is_skipped new.last) ≡ true → (more : List ℕ)
    → read_from over old.so_far (piece ++ more) ≡ reading_of (new.so_far.lines, new.last) ∷ read_from over new.so_far (drop used piece ++ more)
line_read over old new piece used h read more =
    from_lines over old.so_far (piece ++ more) ∙ (ap readings_in (h.line over more) ∙ (read_more new.so_far.lines new.last (lines_from over new.so_far (drop used piece ++ more)) read
    ∙ ap (λ rs. reading_of (new.so_far.lines, new.last) ∷ rs) (sym (from_lines over new.so_far (drop used piece ++ more)))))

pub line_skipped : (over : Bool) (old new : Splitting) (piece : List ℕ) (used : ℕ) → EndsLine old new piece used → not (is_skipped new.last) ≡ false → (more : List ℕ)
    → read_from over old.so_far (piece ++ more) ≡ read_from over new.so_far (drop used piece ++ more)
line_skipped over old new piece used h skipped more =
    from_lines over old.so_far (piece ++ more) ∙ (ap readings_in (h.line over more) ∙ (skip_more new.so_far.lines new.last (lines_from over new.so_far (drop used piece ++ more)) skipped
    ∙ sym (from_lines over new.so_far (drop used piece ++ more))))

pub no_line_read : (over : Bool) (old new : Splitting) (piece : List ℕ) → EndsNoLine old new piece → (more : List ℕ) → read_from over old.so_far (piece ++ more) ≡ read_from over new.so_far more
no_line_read over old new piece h more = from_lines over old.so_far (piece ++ more) ∙ (ap readings_in (h.lines over more) ∙ sym (from_lines over new.so_far more))

-- ---- an event line at the front of a piece

operands_no_byte : (c : ℕ) (widths : List ℕ) (tokens : List (List ℕ)) (values : List ℕ) → 16 ≤ digit_value c → 120 ≢ c → 32 ≢ c → AreOperands widths tokens values → NoByte c (led_by 32 tokens)
operands_no_byte c [] [] [] high not_x not_space h = tt
operands_no_byte c [] [] (v ∷ values) high not_x not_space h = absurd h
operands_no_byte c [] (token ∷ tokens) values high not_x not_space h = absurd h
operands_no_byte c (width ∷ widths) [] values high not_x not_space h = absurd h
operands_no_byte c (width ∷ widths) (token ∷ tokens) [] high not_x not_space h = absurd h
operands_no_byte c (width ∷ widths) (token ∷ tokens) (v ∷ values) high not_x not_space h =
    (not_space, no_byte_append c token (led_by 32 tokens) (number_no_byte c token v high not_x h.0) (operands_no_byte c widths tokens values high not_x not_space h.2))

line_no_byte : (c : ℕ) (text : List ℕ) (event : Event) → c ≤ 35 → 16 ≤ digit_value c → 120 ≢ c → 32 ≢ c → IsLine text event → NoByte c text
line_no_byte c text event low high not_x not_space h =
    let verb = (row_of h.verb).text in
    subst (NoByte c) (sym h.spelled) (no_byte_append c verb (led_by 32 h.tokens) (no_low_byte 35 c verb low (each_is_verb h.verb).letters)
    (operands_no_byte c (row_of h.verb).widths h.tokens h.values high not_x not_space h.operands))

letter_first : (letters more : List ℕ) → 1 ≤ length letters → AllByRecursion (λ b. 35 < b) letters → is_skipped (letters ++ more) ≡ false
letter_first [] more some h = absurd (omega arith)
letter_first (b ∷ letters) more some h = ne_eqb b 35 (λ e. omega (arith, h.0))

line_not_skipped : (text : List ℕ) (event : Event) → IsLine text event → not (is_skipped text) ≡ true
line_not_skipped text event h =
    let is = each_is_verb h.verb in
    ap (λ b. not (is_skipped b)) h.spelled ∙ ap not (letter_first (row_of h.verb).text (led_by 32 h.tokens) is.some is.letters)

no_byte_at : (c : ℕ) (bytes : List ℕ) (k : ℕ) → 0 ≢ c → NoByte c bytes → get_or bytes k 0 ≢ c
no_byte_at c [] k not_zero h = not_zero
no_byte_at c (b ∷ bytes) zero not_zero h = h.0
no_byte_at c (b ∷ bytes) (suc k) not_zero h = no_byte_at c bytes k not_zero h.1

strip_none : (line : List ℕ) → NoByte 13 line → strip_carriage_return line ≡ line
strip_none line h = cond-false _ _ _ (ne_eqb _ _ (no_byte_at 13 line (length line - 1) (λ e. omega arith) h))

strip_one : (line : List ℕ) → strip_carriage_return (line ++ 13 ∷ []) ≡ line
strip_one line =
    let last : length (line ++ 13 ∷ []) - 1 ≡ length line = omega (arith, length-append line (13 ∷ [])) in
    let here : get_or (line ++ 13 ∷ []) (length (line ++ 13 ∷ []) - 1) 0 ≡ 13 = ap (λ k. get_or (line ++ 13 ∷ []) k 0) last ∙ get_or_at line 13 [] 0 (length line) refl in
    cond-true _ _ _ (eq-eqb _ _ here) ∙ (ap (λ k. take k (line ++ 13 ∷ [])) last ∙ take_at line (13 ∷ []) (length line) refl)

-- the line that a line feed ends, perhaps behind a carriage return
line_before : (over : Bool) (text middle rest more : List ℕ) → NoByte 10 text → NoByte 13 text → EndsLineBefore middle rest
    → lines_when over ((text ++ middle) ++ more) ≡ text ∷ lines_when over (rest ++ more)
line_before over text middle rest more no_feed no_return (inl e) =
    let is : (text ++ middle) ++ more ≡ text ++ 10 ∷ (rest ++ more) = append_assoc text middle more ∙ ap (λ m. text ++ (m ++ more)) e in
    ap (lines_when over) is ∙ (ap (map strip_carriage_return) (part_ends over text (rest ++ more) no_feed) ∙ ap (λ line. line ∷ lines_when over (rest ++ more)) (strip_none text no_return))
line_before over text middle rest more no_feed no_return (inr e) =
    let is : (text ++ middle) ++ more ≡ (text ++ 13 ∷ []) ++ 10 ∷ (rest ++ more) =
    append_assoc text middle more ∙ (ap (λ m. text ++ (m ++ more)) e ∙ sym (append_assoc text (13 ∷ []) (10 ∷ (rest ++ more)))) in
    let no_feed' : NoByte 10 (text ++ 13 ∷ []) = no_byte_append 10 text (13 ∷ []) no_feed ((λ e. omega arith), tt) in
    ap (lines_when over) is ∙ (ap (map strip_carriage_return) (part_ends over (text ++ 13 ∷ []) (rest ++ more) no_feed') ∙ ap (λ line. line ∷ lines_when over (rest ++ more)) (strip_one text))

after_end : (middle rest : List ℕ) → EndsLineBefore middle rest → (end : List ℕ) × (middle ≡ end ++ rest) × (1 ≤ length end)
after_end middle rest (inl e) = (10 ∷ [], e, omega arith)
after_end middle rest (inr e) = (13 ∷ 10 ∷ [], e, omega arith)

-- what is left behind an event line
event_line_rest : (piece : List ℕ) (event : Event) (used : ℕ) (h : HasEventLine piece event used) → (drop used piece ≡ h.rest) × (0 < used) × (used ≤ length piece)
event_line_rest piece event used h =
    let end = after_end h.middle h.rest h.ends in
    let joined : piece ≡ (h.text ++ end.0) ++ h.rest = h.joined ∙ (ap (λ m. h.text ++ m) end.1 ∙ sym (append_assoc h.text end.0 h.rest)) in
    let count : length (h.text ++ end.0) ≡ used = omega (arith, ap length joined, length-append (h.text ++ end.0) h.rest, h.count) in
    (ap (drop used) joined ∙ drop_at (h.text ++ end.0) h.rest used count, omega (arith, length-append h.text end.0, end.2), omega (arith, h.count))

pub event_line_read : (over : Bool) (n : ℕ) (piece : List ℕ) (event : Event) (used : ℕ) → HasEventLine piece event used → (more : List ℕ)
    → readings_when over n (piece ++ more) ≡ record { line = n + 1; event = Ok event } ∷ readings_when over (n + 1) (drop used piece ++ more)
event_line_read over n piece event used h more =
    let no_feed = line_no_byte 10 h.text event (omega arith) (omega arith) (λ e. omega arith) (λ e. omega arith) h.spelled in
    let no_return = line_no_byte 13 h.text event (omega arith) (omega arith) (λ e. omega arith) (λ e. omega arith) h.spelled in
    let lines : lines_when over (piece ++ more) ≡ h.text ∷ lines_when over (h.rest ++ more) =
    ap (λ b. lines_when over (b ++ more)) h.joined ∙ line_before over h.text h.middle h.rest more no_feed no_return h.ends in
    let left : drop used piece ≡ h.rest = (event_line_rest piece event used h).0 in
    ap (λ ls. readings_in (enumerate_from (n + 1) ls)) lines ∙ (read_more (n + 1) h.text (enumerate_from (n + 1 + 1) (lines_when over (h.rest ++ more))) (line_not_skipped h.text event h.spelled)
    ∙ (ap (λ r. record { line = n + 1; event = r } ∷ readings_when over (n + 1) (h.rest ++ more)) (event_reads h.text event h.spelled)
    ∙ ap (λ b. record { line = n + 1; event = Ok event } ∷ readings_when over (n + 1) (b ++ more)) (sym left)))

-- ---- lines that are taken one after another

-- the piece is taken up to the rest, and nothing in it was read
pub record IsTakenTo (old now : LinesRead) (piece rest : List ℕ) : Type 0 where
  pub shorter : length rest ≤ length piece
  pub left : drop (length piece - length rest) piece ≡ rest
  pub counted : now.lines + length rest ≤ old.lines + length piece
  pub rising : old.lines ≤ now.lines
  pub readings : (over : Bool) (more : List ℕ) → read_from over old (piece ++ more) ≡ read_from over now (rest ++ more)

line_gives : (over : Bool) (old new : Splitting) (piece : List ℕ) (used : ℕ) (rs : List Reading) → EndsLine old new piece used → rs ≡ readings_in ((new.so_far.lines, new.last) ∷ []) → (more : List ℕ)
    → read_from over old.so_far (piece ++ more) ≡ rs ++ read_from over new.so_far (drop used piece ++ more)
line_gives over old new piece used rs h is more =
    let after = read_from over new.so_far (drop used piece ++ more) in
    elim (cases_Bool (not (is_skipped new.last))) [
      | inl read ↦ (let one : rs ≡ reading_of (new.so_far.lines, new.last) ∷ [] = is ∙ read_more new.so_far.lines new.last [] read in
          line_read over old new piece used h read more ∙ ap (λ r. r ++ after) (sym one))
      | inr skipped ↦ (let none : rs ≡ [] = is ∙ skip_more new.so_far.lines new.last [] skipped in
          line_skipped over old new piece used h skipped more ∙ ap (λ r. r ++ after) (sym none))
    ]

-- one line more of the piece
taken_on : (old : LinesRead) (now new : Splitting) (piece rest : List ℕ) (used : ℕ) (rs : List Reading) → IsTakenTo old now.so_far piece rest → EndsLine now new rest used
    → rs ≡ readings_in ((new.so_far.lines, new.last) ∷ [])
    → (length (drop used rest) < length rest) × (drop (length piece - length (drop used rest)) piece ≡ drop used rest)
    × (new.so_far.lines + length (drop used rest) ≤ old.lines + length piece)
    × (old.lines < new.so_far.lines)
    × ((over : Bool) (more : List ℕ) → read_from over old (piece ++ more) ≡ rs ++ read_from over new.so_far (drop used rest ++ more))
taken_on old now new piece rest used rs t h is =
    let count : length (drop used rest) ≡ length rest - used = length-drop used rest in
    let place : length piece - length (drop used rest) ≡ length piece - length rest + used = omega (arith, t.shorter, h.some, h.within) in (
      omega (arith, h.some, h.within),
      ap (λ k. drop k piece) place ∙ (sym (drop-drop used (length piece - length rest) piece) ∙ ap (drop used) t.left),
      omega (arith, t.counted, h.counted, h.some, h.within),
      omega (arith, t.rising, h.counted),
      λ over more. t.readings over more ∙ line_gives over now new rest used rs h is more,
    )

pub taken_skips : (old : LinesRead) (now new : Splitting) (piece rest : List ℕ) (used : ℕ) → IsTakenTo old now.so_far piece rest → EndsLine now new rest used
    → [] ≡ readings_in ((new.so_far.lines, new.last) ∷ []) → IsTakenTo old new.so_far piece (between used (length rest) rest)
taken_skips old now new piece rest used t h none =
    let on = taken_on old now new piece rest used [] t h none in
    let P : List ℕ → Type 0 = IsTakenTo old new.so_far piece in
    subst P (sym (between_to_end rest used (length rest) (omega arith)))
    (record { shorter = omega (arith, on.0, t.shorter); left = on.1; counted = on.2; rising = omega (arith, on.3); readings = on.4 })

-- what is read of a line has its number
number_of_one : (n : ℕ) (line : List ℕ) (reading : Reading) → reading ∷ [] ≡ readings_in ((n, line) ∷ []) → reading.line ≡ n
number_of_one n line reading one =
    elim (cases_Bool (not (is_skipped line))) [
      | inl read ↦ (let same : reading ∷ [] ≡ reading_of (n, line) ∷ [] = one ∙ read_more n line [] read in
          let is : reading ≡ reading_of (n, line) = cc in ap (λ (r : Reading). r.line) is)
      | inr skipped ↦ absurd (let none : reading ∷ [] ≡ [] = one ∙ skip_more n line [] skipped in cc)
    ]

pub taken_gives : (old : LinesRead) (now new : Splitting) (piece rest : List ℕ) (used : ℕ) (reading : Reading) → IsTakenTo old now.so_far piece rest → EndsLine now new rest used
    → reading ∷ [] ≡ readings_in ((new.so_far.lines, new.last) ∷ [])
    → GivesReading old new.so_far piece reading (length piece - length (between used (length rest) rest))
taken_gives old now new piece rest used reading t h one =
    let on = taken_on old now new piece rest used (reading ∷ []) t h one in
    let P : List ℕ → Type 0 = λ left. GivesReading old new.so_far piece reading (length piece - length left) in
    subst P (sym (between_to_end rest used (length rest) (omega arith)))
    (
    record {
      some = omega (arith, on.0, t.shorter);
      within = omega arith;
      counted = omega (arith, on.2, on.0, t.shorter);
      rising = on.3;
      numbered = number_of_one new.so_far.lines new.last reading one;
      between = h.begun;
      readings = λ more. on.4 true more ∙ ap (λ left. reading ∷ read_from true new.so_far (left ++ more)) (sym on.1);
      ended = λ more. on.4 false more ∙ ap (λ left. reading ∷ read_from false new.so_far (left ++ more)) (sym on.1);
    }
    )

pub taken_all : (old : LinesRead) (now new : Splitting) (piece rest : List ℕ) → IsTakenTo old now.so_far piece rest → EndsNoLine now new rest → GivesNoReading old new.so_far piece
taken_all old now new piece rest t h =
    record {
      counted = omega (arith, t.counted, h.counted);
      readings = λ more. t.readings true more ∙ no_line_read true now new rest h more;
      ended = λ more. t.readings false more ∙ no_line_read false now new rest h more;
      none_left = from_lines false new.so_far [] ∙ ap readings_in h.none_left;
    }

-- an event line in front of a piece, between lines
pub event_gives : (so_far : LinesRead) (piece : List ℕ) (event : Event) (used : ℕ) → so_far.begun ≡ [] → HasEventLine piece event used
    → GivesReading so_far (record { lines = so_far.lines + 1; begun = so_far.begun }) piece (record { line = so_far.lines + 1; event = Ok event }) used
event_gives so_far piece event used between_lines h =
    let left = event_line_rest piece event used h in
    record { some = left.1; within = left.2; counted = omega (arith, left.1); rising = omega arith; numbered = refl; between = between_lines; readings = gives true; ended = gives false }
  where
    gives : (over : Bool) (more : List ℕ)
        → read_from over so_far (piece ++ more)
        ≡ record { line = so_far.lines + 1; event = Ok event } ∷ read_from over (record { lines = so_far.lines + 1; begun = so_far.begun }) (drop used piece ++ more)
    gives over more =
        ap (λ b. readings_when over so_far.lines (b ++ (piece ++ more))) between_lines ∙ (event_line_read over so_far.lines piece event used h more
        ∙ ap (λ b. record { line = so_far.lines + 1; event = Ok event } ∷ readings_when over (so_far.lines + 1) (b ++ (drop used piece ++ more))) (sym between_lines))
