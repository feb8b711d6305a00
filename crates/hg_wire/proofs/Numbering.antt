-- Lines behind others, and their numbers.
use Rattle.std.proofs.Common.{◌≡◌, ℕ, ◌+◌, Bool, true, false, not, List, [], ◌∷◌, ◌++◌, drop, map, refl, sym, ◌∙◌, ap, arith, inl, inr}
use Rattle.std.proofs.lemmas.Bool.{cases_Bool}
use Rattle.std.specs.List.{enumerate_from}
use Rattle.hg_wire.specs.declared.reader.Reading.{Reading}
use Rattle.hg_wire.specs.Streams.{LinesRead, GivesReading, GivesNoReading, between_lines, is_skipped, lines_when, numbered_on, reading_of, readings_in, readings_when}
use Rattle.hg_wire.proofs.ReaderLemmas.{read_from, read_more, skip_more}

cons_both : {a b : Reading} {xs ys : List Reading} → a ≡ b → xs ≡ ys → a ∷ xs ≡ b ∷ ys
cons_both p q = cc

enumerated_on : (k n : ℕ) (lines : List (List ℕ)) → readings_in (enumerate_from (k + n) lines) ≡ map (numbered_on k) (readings_in (enumerate_from n lines))
enumerated_on k n [] = refl
enumerated_on k n (line ∷ lines) =
    let next : k + n + 1 ≡ k + (n + 1) = omega arith in
    let more : readings_in (enumerate_from (k + n + 1) lines) ≡ map (numbered_on k) (readings_in (enumerate_from (n + 1) lines)) =
    ap (λ (m : ℕ). readings_in (enumerate_from m lines)) next ∙ enumerated_on k (n + 1) lines in
    elim (cases_Bool (not (is_skipped line))) [
      | inl read ↦ (read_more (k + n) line (enumerate_from (k + n + 1) lines) read
          ∙ (ap (λ rs. reading_of (k + n, line) ∷ rs) more ∙ sym (ap (map (numbered_on k)) (read_more n line (enumerate_from (n + 1) lines) read))))
      | inr skipped ↦ (skip_more (k + n) line (enumerate_from (k + n + 1) lines) skipped ∙ (more ∙ sym (ap (map (numbered_on k)) (skip_more n line (enumerate_from (n + 1) lines) skipped))))
    ]

-- what is read behind k + n lines is what is read behind n, with k added to each number
pub read_on : (over : Bool) (k n : ℕ) (rest : List ℕ) → readings_when over (k + n) rest ≡ map (numbered_on k) (readings_when over n rest)
read_on over k n rest =
    let next : k + n + 1 ≡ k + (n + 1) = omega arith in
    ap (λ (m : ℕ). readings_in (enumerate_from m (lines_when over rest))) next ∙ enumerated_on k (n + 1) (lines_when over rest)

pub read_from_start : (over : Bool) (k : ℕ) (rest : List ℕ) → readings_when over k rest ≡ map (numbered_on k) (readings_when over 0 rest)
read_from_start over k rest =
    let none : k ≡ k + 0 = omega arith in
    ap (λ (m : ℕ). readings_when over m rest) none ∙ read_on over k 0 rest

-- a reading that a reader gave between lines, so many lines further on
pub gives_on : (k : ℕ) (old new : LinesRead) (piece : List ℕ) (reading : Reading) (used : ℕ) → old.begun ≡ [] → GivesReading old new piece reading used
    → GivesReading (between_lines (k + old.lines)) (between_lines (k + new.lines)) piece (numbered_on k reading) used
gives_on k old new piece reading used between h = record {
  some = h.some;
  within = h.within;
  counted = omega (arith, h.counted);
  rising = omega (arith, h.rising);
  numbered = ap (λ (n : ℕ). k + n) h.numbered;
  between = refl;
  readings = λ more. gives true more (h.readings more);
  ended = λ more. gives false more (h.ended more);
}
  where
    gives : (over : Bool) (more : List ℕ) → read_from over old (piece ++ more) ≡ reading ∷ read_from over new (drop used piece ++ more)
        → readings_when over (k + old.lines) (piece ++ more) ≡ numbered_on k reading ∷ readings_when over (k + new.lines) (drop used piece ++ more)
    gives over more is =
        let from : readings_when over old.lines (piece ++ more) ≡ reading ∷ readings_when over new.lines (drop used piece ++ more) =
        ap (λ b. readings_when over old.lines (b ++ (piece ++ more))) (sym between) ∙ (is ∙ ap (λ b. reading ∷ readings_when over new.lines (b ++ (drop used piece ++ more))) h.between) in
        read_on over k old.lines (piece ++ more) ∙ (ap (map (numbered_on k)) from ∙ ap (λ rs. numbered_on k reading ∷ rs) (sym (read_on over k new.lines (drop used piece ++ more))))

-- a piece in which nothing more was read, between lines
pub gives_none_on : (k : ℕ) (old new : LinesRead) (piece : List ℕ) → old.begun ≡ [] → new.begun ≡ [] → GivesNoReading old new piece
    → GivesNoReading (between_lines (k + old.lines)) (between_lines (k + new.lines)) piece
gives_none_on k old new piece between after h = record {
  counted = omega (arith, h.counted);
  readings = λ more. gives true more (h.readings more);
  ended = λ more. gives false more (h.ended more);
  none_left = read_on false k new.lines [] ∙ ap (map (numbered_on k)) (ap (λ b. readings_when false new.lines (b ++ [])) (sym after) ∙ h.none_left);
}
  where
    gives : (over : Bool) (more : List ℕ) → read_from over old (piece ++ more) ≡ read_from over new more → readings_when over (k + old.lines) (piece ++ more) ≡ readings_when over (k + new.lines) more
    gives over more is =
        let from : readings_when over old.lines (piece ++ more) ≡ readings_when over new.lines more =
        ap (λ b. readings_when over old.lines (b ++ (piece ++ more))) (sym between) ∙ (is ∙ ap (λ b. readings_when over new.lines (b ++ more)) after) in
        read_on over k old.lines (piece ++ more) ∙ (ap (map (numbered_on k)) from ∙ sym (read_on over k new.lines more))
