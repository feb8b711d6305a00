-- Operands that follow one another.
use Rattle.std.proofs.Common.{◌≡◌, ℕ, ◌+◌, ◌<◌, List, [], ◌∷◌, ◌++◌, length, get_or, drop, refl, sym, ◌∙◌, ap}
use Rattle.std.proofs.lemmas.List.{append_assoc, append-nil, drop_more}
use Rattle.hg_wire.specs.InFront.{HasNumber}
use Rattle.hg_wire.specs.Verbs.{AllFit}
use Rattle.hg_wire.specs.Lines.{AreOperands}
use Rattle.hg_wire.specs.InFront.{HasOperands}
use Rattle.hg_wire.proofs.TokenLemmas.{led_by}

pub one_operand : (bytes : List ℕ) (from n : ℕ) (rest : List ℕ) → from < length bytes → get_or bytes from 0 ≡ 32 → HasNumber (drop (from + 1) bytes) n rest
    → HasOperands (64 ∷ []) (drop from bytes) (n ∷ []) rest
one_operand bytes from n rest within space h =
    record {
      tokens = h.text ∷ [];
      operands = (h.spelled, h.fits, tt);
      joined = drop_more bytes from 0 within ∙ (ap (λ b. b ∷ drop (from + 1) bytes) space ∙ (ap (λ more. 32 ∷ more) h.joined
          ∙ ap (λ text. 32 ∷ (text ++ rest)) (sym (append-nil h.text))));
    }

refitted : (wide widths values : List ℕ) (tokens : List (List ℕ)) → AllFit widths values → AreOperands wide tokens values → AreOperands widths tokens values
refitted [] [] [] [] fit h = tt
refitted (w ∷ wide) (width ∷ widths) (n ∷ values) (token ∷ tokens) fit h = (h.0, fit.0, refitted wide widths values tokens fit.1 h.2)
refitted wide [] (n ∷ values) tokens fit h = absurd fit
refitted wide (width ∷ widths) [] tokens fit h = absurd fit
refitted (w ∷ wide) [] [] [] fit h = absurd h
refitted (w ∷ wide) [] [] (token ∷ tokens) fit h = absurd h
refitted [] [] [] (token ∷ tokens) fit h = absurd h
refitted [] (width ∷ widths) (n ∷ values) [] fit h = absurd h
refitted [] (width ∷ widths) (n ∷ values) (token ∷ tokens) fit h = absurd h
refitted (w ∷ wide) (width ∷ widths) (n ∷ values) [] fit h = absurd h

-- operands that fit other widths
pub refit_operands : (wide widths bytes values rest : List ℕ) → AllFit widths values → HasOperands wide bytes values rest → HasOperands widths bytes values rest
refit_operands wide widths bytes values rest fit h = record { tokens = h.tokens; operands = refitted wide widths values h.tokens fit h.operands; joined = h.joined }

one_more : (width n : ℕ) (widths values : List ℕ) (tokens more : List (List ℕ)) → AreOperands (width ∷ []) tokens (n ∷ []) → AreOperands widths more values
    → AreOperands (width ∷ widths) (tokens ++ more) (n ∷ values)
one_more width n widths values [] more h k = absurd h
one_more width n widths values (token ∷ []) more h k = (h.0, h.1, k)
one_more width n widths values (token ∷ next ∷ tokens) more h k = absurd h.2

led_by-append : (tokens more : List (List ℕ)) → led_by 32 (tokens ++ more) ≡ led_by 32 tokens ++ led_by 32 more
led_by-append [] more = refl
led_by-append (token ∷ tokens) more =
    ap (λ bytes. 32 ∷ (token ++ bytes)) (led_by-append tokens more) ∙ ap (λ bytes. 32 ∷ bytes) (sym (append_assoc token (led_by 32 tokens) (led_by 32 more)))

-- one operand, and then those after it
pub operands_follow : (width n : ℕ) (widths values bytes middle rest : List ℕ) → HasOperands (width ∷ []) bytes (n ∷ []) middle → HasOperands widths middle values rest
    → HasOperands (width ∷ widths) bytes (n ∷ values) rest
operands_follow width n widths values bytes middle rest h k =
    record {
      tokens = h.tokens ++ k.tokens;
      operands = one_more width n widths values h.tokens k.tokens h.operands k.operands;
      joined = h.joined ∙ (ap (λ more. led_by 32 h.tokens ++ more) k.joined ∙ (sym (append_assoc (led_by 32 h.tokens) (led_by 32 k.tokens) rest)
          ∙ ap (λ bytes. bytes ++ rest) (sym (led_by-append h.tokens k.tokens))));
    }
