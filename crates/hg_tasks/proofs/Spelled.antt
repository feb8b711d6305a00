-- The line of an event is read as that event.
use Rattle.std.proofs.Common.{◌≡◌, ◌<◌, ◌≤◌, ◌+◌, ◌*◌, ◌^◌, ℕ, List, [], ◌∷◌, ◌++◌, length, map, refl, sym, ap, subst, ◌∙◌, arith, append_assoc, length-append}
use Rattle.std.proofs.lemmas.Fmt.{decimal_nonempty, digits_decimal, digits_value-decimal, length-decimal-le}
use Rattle.std.proofs.lemmas.Str.Parse.{IsNumeralModel, numerals_by_value, tells_digits}
use Rattle.std.specs.Fmt.{decimal}
use Rattle.std.specs.List.{AllByRecursion, flat_map}
use Rattle.std.specs.Str.Parse.{AllDigits, digits_value}
use Rattle.hg_model.specs.declared.event.Event.{Event}
use Rattle.hg_wire.proofs.NumberLemmas.{digits_value_is}
use Rattle.hg_wire.specs.Lines.{AreOperands}
use Rattle.hg_wire.specs.Numbers.{Decimal, IsNumber}
use Rattle.hg_wire.specs.Verbs.{AllFit, Makes, row_of}
use Rattle.hg_wire.specs.declared.verb.Verb.{Verb}
use Rattle.hg_wire.specs.declared.verb.Verb.TheVariants as verb
use Rattle.hg_tasks.specs.Lines.{event_line, line, operands}
use Rattle.hg_tasks.specs.Spelling.{IsLineOf}

numerals : IsNumeralModel (AllDigits 10) (digits_value 10)
numerals = numerals_by_value (AllDigits 10) tells_digits

-- what a number is written as spells it
number_read : (n : ℕ) → n < 2 ^ 64 → IsNumber (decimal n) n
number_read n h =
    Decimal
    record { some = decimal_nonempty n h; few = length-decimal-le 20 n (omega arith) (omega (arith, h)) h; each = digits_decimal numerals n h }
    (sym (digits_value-decimal numerals n h) ∙ digits_value_is 10 (decimal n))

-- the tokens of numbers, each behind a space
abbrev spaced : List ℕ → List ℕ
spaced numbers = flat_map (λ token. 32 ∷ token) (map decimal numbers)

operands_are : (numbers : List ℕ) → operands numbers ≡ spaced numbers ++ 10 ∷ []
operands_are [] = refl
operands_are (n ∷ rest) = ap (λ t. 32 ∷ t) (ap (λ t. decimal n ++ t) (operands_are rest) ∙ sym (append_assoc (decimal n) (spaced rest) (10 ∷ [])))

operands_fit : (widths numbers : List ℕ) → AllFit widths numbers → AllByRecursion (λ n. n < 2 ^ 64) numbers → AreOperands widths (map decimal numbers) numbers
operands_fit [] [] fit small = tt
operands_fit (width ∷ widths) (n ∷ rest) fit small = (number_read n small.0, fit.0, operands_fit widths rest fit.1 small.1)
operands_fit [] (n ∷ rest) fit small = absurd fit
operands_fit (width ∷ widths) [] fit small = absurd fit

spaced_short : (numbers : List ℕ) → AllByRecursion (λ n. n < 2 ^ 64) numbers → length (spaced numbers) ≤ 21 * length numbers
spaced_short [] small = omega arith
spaced_short (n ∷ rest) small =
    let one : length (decimal n) ≤ 20 = length-decimal-le 20 n (omega arith) (omega (arith, small.0)) small.0 in
    omega (arith, one, length-append (decimal n) (spaced rest), spaced_short rest small.1)

spelled : (v : Verb) (numbers : List ℕ) → AllFit (row_of v).widths numbers → AllByRecursion (λ n. n < 2 ^ 64) numbers → length (row_of v).text + 21 * length numbers ≤ 256 → IsLineOf (line (row_of v).text numbers) ((row_of v).event numbers)
spelled v numbers fit small few = record {
  line = (row_of v).text ++ spaced numbers;
  is = ap (λ t. (row_of v).text ++ t) (operands_are numbers) ∙ sym (append_assoc (row_of v).text (spaced numbers) (10 ∷ []));
  spells = record {
    verb = v;
    tokens = map decimal numbers;
    values = numbers;
    operands = operands_fit (row_of v).widths numbers fit small;
    spelled = refl;
    made = refl;
    short = omega (arith, few, length-append (row_of v).text (spaced numbers), spaced_short numbers small);
  };
}

abbrev IsRead : Verb → List ℕ → Type 0
IsRead v numbers = IsLineOf (event_line ((row_of v).event numbers)) ((row_of v).event numbers)

two : (P : List ℕ → Type 0) (first second : ℕ) → ((a b : ℕ) → a < 2 ^ first → b < 2 ^ second → P (a ∷ b ∷ [])) → (numbers : List ℕ) → AllFit (first ∷ second ∷ []) numbers → P numbers
two P first second h (a ∷ b ∷ []) fit = h a b fit.0 fit.1.0
two P first second h [] fit = absurd fit
two P first second h (a ∷ []) fit = absurd fit.1
two P first second h (a ∷ b ∷ c ∷ more) fit = absurd fit.1.1

three : (P : List ℕ → Type 0) (third : ℕ) → ((a b c : ℕ) → a < 2 ^ 16 → b < 2 ^ 64 → c < 2 ^ third → P (a ∷ b ∷ c ∷ [])) → (numbers : List ℕ) → AllFit (16 ∷ 64 ∷ third ∷ []) numbers → P numbers
three P third h (a ∷ b ∷ c ∷ []) fit = h a b c fit.0 fit.1.0 fit.1.1.0
three P third h [] fit = absurd fit
three P third h (a ∷ []) fit = absurd fit.1
three P third h (a ∷ b ∷ []) fit = absurd fit.1.1
three P third h (a ∷ b ∷ c ∷ d ∷ more) fit = absurd fit.1.1.1

read_again : (v : Verb) (numbers : List ℕ) → AllFit (row_of v).widths numbers → IsRead v numbers
read_again verb.Fork numbers fit = two (IsRead verb.Fork) 16 16 (λ a b x y. spelled verb.Fork (a ∷ b ∷ []) (x, (y, tt)) (omega (arith, x), (omega (arith, y), tt)) (omega arith)) numbers fit
read_again verb.Join numbers fit = two (IsRead verb.Join) 16 16 (λ a b x y. spelled verb.Join (a ∷ b ∷ []) (x, (y, tt)) (omega (arith, x), (omega (arith, y), tt)) (omega arith)) numbers fit
read_again verb.Lock numbers fit = two (IsRead verb.Lock) 16 16 (λ a b x y. spelled verb.Lock (a ∷ b ∷ []) (x, (y, tt)) (omega (arith, x), (omega (arith, y), tt)) (omega arith)) numbers fit
read_again verb.RdLock numbers fit = two (IsRead verb.RdLock) 16 16 (λ a b x y. spelled verb.RdLock (a ∷ b ∷ []) (x, (y, tt)) (omega (arith, x), (omega (arith, y), tt)) (omega arith)) numbers fit
read_again verb.Unlock numbers fit = two (IsRead verb.Unlock) 16 16 (λ a b x y. spelled verb.Unlock (a ∷ b ∷ []) (x, (y, tt)) (omega (arith, x), (omega (arith, y), tt)) (omega arith)) numbers fit
read_again verb.Send numbers fit = two (IsRead verb.Send) 16 32 (λ a b x y. spelled verb.Send (a ∷ b ∷ []) (x, (y, tt)) (omega (arith, x), (omega (arith, y), tt)) (omega arith)) numbers fit
read_again verb.Recv numbers fit = two (IsRead verb.Recv) 16 32 (λ a b x y. spelled verb.Recv (a ∷ b ∷ []) (x, (y, tt)) (omega (arith, x), (omega (arith, y), tt)) (omega arith)) numbers fit
read_again verb.Read numbers fit = three (IsRead verb.Read) 8 (λ a b c x y z. spelled verb.Read (a ∷ b ∷ c ∷ []) (x, (y, (z, tt))) (omega (arith, x), (y, (omega (arith, z), tt))) (omega arith)) numbers fit
read_again verb.Write numbers fit = three (IsRead verb.Write) 8 (λ a b c x y z. spelled verb.Write (a ∷ b ∷ c ∷ []) (x, (y, (z, tt))) (omega (arith, x), (y, (omega (arith, z), tt))) (omega arith)) numbers fit
read_again verb.Alloc numbers fit = three (IsRead verb.Alloc) 32 (λ a b c x y z. spelled verb.Alloc (a ∷ b ∷ c ∷ []) (x, (y, (z, tt))) (omega (arith, x), (y, (omega (arith, z), tt))) (omega arith)) numbers fit
read_again verb.Free numbers fit = three (IsRead verb.Free) 32 (λ a b c x y z. spelled verb.Free (a ∷ b ∷ c ∷ []) (x, (y, (z, tt))) (omega (arith, x), (y, (omega (arith, z), tt))) (omega arith)) numbers fit

pub lines_read : (v : Verb) (numbers : List ℕ) (event : Event) → Makes v numbers event → IsLineOf (event_line event) event
lines_read v numbers event made = subst (λ e. IsLineOf (event_line e) e) (sym made.1) (read_again v numbers made.0)
