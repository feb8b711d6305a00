-- The table is tested against the definition at each of the 256 bytes, by computing.
use Rattle.std.proofs.Common.{◌≡◌, ◌⊎◌, inl, inr, ℕ, ◌<◌, ◌≤◌, get_or, nat_le, refl, sym, ap, ◌∙◌, arith, Bool, true, false, if◌then◌else◌}
use Rattle.std.proofs.lemmas.Bool.{leb-true}
use Rattle.std.specs.Char.{digit_value}
use Rattle.hg_wire.specs.declared.number.TheConstants.{HEXADECIMAL_VALUES}
use Rattle.hg_wire.proofs.TableLemmas.{from_table}
use Rattle.hg_wire.proofs.number.value_of_hexadecimal_digit.Goals as goal

-- what the table has for a byte
abbrev value : ℕ → ℕ
value b = if nat_le (digit_value b) 15 then digit_value b else 65536

is_digit : (few : Bool) (d n : ℕ) → n ≡ (if few then d else 65536) → n ≤ 15 → d ≡ n
is_digit true d n e small = sym e
is_digit false d n e small = absurd (omega (arith, e, small))

is_none : (few : Bool) (d n : ℕ) → (few ≡ true → d ≤ 15) → n ≡ (if few then d else 65536) → (n ≤ 15) ⊎ (n ≡ 65536)
is_none true d n within e = inl (let small : d ≤ 15 = within refl in omega (arith, small, e))
is_none false d n within e = inr e

is_value : (place byte result : ℕ) → place ≡ byte → place < 256 → result ≡ get_or HEXADECIMAL_VALUES place 0 → result ≡ value byte
is_value place byte result same within e = e ∙ from_table value HEXADECIMAL_VALUES place within refl ∙ ap value same

pub returns-clause-digit : goal.returns-clause-digit
returns-clause-digit c =
    is_digit (nat_le (digit_value c.args.byte) 15) (digit_value c.args.byte) _ (is_value c.from.result c.args.byte _ c.from.ensures (omega arith) refl)

pub returns-clause-none : goal.returns-clause-none
returns-clause-none c =
    let digit = digit_value c.args.byte in
    is_none (nat_le digit 15) digit _ (leb-true digit 15) (is_value c.from.result c.args.byte _ c.from.ensures (omega arith) refl)
