-- The table is tested against the definition at each of the 256 bytes, by computing.
use Rattle.std.proofs.Common.{◌≡◌, refl, ap, ◌∙◌, arith}
use Rattle.std.specs.Char.{digit_value}
use Rattle.hg_wire.specs.declared.number.TheConstants.{DIGIT_VALUES}
use Rattle.hg_wire.proofs.TableLemmas.{from_table}
use Rattle.hg_wire.proofs.number.value_of_digit.Goals as goal

pub returns : goal.returns
returns c =
    let same : c.from.result ≡ c.args.byte = c.from.ensures in
    from_table digit_value DIGIT_VALUES c.from.result (omega arith) refl ∙ ap digit_value same
