use Rattle.std.proofs.Common.{ℕ}
use Rattle.std.proofs.lemmas.Option.{IfSome_then}
use Rattle.hg_wire.proofs.RunLemmas.{decimal_number, hexadecimal_number}
use Rattle.hg_wire.proofs.number.number_at.Goals as goal

pub returns-then-has_prefix_at-clause-number : goal.returns-then-has_prefix_at-clause-number
returns-then-has_prefix_at-clause-number c =
    let prefix = c.if-has_prefix_at.ensures in
    IfSome_then _ c.digits_at.ensures.digits (λ (found : ℕ × ℕ) h. hexadecimal_number c.args.bytes.now c.args.from found.1 found.0 prefix.0 prefix.1 h)

pub returns-clause-number : goal.returns-clause-number
returns-clause-number c = IfSome_then _ c.decimal_at.ensures.digits (λ (found : ℕ × ℕ) h. decimal_number c.args.bytes.now c.args.from found.1 found.0 h)
