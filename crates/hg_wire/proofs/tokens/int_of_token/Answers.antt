use Rattle.std.proofs.Common.{◌∙◌, arith}
use Rattle.hg_wire.specs.Numbers.{number_of}
use Rattle.hg_wire.proofs.WholeLemmas.{narrow_none, narrow_past}
use Rattle.hg_wire.proofs.tokens.int_of_token.Goals as goal

pub returns-in_err-value : goal.returns-in_err-value
returns-in_err-value c = c.from_residual.ensures ∙ narrow_none 32 (number_of c.args.token.now) (omega arith) c.in_err-value.ensures

pub returns-then-value-gt4294967295 : goal.returns-then-value-gt4294967295
returns-then-value-gt4294967295 c = narrow_past 32 (number_of c.args.token.now) c.in_ok-value.value c.in_ok-value.ensures (omega arith)
