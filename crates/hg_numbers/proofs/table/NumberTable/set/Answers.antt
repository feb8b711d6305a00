use Rattle.std.proofs.Common.{◌∙◌, ap, arith, cond, nat_eq, Some}
use Rattle.hg_numbers.specs.Numbers.{at}
use Rattle.hg_numbers.proofs.Rows.{set_behind, set_in_row}
use Rattle.hg_numbers.proofs.table.NumberTable.set.Goals as goal

pub returns-then-place-len : goal.returns-then-place-len
returns-then-place-len g c k = set_in_row c.self.inside.row.items c.self.inside.others.entries c.args.number c.args.value (omega (arith, c.if-place-len.true)) k ∙ ap (λ m. cond (nat_eq c.args.number k) (Some c.args.value) (at m k)) c.self.view_is

pub returns-else-place-len : goal.returns-else-place-len
returns-else-place-len g c k = set_behind c.self.inside.row.items c.self.inside.others.entries c.set_other.new.others.entries c.args.number c.args.value (omega (arith, c.if-place-len.false)) c.set_other.ensures k ∙ ap (λ m. cond (nat_eq c.args.number k) (Some c.args.value) (at m k)) c.self.view_is
