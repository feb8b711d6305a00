use Rattle.std.proofs.Common.{◌∙◌, ap, cond, nat_eq, None}
use Rattle.hg_numbers.specs.Numbers.{at}
use Rattle.hg_numbers.proofs.Rows.{taken}
use Rattle.hg_numbers.proofs.table.NumberTable.remove.Goals as goal

pub returns : goal.returns
returns g c k = taken c.self.inside.row.items c.clear_place.new.row.items c.self.inside.others.entries c.remove_other.new.others.entries c.args.number c.clear_place.ensures c.remove_other.ensures k ∙ ap (λ m. cond (nat_eq c.args.number k) None (at m k)) c.self.view_is
