use Rattle.std.proofs.Common.{◌∙◌, ap, sym, nat_eq}
use Rattle.std.specs.Map.{lookup}
use Rattle.hg_numbers.specs.Numbers.{at}
use Rattle.hg_numbers.specs.Rows.{or_else}
use Rattle.hg_numbers.proofs.Rows.{found}
use Rattle.hg_numbers.proofs.table.NumberTable.get.Goals as goal

pub returns-in-Some : goal.returns-in-Some
returns-in-Some g c = ap (λ v. or_else v (lookup (nat_eq c.args.number) c.self.inside.others.entries)) (sym c.in-Some.is ∙ c.at_place.ensures) ∙ sym (found c.self.inside.row.items c.self.inside.others.entries c.args.number) ∙ ap (λ m. at m c.args.number) c.self.view_is

pub returns-in-None : goal.returns-in-None
returns-in-None g c = c.get_other.ensures ∙ ap (λ v. or_else v (lookup (nat_eq c.args.number) c.self.inside.others.entries)) (sym c.in-None.is ∙ c.at_place.ensures) ∙ sym (found c.self.inside.row.items c.self.inside.others.entries c.args.number) ∙ ap (λ m. at m c.args.number) c.self.view_is
