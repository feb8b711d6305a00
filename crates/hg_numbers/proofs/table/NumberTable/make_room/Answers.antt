use Rattle.std.proofs.Common.{◌∙◌, ap, refl}
use Rattle.hg_numbers.specs.Numbers.{at}
use Rattle.hg_numbers.proofs.Rows.{same_found}
use Rattle.hg_numbers.proofs.table.NumberTable.make_room.Goals as goal

pub returns-in_err-make_places-clause-same : goal.returns-in_err-make_places-clause-same
returns-in_err-make_places-clause-same g c k = same_found c.self.inside.row.items c.make_places.new.row.items c.self.inside.others.entries c.self.inside.others.entries c.make_places.ensures (λ _. refl) k ∙ ap (λ m. at m k) c.self.view_is

pub returns-clause-same : goal.returns-clause-same
returns-clause-same g c k = same_found c.self.inside.row.items c.make_places.new.row.items c.self.inside.others.entries c.make_other_room.new.others.entries c.make_places.ensures c.make_other_room.ensures.same k ∙ ap (λ m. at m k) c.self.view_is
