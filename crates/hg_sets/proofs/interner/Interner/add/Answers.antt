use Rattle.std.proofs.Common.{refl}
use Rattle.hg_sets.proofs.Reserved.{room_left}
use Rattle.hg_sets.proofs.interner.Interner.add.Goals as goal

pub returns-clause-room : goal.returns-clause-room
returns-clause-room c =
    let old = c.args.self.now in
    let spare = c.push_reserved.ensures in
    λ done. room_left c.args.members.now old (record old { lists = c.push_reserved.new.self }) spare.spare_lists spare.spare_elements refl
