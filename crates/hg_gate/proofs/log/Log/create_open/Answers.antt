use Rattle.std.proofs.Common.{rules, ◌≡◌, ◌∷◌, [], ◌++◌, refl}
use Rattle.hg_disk.specs.State.{settled}
use Rattle.hg_gate.specs.Batches.{base_front, closed_gate}
use Rattle.hg_gate.proofs.Basing.{empty_log}
use Rattle.hg_gate.proofs.log.Log.create_open.Goals as goal

pub returns-clause-empty : goal.returns-clause-empty
returns-clause-empty g c =
    let state : g.D.Disk.state c.write_through.new.disk ≡ settled (base_front 0 ++ closed_gate ∷ []) = search rules in
    (empty_log g.D.Disk 0 _ refl refl refl state, state, search rules)
