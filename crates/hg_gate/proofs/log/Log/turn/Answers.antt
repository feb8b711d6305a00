use Rattle.std.proofs.Common.{◌++◌, drop, ℕ, subst, sym}
use Rattle.hg_gate.specs.Scan.{IsTail}
use Rattle.hg_gate.proofs.Reading.{behind, tail_at}
use Rattle.hg_gate.proofs.Turning.{undamaged}
use Rattle.hg_gate.proofs.log.Log.turn.Goals as goal

pub returns-clause-whole : goal.returns-clause-whole
returns-clause-whole g c front seen left honest h at =
    let file = (g.D.Disk.state c.args.self.now.disk).contents in
    let tail = subst (λ (n : ℕ). IsTail (drop n file) (seen ++ left)) (sym h.begins) (behind front file (seen ++ left) h.has) in
    undamaged c.go_on.result (λ is. c.go_on.ensures.whole honest is left (tail_at (drop c.args.self.now.begins file) c.args.reader.now.next seen left at.place tail))

pub returns-clause-next : goal.returns-clause-next
returns-clause-next g c front seen left honest h at =
    let file = (g.D.Disk.state c.args.self.now.disk).contents in
    let tail = subst (λ (n : ℕ). IsTail (drop n file) (seen ++ left)) (sym h.begins) (behind front file (seen ++ left) h.has) in
    c.go_on.ensures.next honest seen left tail at
