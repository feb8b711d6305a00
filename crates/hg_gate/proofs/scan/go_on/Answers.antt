use Rattle.std.proofs.Common.{◌-◌, arith, drop, length, length-drop}
use Rattle.hg_gate.specs.Turning.{ahead_of}
use Rattle.hg_gate.proofs.Turning.{open_len, passes, same_end}
use Rattle.hg_gate.proofs.scan.go_on.Goals as goal

pub turn-requires-clause-whole : goal.turn-requires-clause-whole
turn-requires-clause-whole g c =
    let r = c.args.reader.now in
    omega (arith, open_len c.in-Some.body_len (ahead_of r) c.in-Some.ensures, length-drop r.to r.piece.items)

pub returns-in-Some-clause-next : goal.returns-in-Some-clause-next
returns-in-Some-clause-next g c honest seen left has at = c.turn.ensures.turned seen left at c.in-Some.ensures

pub returns-in-Some-clause-walks : goal.returns-in-Some-clause-walks
returns-in-Some-clause-walks g c honest at =
    passes (drop c.args.begins (g.D.Disk.state c.args.disk.now).contents) c.args.reader.now c.turn.new.self c.in-Some.body_len at c.in-Some.ensures c.turn.ensures.over

pub returns-in-Some-clause-within : goal.returns-in-Some-clause-within
returns-in-Some-clause-within g c within is =
    same_end (length (g.D.Disk.state c.args.disk.now).contents - c.args.begins) c.args.reader.now c.turn.new.self c.in-Some.body_len within c.in-Some.ensures c.turn.ensures.over
