use Rattle.std.proofs.Common.{◌-◌, drop, arith}
use Rattle.std.proofs.lemmas.List.{length-take}
use Rattle.hg_gate.proofs.Turning.{passed}
use Rattle.hg_gate.proofs.reader.LogReader.pass.Goals as goal

pub returns-clause-rest : goal.returns-clause-rest
returns-clause-rest c =
    let r = c.args.self.now in
    let short = length-take (r.to - r.from) (drop r.from r.piece.items) in
    passed r.from r.to c.args.count r.piece.items (omega (arith, short, c.requires))
