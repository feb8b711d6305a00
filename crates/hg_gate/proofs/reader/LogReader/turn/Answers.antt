use Rattle.std.proofs.Common.{refl, arith}
use Rattle.hg_gate.proofs.Turning.{turned, went_over}
use Rattle.hg_gate.proofs.reader.LogReader.turn.Goals as goal

pub returns : goal.returns
returns c = record {
  turned = λ seen left at begins. turned c.args.self.now _ c.args.len seen left at begins refl (omega arith) (omega arith) (omega arith);
  over = went_over c.args.self.now _ c.args.len refl (omega arith) (omega arith) (omega arith);
}
