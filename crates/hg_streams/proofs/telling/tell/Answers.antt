use Rattle.std.proofs.Common.{inr}
use Rattle.hg_model.specs.Codes.{code_of}
use Rattle.hg_streams.specs.Texts.{fault_text}
use Rattle.hg_streams.proofs.Printed.{took_by}
use Rattle.hg_streams.proofs.telling.tell.Goals as goal

pub returns-in-Ok : goal.returns-in-Ok
returns-in-Ok g c = inr (took_by c.args.faults.now.calls c.write.new.self.calls c.fault_line.result.now (fault_text (code_of c.args.refusal)) c.in-Ok.ensures.calls c.fault_line.ensures)
