use Rattle.std.proofs.Common.{sym, ◌∙◌}
use Rattle.hg_model.specs.Accessing.{access_named}
use Rattle.hg_detect.proofs.Admitting.{admitted}
use Rattle.hg_detect.proofs.Offering.{engine_accepted, refused_on}
use Rattle.hg_detect.proofs.detector.Detector.touch.Goals as goal

pub returns-in-Some : goal.returns-in-Some
returns-in-Some g c =
    let n = access_named c.args.source c.args.number c.args.write c.args.access in
    let accepts = admitted g.W.Words.cell_of c.self.inside.engine c.args.self.now n c.self.invariant c.self.view_is (sym (c.admits_access-admitted.ensures c.args.write) ∙ c.if-admitted.true) in
    engine_accepted g.W.Words c.self.inside.engine c.access_quickly.new.self c.args.self.now n c.self.view_is c.self.invariant accepts c.access_quickly.ensures.answers c.access_quickly.ensures.went c.access_quickly.ensures.failures

pub returns-in_err-answer : goal.returns-in_err-answer
returns-in_err-answer g c =
    refused_on g.W.Words c.args.self.now c.touch_slowly.new.self (access_named c.args.source c.args.number c.args.write c.args.access) c.from_residual.result c.in_err-answer.field-0.0 c.from_residual.ensures.1 c.in_err-answer.ensures

pub returns : goal.returns
returns g c = c.in_ok-answer.ensures
