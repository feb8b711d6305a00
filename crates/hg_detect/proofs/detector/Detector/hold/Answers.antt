use Rattle.std.proofs.Common.{sym, ◌∙◌}
use Rattle.hg_model.specs.Holding.{hold_named}
use Rattle.hg_detect.proofs.Admitting.{admitted}
use Rattle.hg_detect.proofs.Offering.{engine_accepted, refused_on}
use Rattle.hg_detect.proofs.detector.Detector.hold.Goals as goal

pub returns-then-admits_hold : goal.returns-then-admits_hold
returns-then-admits_hold g c =
    let n = hold_named c.args.source c.args.number c.args.hold in
    let accepts = admitted g.W.Words.cell_of c.self.inside.engine c.args.self.now n c.self.invariant c.self.view_is (sym c.admits_hold.ensures ∙ c.if-admits_hold.true) in
    engine_accepted g.W.Words c.self.inside.engine c.hold.new.self c.args.self.now n c.self.view_is c.self.invariant accepts c.hold.ensures.answers c.hold.ensures.went c.hold.ensures.failures

pub returns-in_err-answer : goal.returns-in_err-answer
returns-in_err-answer g c =
    refused_on g.W.Words c.args.self.now c.hold_by_verdict.new.self (hold_named c.args.source c.args.number c.args.hold) c.from_residual.result c.in_err-answer.field-0.0 c.from_residual.ensures.1 c.in_err-answer.ensures

pub returns : goal.returns
returns g c = c.in_ok-answer.ensures
