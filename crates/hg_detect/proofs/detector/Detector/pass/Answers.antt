use Rattle.std.proofs.Common.{false, sym, ◌∙◌}
use Rattle.hg_model.specs.Accessing.{access_named}
use Rattle.hg_model.specs.Verdicts.{standing, verdict}
use Rattle.hg_model.proofs.Following.{accept_is}
use Rattle.hg_detect.proofs.Admitting.{admitted}
use Rattle.hg_detect.proofs.Counting.{handed_on, pass_accepted, pass_refused}
use Rattle.hg_detect.proofs.detector.Detector.pass.Goals as goal

pub returns-then-admits_access : goal.returns-then-admits_access
returns-then-admits_access g c =
    let engine = c.self.inside.engine in
    pass_accepted g.W.Words engine c.pass.new.self c.args.self.now c.args.source c.args.number c.args.access c.self.view_is
    (λ write. admitted g.W.Words.cell_of engine c.args.self.now (access_named c.args.source c.args.number write c.args.access) c.self.invariant c.self.view_is (sym (c.admits_access.ensures write) ∙ c.if-admits_access.true))
    c.pass.ensures.rest c.pass.ensures.content

pub returns-in_err-answer : goal.returns-in_err-answer
returns-in_err-answer g c =
    pass_refused g.W.Words c.self.inside.engine c.args.self.now c.args.source c.args.number c.args.access c.from_residual.result c.self.invariant c.self.view_is
    (handed_on c.from_residual.result _ c.in_err-answer.field-0.0 c.from_residual.ensures.1 c.in_err-answer.ensures) (sym (c.admits_access.ensures false) ∙ c.if-admits_access.false)

pub returns : goal.returns
returns g c =
    pass_refused g.W.Words c.self.inside.engine c.args.self.now c.args.source c.args.number c.args.access _ c.self.invariant c.self.view_is
    c.in_ok-answer.ensures (sym (c.admits_access.ensures false) ∙ c.if-admits_access.false)

pub pass-requires-clause-accepted : goal.pass-requires-clause-accepted
pass-requires-clause-accepted g c =
    let n = access_named c.args.source c.args.number false c.args.access in
    (false, c.args.access, accept_is (verdict (standing c.self.inside.engine.state) n) (sym (c.admits_access.ensures false) ∙ c.if-admits_access.true))
