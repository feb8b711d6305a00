use Rattle.std.proofs.Common.{◌^◌, refl, sym, ap, arith}
use Rattle.std.proofs.lemmas.Bool.{leb-false}
use Rattle.hg_model.specs.Holding.{hold_named}
use Rattle.hg_model.specs.Parts.{Parts}
use Rattle.hg_model.specs.Verdicts.{standing}
use Rattle.hg_model.proofs.Accepted.{no_cause}
use Rattle.hg_rules.proofs.state.TraceState.follow_hold.Goals as goal

pub follow_hold-requires : goal.follow_hold-requires
follow_hold-requires c = (standing c.args.self.now, hold_named c.args.source c.args.number c.args.hold, ap (λ (p : Parts). p.threads) (sym c.self.view_is), refl, c.requires)

pub overflow_add-self : goal.overflow_add-self
overflow_add-self c =
    let few = leb-false (2 ^ 58) c.args.self.now.events (no_cause (standing c.args.self.now) (hold_named c.args.source c.args.number c.args.hold) c.requires).1.1.1.1.1.1.1.1.1.1.1.1.1.1.1.1.0 in
    omega (arith, few, ap (λ (p : Parts). p.events) c.self.view_is)
