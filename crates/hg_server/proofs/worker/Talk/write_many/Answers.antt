use Rattle.std.proofs.Common.{ℕ, List, [], refl, subst, sym}
use Rattle.hg_streams.specs.Holding.{IsDue}
use Rattle.hg_streams.proofs.Printed.{due_written, front_by_torn, took_by}
use Rattle.hg_server.proofs.worker.Talk.write_many.Goals as goal

pub returns-clause-due : goal.returns-clause-due
returns-clause-due g c is goal d =
    let old = c.args.self.now.wire.writes in
    let new = c.write_out.new.self.wire.writes in
    let held = c.args.self.now.replies.items in
    subst (λ (t : List ℕ). IsDue [] new t [] goal) (sym c.write_out.ensures.none) (due_written [] old new held [] goal d (took_by old new held held (c.write_out.ensures.took is) refl))

pub returns-clause-front : goal.returns-clause-front
returns-clause-front g c is goal d =
    let held = c.args.self.now.replies.items in front_by_torn [] c.args.self.now.wire.writes c.write_out.new.self.wire.writes held held [] goal (c.write_out.ensures.torn is) refl d
