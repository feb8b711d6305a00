use Rattle.std.proofs.Common.{◌++◌, List, ℕ, ◌∙◌, ap, codes}
use Rattle.std.proofs.lemmas.Result.{on_ok_weaker}
use Rattle.hg_sets.specs.Interning.{set_at}
use Rattle.hg_wire.specs.Reports.{predecessors_text}
use Rattle.hg_check.proofs.Lines.{four_joined}
use Rattle.hg_check.proofs.explain.event_line.hold_sets.Goals as goal

pub returns-clause-ok : goal.returns-clause-ok
returns-clause-ok c =
    on_ok_weaker c.hold_members-2.result
    (λ e. four_joined c.args.held.now.items c.hold.new.held.items c.hold_members.new.held.items c.hold-2.new.held.items c.hold_members-2.new.held.items
    c.args.kind.now (predecessors_text (set_at c.args.detector.now.sets.sets c.args.threads)) (codes " candidates ") (predecessors_text (set_at c.args.detector.now.sets.sets c.args.locks))
    c.in_ok-hold.ensures.ok
    (c.in_ok-hold_members.ensures.ok ∙ ap (λ (x : List ℕ). c.hold.new.held.items ++ predecessors_text x) (c.members.ensures.members ∙ ap (λ t. set_at t.sets c.args.threads) c.sets-sets.ensures))
    c.in_ok-hold-2.ensures.ok
    (e ∙ ap (λ (x : List ℕ). c.hold-2.new.held.items ++ predecessors_text x) (c.members-2.ensures.members ∙ ap (λ t. set_at t.sets c.args.locks) c.sets-sets.ensures)))
    c.hold_members-2.ensures.ok
