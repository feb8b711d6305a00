use Rattle.std.proofs.Common.{◌≡◌, ℕ, ◌<◌, ◌++◌, ap, sym, ◌∙◌, codes, arith}
use Rattle.std.proofs.lemmas.Result.{on_ok_weaker}
use Rattle.std.specs.Fmt.{decimal}
use Rattle.hg_model.specs.Parts.{Parts}
use Rattle.hg_detect.specs.Memory.{content_of}
use Rattle.hg_check.proofs.Lines.{gone_none, gone_some}
use Rattle.hg_check.proofs.explain.behind.hold_gone.Goals as goal

pub returns-then-events-eq0-clause-ok : goal.returns-then-events-eq0-clause-ok
returns-then-events-eq0-clause-ok c =
    let d = content_of c.args.detector.now in
    let count : c.events-events.result ≡ d.events = c.events-events.ensures ∙ ap (λ (p : Parts). p.events) c.state.ensures in
    gone_none c.args.held.now.items c.args.word d (sym count ∙ c.if-events-eq0.true)

pub returns-clause-ok : goal.returns-clause-ok
returns-clause-ok c =
    let d = content_of c.args.detector.now in
    let count : c.events-events.result ≡ d.events = c.events-events.ensures ∙ ap (λ (p : Parts). p.events) c.state.ensures in
    let some : 0 < d.events = omega (arith, count, c.if-events-eq0.false) in
    on_ok_weaker c.hold-2.result
    (λ e. gone_some c.args.held.now.items c.hold_number.new.held.items c.hold.new.held.items c.hold_state.new.held.items c.hold-2.new.held.items c.args.word d some
    (c.in_ok-hold_number.ensures.ok ∙ ap (λ (n : ℕ). c.args.held.now.items ++ (codes "events 1 to " ++ decimal n)) count)
    c.in_ok-hold.ensures.ok c.in_ok-hold_state.ensures.ok e)
    c.hold-2.ensures.ok
