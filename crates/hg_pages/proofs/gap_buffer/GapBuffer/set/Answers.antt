use Rattle.std.proofs.Common.{◌∙◌, ap, arith, set}
use Rattle.hg_pages.specs.Gaps.{ShownBuffer}
use Rattle.hg_pages.proofs.Gaps.{set_before, set_behind}
use Rattle.hg_pages.proofs.gap_buffer.GapBuffer.set.Goals as goal

pub returns-then-index-self-clause-items : goal.returns-then-index-self-clause-items
returns-then-index-self-clause-items c =
    set_before c.self.inside.from c.self.inside.width c.args.index c.self.inside.places.items c.args.entry c.if-index-self.true c.self.invariant
    ∙ ap (λ (s : ShownBuffer). set s.items c.args.index c.args.entry) c.self.view_is

pub returns-else-index-self-clause-items : goal.returns-else-index-self-clause-items
returns-else-index-self-clause-items c =
    set_behind c.self.inside.from c.self.inside.width c.args.index c.self.inside.places.items c.args.entry (omega (arith, c.if-index-self.false)) c.self.invariant
    ∙ ap (λ (s : ShownBuffer). set s.items c.args.index c.args.entry) c.self.view_is
