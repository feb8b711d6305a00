use Rattle.std.proofs.Common.{ap, ◌∙◌, arith}
use Rattle.std.specs.Str.Lines.{strip_carriage_return}
use Rattle.hg_wire.proofs.StoredLemmas.{shown_whole}
use Rattle.hg_wire.proofs.begun.BegunLine.shown.Goals as goal

pub returns-else-self : goal.returns-else-self
returns-else-self c =
    let bytes = c.self.inside.bytes in
    rw (← c.self.view_is, c.if-self.false)
    (shown_whole bytes.items _ (omega (arith, bytes.ok.0, c.self.invariant.0)) (c.without_return.ensures ∙ ap strip_carriage_return c.as_slice-line.ensures.value))
