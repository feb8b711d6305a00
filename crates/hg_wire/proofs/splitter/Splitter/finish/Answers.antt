use Rattle.std.proofs.lemmas.Bool.{false≢true}
use Rattle.hg_wire.proofs.SplitterLemmas.{ends_last_line, nonempty}
use Rattle.hg_wire.proofs.splitter.Splitter.finish.Goals as goal

pub returns-clause-line : goal.returns-clause-line
returns-clause-line c =
    let inside = c.self.inside in
    let some = nonempty inside.line (λ e. false≢true (c.if-is_empty.ensures.1 e)) in
    rw (c.end_line.ensures, ← c.self.view_is) (ends_last_line inside.lines inside.line _ some c.self.invariant)
