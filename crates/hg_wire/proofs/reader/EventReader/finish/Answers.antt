use Rattle.std.proofs.Common.{[], true, sym, ◌∙◌, ap}
use Rattle.hg_wire.specs.Streams.{readings_in}
use Rattle.hg_wire.proofs.ReaderLemmas.{from_lines}
use Rattle.hg_wire.proofs.reader.EventReader.finish.Goals as goal

pub returns-then-finish : goal.returns-then-finish
returns-then-finish c =
    rw (← c.self.view_is) (from_lines true c.self.inside.splitter.so_far [] ∙ (ap readings_in c.if-finish.ensures.line.line ∙ sym c.reading_of_last.ensures))

pub returns : goal.returns
returns c = rw (← c.self.view_is) (from_lines true c.self.inside.splitter.so_far [] ∙ ap readings_in c.if-finish.ensures.none.1)
