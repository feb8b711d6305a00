use Rattle.std.proofs.Common.{refl}
use Rattle.hg_wire.proofs.ReaderLemmas.{event_gives}
use Rattle.hg_wire.proofs.reader.EventReader.take.Goals as goal

pub returns-in-Some : goal.returns-in-Some
returns-in-Some c =
    let so_far = c.self.inside.splitter.so_far in
    rw (c.lines-line.ensures, c.count_line.ensures, ← c.self.view_is) (event_gives so_far c.args.piece.now c.in-Some.event c.in-Some.used (c.if-is_between_lines.ensures.0 refl) c.in-Some.ensures)
