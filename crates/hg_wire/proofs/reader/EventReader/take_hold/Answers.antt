use Rattle.hg_wire.proofs.ReaderLemmas.{event_gives}
use Rattle.hg_wire.proofs.reader.EventReader.take_hold.Goals as goal

pub returns : goal.returns
returns c =
    let so_far = c.self.inside.splitter.so_far in
    record {
      hold = rw (c.count_line.ensures, ← c.self.view_is) (event_gives so_far c.args.piece.now _ _ (c.is_between_lines.ensures.0 c.if-not-is_between_lines.false) c.in_ok-found.ensures);
      none = tt;
    }
