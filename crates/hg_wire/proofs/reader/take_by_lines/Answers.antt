use Rattle.hg_wire.proofs.ReaderLemmas.{taken_skips, taken_gives, taken_all}
use Rattle.hg_wire.proofs.reader.take_by_lines.Goals as goal

pub returns-in-Some-reading_of_last : goal.returns-in-Some-reading_of_last
returns-in-Some-reading_of_last c =
    taken_gives c.args.splitter.now.so_far c.loop-used.splitter c.take.new.self c.args.piece.now c.loop-used.rest.now c.in-Some.used c.in-Some-reading_of_last.reading
    c.loop-used.invariant c.in-Some.ensures.line c.in-Some-reading_of_last.ensures

pub loop-used-preserved : goal.loop-used-preserved
loop-used-preserved c =
    taken_skips c.args.splitter.now.so_far c.loop-used.splitter c.take.new.self c.args.piece.now c.loop-used.rest.now c.in-Some.used
    c.loop-used.invariant c.in-Some.ensures.line c.in_default-reading_of_last.ensures

pub returns : goal.returns
returns c =
    taken_all c.args.splitter.now.so_far c.loop-used.splitter c.take.new.self c.args.piece.now c.loop-used.rest.now c.loop-used.invariant c.in_default.ensures.none
