use Rattle.std.proofs.Common.{◌≡◌, ◌+◌, drop, map}
use Rattle.hg_detect.specs.Shown.{report_of}
use Rattle.hg_check.specs.Life.{race_text}
use Rattle.hg_check.proofs.explain.event_line.hold_race.Given as goal

abbrev pub invariant-loop-index : goal.invariant-loop-index
invariant-loop-index l =
    record {
      race : race_text (l.from + 1) l.word (drop l.from (map (report_of l.detector.sets.sets) l.kept)) ≡ race_text (l.index + 1) l.word (drop l.index (map (report_of l.detector.sets.sets) l.kept));
      held : l.held.items ≡ l.fn.held.items;
    }
