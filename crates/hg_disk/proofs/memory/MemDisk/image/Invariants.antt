use Rattle.std.proofs.Common.{◌≡◌, length}
use Rattle.hg_disk.specs.Replay.{Stands}
use Rattle.hg_disk.specs.Tape.{kept, written_in}
use Rattle.hg_disk.specs.Tear.{first}
use Rattle.hg_disk.proofs.memory.MemDisk.image.Given as goal

-- the replay stands after the first calls, and their writes end where the next one's bytes begin
abbrev pub invariant-loop-i : goal.invariant-loop-i
invariant-loop-i l = let calls = first l.i (kept l.self.tape.history.events) in record {
  tear : l.replay.tear ≡ l.fn.tear;
  stands : Stands l.replay l.self.start.items calls;
  from : l.from ≡ length (written_in calls);
}
