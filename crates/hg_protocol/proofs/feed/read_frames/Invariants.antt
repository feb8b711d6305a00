use Rattle.std.proofs.Common.{◌≡◌, ◌-◌, ◌≤◌, ◌++◌, List, length, drop}
use Rattle.std.specs.List.{flat_map, AllByRecursion}
use Rattle.hg_protocol.specs.Framing.{frame_text}
use Rattle.hg_protocol.proofs.feed.read_frames.Given as goal

abbrev pub invariant-loop-message : goal.invariant-loop-message
invariant-loop-message g l = record {
  within : length l.rest ≤ length l.bytes;
  behind : l.rest ≡ drop (length l.bytes - length l.rest) l.bytes;
  seen : (more : List g.row.M.Denot) × (l.messages.items ≡ l.fn.messages.items ++ more) × AllByRecursion g.M.Message.fits more × (l.bytes ≡ flat_map (frame_text g.M.Message) more ++ l.rest);
}

abbrev pub decreases-loop-message : goal.decreases-loop-message
decreases-loop-message g l = length l.rest
