use Rattle.std.proofs.Common.{◌≡◌, true, take}
use Rattle.std.specs.List.{list_all}
use Rattle.hg_protocol.specs.Replies.{is_line_byte}
use Rattle.hg_protocol.proofs.reply.is_line.Given as goal

abbrev pub invariant-loop-byte : goal.invariant-loop-byte
invariant-loop-byte l = list_all is_line_byte (take l.byte-index l.bytes) ≡ true
