use Rattle.std.proofs.Common.{◌≡◌, ◌<◌, ℕ, Some}
use Rattle.std.specs.List.{slice_get}
use Rattle.hg_protocol.specs.declared.frame.Frame.{Frame}
use Rattle.hg_desk.specs.Conversation.{IsEvent}
use Rattle.hg_desk.proofs.turn.turn_len.Given as goal

abbrev pub invariant-loop-frame : goal.invariant-loop-frame
invariant-loop-frame l = record {
  len : l.len ≡ l.frame-index;
  most : l.len < 1024;
  events : (k : ℕ) (frame : Frame) → k < l.frame-index → slice_get l.frames k ≡ Some frame → IsEvent frame;
}
