use Rattle.std.proofs.Common.{◌≡◌, ◌⊎◌, ⊎_elim, ◌+◌, ◌<◌, ℕ, List, Some, get_or, arith, subst}
use Rattle.std.specs.List.{slice_get}
use Rattle.std.proofs.lemmas.Option.{get_or_from_slice_get}
use Rattle.hg_protocol.specs.declared.frame.Frame.{Frame}
use Rattle.hg_desk.specs.Conversation.{IsEvent}
use Rattle.hg_desk.proofs.turn.turn_len.Goals as goal

split_lt : (i n : ℕ) → i < n + 1 → (i < n) ⊎ (i ≡ n)
split_lt i n lt = grind arith

here_too : (frames : List Frame) (i : ℕ) (d : Frame) → IsEvent (get_or frames i d) → (k : ℕ) (frame : Frame) → k ≡ i → slice_get frames k ≡ Some frame → IsEvent frame
here_too frames i d has k frame here at = subst IsEvent (get_or_from_slice_get frames i frame d (subst (λ (n : ℕ). slice_get frames n ≡ Some frame) here at)) has

pub loop-frame-preserved : goal.loop-frame-preserved
loop-frame-preserved c =
    let frames = c.args.frames.now in
    let i = c.loop-frame.frame-index in
    record {
      len = omega (arith, c.loop-frame.invariant.len);
      most = let most = c.loop-frame.invariant.most in let other = c.if-len-eq-MOST_TURN.false in omega (arith, most, other);
      events = λ k frame less at. ⊎_elim (λ low. c.loop-frame.invariant.events k frame low at)
          (λ here. here_too frames i _ (c.is_event.ensures c.if-not-is_event.false) k frame here at)
          (split_lt k i less);
    }
