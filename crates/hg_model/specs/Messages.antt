-- Messages: the marks that sends and receives leave on segments.
use Rattle.std.specs.Prelude.{◌≡◌, ℕ, nat_eq, Bool, true, false, ◌==◌, List, [], ◌∷◌, Option, Some, None, if◌then◌else◌, slice_index}
use Rattle.std.specs.List.{list_any}
use Rattle.std.specs.Map.{lookup}
use Rattle.hg_model.specs.declared.event.Event.{Event}
use Rattle.hg_model.specs.declared.event.Event.TheVariants.{Send, Recv}
use Rattle.hg_model.specs.declared.segment.Mark.{Mark}
use Rattle.hg_model.specs.declared.segment.Mark.TheVariants.{Sent, Got}
use Rattle.hg_model.specs.declared.segment.Segment.{Segment}

-- the mark of a segment that the send of message k opened
abbrev pub is_sent : ℕ → Mark → Bool
is_sent k (Sent m) = m == k
is_sent k _ = false

-- the mark of a segment that the receive of message k opened
abbrev pub is_got : ℕ → Mark → Bool
is_got k (Got m) = m == k
is_got k _ = false

-- Message k was sent: a segment has its mark.
abbrev pub was_sent : List Segment → ℕ → Bool
was_sent segments k = list_any (λ s. is_sent k s.mark) segments

-- Message k was received.
abbrev pub was_received : List Segment → ℕ → Bool
was_received segments k = list_any (λ s. is_got k s.mark) segments

-- The segment that the send of message k ended: the one right before the segment that it opened. (0 where k was not sent.)
abbrev pub sent_in : List Segment → ℕ → ℕ
sent_in [] k = 0
sent_in (s ∷ segments) k = if is_sent k s.mark then slice_index s.before 0 else sent_in segments k

-- the event is a send of message k
abbrev pub sends : ℕ → Event → Bool
sends k (Send t m) = m == k
sends k _ = false

-- the event is a receive of message k
abbrev pub receives : ℕ → Event → Bool
receives k (Recv t m) = m == k
receives k _ = false

-- A table of messages: those that were sent, each with whether it was received, and for how many more there is room.
pub record Messages : Type 0 where
  pub entries : List (ℕ × Bool)
  pub room : ℕ

-- what a table has at a number: whether the message was received, or nothing if it was not sent
abbrev pub at : Messages → ℕ → Option Bool
at m k = lookup (nat_eq k) m.entries

-- the message was sent, by its entry
abbrev pub is_there : Option Bool → Bool
is_there None = false
is_there (Some received) = true

-- the message was received, by its entry
abbrev pub is_taken : Option Bool → Bool
is_taken None = false
is_taken (Some received) = received

-- The table agrees with the marks of these segments.
pub record Agrees (segments : List Segment) (m : Messages) : Type 0 where
  pub sent : (k : ℕ) → is_there (at m k) ≡ was_sent segments k
  pub received : (k : ℕ) → is_taken (at m k) ≡ was_received segments k
