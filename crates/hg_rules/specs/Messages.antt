-- Which marks may come next by a table of messages, and what it has after one.
use Rattle.std.specs.Prelude.{ℕ, Bool, true, false, ◌&&◌, ◌==◌, not, List, Option, Some, if◌then◌else◌}
use Rattle.hg_model.specs.declared.event.Event.{Event}
use Rattle.hg_model.specs.declared.event.Event.TheVariants.{Send, Recv}
use Rattle.hg_model.specs.declared.segment.Mark.{Mark}
use Rattle.hg_model.specs.declared.segment.Mark.TheVariants.{Plain, Sent, Got}
use Rattle.hg_model.specs.declared.segment.Segment.{Segment}
use Rattle.hg_model.specs.Messages.{Messages, at, is_taken, is_there, was_received, was_sent}

-- A mark may come next, by the table: a message is sent once, and received once, behind its send.
abbrev pub may_note : Messages → Mark → Bool
may_note m Plain = true
may_note m (Sent k) = not (is_there (at m k))
may_note m (Got k) = is_there (at m k) && not (is_taken (at m k))

-- It may come behind these segments.
abbrev pub may_follow : List Segment → Mark → Bool
may_follow segments Plain = true
may_follow segments (Sent k) = not (was_sent segments k)
may_follow segments (Got k) = was_sent segments k && not (was_received segments k)

-- what the table has at each number after this mark
abbrev pub noted : Messages → Mark → ℕ → Option Bool
noted m Plain k = at m k
noted m (Sent n) k = if n == k then Some false else at m k
noted m (Got n) k = if n == k then Some true else at m k

-- the mark of the segments that an event opens
abbrev pub mark_of : Event → Mark
mark_of (Send t k) = Sent k
mark_of (Recv t k) = Got k
mark_of _ = Plain

-- for how many messages noting a mark takes room
abbrev pub room_for : Mark → ℕ
room_for Plain = 0
room_for (Sent k) = 1
room_for (Got k) = 1
