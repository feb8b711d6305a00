-- What is told of the holds and the messages that the events before a refused one left.
use Rattle.std.specs.Prelude.{ℕ, zero, suc, ◌-◌, ◌==◌, nat_le, Bool, if◌then◌else◌, List, [], ◌++◌, Option, None, Some, codes}
use Rattle.hg_verbose.specs.Numbers.{number_text, numbers_text}
use Rattle.hg_verbose.specs.declared.holds.Hold.{Hold}

-- in which mode a lock is held, before the number of the event that took it
abbrev pub mode_text : (write : Bool) → List ℕ
mode_text write = if write then codes " in write mode since event " else codes " in read mode since event "

-- What is behind the number of the event that took a lock: it may have been an earlier one where that one is gone.
abbrev pub since_text : (gone since : ℕ) → List ℕ
since_text gone since = if nat_le since gone then codes " or before" else []

-- a hold: its thread and its lock, and the event that took it
abbrev pub hold_text : (gone : ℕ) → Hold → List ℕ
hold_text gone h =
    numbers_text (codes "thread ") h.thread (codes " holds lock ") h.lock ++ number_text (mode_text h.write) h.since (since_text gone h.since)

-- what may be held besides, where it is not known what the events up to the one numbered `unknown` left
abbrev pub unknown_text : (unknown : ℕ) → List ℕ
unknown_text unknown = if unknown == 0 then [] else number_text (codes ", and there may be more since event ") unknown (codes " or before")

-- how many holds there are beside the first one, of so many
abbrev pub others_text : (count : ℕ) → List ℕ
others_text count =
    if nat_le count 1 then [] else if count == 2 then codes ", and there is one hold more" else number_text (codes ", and there are ") (count - 1) (codes " holds more")

-- Some lock is held, and it is not known by whom: the event that took it is the one numbered `unknown`, or an earlier one.
abbrev pub some_text : (unknown : ℕ) → List ℕ
some_text unknown = if unknown == 0 then codes "a lock is held" else number_text (codes "a lock is held since event ") unknown (codes " or before")

-- the first of so many holds that are known, and how many there are beside it
abbrev pub first_text : (gone unknown : ℕ) → Option Hold → (count : ℕ) → List ℕ
first_text gone unknown None count = some_text unknown
first_text gone unknown (Some h) count = hold_text gone h ++ (others_text count ++ unknown_text unknown)

-- by which event something was done
abbrev pub done_by_text : (gone event : ℕ) → List ℕ
done_by_text gone zero = if gone == 0 then codes " before" else number_text (codes " at or before event ") gone []
done_by_text gone (suc event) = number_text (codes " by event ") (suc event) []

-- what was done with a message before, and by which event where that is known
abbrev pub done_text : (gone message : ℕ) (done : List ℕ) (event : ℕ) → List ℕ
done_text gone message done event = number_text (codes "message ") message done ++ done_by_text gone event
