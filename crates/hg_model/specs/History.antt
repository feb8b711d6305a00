-- The accesses to a word since it was last allocated or freed.
use Rattle.std.specs.Prelude.{ℕ, ◌+◌, ◌*◌, Bool, true, false, ◌&&◌, nat_lt, List, [], ◌∷◌, ◌++◌, length, if◌then◌else◌}
use Rattle.hg_model.specs.declared.event.Event.{Event}
use Rattle.hg_model.specs.declared.event.Event.TheVariants.{Read, Write, Alloc, Free}
use Rattle.hg_model.specs.declared.word.HistoryItem.{HistoryItem}
use Rattle.hg_model.specs.Locks.{held, counted}
use Rattle.hg_model.specs.Segments.{segments_of, present}

-- Words are numbered: word w is the four bytes from the address 4 * w on. Whether len bytes from at on overlap it:
abbrev pub overlaps : ℕ → ℕ → ℕ → Bool
overlaps at len w = nat_lt at (4 * w + 4) && nat_lt (4 * w) (at + len)

-- the access that thread t makes right after past
abbrev pub item : List Event → ℕ → Bool → HistoryItem
item past t write = record { event = length past + 1; thread = t; segment = present (segments_of past) t; write = write; locks = counted write (held past t) }

-- The history of the word w, oldest first: the reads and writes that overlap it, after the last alloc or free that does.
abbrev pub history : ℕ → List Event → List HistoryItem
history w [] = []
history w (Read a ∷ past) = if overlaps a.at a.len w then history w past ++ item past a.t false ∷ [] else history w past
history w (Write a ∷ past) = if overlaps a.at a.len w then history w past ++ item past a.t true ∷ [] else history w past
history w (Alloc b ∷ past) = if overlaps b.at b.len w then [] else history w past
history w (Free b ∷ past) = if overlaps b.at b.len w then [] else history w past
history w (_ ∷ past) = history w past
