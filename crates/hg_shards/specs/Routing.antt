-- A batch of events in lists: for each part the accesses to its words, and one list of all events that every part has to see. What is in
-- no list of a part is passed over there.
use Rattle.std.specs.Prelude.{◌≡◌, ℕ, ◌+◌, ◌-◌, ◌/◌, ◌<◌, Bool, ◌&&◌, ◌||◌, not, false, true, ◌==◌, List, [], ◌∷◌, ◌++◌, length, map, get_or, set, slice_get, Some, Vec, vec_capacity, if◌then◌else◌}
use Rattle.std.specs.List.{range_with_len}
use Rattle.hg_model.specs.declared.event.Access.{Access}
use Rattle.hg_model.specs.declared.event.Event.{Event}
use Rattle.hg_model.specs.declared.event.Event.TheVariants.{Read, Write}
use Rattle.hg_model.specs.Verdicts.{bad_length, past_address_end}
use Rattle.hg_shards.specs.declared.routes.OwnAccess.{OwnAccess}
use Rattle.hg_shards.specs.declared.routes.Placed.{Placed}
use Rattle.hg_shards.specs.Sharding.{page_part}

-- an access whose length and end are lawful: the parts of its words see it, and no others
abbrev pub is_routed : Event → Bool
is_routed (Read a) = not (bad_length (Read a) || past_address_end (Read a))
is_routed (Write a) = not (bad_length (Write a) || past_address_end (Write a))
is_routed _ = false

-- the page of its first byte or that of its last one is of part k, of so many
abbrev pub touches_part : ℕ → ℕ → Access → Bool
touches_part count k a = (page_part count (a.at / 1024) == k) || (page_part count ((a.at + (a.len - 1)) / 1024) == k)

-- the event is in the list of part k, of so many
abbrev pub is_own : ℕ → ℕ → Event → Bool
is_own count k (Read a) = is_routed (Read a) && touches_part count k a
is_own count k (Write a) = is_routed (Write a) && touches_part count k a
is_own count k _ = false

-- part k sees the event
abbrev pub is_seen : ℕ → ℕ → Event → Bool
is_seen count k e = not (is_routed e) || is_own count k e

-- an access as it stands in the lists of its parts
abbrev pub own_access : ℕ → Event → OwnAccess
own_access place (Read a) = record { at = a.at; place = place; t = a.t; len = a.len; write = false }
own_access place (Write a) = record { at = a.at; place = place; t = a.t; len = a.len; write = true }
own_access place _ = record { at = 0; place = place; t = 0; len = 0; write = false }

-- of events that are numbered from a place on, the accesses to words of part k, of so many
abbrev pub own_from : ℕ → ℕ → ℕ → List Event → List OwnAccess
own_from count k place [] = []
own_from count k place (e ∷ events) = if is_own count k e then own_access place e ∷ own_from count k (place + 1) events else own_from count k (place + 1) events

-- of events that are numbered from a place on, those that every part sees
abbrev pub common_from : ℕ → List Event → List Placed
common_from place [] = []
common_from place (e ∷ events) = if is_routed e then common_from (place + 1) events else record { place = place; event = e } ∷ common_from (place + 1) events

-- for each part its own accesses among the events
abbrev pub own_lists : ℕ → List Event → List (List OwnAccess)
own_lists count events = map (λ k. own_from count k 0 events) (range_with_len 0 count)

-- what stands in several vectors
abbrev pub items_of : {Z : Type 0} → List (Vec OwnAccess Z) → List (List OwnAccess)
items_of lists = map (λ list. list.items) lists

-- the vector of this number has room for one more
abbrev pub HasRoomAt : {Z : Type 0} → List (Vec OwnAccess Z) → ℕ → Type 0
HasRoomAt {Z} lists k = (list : Vec OwnAccess Z) → slice_get lists k ≡ Some list → length list.items < vec_capacity list

-- how many there is room for in each of several vectors
abbrev pub rooms_of : {Z : Type 0} → List (Vec OwnAccess Z) → List ℕ
rooms_of lists = map (λ list. vec_capacity list) lists

-- the lists, with one access more behind those of a part
abbrev pub with_own : List (List OwnAccess) → ℕ → OwnAccess → List (List OwnAccess)
with_own lists part item = set lists part (get_or lists part [] ++ item ∷ [])
