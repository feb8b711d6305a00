-- Events that are put into the lists of the parts.
use Rattle.std.specs.Prelude.{◌≡◌, ◌⊎◌, ℕ, ◌-◌, ◌^◌, ◌≤◌, Bool, true, false, List, [], ◌∷◌, ◌++◌, length, replicate, vec_capacity}
use Rattle.hg_model.specs.declared.event.Event.{Event}
use Rattle.hg_shards.specs.declared.routes.OwnAccess.{OwnAccess}
use Rattle.hg_shards.specs.declared.routes.Routes.{Routes}
use Rattle.hg_shards.specs.Routing.{HasRoomAt, common_from, is_own, is_routed, items_of, own_lists, rooms_of}

-- the lists of all parts, by part
abbrev pub lists_of : Routes → List (List OwnAccess)
lists_of r = items_of r.lists.items

-- how many parts there are
abbrev pub parts_in : Routes → ℕ
parts_in r = length r.lists.items

-- These events stand in the lists, and no others.
pub record IsRouted (events : List Event) (r : Routes) : Type 0 where
  pub count : r.count ≡ length events
  pub common : r.common.items ≡ common_from 0 events
  pub own : lists_of r ≡ own_lists (parts_in r) events

-- There is room for so many accesses in the list of each part, and for so many events that all parts see, with those that are there.
pub record HasRoomFor (own common : ℕ) (r : Routes) : Type 0 where
  pub own_is : rooms_of r.lists.items ≡ replicate (parts_in r) own
  pub common_is : vec_capacity r.common ≡ common

-- Each list has room for as many as before.
pub record KeepsRoom (old new : Routes) : Type 0 where
  pub own : rooms_of new.lists.items ≡ rooms_of old.lists.items
  pub common : vec_capacity new.common ≡ vec_capacity old.common

-- A list that the event wants to stand in is full, or there are as many events as places have numbers.
abbrev pub LacksRoom : Routes → Event → Type 0
LacksRoom r e =
    (r.count ≡ 2 ^ 32 - 1)
    ⊎ (((is_routed e ≡ false) × (vec_capacity r.common ≤ length r.common.items))
    ⊎ ((k : ℕ) × (is_own (parts_in r) k e ≡ true) × (HasRoomAt r.lists.items k → ⊥)))

-- The event was put behind the events of the routes, or there was no room and they stay.
abbrev pub Pushes : Routes → Event → Bool → Routes → Type 0
Pushes old e true new = (parts_in new ≡ parts_in old) × ((events : List Event) → IsRouted events old → IsRouted (events ++ e ∷ []) new)
Pushes old e false new = (new ≡ old) × LacksRoom old e
