use Rattle.std.proofs.Common.{◌≡◌, ◌≤◌, ◌<◌, ◌∙◌, ◌∷◌, ℕ, List, length, vec_capacity, sym, ap, subst, arith}
use Rattle.lru.specs.LruCache.{LruCache, lru_cache}
use Rattle.hg_cache.specs.declared.frame.Frame.{Frame}
use Rattle.hg_cache.specs.declared.frame.Placed.{Placed}
use Rattle.hg_cache.specs.Frames.{AreSharedOut, frame_in, framed}
use Rattle.hg_cache.proofs.Framing.{absent_framed, length_framed}
use Rattle.hg_cache.proofs.Sharing.{AreHeld, back_fits, given_back, left_within, new_fits, takes}
use Rattle.hg_cache.proofs.frames.Frames.put.Goals as goal

-- there is room by the places, as callers see it by the pages
fits : (placed : List Placed) (es : List (ℕ × ℕ)) (cap : ℕ) (seen : LruCache ℕ Frame)
    → lru_cache (framed placed es) cap ≡ seen → length seen.entries < seen.cap → length es < cap
fits placed es cap seen view room =
    let same : length es ≡ length seen.entries = sym (length_framed placed es) ∙ ap (λ (x : LruCache ℕ Frame). length x.entries) view in
    let most : cap ≡ seen.cap = ap (λ (x : LruCache ℕ Frame). x.cap) view in
    omega (arith, same, most, room)

pub take_place-place-requires-clause-left : goal.take_place-place-requires-clause-left
take_place-place-requires-clause-left c = let f = c.self.inside in left_within f.placed.items f.left.items f.order.cap f.order.entries c.self.invariant.0

pub take_place-place-requires-clause-room : goal.take_place-place-requires-clause-room
take_place-place-requires-clause-room c =
    let f = c.self.inside in
    let some = fits f.placed.items f.order.entries f.order.cap c.args.self.now c.self.view_is c.requires.room in
    new_fits f.placed.items f.left.items f.order.cap (vec_capacity f.placed) f.order.entries some c.self.invariant.1.0 c.self.invariant.0

pub take_place-place-requires-clause-small : goal.take_place-place-requires-clause-small
take_place-place-requires-clause-small c =
    let few = c.self.invariant.0.few in
    omega (arith, few, c.most-most.ensures)

pub insert-requires-clause-absent : goal.insert-requires-clause-absent
insert-requires-clause-absent c =
    let f = c.self.inside in
    absent_framed f.placed.items c.args.page f.order.entries (ap (λ (x : LruCache ℕ Frame). frame_in x.entries c.args.page) c.self.view_is ∙ c.requires.absent)

pub insert-requires-clause-room : goal.insert-requires-clause-room
insert-requires-clause-room c = let f = c.self.inside in fits f.placed.items f.order.entries f.order.cap c.args.self.now c.self.view_is c.requires.room

pub insert-requires-clause-within : goal.insert-requires-clause-within
insert-requires-clause-within c =
    let f = c.self.inside in
    let taken : Placed = record { page = c.args.page; frame = c.args.frame } in
    let t = c.take_place-place in
    let some = fits f.placed.items f.order.entries f.order.cap c.args.self.now c.self.view_is c.requires.room in
    (takes taken t.result f.placed.items t.new.placed.items f.left.items t.new.left.items f.order.entries f.order.cap some c.self.invariant.0
    t.ensures.place).within

pub insert-requires-clause-free : goal.insert-requires-clause-free
insert-requires-clause-free c =
    let f = c.self.inside in
    let taken : Placed = record { page = c.args.page; frame = c.args.frame } in
    let t = c.take_place-place in
    let some = fits f.placed.items f.order.entries f.order.cap c.args.self.now c.self.view_is c.requires.room in
    (takes taken t.result f.placed.items t.new.placed.items f.left.items t.new.left.items f.order.entries f.order.cap some c.self.invariant.0
    t.ensures.place).free

pub invariant_of-self : goal.invariant_of-self
invariant_of-self c =
    let f = c.self.inside in
    let taken : Placed = record { page = c.args.page; frame = c.args.frame } in
    let t = c.take_place-place in
    let some = fits f.placed.items f.order.entries f.order.cap c.args.self.now c.self.view_is c.requires.room in
    let has =
    takes taken t.result f.placed.items t.new.placed.items f.left.items t.new.left.items f.order.entries f.order.cap some c.self.invariant.0
    t.ensures.place in
    let placed = t.new.placed in
    let left = t.new.left in
    subst (λ (x : LruCache ℕ ℕ). AreHeld placed.items left.items (vec_capacity placed) (vec_capacity left) x) (sym c.in-Ok.ensures.entries) (
      has.shared,
      (
        subst (λ (n : ℕ). f.order.cap ≤ n) (sym t.ensures.placed_room) c.self.invariant.1.0,
        subst (λ (n : ℕ). f.order.cap ≤ n) (sym t.ensures.left_room) c.self.invariant.1.1,
      ),
    )

pub push_reserved-requires : goal.push_reserved-requires
push_reserved-requires c =
    let f = c.self.inside in
    let taken : Placed = record { page = c.args.page; frame = c.args.frame } in
    let t = c.take_place-place in
    let some = fits f.placed.items f.order.entries f.order.cap c.args.self.now c.self.view_is c.requires.room in
    let has =
    takes taken t.result f.placed.items t.new.placed.items f.left.items t.new.left.items f.order.entries f.order.cap some c.self.invariant.0
    t.ensures.place in
    let less = back_fits taken t.result f.placed.items t.new.placed.items t.new.left.items f.order.entries f.order.cap has in
    let room = c.self.invariant.1.1 in
    omega (arith, less, room, t.ensures.left_room)

pub invariant_of-self-in-Err : goal.invariant_of-self-in-Err
invariant_of-self-in-Err c =
    let f = c.self.inside in
    let taken : Placed = record { page = c.args.page; frame = c.args.frame } in
    let t = c.take_place-place in
    let some = fits f.placed.items f.order.entries f.order.cap c.args.self.now c.self.view_is c.requires.room in
    let has =
    takes taken t.result f.placed.items t.new.placed.items f.left.items t.new.left.items f.order.entries f.order.cap some c.self.invariant.0
    t.ensures.place in
    let left = c.push_reserved.new.self in
    let placed = t.new.placed in
    let fits_placed = subst (λ (n : ℕ). f.order.cap ≤ n) (sym t.ensures.placed_room) c.self.invariant.1.0 in
    let fits_left = subst (λ (n : ℕ). f.order.cap ≤ n) (sym (c.push_reserved.ensures.capacity ∙ t.ensures.left_room)) c.self.invariant.1.1 in
    subst (λ (x : LruCache ℕ ℕ). AreHeld placed.items left.items (vec_capacity placed) (vec_capacity left) x) (sym c.in-Err.ensures.refused) (
      subst (λ (l : List ℕ). AreSharedOut placed.items l f.order.entries f.order.cap) (sym c.push_reserved.ensures.items)
          (given_back taken t.result f.placed.items placed.items t.new.left.items f.order.entries f.order.cap has),
      (fits_placed, fits_left),
    )

pub returns-in-Ok-clause-entries : goal.returns-in-Ok-clause-entries
returns-in-Ok-clause-entries c =
    let f = c.self.inside in
    let taken : Placed = record { page = c.args.page; frame = c.args.frame } in
    let t = c.take_place-place in
    let some = fits f.placed.items f.order.entries f.order.cap c.args.self.now c.self.view_is c.requires.room in
    let has =
    takes taken t.result f.placed.items t.new.placed.items f.left.items t.new.left.items f.order.entries f.order.cap some c.self.invariant.0
    t.ensures.place in
    ap (λ (x : LruCache ℕ ℕ). lru_cache (framed t.new.placed.items x.entries) x.cap) c.in-Ok.ensures.entries
    ∙ ap (λ (y : Frame). lru_cache ((c.args.page, y) ∷ framed t.new.placed.items f.order.entries) f.order.cap) has.frame
    ∙ ap (λ (es : List (ℕ × Frame)). lru_cache ((c.args.page, c.args.frame) ∷ es) f.order.cap) has.others
    ∙ ap (λ (x : LruCache ℕ Frame). lru_cache ((c.args.page, c.args.frame) ∷ x.entries) x.cap) c.self.view_is

pub returns-in-Err-clause-refused : goal.returns-in-Err-clause-refused
returns-in-Err-clause-refused c =
    let f = c.self.inside in
    let taken : Placed = record { page = c.args.page; frame = c.args.frame } in
    let t = c.take_place-place in
    let some = fits f.placed.items f.order.entries f.order.cap c.args.self.now c.self.view_is c.requires.room in
    let has =
    takes taken t.result f.placed.items t.new.placed.items f.left.items t.new.left.items f.order.entries f.order.cap some c.self.invariant.0
    t.ensures.place in
    ap (λ (x : LruCache ℕ ℕ). lru_cache (framed t.new.placed.items x.entries) x.cap) c.in-Err.ensures.refused
    ∙ ap (λ (es : List (ℕ × Frame)). lru_cache es f.order.cap) has.others
    ∙ c.self.view_is
