use Rattle.std.proofs.Common.{◌==◌, ◌∙◌, ℕ, List, Some, false, is_some, vec_capacity, if◌then◌else◌, sym, ap, subst}
use Rattle.std.specs.Map.{keys_of}
use Rattle.lru.specs.LruCache.{LruCache}
use Rattle.hg_cache.specs.declared.frame.Frame.{Frame}
use Rattle.hg_cache.specs.declared.frame.Placed.{Placed}
use Rattle.hg_cache.specs.Frames.{AreSharedOut, HasRoom, frame_at, framed}
use Rattle.hg_cache.specs.Frames.{frame_in}
use Rattle.hg_cache.proofs.Framing.{frame_there, held_of, keys_framed, no_place, written}
use Rattle.hg_cache.proofs.Sharing.{shared_with}
use Rattle.hg_cache.proofs.frames.Frames.mark_clean.Goals as goal

pub clean_at-requires : goal.clean_at-requires
clean_at-requires c =
    let s = c.self.inside in
    record { place = (held_of s.placed.items c.args.page c.in-Some.place s.order.entries c.self.invariant.0.pages (sym c.in-Some.ensures)).0 }

pub invariant_of-self : goal.invariant_of-self
invariant_of-self c =
    let s = c.self.inside in
    let place = c.in-Some.place in
    let new : Frame = record (frame_at s.placed.items place) { is_dirty = false } in
    let at = (held_of s.placed.items c.args.page place s.order.entries c.self.invariant.0.pages (sym c.in-Some.ensures)).0 in (
      subst (λ (xs : List Placed). AreSharedOut xs s.left.items s.order.entries s.order.cap) (sym c.clean_at.ensures.placed)
          (shared_with s.placed.items s.left.items s.order.cap place new s.order.entries at c.self.invariant.0),
      subst (λ (n : ℕ). HasRoom s.order.cap n (vec_capacity s.left)) (sym c.clean_at.ensures.room) c.self.invariant.1,
    )

pub returns-in-Some-clause-frames : goal.returns-in-Some-clause-frames
returns-in-Some-clause-frames c f is q =
    let s = c.self.inside in
    let page = c.args.page in
    let place = c.in-Some.place in
    let new : Frame = record (frame_at s.placed.items place) { is_dirty = false } in
    let same = frame_there s.placed.items page place f s.order.entries (sym c.in-Some.ensures) (ap (λ (x : LruCache ℕ Frame). frame_in x.entries page) c.self.view_is ∙ is) in
    ap (λ (xs : List Placed). frame_in (framed xs s.order.entries) q) c.clean_at.ensures.placed
    ∙ written s.placed.items page place q new s.order.entries c.self.invariant.0.pages (sym c.in-Some.ensures)
    ∙ ap (λ (x : Frame). if page == q then Some (record x { is_dirty = false }) else frame_in (framed s.placed.items s.order.entries) q) same
    ∙ ap (λ (x : LruCache ℕ Frame). if page == q then Some (record f { is_dirty = false }) else frame_in x.entries q) c.self.view_is

pub returns-in-Some-clause-order : goal.returns-in-Some-clause-order
returns-in-Some-clause-order c =
    let s = c.self.inside in
    keys_framed c.clean_at.new.placed.items s.order.entries ∙ sym (keys_framed s.placed.items s.order.entries) ∙ ap (λ (x : LruCache ℕ Frame). keys_of x.entries) c.self.view_is

pub returns-in_default-clause-frames : goal.returns-in_default-clause-frames
returns-in_default-clause-frames c f is q =
    let s = c.self.inside in
    absurd (no_place s.placed.items c.args.page s.order.entries c.place.result c.place.ensures c.in_default.not-Some (ap (λ (x : LruCache ℕ Frame). is_some (frame_in x.entries c.args.page)) c.self.view_is ∙ c.requires))
