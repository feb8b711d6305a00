use Rattle.std.proofs.Common.{◌==◌, ◌∙◌, ℕ, nat_eq, List, Some, true, is_some, length, vec_capacity, if◌then◌else◌, sym, ap, subst}
use Rattle.std.specs.Map.{keys_of}
use Rattle.lru.specs.LruCache.{LruCache, promoted}
use Rattle.hg_cells.specs.Pages.{filled}
use Rattle.hg_cache.specs.declared.frame.Frame.{Frame}
use Rattle.hg_cache.specs.declared.frame.Placed.{Placed}
use Rattle.hg_cache.specs.Frames.{AreSharedOut, HasRoom, frame_at, framed}
use Rattle.hg_cache.specs.Frames.{frame_in}
use Rattle.hg_cache.proofs.Framing.{frame_there, held_of, keys_framed, no_place, promoted_framed, written_used}
use Rattle.hg_cache.proofs.Sharing.{kept_promoted, shared_with}
use Rattle.hg_cache.proofs.frames.Frames.update.Goals as goal

pub fill_at-requires-clause-place : goal.fill_at-requires-clause-place
fill_at-requires-clause-place c =
    let s = c.self.inside in
    (held_of s.placed.items c.args.page c.in-Some.place s.order.entries c.self.invariant.0.pages (sym c.in-Some.ensures.place)).0

pub invariant_of-self : goal.invariant_of-self
invariant_of-self c =
    let s = c.self.inside in
    let page = c.args.page in
    let place = c.in-Some.place in
    let new : Frame = record { cells = filled (frame_at s.placed.items place).cells c.args.from c.args.to c.args.cell; is_dirty = true } in
    let at = (held_of s.placed.items page place s.order.entries c.self.invariant.0.pages (sym c.in-Some.ensures.place)).0 in
    kept_promoted c.fill_at.new.placed.items s.left.items (vec_capacity c.fill_at.new.placed) (vec_capacity s.left) page s.order c.promote.new.self c.promote.ensures.entries (
      subst (λ (xs : List Placed). AreSharedOut xs s.left.items s.order.entries s.order.cap) (sym c.fill_at.ensures.placed)
          (shared_with s.placed.items s.left.items s.order.cap place new s.order.entries at c.self.invariant.0),
      subst (λ (n : ℕ). HasRoom s.order.cap n (vec_capacity s.left)) (sym c.fill_at.ensures.room) c.self.invariant.1,
    )

pub invariant_of-self-in_default : goal.invariant_of-self-in_default
invariant_of-self-in_default c =
    let s = c.self.inside in
    kept_promoted s.placed.items s.left.items (vec_capacity s.placed) (vec_capacity s.left) c.args.page s.order c.promote.new.self c.promote.ensures.entries c.self.invariant

pub returns-in-Some-clause-frames : goal.returns-in-Some-clause-frames
returns-in-Some-clause-frames c f is q =
    let s = c.self.inside in
    let page = c.args.page in
    let place = c.in-Some.place in
    let new : Frame = record { cells = filled (frame_at s.placed.items place).cells c.args.from c.args.to c.args.cell; is_dirty = true } in
    let same = frame_there s.placed.items page place f s.order.entries (sym c.in-Some.ensures.place) (ap (λ (x : LruCache ℕ Frame). frame_in x.entries page) c.self.view_is ∙ is) in
    ap (λ (x : LruCache ℕ ℕ). frame_in (framed c.fill_at.new.placed.items x.entries) q) c.promote.ensures.entries
    ∙ ap (λ (xs : List Placed). frame_in (framed xs (promoted (nat_eq page) s.order.entries)) q) c.fill_at.ensures.placed
    ∙ written_used s.placed.items page place q new s.order.entries c.len-count.ensures.valid.0 c.self.invariant.0.pages (sym c.in-Some.ensures.place)
    ∙ ap (λ (x : Frame). if page == q then Some (record { cells = filled x.cells c.args.from c.args.to c.args.cell; is_dirty = true }) else frame_in (framed s.placed.items s.order.entries) q) same
    ∙ ap (λ (x : LruCache ℕ Frame). if page == q then Some (record { cells = filled f.cells c.args.from c.args.to c.args.cell; is_dirty = true }) else frame_in x.entries q) c.self.view_is

pub returns-in-Some-clause-words : goal.returns-in-Some-clause-words
returns-in-Some-clause-words c f is =
    let s = c.self.inside in
    let page = c.args.page in
    let same = frame_there s.placed.items page c.in-Some.place f s.order.entries (sym c.in-Some.ensures.place) (ap (λ (x : LruCache ℕ Frame). frame_in x.entries page) c.self.view_is ∙ is) in
    ap (λ (x : Frame). length x.cells) (sym same) ∙ c.fill_at.ensures.words

pub returns-in-Some-clause-order : goal.returns-in-Some-clause-order
returns-in-Some-clause-order c =
    let s = c.self.inside in
    let page = c.args.page in
    keys_framed c.fill_at.new.placed.items c.promote.new.self.entries
    ∙ ap (λ (x : LruCache ℕ ℕ). keys_of x.entries) c.promote.ensures.entries
    ∙ sym (keys_framed s.placed.items (promoted (nat_eq page) s.order.entries))
    ∙ ap (λ (es : List (ℕ × Frame)). keys_of es) (promoted_framed s.placed.items page s.order.entries)
    ∙ ap (λ (x : LruCache ℕ Frame). keys_of (promoted (nat_eq page) x.entries)) c.self.view_is

pub returns-in_default-clause-frames : goal.returns-in_default-clause-frames
returns-in_default-clause-frames c f is q =
    let s = c.self.inside in
    absurd (no_place s.placed.items c.args.page s.order.entries c.promote.result c.promote.ensures.place c.in_default.not-Some (ap (λ (x : LruCache ℕ Frame). is_some (frame_in x.entries c.args.page)) c.self.view_is ∙ c.requires.page))

pub returns-in_default-clause-words : goal.returns-in_default-clause-words
returns-in_default-clause-words c f is =
    let s = c.self.inside in
    absurd (no_place s.placed.items c.args.page s.order.entries c.promote.result c.promote.ensures.place c.in_default.not-Some (ap (λ (x : LruCache ℕ Frame). is_some (frame_in x.entries c.args.page)) c.self.view_is ∙ c.requires.page))

pub returns-in_default-clause-order : goal.returns-in_default-clause-order
returns-in_default-clause-order c =
    let s = c.self.inside in
    absurd (no_place s.placed.items c.args.page s.order.entries c.promote.result c.promote.ensures.place c.in_default.not-Some (ap (λ (x : LruCache ℕ Frame). is_some (frame_in x.entries c.args.page)) c.self.view_is ∙ c.requires.page))
