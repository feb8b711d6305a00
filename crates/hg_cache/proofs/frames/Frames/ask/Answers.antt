use Rattle.std.proofs.Common.{rules, ◌≡◌, ◌∙◌, ℕ, nat_eq, List, Option, Some, None, is_some, option_map, slice_get, vec_capacity, sym, ap}
use Rattle.std.proofs.lemmas.Option.{IfSome_then}
use Rattle.lru.specs.LruCache.{LruCache, lru_cache, promoted}
use Rattle.hg_cache.specs.declared.frame.Frame.{Frame}
use Rattle.hg_cache.specs.Frames.{frame_at, framed}
use Rattle.hg_cache.specs.Frames.{frame_in}
use Rattle.hg_cache.proofs.Framing.{held_of, is_there, looked_framed, promoted_framed}
use Rattle.hg_cache.proofs.Sharing.{kept_promoted}
use Rattle.hg_cache.proofs.frames.Frames.ask.Goals as goal

pub returns-in_err-place-clause-there : goal.returns-in_err-place-clause-there
returns-in_err-place-clause-there c =
    let f = c.self.inside in
    let none : c.from_residual.result ≡ None = search rules in
    ap is_some none ∙ ap is_some c.in_err-place.ensures.place ∙ is_there f.placed.items c.args.page f.order.entries ∙ ap (λ (x : LruCache ℕ Frame). is_some (frame_in x.entries c.args.page)) c.self.view_is

pub returns-in_err-place-clause-entries : goal.returns-in_err-place-clause-entries
returns-in_err-place-clause-entries c =
    let f = c.self.inside in
    ap (λ (x : LruCache ℕ ℕ). lru_cache (framed f.placed.items x.entries) x.cap) c.promote.ensures.entries
    ∙ ap (λ (es : List (ℕ × Frame)). lru_cache es f.order.cap) (promoted_framed f.placed.items c.args.page f.order.entries)
    ∙ ap (λ (x : LruCache ℕ Frame). lru_cache (promoted (nat_eq c.args.page) x.entries) x.cap) c.self.view_is

pub frame_of-requires : goal.frame_of-requires
frame_of-requires c =
    let f = c.self.inside in
    (held_of f.placed.items c.args.page c.in_ok-place.place f.order.entries c.self.invariant.0.pages (sym c.in_ok-place.ensures.place)).0

pub invariant_of-self : goal.invariant_of-self
invariant_of-self c =
    let f = c.self.inside in
    kept_promoted f.placed.items f.left.items (vec_capacity f.placed) (vec_capacity f.left) c.args.page f.order c.promote.new.self c.promote.ensures.entries c.self.invariant

pub invariant_of-self-2 : goal.invariant_of-self-2
invariant_of-self-2 c =
    let f = c.self.inside in
    kept_promoted f.placed.items f.left.items (vec_capacity f.placed) (vec_capacity f.left) c.args.page f.order c.promote.new.self c.promote.ensures.entries c.self.invariant

pub returns-clause-there : goal.returns-clause-there
returns-clause-there c =
    let f = c.self.inside in
    ap is_some c.in_ok-place.ensures.place ∙ is_there f.placed.items c.args.page f.order.entries ∙ ap (λ (x : LruCache ℕ Frame). is_some (frame_in x.entries c.args.page)) c.self.view_is

pub returns-clause-entries : goal.returns-clause-entries
returns-clause-entries c =
    let f = c.self.inside in
    ap (λ (x : LruCache ℕ ℕ). lru_cache (framed f.placed.items x.entries) x.cap) c.promote.ensures.entries
    ∙ ap (λ (es : List (ℕ × Frame)). lru_cache es f.order.cap) (promoted_framed f.placed.items c.args.page f.order.entries)
    ∙ ap (λ (x : LruCache ℕ Frame). lru_cache (promoted (nat_eq c.args.page) x.entries) x.cap) c.self.view_is

pub returns-clause-cells : goal.returns-clause-cells
returns-clause-cells c =
    let f = c.self.inside in
    let page = c.args.page in
    let there : frame_in c.args.self.now.entries page ≡ Some (frame_at f.placed.items c.in_ok-place.place) =
    ap (λ (x : LruCache ℕ Frame). frame_in x.entries page) (sym c.self.view_is)
    ∙ looked_framed f.placed.items page f.order.entries
    ∙ ap (λ (o : Option ℕ). option_map (frame_at f.placed.items) o) (sym c.in_ok-place.ensures.place) in
    IfSome_then c.same.result c.same.ensures.cells
    (λ cell has. (frame_at f.placed.items c.in_ok-place.place, there, λ i from to. ap (λ (x : Frame). slice_get x.cells i) (sym c.frame_of.ensures) ∙ has i from to))
