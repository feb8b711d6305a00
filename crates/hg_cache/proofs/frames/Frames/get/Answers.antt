use Rattle.std.proofs.Common.{◌∙◌, ℕ, Option, Some, option_map, sym, ap}
use Rattle.lru.specs.LruCache.{LruCache}
use Rattle.hg_cache.specs.declared.frame.Frame.{Frame}
use Rattle.hg_cache.specs.Frames.{frame_at}
use Rattle.hg_cache.specs.Frames.{frame_in}
use Rattle.hg_cache.proofs.Framing.{held_of, looked_framed}
use Rattle.hg_cache.proofs.frames.Frames.get.Goals as goal

pub frame_of-requires : goal.frame_of-requires
frame_of-requires c =
    let f = c.self.inside in
    (held_of f.placed.items c.args.page c.in-Some.place f.order.entries c.self.invariant.0.pages (sym c.in-Some.ensures)).0

pub returns-in-Some : goal.returns-in-Some
returns-in-Some c =
    let f = c.self.inside in
    ap Some c.frame_of.ensures
    ∙ ap (λ (o : Option ℕ). option_map (frame_at f.placed.items) o) c.in-Some.ensures
    ∙ sym (looked_framed f.placed.items c.args.page f.order.entries)
    ∙ ap (λ (x : LruCache ℕ Frame). frame_in x.entries c.args.page) c.self.view_is

pub returns-in-None : goal.returns-in-None
returns-in-None c =
    let f = c.self.inside in
    ap (λ (o : Option ℕ). option_map (frame_at f.placed.items) o) c.in-None.ensures
    ∙ sym (looked_framed f.placed.items c.args.page f.order.entries)
    ∙ ap (λ (x : LruCache ℕ Frame). frame_in x.entries c.args.page) c.self.view_is
