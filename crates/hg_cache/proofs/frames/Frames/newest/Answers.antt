use Rattle.std.proofs.Common.{rules, ◌≡◌, ◌∙◌, ℕ, Option, Some, None, option_map, slice_get, ap}
use Rattle.lru.specs.LruCache.{LruCache}
use Rattle.hg_cache.specs.declared.frame.Frame.{Frame}
use Rattle.hg_cache.proofs.Framing.{first_framed}
use Rattle.hg_cache.proofs.frames.Frames.newest.Goals as goal

pub returns-in-Some : goal.returns-in-Some
returns-in-Some c =
    let f = c.self.inside in
    let first : Some (c.in-Some.last, c.in-Some.field-0-1) ≡ slice_get f.order.entries 0 = search rules in
    ap (λ (o : Option (ℕ × ℕ)). option_map (λ e. e.0) o) first
    ∙ first_framed f.placed.items f.order.entries
    ∙ ap (λ (x : LruCache ℕ Frame). option_map (λ e. e.0) (slice_get x.entries 0)) c.self.view_is

pub returns-in-None : goal.returns-in-None
returns-in-None c =
    let f = c.self.inside in
    let none : None ≡ slice_get f.order.entries 0 = search rules in
    ap (λ (o : Option (ℕ × ℕ)). option_map (λ e. e.0) o) none
    ∙ first_framed f.placed.items f.order.entries
    ∙ ap (λ (x : LruCache ℕ Frame). option_map (λ e. e.0) (slice_get x.entries 0)) c.self.view_is
