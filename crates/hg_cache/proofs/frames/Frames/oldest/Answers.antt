use Rattle.std.proofs.Common.{rules, ◌≡◌, ◌∙◌, ℕ, Option, Some, None, option_map, sym, ap}
use Rattle.lru.specs.LruCache.{LruCache, last_entry}
use Rattle.hg_cache.specs.declared.frame.Frame.{Frame}
use Rattle.hg_cache.proofs.Framing.{last_framed}
use Rattle.hg_cache.proofs.frames.Frames.oldest.Goals as goal

pub returns-in-Some : goal.returns-in-Some
returns-in-Some c =
    let f = c.self.inside in
    let last : Some (c.in-Some.page, c.in-Some.field-0-1) ≡ last_entry f.order.entries = search rules in
    ap (λ (o : Option (ℕ × ℕ)). option_map (λ e. e.0) o) last
    ∙ sym (last_framed f.placed.items f.order.entries)
    ∙ ap (λ (x : LruCache ℕ Frame). option_map (λ e. e.0) (last_entry x.entries)) c.self.view_is

pub returns-in-None : goal.returns-in-None
returns-in-None c =
    let f = c.self.inside in
    let none : None ≡ last_entry f.order.entries = search rules in
    ap (λ (o : Option (ℕ × ℕ)). option_map (λ e. e.0) o) none
    ∙ sym (last_framed f.placed.items f.order.entries)
    ∙ ap (λ (x : LruCache ℕ Frame). option_map (λ e. e.0) (last_entry x.entries)) c.self.view_is
