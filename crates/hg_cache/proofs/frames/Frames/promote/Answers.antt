use Rattle.std.proofs.Common.{◌∙◌, ℕ, nat_eq, List, is_some, vec_capacity, ap}
use Rattle.lru.specs.LruCache.{LruCache, lru_cache, promoted}
use Rattle.hg_cache.specs.declared.frame.Frame.{Frame}
use Rattle.hg_cache.specs.Frames.{framed}
use Rattle.hg_cache.specs.Frames.{frame_in}
use Rattle.hg_cache.proofs.Framing.{is_there, promoted_framed}
use Rattle.hg_cache.proofs.Sharing.{kept_promoted}
use Rattle.hg_cache.proofs.frames.Frames.promote.Goals as goal

pub invariant_of-self : goal.invariant_of-self
invariant_of-self c =
    let f = c.self.inside in
    kept_promoted f.placed.items f.left.items (vec_capacity f.placed) (vec_capacity f.left) c.args.page f.order c.promote.new.self c.promote.ensures.entries c.self.invariant

pub returns-clause-value : goal.returns-clause-value
returns-clause-value c =
    let f = c.self.inside in
    c.is_some.ensures ∙ ap is_some c.promote.ensures.place ∙ is_there f.placed.items c.args.page f.order.entries ∙ ap (λ (x : LruCache ℕ Frame). is_some (frame_in x.entries c.args.page)) c.self.view_is

pub returns-clause-entries : goal.returns-clause-entries
returns-clause-entries c =
    let f = c.self.inside in
    ap (λ (x : LruCache ℕ ℕ). lru_cache (framed f.placed.items x.entries) x.cap) c.promote.ensures.entries
    ∙ ap (λ (es : List (ℕ × Frame)). lru_cache es f.order.cap) (promoted_framed f.placed.items c.args.page f.order.entries)
    ∙ ap (λ (x : LruCache ℕ Frame). lru_cache (promoted (nat_eq c.args.page) x.entries) x.cap) c.self.view_is
