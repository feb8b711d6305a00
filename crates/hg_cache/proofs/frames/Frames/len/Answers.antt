use Rattle.std.proofs.Common.{◌≤◌, ◌∙◌, ℕ, nat_eq, List, length, sym, ap, subst}
use Rattle.std.specs.List.{IsDistinct}
use Rattle.lru.specs.LruCache.{LruCache, IsValid}
use Rattle.hg_cache.specs.declared.frame.Frame.{Frame}
use Rattle.hg_cache.proofs.Framing.{keys_framed, length_framed}
use Rattle.hg_cache.proofs.frames.Frames.len.Goals as goal

pub returns-clause-len : goal.returns-clause-len
returns-clause-len c =
    let f = c.self.inside in
    c.len.ensures.len ∙ sym (length_framed f.placed.items f.order.entries) ∙ ap (λ (x : LruCache ℕ Frame). length x.entries) c.self.view_is

pub returns-clause-valid : goal.returns-clause-valid
returns-clause-valid c =
    let f = c.self.inside in
    let valid = c.len.ensures.valid in
    subst (λ (x : LruCache ℕ Frame). IsValid nat_eq x) c.self.view_is
    (subst (λ (ks : List ℕ). IsDistinct nat_eq ks) (sym (keys_framed f.placed.items f.order.entries)) valid.0, subst (λ (n : ℕ). n ≤ f.order.cap) (sym (length_framed f.placed.items f.order.entries)) valid.1, valid.2)
