use Rattle.std.proofs.Common.{◌≡◌, ◌<◌, ◌∙◌, ℕ, List, [], Some, length, sym, ap, subst}
use Rattle.lru.specs.LruCache.{LruCache, last_entry}
use Rattle.hg_cache.specs.Rings.{followed, key_at}
use Rattle.hg_cache.proofs.Linking.{last_within, length_followed}
use Rattle.hg_cache.proofs.Neighbours.{last_of_ring}
use Rattle.hg_cache.proofs.recency.Recency.oldest.Goals as goal

pub key-requires : goal.key-requires
key-requires c =
    let r = c.self.inside in
    subst (λ (n : ℕ). n < length r.nodes.items) (sym c.newer-place.ensures) (last_within r.nodes.items r.end (followed r.nodes.items r.end r.count) c.self.invariant.ring)

pub returns : goal.returns
returns c =
    let r = c.self.inside in
    let ns = r.nodes.items in
    let ps = followed ns r.end r.count in
    let some : ps ≡ [] → ⊥ = λ none. c.if-self-eq0.false (sym (length_followed ns r.end r.count) ∙ ap (λ (l : List ℕ). length l) none) in
    sym (ap (λ (x : LruCache ℕ ℕ). last_entry x.entries) (sym c.self.view_is) ∙ last_of_ring ns r.end ps c.self.invariant.ring some
    ∙ ap (λ (n : ℕ). Some (key_at ns n, n)) (sym c.newer-place.ensures) ∙ ap (λ (k : ℕ). Some (k, c.newer-place.result)) (sym c.key.ensures))
