use Rattle.std.proofs.Common.{◌≤◌, ◌∙◌, ℕ, nat_eq, length, sym, ap, subst}
use Rattle.lru.specs.LruCache.{LruCache, IsValid}
use Rattle.hg_cache.specs.Rings.{followed}
use Rattle.hg_cache.proofs.Linking.{length_followed}
use Rattle.hg_cache.proofs.Naming.{length_named}
use Rattle.hg_cache.proofs.recency.Recency.len.Goals as goal

pub returns-clause-len : goal.returns-clause-len
returns-clause-len c =
    let r = c.self.inside in
    let ns = r.nodes.items in
    sym (ap (λ (x : LruCache ℕ ℕ). length x.entries) (sym c.self.view_is) ∙ length_named ns (followed ns r.end r.count) ∙ length_followed ns r.end r.count)

pub returns-clause-valid : goal.returns-clause-valid
returns-clause-valid c =
    let r = c.self.inside in
    let ps = followed r.nodes.items r.end r.count in
    let few = subst (λ (n : ℕ). n ≤ r.end) (sym (length_named r.nodes.items ps)) c.self.invariant.few in
    subst (λ (x : LruCache ℕ ℕ). IsValid nat_eq x) c.self.view_is (c.self.invariant.distinct, few, c.self.invariant.some)
