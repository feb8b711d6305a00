use Rattle.std.proofs.Common.{rules, ◌≡◌, ℕ, List, Some, slice_get, sym, ap}
use Rattle.lru.specs.LruCache.{lru_cache}
use Rattle.hg_cache.proofs.Naming.{first_again}
use Rattle.hg_cache.proofs.recency.Recency.promote.Goals as goal

pub returns-then-first-key-clause-place : goal.returns-then-first-key-clause-place
returns-then-first-key-clause-place c =
    let es = c.args.self.now.entries in
    let first : Some (c.in-Some.first, c.in-Some.place) ≡ slice_get es 0 = search rules in
    sym (first_again c.args.key c.in-Some.first c.in-Some.place es (sym first) c.if-first-key.true).0

pub returns-then-first-key-clause-entries : goal.returns-then-first-key-clause-entries
returns-then-first-key-clause-entries c =
    let es = c.args.self.now.entries in
    let first : Some (c.in-Some.first, c.in-Some.place) ≡ slice_get es 0 = search rules in
    ap (λ (l : List (ℕ × ℕ)). lru_cache l c.args.self.now.cap) (sym (first_again c.args.key c.in-Some.first c.in-Some.place es (sym first) c.if-first-key.true).1)
