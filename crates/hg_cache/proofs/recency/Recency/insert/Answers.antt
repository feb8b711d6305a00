use Rattle.std.proofs.Common.{◌≡◌, ◌<◌, ◌∙◌, ◌∷◌, ◌+◌, ℕ, List, sym, ap, subst, arith, rules}
use Rattle.lru.specs.LruCache.{LruCache}
use Rattle.hg_cache.specs.declared.node.Node.{Node}
use Rattle.hg_cache.specs.Rings.{linked, with_key}
use Rattle.hg_cache.proofs.Shown.{Became, became_inserted, many}
use Rattle.hg_cache.proofs.recency.Recency.insert.Goals as goal

pub overflow_add-self : goal.overflow_add-self
overflow_add-self c =
    let r = c.self.inside in
    let room = c.requires.room in
    let count = many r.nodes.items r.end r.count r.places.entries c.self.invariant c.args.self.now c.self.view_is in
    let cap : r.end ≡ c.args.self.now.cap = ap (λ (x : LruCache ℕ ℕ). x.cap) c.self.view_is in
    let end = c.self.invariant.small in
    let more : r.count + 1 < 4294967296 = omega (arith, room, count, cap, end) in
    search (more, rules)

pub invariant_of-self-2 : goal.invariant_of-self-2
invariant_of-self-2 c =
    let r = c.self.inside in
    let is = c.link.ensures ∙ ap (λ (l : List Node). linked l r.end c.args.place) c.set_key.ensures in
    (subst (λ (new : List Node). Became r.end new (r.count + 1) c.insert.new.self.entries ((c.args.key, c.args.place) ∷ c.args.self.now.entries) c.args.self.now.cap) (sym is)
    (subst (λ (n : ℕ). Became r.end (linked (with_key r.nodes.items c.args.place c.args.key) r.end c.args.place) n c.insert.new.self.entries ((c.args.key, c.args.place) ∷ c.args.self.now.entries) c.args.self.now.cap) (omega arith)
    (became_inserted r.nodes.items r.end r.count r.places.entries c.self.invariant c.args.self.now c.self.view_is c.args.key c.args.place c.insert.new.self.entries c.requires.absent c.requires.room c.requires.within c.requires.free c.in_ok-insert.ensures.updates.0))).is_sound

pub returns-clause-entries : goal.returns-clause-entries
returns-clause-entries c =
    let r = c.self.inside in
    let is = c.link.ensures ∙ ap (λ (l : List Node). linked l r.end c.args.place) c.set_key.ensures in
    (subst (λ (new : List Node). Became r.end new (r.count + 1) c.insert.new.self.entries ((c.args.key, c.args.place) ∷ c.args.self.now.entries) c.args.self.now.cap) (sym is)
    (subst (λ (n : ℕ). Became r.end (linked (with_key r.nodes.items c.args.place c.args.key) r.end c.args.place) n c.insert.new.self.entries ((c.args.key, c.args.place) ∷ c.args.self.now.entries) c.args.self.now.cap) (omega arith)
    (became_inserted r.nodes.items r.end r.count r.places.entries c.self.invariant c.args.self.now c.self.view_is c.args.key c.args.place c.insert.new.self.entries c.requires.absent c.requires.room c.requires.within c.requires.free c.in_ok-insert.ensures.updates.0))).is_shown
