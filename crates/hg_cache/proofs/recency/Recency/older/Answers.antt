use Rattle.std.proofs.Common.{◌<◌, ◌∙◌, ℕ, Some, length, sym, ap, subst}
use Rattle.hg_cache.specs.Rings.{key_at}
use Rattle.hg_cache.proofs.Shown.{behind_shown}
use Rattle.hg_cache.proofs.recency.Recency.older.Goals as goal

pub older-place-requires : goal.older-place-requires
older-place-requires c = let r = c.self.inside in (behind_shown r.nodes.items r.end r.count r.places.entries c.self.invariant c.args.self.now c.self.view_is c.args.place c.requires).place

pub returns-then-place-self : goal.returns-then-place-self
returns-then-place-self c =
    let r = c.self.inside in
    sym ((behind_shown r.nodes.items r.end r.count r.places.entries c.self.invariant c.args.self.now c.self.view_is c.args.place c.requires).none (sym c.older-place.ensures ∙ c.if-place-self.true))

pub key-requires : goal.key-requires
key-requires c =
    let r = c.self.inside in
    subst (λ (n : ℕ). n < length r.nodes.items) (sym c.older-place.ensures) (behind_shown r.nodes.items r.end r.count r.places.entries c.self.invariant c.args.self.now c.self.view_is c.args.place c.requires).older

pub returns : goal.returns
returns c =
    let r = c.self.inside in
    sym ((behind_shown r.nodes.items r.end r.count r.places.entries c.self.invariant c.args.self.now c.self.view_is c.args.place c.requires).some (λ is. c.if-place-self.false (c.older-place.ensures ∙ is))
    ∙ ap (λ (n : ℕ). Some (key_at r.nodes.items n, n)) (sym c.older-place.ensures) ∙ ap (λ (k : ℕ). Some (k, c.older-place.result)) (sym c.key.ensures))
