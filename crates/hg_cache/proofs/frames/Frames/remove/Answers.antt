use Rattle.std.proofs.Common.{◌∙◌, ℕ, nat_eq, List, vec_capacity, sym, ap, subst, arith}
use Rattle.std.specs.Map.{remove_entry}
use Rattle.lru.specs.LruCache.{LruCache, lru_cache}
use Rattle.hg_cache.specs.declared.frame.Frame.{Frame}
use Rattle.hg_cache.specs.Frames.{HasRoom, framed}
use Rattle.hg_cache.proofs.Framing.{removed_framed}
use Rattle.hg_cache.proofs.Sharing.{kept_absent, kept_removed, left_fits}
use Rattle.hg_cache.proofs.frames.Frames.remove.Goals as goal

pub push_reserved-requires : goal.push_reserved-requires
push_reserved-requires c =
    let f = c.self.inside in
    let room = c.self.invariant.1.1 in
    let fits = left_fits f.placed.items f.left.items f.order.cap c.args.page c.in-Some.free f.order.entries (sym c.in-Some.ensures.place) c.self.invariant.0 in
    omega (arith, fits, room)

pub invariant_of-self : goal.invariant_of-self
invariant_of-self c =
    let f = c.self.inside in
    let left = c.push_reserved.new.self in
    kept_removed f.placed.items f.left.items left.items (vec_capacity f.placed) (vec_capacity left) c.args.page c.in-Some.free f.order c.remove.new.self c.remove.ensures.entries
    c.push_reserved.ensures.items c.len-count.ensures.valid.0 (sym c.in-Some.ensures.place)
    (c.self.invariant.0, subst (λ (n : ℕ). HasRoom f.order.cap (vec_capacity f.placed) n) (sym c.push_reserved.ensures.capacity) c.self.invariant.1)

pub invariant_of-self-in_default : goal.invariant_of-self-in_default
invariant_of-self-in_default c =
    let f = c.self.inside in
    kept_absent f.placed.items f.left.items (vec_capacity f.placed) (vec_capacity f.left) c.args.page f.order c.remove.new.self c.remove.ensures.entries c.remove.result c.remove.ensures.place c.in_default.not-Some c.self.invariant

pub returns-in-Some : goal.returns-in-Some
returns-in-Some c =
    let f = c.self.inside in
    record {
      entries = ap (λ (x : LruCache ℕ ℕ). lru_cache (framed f.placed.items x.entries) x.cap) c.remove.ensures.entries
          ∙ ap (λ (es : List (ℕ × Frame)). lru_cache es f.order.cap) (removed_framed f.placed.items c.args.page f.order.entries)
          ∙ ap (λ (x : LruCache ℕ Frame). lru_cache (remove_entry (nat_eq c.args.page) x.entries) x.cap) c.self.view_is;
    }

pub returns-in_default : goal.returns-in_default
returns-in_default c =
    let f = c.self.inside in
    record {
      entries = ap (λ (x : LruCache ℕ ℕ). lru_cache (framed f.placed.items x.entries) x.cap) c.remove.ensures.entries
          ∙ ap (λ (es : List (ℕ × Frame)). lru_cache es f.order.cap) (removed_framed f.placed.items c.args.page f.order.entries)
          ∙ ap (λ (x : LruCache ℕ Frame). lru_cache (remove_entry (nat_eq c.args.page) x.entries) x.cap) c.self.view_is;
    }
