use Rattle.std.proofs.Common.{◌<◌, ◌∙◌, ◌-◌, ℕ, nat_eq, List, length, sym, ap, subst}
use Rattle.lru.specs.LruCache.{lru_cache}
use Rattle.std.specs.Map.{remove_entry}
use Rattle.hg_cache.specs.declared.node.Node.{Node}
use Rattle.hg_cache.specs.Rings.{without_key}
use Rattle.hg_cache.proofs.Linking.{length_unlinked}
use Rattle.hg_cache.proofs.Naming.{none_there}
use Rattle.hg_cache.proofs.Shown.{Became, became_removed, place_of_key, seen, unseen}
use Rattle.hg_cache.proofs.recency.Recency.remove.Goals as goal

pub returns-in_err-place-clause-entries : goal.returns-in_err-place-clause-entries
returns-in_err-place-clause-entries c =
    let r = c.self.inside in
    let none = unseen r.nodes.items r.end r.count r.places.entries c.self.invariant c.args.self.now c.self.view_is c.args.key c.in_err-place.ensures.value in
    c.self.view_is ∙ ap (λ (es : List (ℕ × ℕ)). lru_cache es c.args.self.now.cap) (sym (none_there c.args.key c.args.self.now.entries none).1)

pub unlink-requires-clause-place : goal.unlink-requires-clause-place
unlink-requires-clause-place c = let r = c.self.inside in (place_of_key r.nodes.items r.end r.count r.places.entries c.self.invariant c.args.self.now c.self.view_is c.args.key c.in_ok-place.place (seen r.nodes.items r.end r.count r.places.entries c.self.invariant c.args.self.now c.self.view_is c.args.key c.in_ok-place.place c.in_ok-place.ensures.value)).place

pub unlink-requires-clause-newer : goal.unlink-requires-clause-newer
unlink-requires-clause-newer c = let r = c.self.inside in (place_of_key r.nodes.items r.end r.count r.places.entries c.self.invariant c.args.self.now c.self.view_is c.args.key c.in_ok-place.place (seen r.nodes.items r.end r.count r.places.entries c.self.invariant c.args.self.now c.self.view_is c.args.key c.in_ok-place.place c.in_ok-place.ensures.value)).newer

pub unlink-requires-clause-older : goal.unlink-requires-clause-older
unlink-requires-clause-older c = let r = c.self.inside in (place_of_key r.nodes.items r.end r.count r.places.entries c.self.invariant c.args.self.now c.self.view_is c.args.key c.in_ok-place.place (seen r.nodes.items r.end r.count r.places.entries c.self.invariant c.args.self.now c.self.view_is c.args.key c.in_ok-place.place c.in_ok-place.ensures.value)).older

pub clear_key-requires : goal.clear_key-requires
clear_key-requires c =
    let r = c.self.inside in
    let long = ap (λ (l : List Node). length l) c.unlink.ensures ∙ length_unlinked r.nodes.items c.in_ok-place.place in
    subst (λ (n : ℕ). c.in_ok-place.place < n) (sym long) (place_of_key r.nodes.items r.end r.count r.places.entries c.self.invariant c.args.self.now c.self.view_is c.args.key c.in_ok-place.place (seen r.nodes.items r.end r.count r.places.entries c.self.invariant c.args.self.now c.self.view_is c.args.key c.in_ok-place.place c.in_ok-place.ensures.value)).place

pub invariant_of-self-2 : goal.invariant_of-self-2
invariant_of-self-2 c =
    let r = c.self.inside in
    let is = c.clear_key.ensures ∙ ap (λ (l : List Node). without_key l c.in_ok-place.place) c.unlink.ensures in
    (subst (λ (new : List Node). Became r.end new (r.count - 1) c.remove.new.self.entries (remove_entry (nat_eq c.args.key) c.args.self.now.entries) c.args.self.now.cap) (sym is)
    (became_removed r.nodes.items r.end r.count r.places.entries c.self.invariant c.args.self.now c.self.view_is c.args.key c.in_ok-place.place c.remove.new.self.entries (seen r.nodes.items r.end r.count r.places.entries c.self.invariant c.args.self.now c.self.view_is c.args.key c.in_ok-place.place c.in_ok-place.ensures.value) c.in_ok-place.ensures.updates.0)).is_sound

pub returns-clause-entries : goal.returns-clause-entries
returns-clause-entries c =
    let r = c.self.inside in
    let is = c.clear_key.ensures ∙ ap (λ (l : List Node). without_key l c.in_ok-place.place) c.unlink.ensures in
    (subst (λ (new : List Node). Became r.end new (r.count - 1) c.remove.new.self.entries (remove_entry (nat_eq c.args.key) c.args.self.now.entries) c.args.self.now.cap) (sym is)
    (became_removed r.nodes.items r.end r.count r.places.entries c.self.invariant c.args.self.now c.self.view_is c.args.key c.in_ok-place.place c.remove.new.self.entries (seen r.nodes.items r.end r.count r.places.entries c.self.invariant c.args.self.now c.self.view_is c.args.key c.in_ok-place.place c.in_ok-place.ensures.value) c.in_ok-place.ensures.updates.0)).is_shown
