use Rattle.std.proofs.Common.{◌<◌, ◌∙◌, ℕ, nat_eq, List, length, sym, ap, subst}
use Rattle.lru.specs.LruCache.{lru_cache, promoted}
use Rattle.hg_cache.specs.declared.node.Node.{Node}
use Rattle.hg_cache.specs.Rings.{linked, older_at}
use Rattle.hg_cache.proofs.Linking.{length_unlinked}
use Rattle.hg_cache.proofs.Naming.{none_promoted}
use Rattle.hg_cache.proofs.Shown.{Became, became_promoted, first_of_left, place_of_key}
use Rattle.hg_cache.proofs.recency.Recency.bring_first.Goals as goal

pub returns-in_err-place-clause-entries : goal.returns-in_err-place-clause-entries
returns-in_err-place-clause-entries c = ap (λ (es : List (ℕ × ℕ)). lru_cache es c.args.self.now.cap) (sym (none_promoted c.args.key c.args.self.now.entries (sym c.in_err-place.ensures)))

pub unlink-requires-clause-place : goal.unlink-requires-clause-place
unlink-requires-clause-place c = let r = c.self.inside in (place_of_key r.nodes.items r.end r.count r.places.entries c.self.invariant c.args.self.now c.self.view_is c.args.key c.in_ok-place.place (sym c.in_ok-place.ensures)).place

pub unlink-requires-clause-newer : goal.unlink-requires-clause-newer
unlink-requires-clause-newer c = let r = c.self.inside in (place_of_key r.nodes.items r.end r.count r.places.entries c.self.invariant c.args.self.now c.self.view_is c.args.key c.in_ok-place.place (sym c.in_ok-place.ensures)).newer

pub unlink-requires-clause-older : goal.unlink-requires-clause-older
unlink-requires-clause-older c = let r = c.self.inside in (place_of_key r.nodes.items r.end r.count r.places.entries c.self.invariant c.args.self.now c.self.view_is c.args.key c.in_ok-place.place (sym c.in_ok-place.ensures)).older

pub link-requires-clause-place : goal.link-requires-clause-place
link-requires-clause-place c =
    let r = c.self.inside in
    let long = ap (λ (l : List Node). length l) c.unlink.ensures ∙ length_unlinked r.nodes.items c.in_ok-place.place in
    subst (λ (n : ℕ). c.in_ok-place.place < n) (sym long) (place_of_key r.nodes.items r.end r.count r.places.entries c.self.invariant c.args.self.now c.self.view_is c.args.key c.in_ok-place.place (sym c.in_ok-place.ensures)).place

pub link-requires-clause-first : goal.link-requires-clause-first
link-requires-clause-first c =
    let r = c.self.inside in
    subst (λ (l : List Node). older_at l r.end < length l) (sym c.unlink.ensures) (first_of_left r.nodes.items r.end r.count r.places.entries c.self.invariant c.args.self.now c.self.view_is c.args.key c.in_ok-place.place (sym c.in_ok-place.ensures))

pub invariant_of-self : goal.invariant_of-self
invariant_of-self c =
    let r = c.self.inside in
    let is = c.link.ensures ∙ ap (λ (l : List Node). linked l r.end c.in_ok-place.place) c.unlink.ensures in
    (subst (λ (new : List Node). Became r.end new r.count r.places.entries (promoted (nat_eq c.args.key) c.args.self.now.entries) c.args.self.now.cap) (sym is)
    (became_promoted r.nodes.items r.end r.count r.places.entries c.self.invariant c.args.self.now c.self.view_is c.args.key c.in_ok-place.place (sym c.in_ok-place.ensures))).is_sound

pub returns-clause-entries : goal.returns-clause-entries
returns-clause-entries c =
    let r = c.self.inside in
    let is = c.link.ensures ∙ ap (λ (l : List Node). linked l r.end c.in_ok-place.place) c.unlink.ensures in
    (subst (λ (new : List Node). Became r.end new r.count r.places.entries (promoted (nat_eq c.args.key) c.args.self.now.entries) c.args.self.now.cap) (sym is)
    (became_promoted r.nodes.items r.end r.count r.places.entries c.self.invariant c.args.self.now c.self.view_is c.args.key c.in_ok-place.place (sym c.in_ok-place.ensures))).is_shown
