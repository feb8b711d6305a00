use Rattle.std.proofs.Common.{rules, ◌≡◌, ◌∙◌, ℕ, nat_eq, Option, Some, None, slice_get, option_map, sym, ap}
use Rattle.std.specs.Map.{keys_of, lookup}
use Rattle.lru.specs.LruCache.{LruCache}
use Rattle.hg_cache.specs.declared.frame.Frame.{Frame}
use Rattle.hg_cache.specs.Frames.{frame_at}
use Rattle.hg_cache.specs.Frames.{frame_in}
use Rattle.hg_cache.proofs.Lookups.{first_entry}
use Rattle.hg_cache.proofs.Framing.{held_of, keys_framed, looked_framed}
use Rattle.hg_cache.proofs.Orders.{first_is, first_order, no_first}
use Rattle.hg_cache.proofs.frames.Frames.first.Goals as goal

pub frame_of-requires : goal.frame_of-requires
frame_of-requires c =
    let f = c.self.inside in
    let first : Some (c.in-Some.first, c.in-Some.place) ≡ slice_get f.order.entries 0 = search rules in
    (held_of f.placed.items c.in-Some.first c.in-Some.place f.order.entries c.self.invariant.0.pages (first_entry f.order.entries (c.in-Some.first, c.in-Some.place) (sym first))).0

pub returns-then-first-page-clause-frame : goal.returns-then-first-page-clause-frame
returns-then-first-page-clause-frame c =
    let f = c.self.inside in
    let place = c.in-Some.place in
    let first : Some (c.in-Some.first, place) ≡ slice_get f.order.entries 0 = search rules in
    let there = ap (λ (n : ℕ). lookup (nat_eq n) f.order.entries) (sym c.if-first-page.true) ∙ first_entry f.order.entries (c.in-Some.first, place) (sym first) in
    ap (λ (x : LruCache ℕ Frame). frame_in x.entries c.args.page) (sym c.self.view_is)
    ∙ looked_framed f.placed.items c.args.page f.order.entries
    ∙ ap (λ (o : Option ℕ). option_map (frame_at f.placed.items) o) there
    ∙ ap Some (sym c.frame_of.ensures)

pub returns-then-first-page-clause-first : goal.returns-then-first-page-clause-first
returns-then-first-page-clause-first c =
    let f = c.self.inside in
    let first : Some (c.in-Some.first, c.in-Some.place) ≡ slice_get f.order.entries 0 = search rules in
    let at = first_order f.order.entries (c.in-Some.first, c.in-Some.place) c.args.page (sym first) c.if-first-page.true in
    (at.0, ap (λ (x : LruCache ℕ Frame). keys_of x.entries) (sym c.self.view_is) ∙ keys_framed f.placed.items f.order.entries ∙ at.1)

pub returns-else-first-page-clause-answers : goal.returns-else-first-page-clause-answers
returns-else-first-page-clause-answers c is =
    let f = c.self.inside in
    let first : Some (c.in-Some.first, c.in-Some.place) ≡ slice_get f.order.entries 0 = search rules in
    let keys = sym (keys_framed f.placed.items f.order.entries) ∙ ap (λ (x : LruCache ℕ Frame). keys_of x.entries) c.self.view_is ∙ is.1 in
    absurd (c.if-first-page.false (first_is f.order.entries (c.in-Some.first, c.in-Some.place) c.args.page is.0 (sym first) keys))

pub returns-in-None-clause-answers : goal.returns-in-None-clause-answers
returns-in-None-clause-answers c is =
    let f = c.self.inside in
    let none : None ≡ slice_get f.order.entries 0 = search rules in
    let keys = sym (keys_framed f.placed.items f.order.entries) ∙ ap (λ (x : LruCache ℕ Frame). keys_of x.entries) c.self.view_is ∙ is.1 in
    absurd (no_first f.order.entries c.args.page is.0 (sym none) keys)
