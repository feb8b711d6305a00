use Rattle.std.proofs.Common.{rules, ◌≡◌, ◌∙◌, ℕ, Option, Some, None, option_map, sym, ap}
use Rattle.lru.specs.LruCache.{LruCache}
use Rattle.hg_cache.specs.declared.frame.Frame.{Frame}
use Rattle.hg_cache.specs.Entries.{behind}
use Rattle.hg_cache.specs.Frames.{page_behind}
use Rattle.hg_cache.proofs.Framing.{behind_framed, none_behind_absent}
use Rattle.hg_cache.proofs.frames.Frames.older.Goals as goal

pub older-requires : goal.older-requires
older-requires c =
    let f = c.self.inside in
    (behind_framed f.placed.items c.args.page c.in-Some.place f.order.entries c.self.invariant.0.pages (sym c.in-Some.ensures)).0

pub returns-in-Some-older : goal.returns-in-Some-older
returns-in-Some-older c =
    let f = c.self.inside in
    let there : Some (c.in-Some-older.older, c.in-Some-older.field-0-1) ≡ behind c.in-Some.place f.order.entries = search rules in
    ap (λ (o : Option (ℕ × ℕ)). option_map (λ e. e.0) o) there
    ∙ (behind_framed f.placed.items c.args.page c.in-Some.place f.order.entries c.self.invariant.0.pages (sym c.in-Some.ensures)).1
    ∙ ap (λ (x : LruCache ℕ Frame). page_behind c.args.page x.entries) c.self.view_is

pub returns-in-None-older : goal.returns-in-None-older
returns-in-None-older c =
    let f = c.self.inside in
    let none : None ≡ behind c.in-Some.place f.order.entries = search rules in
    ap (λ (o : Option (ℕ × ℕ)). option_map (λ e. e.0) o) none
    ∙ (behind_framed f.placed.items c.args.page c.in-Some.place f.order.entries c.self.invariant.0.pages (sym c.in-Some.ensures)).1
    ∙ ap (λ (x : LruCache ℕ Frame). page_behind c.args.page x.entries) c.self.view_is

pub returns-in-None : goal.returns-in-None
returns-in-None c =
    let f = c.self.inside in
    sym (none_behind_absent f.placed.items c.args.page f.order.entries (sym c.in-None.ensures))
    ∙ ap (λ (x : LruCache ℕ Frame). page_behind c.args.page x.entries) c.self.view_is
