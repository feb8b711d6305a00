use Rattle.std.proofs.Common.{rules, ◌≡◌, ◌<◌, ◌∙◌, ◌-◌, ℕ, nat_eq, List, [], ◌∷◌, ◌++◌, length, option_map, Option, Some, None, refl, sym, ap, subst, arith}
use Rattle.std.specs.List.{IsDistinct}
use Rattle.std.specs.Map.{keys_of}
use Rattle.lru.specs.LruCache.{last_entry}
use Rattle.hg_cache.specs.declared.frame.Frame.{Frame}
use Rattle.hg_pool.specs.Sound.{shown_of}
use Rattle.hg_cache.proofs.Orders.{front_pages, got_there, last_get, last_of, none_last, removed_last, same_pages}
use Rattle.hg_pool.proofs.Stepping.{cells_on, stays_on}
use Rattle.hg_pool.specs.declared.parts.Parts.{Parts}
use Rattle.hg_pool.specs.Maps.{disk_of}
use Rattle.hg_pool.specs.Picking.{TakesLeastFree}
use Rattle.hg_pool.specs.Reached.{IsReached}
use Rattle.hg_pool.proofs.parts.Parts.evict.Goals as goal

-- an entry by its page
no_first : (o : Option (ℕ × Frame)) → option_map (λ e. e.0) o ≡ None → o ≡ None
no_first None is = refl
no_first (Some e) is = absurd (cc is)

some_first : (o : Option (ℕ × Frame)) (page : ℕ) → option_map (λ e. e.0) o ≡ Some page → (f : Frame) × (o ≡ Some (page, f))
some_first None page is = absurd (cc is)
some_first (Some e) page is = let same : e.0 ≡ page = cc is in (e.1, ap (λ (n : ℕ). Some (n, e.1)) same)

pub returns-in-None-clause-freed : goal.returns-in-None-clause-freed
returns-in-None-clause-freed g c =
    let es = c.args.self.now.frames.entries in
    none_last es (length es - 1) refl (no_first (last_entry es) (sym c.in-None.ensures))

pub returns-in-None-clause-none : goal.returns-in-None-clause-none
returns-in-None-clause-none g c same = (refl, returns-in-None-clause-freed g c)

pub clean-requires-clause-present : goal.clean-requires-clause-present
clean-requires-clause-present g c =
    let es = c.args.self.now.frames.entries in
    let last = some_first (last_entry es) c.in-Some.page (sym c.in-Some.ensures) in
    got_there es (length es - 1) (c.in-Some.page, last.0) last.1

pub returns-clause-freed : goal.returns-clause-freed
returns-clause-freed g c =
    let es = c.args.self.now.frames.entries in
    let mid = c.clean.new.self.frames.entries in
    let page = c.in-Some.page in
    let last = some_first (last_entry es) page (sym c.in-Some.ensures) in
    let some : 0 < length es = filled es last.1 in
    let least : last_of (keys_of es) ≡ Some page = last_get es (length es - 1) (page, last.0) (omega (arith, some)) last.1 in
    let order : keys_of mid ≡ keys_of es = c.clean.ensures.order in
    sym order
    ∙ removed_last mid page (subst (λ (ks : List ℕ). IsDistinct nat_eq ks) (sym order) c.len-count.ensures.valid.0) (ap (λ (ks : List ℕ). last_of ks) order ∙ least)
    ∙ ap (λ (fs : List (ℕ × Frame)). keys_of fs ++ page ∷ []) (sym c.let_go.ensures.frames)
  where
    filled : (xs : List (ℕ × Frame)) {x : ℕ × Frame} → last_entry xs ≡ Some x → 0 < length xs
    filled [] is = absurd (cc is)
    filled (x ∷ xs) is = omega arith

pub returns-clause-fewer : goal.returns-clause-fewer
returns-clause-fewer g c q is = front_pages q c.in-Some.page c.args.self.now.frames.entries c.let_go.new.self.frames.entries (returns-clause-freed g c) is

pub returns-in_err-clean-clause-fewer : goal.returns-in_err-clean-clause-fewer
returns-in_err-clean-clause-fewer g c q is = same_pages q c.args.self.now.frames.entries c.clean.new.self.frames.entries c.clean.ensures.order is

pub returns-clause-cells : goal.returns-clause-cells
returns-clause-cells g c = cells_on c.args.self.now.frames.entries c.clean.new.self.frames.entries c.let_go.new.self.frames.entries c.clean.ensures.cells c.let_go.ensures.cells

pub returns-clause-reached : goal.returns-clause-reached
returns-clause-reached g c = subst (λ (x : Parts g.row.D.Denot). IsReached x) (sym c.let_go.ensures.rest) c.clean.ensures.reached

pub returns-clause-moves : goal.returns-clause-moves
returns-clause-moves g c =
    let p = shown_of c.args.self.now in
    record {
      takes = subst (λ (x : Parts g.row.D.Denot). TakesLeastFree p (shown_of x)) (sym c.let_go.ensures.rest) c.clean.ensures.moves.takes;
      stays = stays_on g.D.Disk p (shown_of c.clean.new.self) (shown_of c.let_go.new.self) c.clean.ensures.moves.stays c.let_go.ensures.stays;
      refusal = search rules;
      device = ap (λ (x : Parts g.row.D.Denot). g.D.Disk.failures (disk_of (shown_of x))) c.let_go.ensures.rest ∙ c.in_ok-clean.ensures.moves.device;
      calls = search rules;
    }
