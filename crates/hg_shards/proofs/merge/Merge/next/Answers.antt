use Rattle.std.proofs.Common.{◌≡◌, ◌+◌, ℕ, List, ◌∷◌, Option, Some, Vec, ap, ◌∙◌, sym, subst, arith, get_or, set, drop}
use Rattle.hg_model.specs.declared.report.Report.{Report}
use Rattle.hg_shards.specs.declared.merge.Place.{Place}
use Rattle.hg_shards.specs.Merging.{IsUnderWay, IsNextByHeads, head_of, merged, left}
use Rattle.hg_shards.proofs.Leaving.{Step, step}
use Rattle.hg_shards.proofs.merge.Merge.next.Goals as goal

-- the step, by the heads as they were lent
by_heads : {Z : Type 0} (lists : List (Vec Report Z)) (given : List ℕ) (heads lent : List (Option Place)) (k : ℕ) → IsUnderWay lists given heads → lent ≡ heads → IsNextByHeads lent (Some k) → Step lists given heads k
by_heads lists given heads lent k h is next = step lists given heads k h (subst (λ (hs : List (Option Place)). IsNextByHeads hs (Some k)) is next)

pub bounds-self-inside-k : goal.bounds-self-inside-k
bounds-self-inside-k c = (by_heads c.self.inside.lists.now c.self.inside.given.items c.self.inside.heads.items c.deref.result.now c.in-Some.k c.self.invariant c.deref.ensures.value c.in-Some.ensures).within

pub index-place-requires : goal.index-place-requires
index-place-requires c =
    let s = by_heads c.self.inside.lists.now c.self.inside.given.items c.self.inside.heads.items c.deref.result.now c.in-Some.k c.self.invariant c.deref.ensures.value c.in-Some.ensures in
    let lt = s.counted in let e = c.self.inside.given.ok.0 in omega (arith, lt, e)

pub index-report-requires : goal.index-report-requires
index-report-requires c =
    let s = by_heads c.self.inside.lists.now c.self.inside.given.items c.self.inside.heads.items c.deref.result.now c.in-Some.k c.self.invariant c.deref.ensures.value c.in-Some.ensures in
    let lt = s.place c.index-place.result.now c.index-self-k.result c.index-place.ensures in
    let e = (get_or c.self.inside.lists.now c.in-Some.k c.index-self-k.result).ok.0 in omega (arith, lt, e)

pub index_mut-requires : goal.index_mut-requires
index_mut-requires c =
    let s = by_heads c.self.inside.lists.now c.self.inside.given.items c.self.inside.heads.items c.deref.result.now c.in-Some.k c.self.invariant c.deref.ensures.value c.in-Some.ensures in
    let lt = s.counted in let e = c.self.inside.given.ok.0 in omega (arith, lt, e)

pub index_mut-requires-in-Some : goal.index_mut-requires-in-Some
index_mut-requires-in-Some c =
    let s = by_heads c.self.inside.lists.now c.self.inside.given.items c.self.inside.heads.items c.deref.result.now c.in-Some.k c.self.invariant c.deref.ensures.value c.in-Some.ensures in
    let lt = s.headed in let e = c.self.inside.heads.ok.0 in omega (arith, lt, e)

pub overflow_add-place : goal.overflow_add-place
overflow_add-place c =
    let s = by_heads c.self.inside.lists.now c.self.inside.given.items c.self.inside.heads.items c.deref.result.now c.in-Some.k c.self.invariant c.deref.ensures.value c.in-Some.ensures in
    let lt = s.place c.index-place.result.now c.index-self-k.result c.index-place.ensures in
    let v = get_or c.self.inside.lists.now c.in-Some.k c.index-self-k.result in
    let e = v.ok in let small = v.small in omega (arith, lt, e, small)

pub overflow_add-place-in-Some : goal.overflow_add-place-in-Some
overflow_add-place-in-Some c =
    let s = by_heads c.self.inside.lists.now c.self.inside.given.items c.self.inside.heads.items c.deref.result.now c.in-Some.k c.self.invariant c.deref.ensures.value c.in-Some.ensures in
    let lt = s.place c.index-place.result.now c.index-self-k.result c.index-place.ensures in
    let v = get_or c.self.inside.lists.now c.in-Some.k c.index-self-k.result in
    let e = v.ok in let small = v.small in omega (arith, lt, e, small)

pub invariant_of-self : goal.invariant_of-self
invariant_of-self c =
    let s = by_heads c.self.inside.lists.now c.self.inside.given.items c.self.inside.heads.items c.deref.result.now c.in-Some.k c.self.invariant c.deref.ensures.value c.in-Some.ensures in
    let is : c.head_at.result ≡ head_of (drop (c.index-place.result.now + 1) (get_or c.self.inside.lists.now c.in-Some.k c.index-self-k.result).items) =
    c.head_at.ensures ∙ ap (λ (reports : List Report). head_of (drop (c.index-place.result.now + 1) reports)) c.deref-in-Some.ensures.value in
    subst (λ (head : Option Place). IsUnderWay c.self.inside.lists.now (set c.self.inside.given.items c.in-Some.k (c.index-place.result.now + 1)) (set c.self.inside.heads.items c.in-Some.k head)) (sym is)
    (s.under_way c.index-place.result.now c.index-self-k.result c.index-place.ensures)

pub returns-in-Some : goal.returns-in-Some
returns-in-Some c =
    let s = by_heads c.self.inside.lists.now c.self.inside.given.items c.self.inside.heads.items c.deref.result.now c.in-Some.k c.self.invariant c.deref.ensures.value c.in-Some.ensures in
    ap merged (sym c.self.view_is)
    ∙ s.comes c.index-place.result.now c.index-self-k.result c.index-report.result.now c.index-place.ensures
    ∙ ap (λ (r : Report). r ∷ merged (left (set c.self.inside.given.items c.in-Some.k (c.index-place.result.now + 1)) c.self.inside.lists.now)) (sym c.index-report.ensures)
