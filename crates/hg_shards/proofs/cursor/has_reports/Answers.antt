use Rattle.std.proofs.Common.{◌≡◌, ⊎_elim, ℕ, ◌<◌, ◌≤◌, false, Option, Some, None, slice_get, refl, sym, ap, ◌∙◌, subst, arith}
use Rattle.std.proofs.lemmas.Bool.{cases_lt, false≢true}
use Rattle.std.proofs.lemmas.Option.{get_or_from_slice_get, slice_get-get_or, slice_get_within}
use Rattle.std.specs.Option.{is_some}
use Rattle.hg_detect.specs.Shown.{reports_of}
use Rattle.hg_shards.specs.declared.merge.Place.{Place}
use Rattle.hg_shards.specs.declared.shard.Shard.{Shard}
use Rattle.hg_shards.specs.Reading.{place_upto}
use Rattle.hg_shards.proofs.Totals.{tells_none, tells_some}
use Rattle.hg_shards.proofs.cursor.has_reports.Goals as goal

pub returns : goal.returns
returns c = tells_none c.args.shards.now c.args.last (λ j s at. c.loop-k.invariant j s (let lt = slice_get_within c.args.shards.now j s at in let ge = c.loop-k-test.false in omega (arith, lt, ge)) at)

pub returns-then-is_some : goal.returns-then-is_some
returns-then-is_some c =
    let shards = c.args.shards.now in
    let s = c.index-shards-k.result in
    let here : slice_get shards c.loop-k.k ≡ Some s = slice_get-get_or shards c.loop-k.k s (let lt = c.loop-k-test.true in omega (arith, lt)) ∙ ap (λ (x : Shard). Some x) (sym c.index-shards-k.is) in
    tells_some shards c.args.last c.loop-k.k s here (ap is_some (sym c.place_at.ensures) ∙ sym c.is_some.ensures ∙ c.if-is_some.true)

none_of : (x : Option Place) → is_some x ≡ false → x ≡ None
none_of None h = refl
none_of (Some p) h = absurd (false≢true (sym h))

pub loop-k-preserved : goal.loop-k-preserved
loop-k-preserved c = λ j s lt at.
    let shards = c.args.shards.now in
    let k = c.loop-k.k in
    let x = c.index-shards-k.result in
    let none = sym c.place_at.ensures ∙ none_of c.place_at.result (sym c.is_some.ensures ∙ c.if-is_some.false) in
    ⊎_elim
    (λ (before : j < k). c.loop-k.invariant j s before at)
    (λ (here : k ≤ j).
    let same : j ≡ k = omega (arith, here, lt) in
    let is : x ≡ s = c.index-shards-k.is ∙ get_or_from_slice_get shards k s x (subst (λ (n : ℕ). slice_get shards n ≡ Some s) same at) in
    subst (λ (y : Shard). place_upto c.args.last (slice_get (reports_of y.detector) 0) ≡ None) is none)
    (cases_lt j k)
