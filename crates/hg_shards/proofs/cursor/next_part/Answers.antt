use Rattle.std.proofs.Common.{◌≡◌, ◌+◌, ℕ, Option, None, sym, ap, ◌∙◌, subst, arith, get_or, slice_get, length}
use Rattle.hg_detect.specs.Shown.{reports_of}
use Rattle.hg_shards.specs.declared.merge.Place.{Place}
use Rattle.hg_shards.specs.declared.shard.Shard.{Shard}
use Rattle.hg_shards.specs.Reading.{heads_upto, place_upto}
use Rattle.hg_shards.proofs.Reading.{IsBestAt, best_lost, best_won, head_at, next_none, next_some}
use Rattle.hg_shards.proofs.cursor.next_part.Goals as goal
use Rattle.hg_shards.proofs.cursor.next_part.Goals.{then-wins, else-wins}

pub loop-k-preserved : goal.loop-k-preserved
loop-k-preserved c =
    let last = c.args.last in
    let shards = c.args.shards.now in
    let given = c.args.given.now in
    let heads = heads_upto last shards given in
    let k = c.loop-k.k in
    let part = c.index-shards-k.result in
    let lt = c.loop-k-test.true in
    let head : get_or heads k None ≡ c.place_at-head.result =
    head_at last shards given k part 0 c.requires (omega (arith, lt))
    ∙ ap (λ (s : Shard). place_upto last (slice_get (reports_of s.detector) (get_or given k 0))) (sym c.index-shards-k.is)
    ∙ sym c.place_at-head.ensures in
    elim c.if-wins.branch [
      | then-wins w ↦
          subst (λ (b : ℕ). IsBestAt heads b (k + 1) c.if-wins.place) (sym w.best-is)
          (subst (λ (p : Option Place). IsBestAt heads k (k + 1) p) (sym w.place-is)
          (best_won heads c.loop-k.best k c.loop-k.place c.place_at-head.result c.loop-k.invariant head (sym c.wins.ensures ∙ w.if-wins.true)))
      | else-wins w ↦
          subst (λ (b : ℕ). IsBestAt heads b (k + 1) c.if-wins.place) (sym w.best-is)
          (subst (λ (p : Option Place). IsBestAt heads c.loop-k.best (k + 1) p) (sym w.place-is)
          (best_lost heads c.loop-k.best k c.loop-k.place c.place_at-head.result c.loop-k.invariant head (sym c.wins.ensures ∙ w.if-wins.false)))
    ]

pub returns-then-is_some : goal.returns-then-is_some
returns-then-is_some c =
    let all : c.loop-k.k ≡ length c.args.shards.now = (let ge = c.loop-k-test.false in omega (arith, ge)) in
    next_some c.args.last c.args.shards.now c.args.given.now c.loop-k.best c.loop-k.place c.requires
    (subst (λ (n : ℕ). IsBestAt (heads_upto c.args.last c.args.shards.now c.args.given.now) c.loop-k.best n c.loop-k.place) all c.loop-k.invariant) (sym c.is_some.ensures ∙ c.if-is_some.true)

pub returns : goal.returns
returns c =
    let all : c.loop-k.k ≡ length c.args.shards.now = (let ge = c.loop-k-test.false in omega (arith, ge)) in
    next_none c.args.last c.args.shards.now c.args.given.now c.loop-k.best c.loop-k.place c.requires
    (subst (λ (n : ℕ). IsBestAt (heads_upto c.args.last c.args.shards.now c.args.given.now) c.loop-k.best n c.loop-k.place) all c.loop-k.invariant) (sym c.is_some.ensures ∙ c.if-is_some.false)
