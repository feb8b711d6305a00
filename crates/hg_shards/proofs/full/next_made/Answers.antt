use Rattle.std.proofs.Common.{◌≡◌, ◌+◌, ℕ, Option, None, refl, sym, ap, ◌∙◌, subst, arith, get_or, slice_get, length}
use Rattle.hg_shards.specs.declared.full.Next.{Next}
use Rattle.hg_shards.specs.declared.shard.Shard.{Shard}
use Rattle.hg_shards.specs.Filling.{IsFirstHead, heads_of}
use Rattle.hg_shards.specs.Logging.{Log}
use Rattle.hg_shards.proofs.Together.{IsBest, best_is_first, best_step, head_at, heads_length}
use Rattle.hg_shards.proofs.full.next_made.Goals as goal

pub loop-k-preserved : goal.loop-k-preserved
loop-k-preserved c =
    let parts = c.args.parts.now in
    let taken = c.args.taken.now in
    let k = c.loop-k.k in
    let part = c.index-parts-k.result in
    let heads = heads_of parts taken in
    let lt = c.loop-k-test.true in
    let head : get_or heads k None ≡ c.get.result =
    head_at parts taken k part 0 c.requires (omega (arith, lt))
    ∙ ap (λ (s : Shard). slice_get s.log.events (get_or taken k 0)) (sym c.index-parts-k.is)
    ∙ ap (λ (l : Log). slice_get l.events (get_or taken k 0)) (sym c.log.ensures)
    ∙ sym c.get.ensures in
    subst (λ (best : Option Next). IsBest heads taken (k + 1) best) (sym c.earlier-best.ensures)
    (best_step heads taken k c.loop-k.best (get_or taken k 0) c.get.result head refl c.loop-k.invariant)

pub returns : goal.returns
returns c =
    let parts = c.args.parts.now in
    let taken = c.args.taken.now in
    let same = heads_length parts taken c.requires in
    let all : c.loop-k.k ≡ length parts = (let ge = c.loop-k-test.false in omega (arith, ge)) in
    subst (λ (n : ℕ). IsFirstHead n (heads_of parts taken) taken c.loop-k.best) all
    (best_is_first (heads_of parts taken) taken c.loop-k.k c.loop-k.best (omega (arith, same, all)) c.loop-k.invariant)
