use Rattle.std.proofs.Common.{◌≡◌, List, length, take, refl, sym, ap, ◌∙◌, subst, arith}
use Rattle.std.proofs.Math.Seq.{take-length}
use Rattle.std.proofs.lemmas.Option.{slice_get-get_or}
use Rattle.hg_model.specs.declared.event.Named.{Named}
use Rattle.hg_shards.specs.Batches.{TakesAll}
use Rattle.hg_shards.proofs.Batches.{accepted_by, takes_more, takes_none}
use Rattle.hg_shards.proofs.shards.offer_in_order.Goals as goal

pub loop-place-init : goal.loop-place-init
loop-place-init c = takes_none c.args.shard.now c.requires

pub returns-in-Some : goal.returns-in-Some
returns-in-Some c =
    record {
      between = c.loop-place.shard;
      takes = c.loop-place.invariant;
      stops = (
        _,
        slice_get-get_or c.args.events.now c.loop-place.place _ (omega (arith, c.loop-place-test.true)),
        record {
          answer = c.offer.result;
          cause_is = sym c.unaccepted.ensures ∙ c.in-Some.is;
          answers = c.offer.ensures.answers;
          passes = c.offer.ensures.passes;
          grows = c.offer.ensures.grows;
        },
      );
    }

pub loop-place-preserved : goal.loop-place-preserved
loop-place-preserved c =
    takes_more c.args.shard.now c.loop-place.shard c.offer.new.self c.args.events.now c.loop-place.place _
    (slice_get-get_or c.args.events.now c.loop-place.place _ (omega (arith, c.loop-place-test.true))) c.loop-place.invariant
    c.offer.result (accepted_by c.offer.result (λ cause is. c.in_default.not-Some cause (c.unaccepted.ensures ∙ is))) c.offer.ensures.answers

pub returns : goal.returns
returns c =
    let all : c.loop-place.place ≡ length c.args.events.now = (let ge = c.loop-place-test.false in omega (arith, ge)) in
    record {
      between = c.loop-place.shard;
      takes = subst (λ (events : List Named). TakesAll c.args.shard.now events c.loop-place.shard) (ap (λ n. take n c.args.events.now) all ∙ take-length c.args.events.now) c.loop-place.invariant;
      stops = refl;
    }
