use Rattle.std.proofs.Common.{length, ◌+◌, ◌<◌, ◌^◌, arith, ap}
use Rattle.hg_model.specs.Contents.{Content}
use Rattle.hg_check.proofs.explain.race.check_text.Goals as goal

pub offer_text-requires-clause-room : goal.offer_text-requires-clause-room
offer_text-requires-clause-room c =
    let len : length c.args.text.now + 1 < 2 ^ 64 = grind arith in
    (c.requires.fresh.whole, omega (arith, ap (λ (x : Content). x.last 0) c.requires.fresh.start.content, len))
