use Rattle.std.proofs.Common.{◌≡◌, ap, arith, length}
use Rattle.hg_sets.proofs.Reserved.{longest_more, members_more}
use Rattle.hg_sets.proofs.reserving.room_for.Goals as goal

pub loop-set-preserved : goal.loop-set-preserved
loop-set-preserved c =
    let sets = c.args.sets.now in
    let i = c.loop-set.set-index in
    let set = c.set-item.result in
    let lt = c.loop-set-test.true in
    let len : length c.as_slice-len.result.now ≡ length set = ap length c.as_slice-len.ensures in
    let known = c.loop-set.invariant in
    let grown = c.max-longest.ensures in
    record {
      few = omega arith;
      members = omega (arith, known.members, len, members_more sets i set lt c.set-item.is);
      longest = longest_more sets i set lt c.set-item.is c.loop-set.longest c.max-longest.result known.longest (omega (arith, grown)) (omega (arith, len, grown));
      short = omega (arith, known.short, grown);
    }
