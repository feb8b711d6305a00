use Rattle.std.proofs.Common.{◌++◌, drop, inr, ap, ◌∙◌, arith, ◌+◌}
use Rattle.hg_model.specs.Sets.{common}
use Rattle.hg_sets.proofs.Rising.{common-passed, common-skipped, common-matched, common_end}
use Rattle.hg_sets.proofs.merging.write_common.Goals as goal

pub loop-i-preserved-then-member-other : goal.loop-i-preserved-then-member-other
loop-i-preserved-then-member-other c =
    let known = c.loop-i.invariant in
    record {
      in_members = omega arith;
      in_others = omega arith;
      few = omega arith;
      room = omega arith;
      capacity = omega arith;
      rest = common-passed _ _ _ _ _ _ c.requires.members_rise c.requires.others_rise c.loop-i-test.true c.if-k-others.true known.rest c.if-member-other.true;
    }

pub loop-i-preserved-then-other-member : goal.loop-i-preserved-then-other-member
loop-i-preserved-then-other-member c =
    let known = c.loop-i.invariant in
    record {
      in_members = omega arith;
      in_others = omega arith;
      few = omega arith;
      room = omega arith;
      capacity = omega arith;
      rest = common-skipped _ _ _ _ _ _ c.requires.members_rise c.requires.others_rise c.loop-i-test.true c.if-k-others.true known.rest c.if-other-member.true;
    }

pub loop-i-preserved : goal.loop-i-preserved
loop-i-preserved c =
    let known = c.loop-i.invariant in
    let pushed = rw c.unwrap.ensures at c.push.ensures.items in
    let longer = rw c.unwrap.ensures at c.push.ensures.len in
    let grown = c.push.ensures.capacity in
    record {
      in_members = omega arith;
      in_others = omega arith;
      few = omega arith;
      room = omega arith;
      capacity = omega arith;
      rest = ap (λ kept. kept ++ common (drop (c.loop-i.i + 1) c.args.members.now) (drop (c.loop-i.k + 1) c.args.others.now)) pushed
          ∙ common-matched _ _ _ _ _ _ c.requires.members_rise c.requires.others_rise c.loop-i-test.true c.if-k-others.true known.rest (omega arith);
    }

pub returns-else-k-others-clause-items : goal.returns-else-k-others-clause-items
returns-else-k-others-clause-items c = common_end c.args.members.now c.args.others.now c.loop-i.kept.items _ c.loop-i.i c.loop-i.k (inr (omega arith)) c.loop-i.invariant.rest
