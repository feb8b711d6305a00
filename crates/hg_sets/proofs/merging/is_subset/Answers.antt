use Rattle.std.proofs.Common.{sym, ◌∙◌, arith}
use Rattle.hg_sets.proofs.Rising.{subset-skipped, subset-matched, subset-missed, subset_done, subset_at_end}
use Rattle.hg_sets.proofs.merging.is_subset.Goals as goal
use Rattle.hg_sets.proofs.merging.is_subset.Goals.{then-members-i-2, else-members-i-2}

pub loop-other-preserved : goal.loop-other-preserved
loop-other-preserved c =
    let step = subset-skipped c.args.members.now c.args.others.now c.loop-other.i c.loop-other.other-index c.requires.members_rise c.requires.others_rise (omega arith) (omega arith) in
    let matched = subset-matched c.args.members.now c.args.others.now c.loop-other.i c.loop-other.other-index c.requires.members_rise c.requires.others_rise (omega arith) (omega arith) in
    elim c.if-members-i-2.branch [
      | then-members-i-2 w ↦ record { within = omega arith; rest = rw w.i-is (matched w.if-members-i-2.true ∙ c.loop-other.invariant.rest) }
      | else-members-i-2 w ↦ record { within = omega arith; rest = rw w.i-is (step (omega arith) ∙ c.loop-other.invariant.rest) }
    ]

pub returns-then-i-members : goal.returns-then-i-members
returns-then-i-members c = subset_done c.args.members.now _ c.loop-other.i (omega arith) ∙ c.loop-other.invariant.rest

pub returns-then-members-i : goal.returns-then-members-i
returns-then-members-i c =
    sym (subset-missed c.args.members.now c.args.others.now c.loop-other.i c.loop-other.other-index c.requires.members_rise c.requires.others_rise (omega arith) (omega arith) (omega arith)) ∙ c.loop-other.invariant.rest

pub returns : goal.returns
returns c = subset_at_end c.args.members.now c.args.others.now c.loop-other.i c.loop-other.other-index c.loop-other.invariant.within (omega arith) ∙ c.loop-other.invariant.rest
