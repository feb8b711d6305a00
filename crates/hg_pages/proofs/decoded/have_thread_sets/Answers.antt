use Rattle.std.proofs.Common.{◌≡◌, ◌+◌, ◌*◌, ℕ, subst, arith}
use Rattle.hg_pages.specs.Numbers.{HaveThreadSets}
use Rattle.hg_pages.proofs.decoded.have_thread_sets.Goals.{else-has_shared_from-via-then-has_shared_from+else-not-have_thread_sets_from, else-has_shared_from-via-else-has_shared_from}
use Rattle.hg_pages.proofs.decoded.have_thread_sets.Goals as goal

pub loop-group-preserved : goal.loop-group-preserved
loop-group-preserved c =
    let bytes = c.args.bytes.now in
    let sets = c.args.sets.now.sets in
    let more : c.loop-group.group * 16 + 16 ≡ (c.loop-group.group + 1) * 16 = omega arith in
    subst (λ (n : ℕ). HaveThreadSets sets n bytes) more
    (elim c.else-has_shared_from.branch [
      | else-has_shared_from-via-then-has_shared_from+else-not-have_thread_sets_from w ↦ w.have_thread_sets_from.ensures.yes w.if-not-have_thread_sets_from.false c.loop-group.invariant
      | else-has_shared_from-via-else-has_shared_from w ↦ c.has_shared_from.ensures.none w.if-has_shared_from.false sets c.loop-group.invariant
    ])

pub returns-clause-yes : goal.returns-clause-yes
returns-clause-yes c _ = subst (λ (n : ℕ). HaveThreadSets c.args.sets.now.sets n c.args.bytes.now) (omega (arith, c.loop-group-test.false, c.loop-group.auto.group-end)) c.loop-group.invariant
