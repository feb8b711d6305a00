use Rattle.std.proofs.Common.{◌≡◌, ◌<◌, length, sym, subst, arith}
use Rattle.hg_sets.specs.Listing.{IsFoundBy, first_slot, taken}
use Rattle.hg_sets.proofs.Slots.{IsPassed, all_taken, found_kept, found_put, pass_more}
use Rattle.hg_sets.proofs.lists.put_entry.Goals as goal
use Rattle.hg_sets.proofs.lists.put_entry.Goals.{After-loop}

pub returns-then-slots-at-eq0-clause-found : goal.returns-then-slots-at-eq0-clause-found
returns-then-slots-at-eq0-clause-found c =
    found_put c.loop.slots c.args.hash c.args.entry c.loop.counter c.loop.at c.loop.invariant.passed c.if-slots-at-eq0.true (c.loop.invariant.within (omega arith)) (omega arith)

pub returns-then-slots-at-eq0-clause-kept : goal.returns-then-slots-at-eq0-clause-kept
returns-then-slots-at-eq0-clause-kept c =
    λ h e some found.
    let there = subst (λ slots. IsFoundBy slots h e) (sym c.loop.invariant.same) found in
    found_kept c.loop.slots c.loop.at c.args.entry h e c.if-slots-at-eq0.true some there

pub loop-preserved : goal.loop-preserved
loop-preserved c =
    record {
      within = λ some. c.next_slot-at.ensures.within;
      same = c.loop.invariant.same;
      passed = rw c.next_slot-at.ensures.slot (pass_more c.loop.slots _ c.loop.counter c.loop.at c.loop.invariant.passed (λ free. absurd (omega arith)));
    }

-- a free slot was there, so the search came to one
never : (c : After-loop) → ⊥
never c =
    let slots = c.args.slots.now in
    let passed = subst (λ s. IsPassed s (first_slot (length s) c.args.hash) c.loop.counter c.loop.at) c.loop.invariant.same c.loop.invariant.passed in
    let begins : first_slot (length slots) c.args.hash < length slots = subst (λ at. at < length slots) c.first_slot-at.ensures.slot (c.first_slot-at.ensures.within (omega arith)) in
    let full : taken slots ≡ length slots = all_taken slots (first_slot (length slots) c.args.hash) c.loop.at c.loop.counter passed begins (omega arith) in
    omega (arith, full, c.requires.free)

pub returns-clause-one_more : goal.returns-clause-one_more
returns-clause-one_more c = absurd (never (goal.at.returns-clause-one_more c).After-loop)

pub returns-clause-found : goal.returns-clause-found
returns-clause-found c = absurd (never (goal.at.returns-clause-found c).After-loop)
