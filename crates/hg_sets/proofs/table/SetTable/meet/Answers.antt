use Rattle.std.proofs.Common.{◌≡◌, ◌⊎◌, inl, inr, length, sym, ap, ◌∙◌, subst, eqb-true}
use Rattle.hg_model.specs.Sets.{common}
use Rattle.hg_sets.specs.Interning.{Table, AreSets, StandsAt, set_at}
use Rattle.hg_sets.proofs.Remembering.{answered_ok, keeps, common_empty, common-subset, found}
use Rattle.hg_sets.proofs.table.SetTable.meet.Goals as goal
use Rattle.hg_sets.proofs.table.SetTable.meet.Goals.{Joined-then-a-eq0, Then-is_subset, then-a-eq0-via-then-a-eq0, then-a-eq0-via-else-a-eq0+then-is_empty}

nothing : (c : Joined-then-a-eq0) → StandsAt c.args.self.now.sets (common (set_at c.args.self.now.sets c.args.a) c.args.others.now) 0
nothing c =
    let none : (c.args.a ≡ 0) ⊎ (length c.args.others.now ≡ 0) = elim c.then-a-eq0.branch [
      | then-a-eq0-via-then-a-eq0 w ↦ inl w.if-a-eq0.true
      | then-a-eq0-via-else-a-eq0+then-is_empty w ↦ inr (eqb-true _ _ (sym w.if-is_empty.ensures))
    ] in
    common_empty c.args.self.now c.args.a c.args.others.now (subst AreSets c.self.view_is c.self.invariant.sound.sets) none

pub returns-then-a-eq0-clause-exact : goal.returns-then-a-eq0-clause-exact
returns-then-a-eq0-clause-exact c = found c.args.self.now _ 0 (nothing c)

pub returns-then-a-eq0-clause-number : goal.returns-then-a-eq0-clause-number
returns-then-a-eq0-clause-number c = nothing c

everything : (c : Then-is_subset) → StandsAt c.args.self.now.sets (common (set_at c.args.self.now.sets c.args.a) c.args.others.now) c.args.a
everything c =
    let at : c.members.result.now ≡ set_at c.args.self.now.sets c.args.a = c.members.ensures ∙ ap (λ (t : Table). set_at t.sets c.args.a) c.self.view_is in
    (c.requires.known, sym (ap (λ set. common set c.args.others.now) (sym at) ∙ common-subset c.members.result.now c.args.others.now (sym c.if-is_subset.ensures) ∙ at))

pub returns-then-is_subset-clause-exact : goal.returns-then-is_subset-clause-exact
returns-then-is_subset-clause-exact c = found c.args.self.now _ c.args.a (everything c)

pub returns-then-is_subset-clause-number : goal.returns-then-is_subset-clause-number
returns-then-is_subset-clause-number c = everything c

pub returns-clause-number : goal.returns-clause-number
returns-clause-number c = answered_ok c.args.self.now c.meet_fewer.new.self _ _ c.meet_fewer.ensures.exact

pub returns-clause-kept : goal.returns-clause-kept
returns-clause-kept c = keeps c.args.self.now c.meet_fewer.new.self _ _ c.meet_fewer.ensures.exact
