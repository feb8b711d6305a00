use Rattle.std.proofs.Common.{sym, subst, eqb-true, ◌∙◌}
use Rattle.std.proofs.lemmas.List.{nil_from_length}
use Rattle.hg_sets.specs.Interning.{AreSets, KeepsNumbers, StandsAt, Table}
use Rattle.hg_sets.specs.Soundness.{table_of}
use Rattle.hg_sets.proofs.Remembering.{answered_ok, found, joins_kept, keeps, meets_kept}
use Rattle.hg_sets.proofs.table.SetTable.intern.Goals as goal
use Rattle.hg_sets.proofs.table.SetTable.intern.Goals.{Then-is_empty}

nothing : (c : Then-is_empty) → StandsAt c.args.self.now.sets c.args.members.now 0
nothing c =
    let sets : AreSets c.args.self.now = subst AreSets c.self.view_is c.self.invariant.sound.sets in
    (sets.some, sets.first_empty ∙ sym (nil_from_length c.args.members.now (eqb-true _ _ (sym c.if-is_empty.ensures))))

pub returns-then-is_empty-clause-exact : goal.returns-then-is_empty-clause-exact
returns-then-is_empty-clause-exact c = found c.args.self.now _ 0 (nothing c)

pub returns-then-is_empty-clause-number : goal.returns-then-is_empty-clause-number
returns-then-is_empty-clause-number c = nothing c

pub invariant_of-self : goal.invariant_of-self
invariant_of-self c =
    let old = table_of c.self.inside.interner in
    let new = table_of c.intern.new.self in
    let kept = keeps old new _ _ c.intern.ensures.exact in
    record {
      sound = c.intern.ensures.sound;
      joins = joins_kept old new c.self.inside.joins.items kept c.self.invariant.joins;
      meets = meets_kept old new c.self.inside.meets.items kept c.self.invariant.meets;
    }

pub returns-clause-kept : goal.returns-clause-kept
returns-clause-kept c = subst (λ (t : Table). KeepsNumbers t (table_of c.intern.new.self)) c.self.view_is (keeps (table_of c.self.inside.interner) (table_of c.intern.new.self) _ _ c.intern.ensures.exact)

pub returns-clause-number : goal.returns-clause-number
returns-clause-number c = answered_ok (table_of c.self.inside.interner) (table_of c.intern.new.self) _ _ c.intern.ensures.exact
