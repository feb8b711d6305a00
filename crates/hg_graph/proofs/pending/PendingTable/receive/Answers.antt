use Rattle.std.proofs.Common.{◌≡◌, ◌∙◌, ℕ, List, None, Some, ap, cond, nat_eq, subst, sym, ◌<◌}
use Rattle.std.proofs.lemmas.Bool.{false≢true}
use Rattle.std.specs.Prelude.{IfSome, IsSome}
use Rattle.hg_graph.specs.Clocks.{IsGreater}
use Rattle.hg_graph.specs.declared.pending.Pending.{Pending}
use Rattle.hg_graph.specs.Filed.{place_of}
use Rattle.hg_graph.specs.Pending.{kept_of}
use Rattle.hg_graph.proofs.Filing.{filed_less, kept_at, kept_less, not_kept, one_other_again}
use Rattle.hg_graph.proofs.pending.PendingTable.receive.Goals as goal

pub take_over-requires-clause-place : goal.take_over-requires-clause-place
take_over-requires-clause-place c = (c.self.invariant c.args.message c.in-Some.place (sym c.get.ensures ∙ c.in-Some.is)).0

pub let_go-requires : goal.let_go-requires
let_go-requires c = subst (λ n. c.in-Some.place < n) (sym c.take_over.ensures.slots.0.0) (c.self.invariant c.args.message c.in-Some.place (sym c.get.ensures ∙ c.in-Some.is)).0

pub invariant_of-self : goal.invariant_of-self
invariant_of-self c =
    let at : place_of c.self.inside.places.entries c.args.message ≡ Some c.in-Some.place = sym c.get.ensures ∙ c.in-Some.is in
    let other = one_other_again c.self.inside.slots.items c.take_over.new.slots.items c.let_go.new.slots.items c.in-Some.place c.take_over.ensures.slots c.let_go.ensures in
    filed_less c.self.inside.places.entries c.remove.new.self.entries c.self.inside.slots.items c.let_go.new.slots.items c.args.message c.in-Some.place c.self.invariant at other c.remove.ensures

pub returns-in-Some-clause-clock : goal.returns-in-Some-clause-clock
returns-in-Some-clause-clock c =
    let at : place_of c.self.inside.places.entries c.args.message ≡ Some c.in-Some.place = sym c.get.ensures ∙ c.in-Some.is in
    let kept = ap (λ (entries : List (ℕ × Pending)). kept_of entries c.args.message) (sym c.self.view_is) ∙ kept_at c.self.inside.places.entries c.self.inside.slots.items c.args.message c.in-Some.place at in
    subst (λ o. IfSome o (λ k. IsGreater c.args.clock.now k.clock c.args.thread c.args.own c.take_over.new.clock)) (sym kept) c.take_over.ensures.clock

pub returns-in-Some-clause-taken : goal.returns-in-Some-clause-taken
returns-in-Some-clause-taken c j =
    let at : place_of c.self.inside.places.entries c.args.message ≡ Some c.in-Some.place = sym c.get.ensures ∙ c.in-Some.is in
    let other = one_other_again c.self.inside.slots.items c.take_over.new.slots.items c.let_go.new.slots.items c.in-Some.place c.take_over.ensures.slots c.let_go.ensures in
    kept_less c.self.inside.places.entries c.remove.new.self.entries c.self.inside.slots.items c.let_go.new.slots.items c.args.message c.in-Some.place c.self.invariant at other c.remove.ensures j
    ∙ ap (λ (entries : List (ℕ × Pending)). cond (nat_eq c.args.message j) None (kept_of entries j)) c.self.view_is

pub returns-in-None-clause-clock : goal.returns-in-None-clause-clock
returns-in-None-clause-clock c =
    let none = ap (λ (entries : List (ℕ × Pending)). kept_of entries c.args.message) (sym c.self.view_is) ∙ not_kept c.self.inside.places.entries c.self.inside.slots.items c.args.message (sym c.get.ensures ∙ c.in-None.is) in
    absurd (false≢true (subst IsSome none c.requires.kept))

pub returns-in-None-clause-taken : goal.returns-in-None-clause-taken
returns-in-None-clause-taken c =
    let none = ap (λ (entries : List (ℕ × Pending)). kept_of entries c.args.message) (sym c.self.view_is) ∙ not_kept c.self.inside.places.entries c.self.inside.slots.items c.args.message (sym c.get.ensures ∙ c.in-None.is) in
    absurd (false≢true (subst IsSome none c.requires.kept))
