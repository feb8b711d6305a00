use Rattle.std.proofs.Common.{◌≡◌, ◌∙◌, ℕ, List, Some, ap, subst, sym, arith}
use Rattle.std.proofs.lemmas.Bool.{false≢true}
use Rattle.std.specs.Prelude.{IfSome, IsSome}
use Rattle.hg_graph.specs.declared.pending.Pending.{Pending}
use Rattle.hg_graph.specs.Filed.{place_of}
use Rattle.hg_graph.specs.Pending.{kept_of}
use Rattle.hg_graph.proofs.Filing.{kept_at, not_kept, slot_read}
use Rattle.hg_graph.proofs.pending.PendingTable.segment.Goals as goal

pub index-requires : goal.index-requires
index-requires c =
    let at : place_of c.self.inside.places.entries c.args.message ≡ Some c.in-Some.place = sym c.get.ensures ∙ c.in-Some.is in
    let within = (c.self.invariant c.args.message c.in-Some.place at).0 in
    omega (arith, c.self.inside.slots.ok.0)

pub returns-in-Some : goal.returns-in-Some
returns-in-Some c =
    let at : place_of c.self.inside.places.entries c.args.message ≡ Some c.in-Some.place = sym c.get.ensures ∙ c.in-Some.is in
    let within = (c.self.invariant c.args.message c.in-Some.place at).0 in
    let kept = ap (λ (entries : List (ℕ × Pending)). kept_of entries c.args.message) (sym c.self.view_is) ∙ kept_at c.self.inside.places.entries c.self.inside.slots.items c.args.message c.in-Some.place at in
    subst (λ o. IfSome o (λ k. c.index.result.now.kept.segment ≡ k.segment)) (sym kept) (ap (λ s. s.kept.segment) (slot_read c.self.inside.slots.items c.in-Some.place c.index.result.now within c.index.ensures))

pub returns-in-None : goal.returns-in-None
returns-in-None c =
    let none = ap (λ (entries : List (ℕ × Pending)). kept_of entries c.args.message) (sym c.self.view_is) ∙ not_kept c.self.inside.places.entries c.self.inside.slots.items c.args.message (sym c.get.ensures ∙ c.in-None.is) in
    absurd (false≢true (subst IsSome none c.requires))
