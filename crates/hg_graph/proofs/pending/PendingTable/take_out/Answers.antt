use Rattle.std.proofs.Common.{◌≡◌, ◌∙◌, ℕ, List, None, Some, ap, cond, nat_eq, sym}
use Rattle.hg_graph.specs.declared.pending.Pending.{Pending}
use Rattle.hg_graph.specs.Filed.{place_of}
use Rattle.hg_graph.specs.Pending.{kept_of}
use Rattle.hg_graph.proofs.Filing.{filed_less, kept_less, none_to_let_go, not_kept}
use Rattle.hg_graph.proofs.pending.PendingTable.take_out.Goals as goal

pub let_go-requires : goal.let_go-requires
let_go-requires c = (c.self.invariant c.args.message c.in-Some.place (sym c.get.ensures ∙ c.in-Some.is)).0

pub invariant_of-self : goal.invariant_of-self
invariant_of-self c =
    let at : place_of c.self.inside.places.entries c.args.message ≡ Some c.in-Some.place = sym c.get.ensures ∙ c.in-Some.is in
    filed_less c.self.inside.places.entries c.remove.new.self.entries c.self.inside.slots.items c.let_go.new.slots.items c.args.message c.in-Some.place c.self.invariant at c.let_go.ensures c.remove.ensures

pub returns-in-Some : goal.returns-in-Some
returns-in-Some c j =
    let at : place_of c.self.inside.places.entries c.args.message ≡ Some c.in-Some.place = sym c.get.ensures ∙ c.in-Some.is in
    kept_less c.self.inside.places.entries c.remove.new.self.entries c.self.inside.slots.items c.let_go.new.slots.items c.args.message c.in-Some.place c.self.invariant at c.let_go.ensures c.remove.ensures j
    ∙ ap (λ (entries : List (ℕ × Pending)). cond (nat_eq c.args.message j) None (kept_of entries j)) c.self.view_is

pub returns-in-None : goal.returns-in-None
returns-in-None c =
    none_to_let_go c.args.self.now c.args.message
    (ap (λ (entries : List (ℕ × Pending)). kept_of entries c.args.message) (sym c.self.view_is) ∙ not_kept c.self.inside.places.entries c.self.inside.slots.items c.args.message (sym c.get.ensures ∙ c.in-None.is))
