use Rattle.std.proofs.Common.{◌≡◌, true, sym, ap, ◌∙◌, subst, option_map, None, arith}
use Rattle.hg_model.specs.Change.{change, dead}
use Rattle.hg_model.specs.Verdicts.{has_thread}
use Rattle.hg_rules.specs.Tables.{started, TablesAgree}
use Rattle.hg_rules.proofs.Steps.{Changed, ended, written, standing_at, slot_in}
use Rattle.hg_rules.proofs.table.ThreadTable.end.Goals as goal

abbrev is_alive : (c : goal.After-from) → has_thread (started c.self.inside.slots.items) c.args.c (λ x. x.alive) ≡ true
is_alive c = ap (λ threads. has_thread threads c.args.c (λ x. x.alive)) c.self.view_is ∙ c.requires

pub index_mut-requires : goal.index_mut-requires
index_mut-requires c =
    let slots = c.self.inside.slots.items in
    let s = standing_at slots c.self.inside.uses.items c.args.c (λ x. x.alive) c.self.invariant (is_alive c) in
    omega (arith, slot_in slots c.args.c s.0 s.1, c.from.ensures, c.self.inside.slots.ok.0)

changed : (c : goal.After-self-1) → Changed dead c.self.inside.slots.items c.args.c c.self.inside.uses.items
changed c = ended c.self.inside.slots.items c.self.inside.uses.items c.args.c (λ x. x.alive) c.self.invariant (ap (λ threads. has_thread threads c.args.c (λ x. x.alive)) c.self.view_is ∙ c.requires)

pub invariant_of-self : goal.invariant_of-self
invariant_of-self c =
    let slots = c.self.inside.slots.items in
    let s = standing_at slots c.self.inside.uses.items c.args.c (λ x. x.alive) c.self.invariant (ap (λ threads. has_thread threads c.args.c (λ x. x.alive)) c.self.view_is ∙ c.requires) in
    subst (λ new. TablesAgree new c.self.inside.uses.items)
    (sym (written slots _ c.args.c _ _ None (option_map dead) c.from.ensures (slot_in slots c.args.c s.0 s.1) c.index_mut.ensures.value c.end_at.ensures)) (changed c).agree

pub returns : goal.returns
returns c =
    let slots = c.self.inside.slots.items in
    let s = standing_at slots c.self.inside.uses.items c.args.c (λ x. x.alive) c.self.invariant (ap (λ threads. has_thread threads c.args.c (λ x. x.alive)) c.self.view_is ∙ c.requires) in
    ap started (written slots _ c.args.c _ _ None (option_map dead) c.from.ensures (slot_in slots c.args.c s.0 s.1) c.index_mut.ensures.value c.end_at.ensures)
    ∙ (changed c).list ∙ ap (change c.args.c dead) c.self.view_is
