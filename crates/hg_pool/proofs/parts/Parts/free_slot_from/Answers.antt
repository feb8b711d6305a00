use Rattle.std.proofs.Common.{[], ◌∷◌, subst, arith}
use Rattle.hg_pages.specs.Tables.{EachNamed, ShownTable, SomeNames}
use Rattle.hg_pool.specs.Sound.{frozen_of}
use Rattle.hg_pool.proofs.Slots.{one_of, of_four}
use Rattle.hg_pool.proofs.parts.Parts.free_slot_from.Goals as goal

pub returns-then-slot-self : goal.returns-then-slot-self
returns-then-slot-self g c =
    let p = c.args.self.now in
    let found = subst (λ (t : ShownTable). ¬ SomeNames (p.root ∷ t ∷ p.live ∷ p.waiting ∷ []) c.in-Some.slot) c.frozen_table.ensures c.in-Some.ensures.2 in
    let each = subst (λ (t : ShownTable). EachNamed (SomeNames (p.root ∷ t ∷ p.live ∷ p.waiting ∷ [])) c.args.from c.in-Some.slot) c.frozen_table.ensures c.in-Some.ensures.3 in
    (c.in-Some.ensures.0, c.if-slot-self.true, λ taken. found (of_four p.root (frozen_of p) p.live p.waiting c.in-Some.slot taken), λ slot le lt. one_of p.root (frozen_of p) p.live p.waiting slot (each slot le lt))

pub returns-else-slot-self : goal.returns-else-slot-self
returns-else-slot-self g c slot le lt =
    let p = c.args.self.now in
    let each = subst (λ (t : ShownTable). EachNamed (SomeNames (p.root ∷ t ∷ p.live ∷ p.waiting ∷ [])) c.args.from c.in-Some.slot) c.frozen_table.ensures c.in-Some.ensures.3 in
    one_of p.root (frozen_of p) p.live p.waiting slot (each slot le (omega (arith, lt, c.if-slot-self.false)))

pub returns-in-None : goal.returns-in-None
returns-in-None g c slot le lt =
    let p = c.args.self.now in
    let each = subst (λ (t : ShownTable). EachNamed (SomeNames (p.root ∷ t ∷ p.live ∷ p.waiting ∷ [])) c.args.from 1048576) c.frozen_table.ensures c.in-None.ensures in
    one_of p.root (frozen_of p) p.live p.waiting slot (each slot le (omega (arith, lt, c.requires.sound.most_slots)))
