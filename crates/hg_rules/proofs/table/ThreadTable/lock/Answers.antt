use Rattle.std.proofs.Common.{◌<◌, true, refl, ap, ◌∙◌, arith}
use Rattle.std.specs.List.{list_any}
use Rattle.hg_rules.specs.declared.table.LockUse.TheVariants.{Writing}
use Rattle.hg_model.specs.Change.{change}
use Rattle.hg_model.specs.Verdicts.{has_thread}
use Rattle.hg_rules.proofs.Uses.{has}
use Rattle.hg_rules.proofs.Steps.{has_room, holding, locked, left_by, room_at, lacks, standing_at, slot_in}
use Rattle.hg_rules.proofs.table.ThreadTable.lock.Goals as goal

pub index_mut-requires : goal.index_mut-requires
index_mut-requires c =
    let slots = c.self.inside.slots.items in
    let uses = c.self.inside.uses.items in
    let passes = ap (λ threads. has_thread threads c.args.t has_room) c.self.view_is ∙ c.requires.used in
    let s = standing_at slots uses c.args.t has_room c.self.invariant passes in
    omega (arith, slot_in slots c.args.t s.0 s.1, c.from.ensures, c.self.inside.slots.ok.0)

pub add_at-requires : goal.add_at-requires
add_at-requires c =
    let slots = c.self.inside.slots.items in
    let uses = c.self.inside.uses.items in
    let passes = ap (λ threads. has_thread threads c.args.t has_room) c.self.view_is ∙ c.requires.used in
    let s = standing_at slots uses c.args.t has_room c.self.invariant passes in
    let free = ap (list_any (has c.args.l)) c.self.view_is ∙ c.requires.is_free in
    room_at slots c.args.t c.args.l _ s.0 _ s.1 s.2 (lacks slots c.args.t c.args.l s.0 s.1 free) c.from.ensures c.index_mut.ensures.value

pub invariant_of-self : goal.invariant_of-self
invariant_of-self c =
    let slots = c.self.inside.slots.items in
    let uses = c.self.inside.uses.items in
    let passes = ap (λ threads. has_thread threads c.args.t has_room) c.self.view_is ∙ c.requires.used in
    let s = standing_at slots uses c.args.t has_room c.self.invariant passes in
    let small : c.args.l < 65536 = omega (arith, c.ranges.l.fits) in
    let free = ap (list_any (has c.args.l)) c.self.view_is ∙ c.requires.is_free in
    (left_by (holding c.args.l true) slots uses c.args.t c.args.l _ _ _ _ Writing Writing (locked slots uses c.args.t c.args.l c.self.invariant small passes free)
    c.from.ensures (slot_in slots c.args.t s.0 s.1) c.index_mut.ensures.value c.add_at.ensures c.from-2.ensures refl).0

pub returns : goal.returns
returns c =
    let slots = c.self.inside.slots.items in
    let uses = c.self.inside.uses.items in
    let passes = ap (λ threads. has_thread threads c.args.t has_room) c.self.view_is ∙ c.requires.used in
    let s = standing_at slots uses c.args.t has_room c.self.invariant passes in
    let small : c.args.l < 65536 = omega (arith, c.ranges.l.fits) in
    let free = ap (list_any (has c.args.l)) c.self.view_is ∙ c.requires.is_free in
    (left_by (holding c.args.l true) slots uses c.args.t c.args.l _ _ _ _ Writing Writing (locked slots uses c.args.t c.args.l c.self.invariant small passes free)
    c.from.ensures (slot_in slots c.args.t s.0 s.1) c.index_mut.ensures.value c.add_at.ensures c.from-2.ensures refl).1
    ∙ ap (change c.args.t (holding c.args.l true)) c.self.view_is
