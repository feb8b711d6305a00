use Rattle.std.proofs.Common.{◌+◌, ◌<◌, false, ap, ◌∙◌, arith, get_or}
use Rattle.std.specs.List.{list_any}
use Rattle.hg_rules.specs.declared.table.LockUse.TheVariants.{Reading, Writing}
use Rattle.hg_model.specs.Change.{change}
use Rattle.hg_model.specs.Verdicts.{has_thread}
use Rattle.hg_rules.specs.Tables.{readers_in}
use Rattle.hg_rules.proofs.Uses.{has, writes}
use Rattle.hg_rules.proofs.Steps.{has_room, holding, read_locked, few_readers, left_by, room_at, entry_read, lacks_at, standing_at, slot_in}
use Rattle.hg_rules.proofs.table.ThreadTable.read_lock.Goals as goal

pub index_mut-requires : goal.index_mut-requires
index_mut-requires c =
    let slots = c.self.inside.slots.items in
    let uses = c.self.inside.uses.items in
    let passes = ap (λ threads. has_thread threads c.args.t has_room) c.self.view_is ∙ c.requires.used in
    let s = standing_at slots uses c.args.t has_room c.self.invariant passes in
    omega (arith, slot_in slots c.args.t s.0 s.1, c.from.ensures, c.self.inside.slots.ok.0)

pub add_at-requires : goal.add_at-requires
add_at-requires c =
    let slots = c.self.inside.slots.items in
    let uses = c.self.inside.uses.items in
    let passes = ap (λ threads. has_thread threads c.args.t has_room) c.self.view_is ∙ c.requires.used in
    let s = standing_at slots uses c.args.t has_room c.self.invariant passes in
    let absent = ap (λ threads. has_thread threads c.args.t (has c.args.l)) c.self.view_is ∙ c.requires.absent in
    room_at slots c.args.t c.args.l _ s.0 _ s.1 s.2 (lacks_at slots uses c.args.t c.args.l s.0 c.self.invariant s.1 absent) c.from.ensures c.index_mut.ensures.value

pub overflow_add-readers : goal.overflow_add-readers
overflow_add-readers c =
    let slots = c.self.inside.slots.items in
    let uses = c.self.inside.uses.items in
    let small : c.args.l < 65536 = omega (arith, c.ranges.l.fits) in
    let len = c.self.invariant.uses_len in
    let alone = ap (list_any (writes c.args.l)) c.self.view_is ∙ c.requires.no_writer in
    let few = few_readers slots uses c.args.l c.self.invariant small alone in
    let is = c.readers_of-readers.ensures ∙ ap readers_in (entry_read uses _ c.args.l _ c.from-2.ensures (omega arith) c.index.ensures) in
    omega arith

pub invariant_of-self : goal.invariant_of-self
invariant_of-self c =
    let slots = c.self.inside.slots.items in
    let uses = c.self.inside.uses.items in
    let passes = ap (λ threads. has_thread threads c.args.t has_room) c.self.view_is ∙ c.requires.used in
    let s = standing_at slots uses c.args.t has_room c.self.invariant passes in
    let small : c.args.l < 65536 = omega (arith, c.ranges.l.fits) in
    let absent = ap (λ threads. has_thread threads c.args.t (has c.args.l)) c.self.view_is ∙ c.requires.absent in
    let alone = ap (list_any (writes c.args.l)) c.self.view_is ∙ c.requires.no_writer in
    let len = c.self.invariant.uses_len in
    (left_by (holding c.args.l false) slots uses c.args.t c.args.l _ _ _ _ _ (Reading (readers_in (get_or uses c.args.l Writing) + 1)) (read_locked slots uses c.args.t c.args.l c.self.invariant small passes absent alone)
    c.from.ensures (slot_in slots c.args.t s.0 s.1) c.index_mut.ensures.value c.add_at.ensures c.from-3.ensures
    (ap (λ n. Reading (n + 1)) (c.readers_of-readers.ensures ∙ ap readers_in (entry_read uses _ c.args.l _ c.from-2.ensures (omega arith) c.index.ensures)))).0

pub returns : goal.returns
returns c =
    let slots = c.self.inside.slots.items in
    let uses = c.self.inside.uses.items in
    let passes = ap (λ threads. has_thread threads c.args.t has_room) c.self.view_is ∙ c.requires.used in
    let s = standing_at slots uses c.args.t has_room c.self.invariant passes in
    let small : c.args.l < 65536 = omega (arith, c.ranges.l.fits) in
    let absent = ap (λ threads. has_thread threads c.args.t (has c.args.l)) c.self.view_is ∙ c.requires.absent in
    let alone = ap (list_any (writes c.args.l)) c.self.view_is ∙ c.requires.no_writer in
    let len = c.self.invariant.uses_len in
    (left_by (holding c.args.l false) slots uses c.args.t c.args.l _ _ _ _ _ (Reading (readers_in (get_or uses c.args.l Writing) + 1)) (read_locked slots uses c.args.t c.args.l c.self.invariant small passes absent alone)
    c.from.ensures (slot_in slots c.args.t s.0 s.1) c.index_mut.ensures.value c.add_at.ensures c.from-3.ensures
    (ap (λ n. Reading (n + 1)) (c.readers_of-readers.ensures ∙ ap readers_in (entry_read uses _ c.args.l _ c.from-2.ensures (omega arith) c.index.ensures)))).1
    ∙ ap (change c.args.t (holding c.args.l false)) c.self.view_is
