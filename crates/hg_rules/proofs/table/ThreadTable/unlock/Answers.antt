use Rattle.std.proofs.Common.{◌-◌, ◌<◌, ap, ◌∙◌, arith, get_or}
use Rattle.hg_rules.specs.declared.table.LockUse.TheVariants.{Reading, Writing}
use Rattle.hg_model.specs.Change.{change}
use Rattle.hg_model.specs.Verdicts.{has_thread}
use Rattle.hg_rules.specs.Tables.{readers_in}
use Rattle.hg_rules.proofs.Uses.{has}
use Rattle.hg_rules.proofs.Steps.{giving, unlocked, left_by, entry_read, standing_at, slot_in}
use Rattle.hg_rules.proofs.table.ThreadTable.unlock.Goals as goal

pub index_mut-requires : goal.index_mut-requires
index_mut-requires c =
    let slots = c.self.inside.slots.items in
    let uses = c.self.inside.uses.items in
    let passes = ap (λ threads. has_thread threads c.args.t (has c.args.l)) c.self.view_is ∙ c.requires in
    let s = standing_at slots uses c.args.t (has c.args.l) c.self.invariant passes in
    omega (arith, slot_in slots c.args.t s.0 s.1, c.from.ensures, c.self.inside.slots.ok.0)

pub invariant_of-self : goal.invariant_of-self
invariant_of-self c =
    let slots = c.self.inside.slots.items in
    let uses = c.self.inside.uses.items in
    let passes = ap (λ threads. has_thread threads c.args.t (has c.args.l)) c.self.view_is ∙ c.requires in
    let s = standing_at slots uses c.args.t (has c.args.l) c.self.invariant passes in
    let small : c.args.l < 65536 = omega (arith, c.ranges.l.fits) in
    let len = c.self.invariant.uses_len in
    (left_by (giving c.args.l) slots uses c.args.t c.args.l _ _ _ _ _ (Reading (readers_in (get_or uses c.args.l Writing) - 1)) (unlocked slots uses c.args.t c.args.l c.self.invariant small passes)
    c.from.ensures (slot_in slots c.args.t s.0 s.1) c.index_mut.ensures.value c.remove_at.ensures c.from-3.ensures
    (ap Reading (c.saturating_sub.ensures ∙ ap (λ n. n - 1) (c.readers_of-readers.ensures ∙ ap readers_in (entry_read uses _ c.args.l _ c.from-2.ensures (omega arith) c.index.ensures))))).0

pub returns : goal.returns
returns c =
    let slots = c.self.inside.slots.items in
    let uses = c.self.inside.uses.items in
    let passes = ap (λ threads. has_thread threads c.args.t (has c.args.l)) c.self.view_is ∙ c.requires in
    let s = standing_at slots uses c.args.t (has c.args.l) c.self.invariant passes in
    let small : c.args.l < 65536 = omega (arith, c.ranges.l.fits) in
    let len = c.self.invariant.uses_len in
    (left_by (giving c.args.l) slots uses c.args.t c.args.l _ _ _ _ _ (Reading (readers_in (get_or uses c.args.l Writing) - 1)) (unlocked slots uses c.args.t c.args.l c.self.invariant small passes)
    c.from.ensures (slot_in slots c.args.t s.0 s.1) c.index_mut.ensures.value c.remove_at.ensures c.from-3.ensures
    (ap Reading (c.saturating_sub.ensures ∙ ap (λ n. n - 1) (c.readers_of-readers.ensures ∙ ap readers_in (entry_read uses _ c.args.l _ c.from-2.ensures (omega arith) c.index.ensures))))).1
    ∙ ap (change c.args.t (giving c.args.l)) c.self.view_is
