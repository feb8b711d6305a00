use Rattle.std.proofs.Common.{◌≡◌, ℕ, true, false, List, [], sym, refl, ap, ◌∙◌, subst, set, Option, Some, nat_eq}
use Rattle.std.specs.List.{list_any}
use Rattle.hg_model.specs.declared.thread.ThreadState.{ThreadState}
use Rattle.hg_model.specs.Change.{with_thread}
use Rattle.hg_rules.specs.Tables.{started, TablesAgree}
use Rattle.hg_rules.proofs.Steps.{added}
use Rattle.hg_rules.proofs.table.ThreadTable.start.Goals as goal

-- the place and the locks are those that were asked for
placed : (slots : List (Option ThreadState)) (i t : ℕ) (hs : _) → i ≡ t → hs ≡ [] →
    set slots i (Some (record { number = t; alive = true; held = hs })) ≡ set slots t (Some (record { number = t; alive = true; held = [] }))
placed slots i t hs is none = λ j. set slots (is j) (Some (record { number = t; alive = true; held = none j }))

abbrev pub fresh_in : (c : goal.After-self-1) → list_any (λ x. nat_eq x.number c.args.c) (started c.self.inside.slots.items) ≡ false
fresh_in c = ap (list_any (λ (x : ThreadState). nat_eq x.number c.args.c)) c.self.view_is ∙ c.requires.fresh

pub invariant_of-self : goal.invariant_of-self
invariant_of-self c =
    let slots = c.self.inside.slots.items in
    subst (λ s. TablesAgree s c.self.inside.uses.items) (sym (placed slots c.from.result c.args.c c.new.result c.from.ensures c.new.ensures))
    (added slots c.self.inside.uses.items c.args.c (record { number = c.args.c; alive = true; held = [] }) c.self.invariant c.requires.number (fresh_in c) refl refl).0

pub returns : goal.returns
returns c =
    let slots = c.self.inside.slots.items in
    ap started (placed slots c.from.result c.args.c c.new.result c.from.ensures c.new.ensures)
    ∙ (added slots c.self.inside.uses.items c.args.c (record { number = c.args.c; alive = true; held = [] }) c.self.invariant c.requires.number (fresh_in c) refl refl).1
    ∙ ap (with_thread (record { number = c.args.c; alive = true; held = [] })) c.self.view_is
