use Rattle.std.proofs.Common.{◌≡◌, sym, ap, ◌∙◌, get_or, None}
use Rattle.std.specs.Option.{option_copied}
use Rattle.hg_model.specs.Verdicts.{has_thread}
use Rattle.hg_model.specs.Change.{locks_of}
use Rattle.hg_rules.specs.Tables.{test_at, counted_at}
use Rattle.hg_rules.proofs.Slots.{found_at, counted_found}
use Rattle.hg_rules.proofs.table.ThreadTable.thread.Goals as goal

pub returns : goal.returns
returns c =
    let at : get_or c.self.inside.slots.items c.args.t None ≡ option_copied c.slot.result =
    ap (λ slots. get_or slots c.args.t None) (sym c.deref.ensures.value) ∙ sym c.slot.ensures in
    record {
      test = λ test. ap (λ threads. has_thread threads c.args.t test) (sym c.self.view_is) ∙ found_at test c.args.t c.self.inside.slots.items c.self.invariant.numbered ∙ ap (test_at test) at;
      counted = λ write. ap (λ threads. locks_of threads c.args.t write) (sym c.self.view_is) ∙ counted_found write c.args.t c.self.inside.slots.items c.self.invariant.numbered ∙ ap (counted_at write) at;
    }
