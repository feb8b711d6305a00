use Rattle.std.proofs.Common.{◌≡◌, ℕ, ◌<◌, ap, ◌∙◌, get_or, arith, List, length}
use Rattle.std.proofs.lemmas.List.{get_or_read}
use Rattle.hg_model.specs.declared.thread.ThreadState.{ThreadState}
use Rattle.hg_rules.specs.declared.table.LockUse.{LockUse}
use Rattle.hg_rules.specs.declared.table.LockUse.TheVariants.{Writing}
use Rattle.hg_rules.specs.Tables.{use_of}
use Rattle.hg_rules.proofs.table.ThreadTable.lock_use.Goals as goal

read : (uses : List LockUse) (l i : ℕ) (u : LockUse) → l < 65536 → length uses ≡ 65536 → i ≡ l → u ≡ get_or uses i u → u ≡ get_or uses l Writing
read uses l i u lt len is h = get_or_read uses i u (omega arith) h Writing ∙ ap (λ (n : ℕ). get_or uses n Writing) is

pub returns : goal.returns
returns c =
    let small : c.args.l < 65536 = omega (arith, c.ranges.l.fits) in
    read c.self.inside.uses.items c.args.l _ _ small c.self.invariant.uses_len c.from.ensures c.index.ensures
    ∙ c.self.invariant.each_use c.args.l small ∙ ap (λ (threads : List ThreadState). use_of threads c.args.l) c.self.view_is
