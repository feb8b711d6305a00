use Rattle.std.proofs.Common.{◌∙◌, ℕ, List, sym, ap, subst}
use Rattle.hg_pool.specs.Kept.{AreWithin}
use Rattle.hg_pool.specs.Shown.{Frame, ShownPool}
use Rattle.hg_test_pools.proofs.checkpoint.end.Goals as goal

pub returns-in_err-seal : goal.returns-in_err-seal
returns-in_err-seal g c n m within =
    let same = ap (λ (p : ShownPool g.row.D.Denot). p.frames) c.seal.ensures.rest in
    subst (λ (frames : List (ℕ × Frame)). AreWithin frames n m) (sym same) (c.write_waiting.ensures n m within)

pub returns : goal.returns
returns g c n m within =
    let same = ap (λ (p : ShownPool g.row.D.Denot). p.frames) c.root_opened.ensures ∙ ap (λ (p : ShownPool g.row.D.Denot). p.frames) c.seal.ensures.rest in
    subst (λ (frames : List (ℕ × Frame)). AreWithin frames n m) (sym same) (c.write_waiting.ensures n m within)
