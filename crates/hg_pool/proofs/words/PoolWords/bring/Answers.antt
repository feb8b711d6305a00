use Rattle.std.proofs.Common.{◌≡◌, ◌/◌, ◌∙◌, true, is_some, ap, sym, subst, arith}
use Rattle.hg_pool.specs.Maps.{frame_in}
use Rattle.hg_pool.specs.OfWords.{IsSettled}
use Rattle.hg_pool.specs.Shown.{ShownPool}
use Rattle.hg_pool.proofs.Overlapping.{at_first, at_last}
use Rattle.hg_pool.proofs.words.PoolWords.bring.Goals as goal

pub returns-clause-again : goal.returns-clause-again
returns-clause-again g c ready =
    (c.load_both.ensures.again (
      at_first (λ n. is_some (frame_in c.args.self.now.frames n) ≡ true) c.args.at c.args.len c.pages_of-first.result.0 c.requires.some c.pages_of-first.ensures.first ready,
      at_last (λ n. is_some (frame_in c.args.self.now.frames n) ≡ true) c.args.at c.args.len c.pages_of-first.result.1 c.requires.some (omega (arith, c.from.ensures, c.pages_of-first.ensures.last)) ready,
    )).0

pub returns-clause-stay : goal.returns-clause-stay
returns-clause-stay g c ready w kept =
    let same = c.load_both.ensures.again (
      at_first (λ n. is_some (frame_in c.args.self.now.frames n) ≡ true) c.args.at c.args.len c.pages_of-first.result.0 c.requires.some c.pages_of-first.ensures.first ready,
      at_last (λ n. is_some (frame_in c.args.self.now.frames n) ≡ true) c.args.at c.args.len c.pages_of-first.result.1 c.requires.some (omega (arith, c.from.ensures, c.pages_of-first.ensures.last)) ready,
    ) in
    (ap is_some (same.1.1 (w / 256)) ∙ kept.0, subst (λ (p : ShownPool g.row.D.Denot). IsSettled p (w / 256)) (sym same.1.0) kept.1)
