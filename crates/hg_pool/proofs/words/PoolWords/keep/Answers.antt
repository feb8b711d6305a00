use Rattle.std.proofs.Common.{arith}
use Rattle.hg_pool.specs.OfWords.{IsSettled}
use Rattle.hg_pool.proofs.Overlapping.{at_first, at_last}
use Rattle.hg_pool.proofs.words.PoolWords.keep.Goals as goal

pub returns-clause-again : goal.returns-clause-again
returns-clause-again g c ready =
    c.keep_both.ensures.again
    (at_first (λ n. IsSettled c.args.self.now n) c.args.at c.args.len c.pages_of-first.result.0 c.requires.some c.pages_of-first.ensures.first (λ w is. (ready w is).1))
    (at_last (λ n. IsSettled c.args.self.now n) c.args.at c.args.len c.pages_of-first.result.1 c.requires.some (omega (arith, c.from.ensures, c.pages_of-first.ensures.last)) (λ w is. (ready w is).1))
