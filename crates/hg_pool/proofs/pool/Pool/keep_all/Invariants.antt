use Rattle.std.proofs.Common.{◌≡◌, ◌<◌, ◌≤◌, ℕ}
use Rattle.hg_pool.specs.Kept.{Stays}
use Rattle.hg_pool.specs.Calls.{KeepsCopies}
use Rattle.hg_pool.specs.OfWords.{IsSettled}
use Rattle.hg_pool.proofs.pool.Pool.keep_all.Given as goal

abbrev pub invariant-loop-page : goal.invariant-loop-page
invariant-loop-page g l = record {
  stays : Stays g.D.Disk l.fn.self l.self;
  rest : l.self ≡ record l.fn.self { copies = l.self.copies };
  kept : (q : ℕ) → l.first ≤ q → q < l.page → IsSettled l.self q;
  others : KeepsCopies l.fn.self.copies l.self.copies;
}
