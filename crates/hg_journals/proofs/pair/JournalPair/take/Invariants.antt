use Rattle.std.proofs.Common.{◌≡◌, ◌+◌, ◌++◌, ℕ, IsTrue, List, length, false, Ok}
use Rattle.hg_model.specs.declared.event.Named.{Named}
use Rattle.hg_journals.specs.Pairs.{Keeps, ReadsWereTrue, StaysKept, is_broken}
use Rattle.hg_journals.specs.Reading.{IsAt, Reads}
use Rattle.hg_journals.proofs.pair.JournalPair.take.Given as goal

abbrev pub invariant-loop-left : goal.invariant-loop-left
invariant-loop-left g l = record {
  works : is_broken l.self ≡ false;
  size : length l.found.items + l.left ≡ l.fn.count;
  reads : Reads (length l.found.items) l.fn.self l.self (Ok l.left);
  keeps : StaysKept l.fn.self l.self;
  read : (base : ℕ) (events seen : List Named) → ReadsWereTrue l.self → Keeps l.fn.self base events → IsAt l.fn.self l.fn.reader seen → IsAt l.self l.reader (seen ++ l.found.items);
  older : IsTrue l.fn.reader.in_newer → (l.self.older ≡ l.fn.self.older) × IsTrue l.reader.in_newer;
}

abbrev pub decreases-loop-left : goal.decreases-loop-left
decreases-loop-left g l = l.left
