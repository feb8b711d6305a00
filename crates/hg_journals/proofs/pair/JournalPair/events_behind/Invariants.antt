use Rattle.std.proofs.Common.{◌≡◌, ◌≤◌, ◌+◌, ◌-◌, List, length, false, IsTrue, Ok}
use Rattle.hg_model.specs.declared.event.Named.{Named}
use Rattle.hg_journals.specs.Collecting.{IfKeeps}
use Rattle.hg_journals.specs.Pairs.{Keeps, base_of, is_broken, newer_base_of}
use Rattle.hg_journals.specs.Reading.{IsAt, Reads}
use Rattle.hg_journals.proofs.pair.JournalPair.events_behind.Given as goal

abbrev pub invariant-loop-left : goal.invariant-loop-left
invariant-loop-left g l = record {
  works : is_broken l.self ≡ false;
  few : l.left ≤ l.fn.count - base_of l.fn.self;
  reads : Reads ((l.fn.count - base_of l.fn.self) - l.left) l.fn.self l.self (Ok l.left);
  read : IfKeeps l.fn.self l.self (λ base events. Keeps l.self base events × (seen : List Named) × (base + (length seen + l.left) ≡ l.fn.count) × IsAt l.self l.reader seen);
  older : newer_base_of l.fn.self ≤ l.fn.count → (l.self.older ≡ l.fn.self.older) × IsTrue l.reader.in_newer;
}

abbrev pub decreases-loop-left : goal.decreases-loop-left
decreases-loop-left g l = l.left
