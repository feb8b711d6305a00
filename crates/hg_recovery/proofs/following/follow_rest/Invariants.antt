use Rattle.std.proofs.Common.{◌≡◌, ◌+◌, ◌≤◌, ◌^◌, ◌⊎◌, List, false, IsTrue, ℕ}
use Rattle.hg_model.specs.declared.event.Named.{Named}
use Rattle.hg_detect.specs.Engine.{AtPresent}
use Rattle.hg_journals.specs.Pairs.{Keeps, StaysKept, failures}
use Rattle.hg_journals.specs.Reading.{IsAt}
use Rattle.hg_pool.specs.Kept.{IsFaithful, Went}
use Rattle.hg_pool.specs.Maps as pools
use Rattle.hg_pool.specs.OfWords.{MayBring}
use Rattle.hg_recovery.specs.Replaying.{PairWasRead}
use Rattle.hg_recovery.proofs.Replaying.{HasFollowed, content_in}
use Rattle.hg_recovery.proofs.following.follow_rest.Given as goal

abbrev pub invariant-loop-number : goal.invariant-loop-number
invariant-loop-number g l = record {
  files : PairWasRead l._number l.fn.journals l.journals;
  keeps : StaysKept l.fn.journals l.journals;
  lawful : AtPresent MayBring l.detector;
  unbroken : pools.is_broken l.detector.words ≡ false;
  faithful : AtPresent (IsFaithful g.D.Disk) l.fn.detector → AtPresent (IsFaithful g.D.Disk) l.detector;
  went : Went g.D.Disk l.fn.detector.words l.detector.words;
  failures : failures l.journals + g.D.Disk.failures (pools.disk_of l.detector.words) ≡ failures l.fn.journals + g.D.Disk.failures (pools.disk_of l.fn.detector.words);
  read : (base : ℕ) (events seen : List Named) → IsTrue g.D.Disk.is_honest → Keeps l.fn.journals base events → IsAt l.fn.journals l.fn.reader seen → AtPresent (IsFaithful g.D.Disk) l.fn.detector
      → HasFollowed g.D.Disk l.journals l.reader seen l.fn.detector l.detector;
  few : AtPresent (IsFaithful g.D.Disk) l.fn.detector → ((content_in g.D.Disk l.detector).events ≡ (content_in g.D.Disk l.fn.detector).events + l._number) × ((l._number ≡ 0) ⊎ ((content_in g.D.Disk l.detector).events ≤ 2 ^ 58));
}
