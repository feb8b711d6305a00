-- What a crash leaves of the two files of a pair.
use Rattle.std.proofs.Common.{◌≡◌, ◌≤◌, ◌+◌, ℕ, Bool, true, false, not, List, ◌++◌, length, arith, if◌then◌else◌}
use Rattle.hg_model.specs.declared.event.Named.{Named}
use Rattle.hg_disk.specs.declared.disk.Disk as disk
use Rattle.hg_disk.specs.Moments.{LeavesOnly}
use Rattle.hg_disk.proofs.Moments.{may_leave, started}
use Rattle.hg_gate.specs.Batches.{base_front}
use Rattle.hg_gate.specs.declared.based.TheConstants.{MAX_BASE}
use Rattle.hg_journal.specs.File.{IsJournalFile}
use Rattle.hg_journal.specs.Journal.{IsJournalBehind}
use Rattle.hg_journal.proofs.Journaling.{bytes_now, each_image_has}
use Rattle.hg_journals.specs.Journals.{HaveJournals}
use Rattle.hg_journals.specs.Pairs.{EachImage, EachPair, Keeps, first_of, newer, older, second_of}
use Rattle.hg_journals.specs.declared.pair.JournalPair.{JournalPair}
use Rattle.hg_journals.proofs.Keeping.{file_of, former_leaves, former_reads, have, is_former, swapped}

module _ {D : Type 0} (g : disk.Ghosts D) where
  -- two disks, each with what it leaves
  pub both : (a b c d : D) (P Q : List ℕ → Type 0) (R : List ℕ → List ℕ → Type 0) → LeavesOnly g a b P → LeavesOnly g c d Q → ((one other : List ℕ) → P one → Q other → R one other) → EachImage g a b c d R
  both a b c d P Q R first second joins = record {
    first_goes = (first.later, first.has_gone, first.kept);
    second_goes = (second.later, second.has_gone, second.kept);
    each = λ one other may_one may_other. joins one other (may_leave g a b P one first may_one) (may_leave g c d Q other second may_other);
  }

  -- in the order of the files: a is the file that is not the current one, and becomes b; c is the current one, and becomes d
  pub in_order : (turned : Bool) (a b c d : D) (P Q : List ℕ → Type 0) (R : List ℕ → List ℕ → Type 0) → LeavesOnly g a b P → LeavesOnly g c d Q → ((one other : List ℕ) → P one → Q other → R one other × R other one)
      → EachImage g (if turned then c else a) (if turned then d else b) (if turned then a else c) (if turned then b else d) R
  in_order false a b c d P Q R first second joins = both a b c d P Q R first second (λ one other p q. (joins one other p q).0)
  in_order true a b c d P Q R first second joins = both c d a b Q P R second first (λ one other q p. (joins other one p q).1)

  -- the same where the files take turns
  pub in_turn : (turned : Bool) (a b c d : D) (P Q : List ℕ → Type 0) (R : List ℕ → List ℕ → Type 0) → LeavesOnly g a b P → LeavesOnly g c d Q → ((one other : List ℕ) → P one → Q other → R one other × R other one)
      → EachImage g (if turned then c else a) (if not turned then b else d) (if turned then a else c) (if not turned then d else b) R
  in_turn false a b c d P Q R first second joins = both a b c d P Q R first second (λ one other p q. (joins one other p q).0)
  in_turn true a b c d P Q R first second joins = both c d a b Q P R second first (λ one other q p. (joins other one p q).1)

  -- ---- a pair that keeps events

  module _ (p : JournalPair D g) (base : ℕ) (events : List Named) (k : Keeps p base events) where
    pub small : base + length events ≤ MAX_BASE
    small = omega (arith, p.fits, k.ends)

    pub small_base : base ≤ MAX_BASE
    small_base = omega (arith, small)

    -- in either order
    pub either_way : (later all : List Named) (one other : List ℕ) → all ≡ k.former ++ later → base + length all ≤ MAX_BASE → IsJournalFile one (file_of p.has_spare base k.former) → IsJournalBehind (base_front p.newer_base) other later
        → HaveJournals base all one other × HaveJournals base all other one
    either_way later all one other whole fits is_one is_other =
        let h = have p.has_spare base p.newer_base k.former later all one other (is_former g p.has_spare p.older base k.former k.older) k.turned_at whole fits is_one is_other in
        (h, swapped base all one other h)

    pub older_stays : LeavesOnly g (older p) (older p) (λ image. IsJournalFile image (file_of p.has_spare base k.former))
    older_stays = started g (older p) (λ image. IsJournalFile image (file_of p.has_spare base k.former)) (former_leaves g p.has_spare p.older base k.former small_base k.older)

    pub newer_stays : LeavesOnly g (newer p) (newer p) (λ image. IsJournalBehind (base_front p.newer_base) image k.current)
    newer_stays = started g (newer p) (λ image. IsJournalBehind (base_front p.newer_base) image k.current) (each_image_has g (base_front p.newer_base) p.newer k.current k.newer)

    -- what a read gives
    pub reads : HaveJournals base events (g.state (first_of p)).contents (g.state (second_of p)).contents
    reads =
        let h = either_way k.current events (g.state (older p)).contents (g.state (newer p)).contents k.whole small (former_reads g p.has_spare p.older base k.former small_base k.older) (bytes_now g (base_front p.newer_base) p.newer k.current k.newer) in
        by_order p.is_turned h
      where
        by_order : (turned : Bool) → HaveJournals base events (g.state (older p)).contents (g.state (newer p)).contents × HaveJournals base events (g.state (newer p)).contents (g.state (older p)).contents
            → HaveJournals base events (g.state (if turned then newer p else older p)).contents (g.state (if turned then older p else newer p)).contents
        by_order false h = h.0
        by_order true h = h.1

    -- no call was made
    pub stays : EachPair p p (HaveJournals base events)
    stays =
        in_order p.is_turned (older p) (older p) (newer p) (newer p) (λ image. IsJournalFile image (file_of p.has_spare base k.former)) (λ image. IsJournalBehind (base_front p.newer_base) image k.current) (HaveJournals base events) older_stays newer_stays
        (λ one other. either_way k.current events one other k.whole small)
