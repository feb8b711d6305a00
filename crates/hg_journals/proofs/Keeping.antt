-- What two journal files keep, and what the files of a pair have.
use Rattle.std.proofs.Common.{◌≡◌, inl, inr, ◌≤◌, ◌+◌, ℕ, Bool, true, false, List, [], ◌++◌, length, refl, sym, ◌∙◌, ap, subst, arith, length-append}
use Rattle.hg_model.specs.declared.event.Named.{Named}
use Rattle.hg_disk.specs.declared.disk.Disk as disk
use Rattle.hg_disk.specs.Moments.{Leaves}
use Rattle.hg_disk.specs.State.{DiskState, IsImage}
use Rattle.hg_gate.specs.Batches.{IsClosed, base_front}
use Rattle.hg_gate.specs.declared.based.TheConstants.{MAX_BASE}
use Rattle.hg_journal.specs.declared.journal.Journal.{Journal}
use Rattle.hg_journal.specs.File.{IsJournalFile, JournalFile, Open, Spare}
use Rattle.hg_journal.specs.Journal.{IsJournalBehind}
use Rattle.hg_journal.specs.Reading.{disk_of}
use Rattle.hg_journal.proofs.Filing.{one_file}
use Rattle.hg_journal.proofs.Journaling.{bytes_now, each_image_has}
use Rattle.hg_journals.specs.Journals.{AreJournals, HaveJournals, KeepOnce}
use Rattle.hg_journals.specs.Pairs.{KeepsFormer}

-- ---- two files

are_once : (one other : JournalFile) (base base' : ℕ) (events events' : List Named) → AreJournals one other base events → AreJournals one other base' events' → (base ≡ base') × (events ≡ events')
are_once Spare Spare base base' events events' a b = absurd a
are_once (Open n xs) Spare base base' events events' a b = (a.0 ∙ sym b.0, a.1 ∙ sym b.1)
are_once Spare (Open n xs) base base' events events' a b = (a.0 ∙ sym b.0, a.1 ∙ sym b.1)
are_once (Open n xs) (Open m ys) base base' events events' (inl a) (inl b) = (a.2 ∙ sym b.2, a.3 ∙ sym b.3)
are_once (Open n xs) (Open m ys) base base' events events' (inr a) (inr b) = (a.2 ∙ sym b.2, a.3 ∙ sym b.3)
are_once (Open n xs) (Open m ys) base base' events events' (inl a) (inr b) = absurd (omega (arith, a.1, b.1))
are_once (Open n xs) (Open m ys) base base' events events' (inr a) (inl b) = absurd (omega (arith, a.1, b.1))

-- They keep one base and one list of events.
pub once : (bytes0 bytes1 : List ℕ) → KeepOnce bytes0 bytes1
once bytes0 bytes1 base other events others a b =
    let first : b.one ≡ a.one = one_file bytes0 b.one a.one b.one_is a.one_is in
    let second : b.other ≡ a.other = one_file bytes1 b.other a.other b.other_is a.other_is in
    are_once a.one a.other base other events others a.are (subst (λ (f : JournalFile). AreJournals f a.other other others) first (subst (λ (f : JournalFile). AreJournals b.one f other others) second b.are))

-- whichever comes first
are_swapped : (one other : JournalFile) (base : ℕ) (events : List Named) → AreJournals one other base events → AreJournals other one base events
are_swapped Spare Spare base events a = a
are_swapped (Open n xs) Spare base events a = a
are_swapped Spare (Open n xs) base events a = a
are_swapped (Open n xs) (Open m ys) base events (inl a) = inr a
are_swapped (Open n xs) (Open m ys) base events (inr a) = inl a

pub swapped : (base : ℕ) (events : List Named) (bytes0 bytes1 : List ℕ) → HaveJournals base events bytes0 bytes1 → HaveJournals base events bytes1 bytes0
swapped base events bytes0 bytes1 h = record {
  one = h.other;
  other = h.one;
  one_is = h.other_is;
  other_is = h.one_is;
  are = are_swapped h.one h.other base events h.are;
  fits = h.fits;
}

-- ---- the files of a pair

-- the file that is not the current one
abbrev pub file_of : Bool → ℕ → List Named → JournalFile
file_of true base former = Spare
file_of false base former = Open base former

-- its events: none if it is spare, one at least if it is not
abbrev pub IsFormer : Bool → List Named → Type 0
IsFormer true former = former ≡ []
IsFormer false former = 1 ≤ length former

are_kept : (spare : Bool) (base next : ℕ) (former later : List Named) → IsFormer spare former → next ≡ base + length former → AreJournals (file_of spare base former) (Open next later) base (former ++ later)
are_kept true base next former later none at = (omega (arith, ap (λ (l : List Named). length l) none, at), ap (λ (l : List Named). l ++ later) none)
are_kept false base next former later some at = inl (at, omega (arith, some, at), refl, refl)

-- what the two files of a pair have
pub have : (spare : Bool) (base next : ℕ) (former later all : List Named) (bytes0 bytes1 : List ℕ) → IsFormer spare former → next ≡ base + length former → all ≡ former ++ later → base + length all ≤ MAX_BASE
    → IsJournalFile bytes0 (file_of spare base former) → IsJournalBehind (base_front next) bytes1 later → HaveJournals base all bytes0 bytes1
have spare base next former later all bytes0 bytes1 rule at whole fits one other =
    let sum : length all ≡ length former + length later = ap (λ (l : List Named). length l) whole ∙ length-append former later in
    let small : next ≤ MAX_BASE = omega (arith, at, sum, fits) in
    record {
      one = file_of spare base former;
      other = Open next later;
      one_is = one;
      other_is = (small, other);
      are = subst (λ (l : List Named). AreJournals (file_of spare base former) (Open next later) base l) (sym whole) (are_kept spare base next former later rule at);
      fits = fits;
    }

module _ {D : Type 0} (g : disk.Ghosts D) where
  pub is_former : (spare : Bool) (j : Journal D g) (base : ℕ) (former : List Named) → KeepsFormer spare j base former → IsFormer spare former
  is_former true j base former k = k.1
  is_former false j base former k = k.1

  -- each image of the file that is not the current one
  pub former_leaves : (spare : Bool) (j : Journal D g) (base : ℕ) (former : List Named) → base ≤ MAX_BASE → KeepsFormer spare j base former
      → Leaves (λ image. IsJournalFile image (file_of spare base former)) (g.state (disk_of j))
  former_leaves true j base former fits k image is =
      let same : image ≡ (g.state (disk_of j)).contents = (subst (λ (s : DiskState). IsImage s image) k.0.durable is).clean refl in
      subst IsClosed (sym same) k.0.reads.closed
  former_leaves false j base former fits k image is = (fits, each_image_has g (base_front base) j former k.0 image is)

  -- what a read of it gives
  pub former_reads : (spare : Bool) (j : Journal D g) (base : ℕ) (former : List Named) → base ≤ MAX_BASE → KeepsFormer spare j base former → IsJournalFile (g.state (disk_of j)).contents (file_of spare base former)
  former_reads true j base former fits k = k.0.reads.closed
  former_reads false j base former fits k = (fits, bytes_now g (base_front base) j former k.0)
