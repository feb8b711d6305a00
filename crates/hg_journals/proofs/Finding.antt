-- What is found in a file that is read through, and in two of them.
use Rattle.std.proofs.Common.{◌≡◌, inl, inr, ◌≤◌, ◌<◌, ◌+◌, ℕ, Bool, false, List, Result, Ok, Err, IfErr, ◌++◌, length, map, refl, sym, ◌∙◌, ap, subst, arith, length-append}
use Rattle.hg_model.specs.declared.event.Named.{Named}
use Rattle.hg_disk.specs.declared.disk.Disk as disk
use Rattle.hg_disk.specs.State.{DiskState}
use Rattle.hg_disk.proofs.Staying.{then}
use Rattle.hg_gate.specs.Batches.{IsLog, base_front}
use Rattle.hg_gate.specs.Reading.{WasRead}
use Rattle.hg_gate.specs.declared.based.TheConstants.{MAX_BASE}
use Rattle.hg_gate.proofs.Basing.{based_is_open, same_base}
use Rattle.hg_gate.proofs.Opening.{not_closed}
use Rattle.hg_journal.specs.declared.journal.Journal.{Journal}
use Rattle.hg_journal.specs.declared.file.Attached.{Attached}
use Rattle.hg_journal.specs.declared.file.Attached.TheVariants as attached
use Rattle.hg_journal.specs.File.{IsJournalFile, IsSpare, JournalFile, Open, Spare}
use Rattle.hg_journal.specs.File as file
use Rattle.hg_journal.specs.Journal.{IsJournalBehind, batch_text}
use Rattle.hg_journal.specs.Reading.{disk_of}
use Rattle.hg_journal.proofs.Filing.{one_file}
use Rattle.hg_journal.proofs.Journaling.{bytes_now}
use Rattle.hg_journals.specs.Attaching.{HasFewEvents, HasUpTo, IsNoSuchFile}
use Rattle.hg_journals.specs.Journals.{AreJournals, HaveNoJournals}
use Rattle.hg_journals.specs.Pairs.{KeepsFormer, KeepsSome}
use Rattle.hg_journals.specs.declared.pair.JournalPair.{JournalPair}

-- where a log with this base has no events, or too many
pub none_found : (base : ℕ) (bytes : List ℕ) (bodies : List (List ℕ)) → base ≤ MAX_BASE → IsLog (base_front base) bytes bodies
    → ((events : List Named) → IsJournalBehind (base_front base) bytes events → base + length events ≤ MAX_BASE → ⊥) → IsNoSuchFile bytes
none_found base bytes bodies fits log none Spare is few = not_closed bytes (based_is_open base bytes bodies log) is
none_found base bytes bodies fits log none (Open other events) is few =
    let same : base ≡ other = same_base base other bytes bodies (map batch_text is.1.batches) (fits, log) (is.0, is.1.log) in
    none events (subst (λ (n : ℕ). IsJournalBehind (base_front n) bytes events) (sym same) is.1) (omega (arith, same, few))

-- ---- two files

-- the files that are kept together have few events each
few_in_one : (one other : JournalFile) (base : ℕ) (events : List Named) → AreJournals one other base events → base + length events ≤ MAX_BASE → HasFewEvents one
few_in_one Spare other base events are fits = tt
few_in_one (Open n xs) Spare base events are fits = omega (arith, are.0, ap (λ (l : List Named). length l) are.1, fits)
few_in_one (Open n xs) (Open m ys) base events (inl are) fits = omega (arith, are.2, ap (λ (l : List Named). length l) are.3, length-append xs ys, fits)
few_in_one (Open n xs) (Open m ys) base events (inr are) fits = omega (arith, are.0, are.2, ap (λ (l : List Named). length l) are.3, length-append ys xs, fits)

few_in_other : (one other : JournalFile) (base : ℕ) (events : List Named) → AreJournals one other base events → base + length events ≤ MAX_BASE → HasFewEvents other
few_in_other one Spare base events are fits = tt
few_in_other Spare (Open n xs) base events are fits = omega (arith, are.0, ap (λ (l : List Named). length l) are.1, fits)
few_in_other (Open n xs) (Open m ys) base events (inl are) fits = omega (arith, are.0, are.2, ap (λ (l : List Named). length l) are.3, length-append xs ys, fits)
few_in_other (Open n xs) (Open m ys) base events (inr are) fits = omega (arith, are.2, ap (λ (l : List Named). length l) are.3, length-append ys xs, fits)

-- where the one has nothing, both keep nothing
pub first_has_none : (bytes0 bytes1 : List ℕ) → IsNoSuchFile bytes0 → HaveNoJournals bytes0 bytes1
first_has_none bytes0 bytes1 none base events h = none h.one h.one_is (few_in_one h.one h.other base events h.are h.fits)

pub second_has_none : (bytes0 bytes1 : List ℕ) → IsNoSuchFile bytes1 → HaveNoJournals bytes0 bytes1
second_has_none bytes0 bytes1 none base events h = none h.other h.other_is (few_in_other h.one h.other base events h.are h.fits)

-- two files that do not go together
pub apart : (one other : JournalFile) (bytes0 bytes1 : List ℕ) → IsJournalFile bytes0 one → IsJournalFile bytes1 other → ((base : ℕ) (events : List Named) → AreJournals one other base events → ⊥) → HaveNoJournals bytes0 bytes1
apart one other bytes0 bytes1 is_one is_other never base events h =
    let first : h.one ≡ one = one_file bytes0 h.one one h.one_is is_one in
    let second : h.other ≡ other = one_file bytes1 h.other other h.other_is is_other in
    never base events (subst (λ (f : JournalFile). AreJournals f other base events) first (subst (λ (f : JournalFile). AreJournals h.one f base events) second h.are))

-- the same of the disks before
pub none_before : {T E : Type 0} (result : Result T E) (s t before first : DiskState) (P : E → Type 0) → s ≡ before → t ≡ first → IfErr result (λ _. HaveNoJournals s.contents t.contents)
    → IfErr result (λ e. P e → HaveNoJournals before.contents first.contents)
none_before (Ok value) s t before first P is_s is_t none = tt
none_before (Err e) s t before first P is_s is_t none = λ told.
    subst (λ (u : DiskState). HaveNoJournals u.contents first.contents) is_s (subst (λ (u : DiskState). HaveNoJournals s.contents u.contents) is_t none)

module _ {D : Type 0} (g : disk.Ghosts D) where
  -- a file that is found open was read, and is read further
  pub read_on : (n m : ℕ) (d new : D) (found : Attached D g) (base : ℕ) (j : Journal D g) → found ≡ attached.Open base j → WasRead g n d (file.file_after (Ok found)) → WasRead g m (disk_of j) new → WasRead g (n + m) d new
  read_on n m d new found base j is first second =
      let before : WasRead g n d (disk_of j) = subst (λ (f : Attached D g). WasRead g n d (file.file_after (Ok f))) is first in
      let one = before.calls in
      let two = second.calls in
      record { state = second.state ∙ before.state; any_moment = then g d (disk_of j) new before.any_moment second.any_moment; calls = omega (arith, one, two) }

  -- two open files of which the second begins where the first ends
  pub keeps_both : (p : JournalPair D g) → p.has_spare ≡ false → p.is_broken ≡ false → p.base < p.newer_base → HasUpTo p.older p.base p.newer_base → HasUpTo p.newer p.newer_base p.last → KeepsSome p
  keeps_both p open_is works some one other = (
    p.base,
    one.0 ++ other.0,
    record {
      former = one.0;
      current = other.0;
      older = subst (λ (s : Bool). KeepsFormer s p.older p.base one.0) (sym open_is) (one.1, omega (arith, some, one.2));
      newer = other.1;
      whole = refl;
      works = works;
      begins = refl;
      turned_at = one.2;
      ends = omega (arith, one.2, other.2, length-append one.0 other.0);
    },
  )

  -- two open files, neither of which begins where the other ends
  pub none_joins : (j k : Journal D g) (base last next end : ℕ) → base ≤ MAX_BASE → next ≤ MAX_BASE → HasUpTo j base last → HasUpTo k next end → ((last ≡ next) × (base < next) → ⊥) → ((end ≡ base) × (next < base) → ⊥)
      → HaveNoJournals (g.state (disk_of j)).contents (g.state (disk_of k)).contents
  none_joins j k base last next end fits fits_too one other not_first not_second =
      apart (Open base one.0) (Open next other.0) (g.state (disk_of j)).contents (g.state (disk_of k)).contents (fits, bytes_now g (base_front base) j one.0 one.1) (fits_too, bytes_now g (base_front next) k other.0 other.1) never
    where
      never : (first : ℕ) (all : List Named) → AreJournals (Open base one.0) (Open next other.0) first all → ⊥
      never first all (inl are) = not_first (omega (arith, one.2, are.0), are.1)
      never first all (inr are) = not_second (omega (arith, other.2, are.0), are.1)

  -- two spare files
  pub both_spare : (j k : Journal D g) → IsSpare j → IsSpare k → HaveNoJournals (g.state (disk_of j)).contents (g.state (disk_of k)).contents
  both_spare j k one other = apart Spare Spare (g.state (disk_of j)).contents (g.state (disk_of k)).contents one.reads.closed other.reads.closed (λ base events are. are)
