-- A pair made on two empty disks, or of two files.
use Rattle.std.specs.Prelude.{IsTrue, ◌≡◌, ◌⊎◌, ◌+◌, ℕ, List, [], ◌∷◌, ◌++◌, Result, Ok, Err}
use Rattle.hg_model.specs.declared.verdict.Refusal.{Refusal}
use Rattle.hg_model.specs.declared.verdict.Refusal.TheVariants.{Damaged}
use Rattle.hg_disk.specs.State.{IsDurable, counted, settled}
use Rattle.hg_disk.specs.declared.disk.Disk as disk
use Rattle.hg_gate.specs.Batches.{base_front, closed_gate}
use Rattle.hg_journal.specs.Journal.{after_refusal}
use Rattle.hg_journals.specs.Journals.{HaveNoJournals}
use Rattle.hg_journals.specs.Pairs.{failures, first_of, second_of}
use Rattle.hg_journals.specs.declared.pair.JournalPair.{JournalPair}

-- the bytes of an open file with the base 0 and no events, and those of a spare one
abbrev pub first_bytes : List ℕ
first_bytes = base_front 0 ++ closed_gate ∷ []

abbrev pub spare_bytes : List ℕ
spare_bytes = closed_gate ∷ []

module _ {D : Type 0} {g : disk.Ghosts D} where
  -- the disks after a call that makes a pair of them, or hands them back
  abbrev pub first_made : Result (JournalPair D g) (D × D) → D
  first_made (Ok p) = first_of p
  first_made (Err disks) = disks.0

  abbrev pub second_made : Result (JournalPair D g) (D × D) → D
  second_made (Ok p) = second_of p
  second_made (Err disks) = disks.1

  -- The first file is open with no events, the second one is spare, and neither has anything else. No call failed since the
  -- disks were these.
  abbrev pub IsNewOn : (journal0 journal1 : D) → JournalPair D g → Type 0
  IsNewOn journal0 journal1 p =
      (g.state (first_of p) ≡ settled first_bytes) × (g.state (second_of p) ≡ settled spare_bytes)
      × (failures p ≡ g.failures journal0 + g.failures journal1)

  -- the disks after a call that finds what they keep, or hands them back
  abbrev pub first_after : Result (JournalPair D g) (Refusal × D × D) → D
  first_after (Ok p) = first_of p
  first_after (Err refused) = refused.1

  abbrev pub second_after : Result (JournalPair D g) (Refusal × D × D) → D
  second_after (Ok p) = second_of p
  second_after (Err refused) = refused.2

  -- how many calls of the disks have failed after such a call; n had failed before it
  abbrev pub failures_of_attaching : Result (JournalPair D g) (Refusal × D × D) → ℕ → ℕ
  failures_of_attaching (Ok p) n = n
  failures_of_attaching (Err refused) n = after_refusal refused.0 n

module _ {D : Type 0} (g : disk.Ghosts D) where
  -- If the disks are handed back, the second one is as it was, or the first is made.
  abbrev pub MakesInTurn : (journal1 : D) → (back : D × D) → Type 0
  MakesInTurn journal1 back = (back.1 ≡ journal1) ⊎ (g.state back.0 ≡ settled first_bytes)

  -- After an `Err` one more call of the two disks has failed, after an `Ok` none.
  abbrev pub CountsMaking : (journal0 journal1 : D) → Result (JournalPair D g) (D × D) → Type 0
  CountsMaking journal0 journal1 result =
      g.failures (first_made result) + g.failures (second_made result) ≡ counted result (g.failures journal0 + g.failures journal1)

  -- The reads of both disks were true.
  abbrev pub WereTrue : (journal0 journal1 : D) → Type 0
  WereTrue journal0 journal1 = IsTrue (g.reads_were_true journal0) × IsTrue (g.reads_were_true journal1)

  -- Both disks are durable.
  abbrev pub AreDurable : (journal0 journal1 : D) → Type 0
  AreDurable journal0 journal1 = IsDurable (g.state journal0) × IsDurable (g.state journal1)

  -- If they were refused as damaged, the two files keep nothing.
  abbrev pub KeepNothingIfDamaged : (journal0 journal1 : D) → (Refusal × D × D) → Type 0
  KeepNothingIfDamaged journal0 journal1 refused =
      refused.0 ≡ Damaged → HaveNoJournals (g.state journal0).contents (g.state journal1).contents

  -- After a refusal for the device one more call of the two disks has failed, else none.
  abbrev pub CountsAttaching : (journal0 journal1 : D) → Result (JournalPair D g) (Refusal × D × D) → Type 0
  CountsAttaching journal0 journal1 result =
      g.failures (first_after result) + g.failures (second_after result)
      ≡ failures_of_attaching result (g.failures journal0 + g.failures journal1)
