-- How far events were read back.
use Rattle.hg_model.specs.declared.verdict.Refusal.{Refusal}
use Rattle.hg_model.specs.declared.verdict.Refusal.TheVariants.{Damaged}
use Rattle.std.proofs.Common.{◌≡◌, ◌≢◌, Result, Ok, Err, IfErr, ◌⊎◌, inl, inr, ℕ, zero, suc, ◌<◌, ◌≤◌, ◌+◌, ◌-◌, List, [], ◌∷◌, ◌++◌, length, take, drop, refl, sym, ap, ◌∙◌, arith}
use Rattle.std.proofs.lemmas.Bool.{cases_lt}
use Rattle.std.proofs.lemmas.List.{length-append, append-nil}
use Rattle.hg_model.specs.declared.event.Named.{Named}
use Rattle.hg_disk.specs.declared.disk.Disk as disk
use Rattle.hg_journal.specs.declared.journal.Journal.{Journal}
use Rattle.hg_journal.specs.declared.journal.JournalReader.{JournalReader}
use Rattle.hg_journal.specs.Reading.{IsAt, KeepsEvents, disk_of}
use Rattle.hg_journal.proofs.Journals.{one_reading}
use Rattle.hg_gate.specs.Batches.{header}
use Rattle.hg_journal.proofs.Journaling.{bytes_now, more}

-- So many events were read, and those from number `from` on were found.
pub record Collected {D : Type 0} {g : disk.Ghosts D} (j : Journal D g) (r : JournalReader) (number from : ℕ) (found : List Named) : Type 0 where
  pub seen : List Named
  pub at : IsAt j r seen
  pub count : length seen ≡ number
  pub has : found ≡ drop (from - 1) seen

drop_late : (k : ℕ) (xs : List Named) → length xs ≤ k → drop k xs ≡ []
drop_late zero [] le = refl
drop_late zero (x ∷ xs) le = absurd (omega (arith, le))
drop_late (suc k) [] le = refl
drop_late (suc k) (x ∷ xs) le = drop_late k xs (omega (arith, le))

drop_early : (k : ℕ) (xs ys : List Named) → k ≤ length xs → drop k (xs ++ ys) ≡ drop k xs ++ ys
drop_early zero xs ys le = refl
drop_early (suc k) [] ys le = absurd (omega (arith, le))
drop_early (suc k) (x ∷ xs) ys le = drop_early k xs ys (omega (arith, le))

take_front : (xs ys : List Named) (n : ℕ) → n ≡ length xs → take n (xs ++ ys) ≡ xs
take_front [] ys n is = ap (λ (k : ℕ). take k ys) is
take_front (x ∷ xs) ys zero is = absurd (omega (arith, is))
take_front (x ∷ xs) ys (suc n) is = ap (λ (l : List Named). x ∷ l) (take_front xs ys n (omega (arith, is)))

take_few : (xs : List Named) (n : ℕ) → length xs ≤ n → take n xs ≡ xs
take_few [] zero le = refl
take_few [] (suc n) le = refl
take_few (x ∷ xs) zero le = absurd (omega (arith, le))
take_few (x ∷ xs) (suc n) le = ap (λ (l : List Named). x ∷ l) (take_few xs n (omega (arith, le)))

-- one more, which is found
pub found_more : (seen : List Named) (n : Named) (number from : ℕ) (found : List Named) → length seen ≡ number → from ≤ number + 1 → found ≡ drop (from - 1) seen → found ++ n ∷ [] ≡ drop (from - 1) (seen ++ n ∷ [])
found_more seen n number from found count late has = ap (λ (l : List Named). l ++ n ∷ []) has ∙ sym (drop_early (from - 1) seen (n ∷ []) (omega (arith, count, late)))

-- one more, which is passed over
pub passed_more : (seen : List Named) (n : Named) (number from : ℕ) (found : List Named) → length seen ≡ number → number + 1 < from → found ≡ drop (from - 1) seen → found ≡ drop (from - 1) (seen ++ n ∷ [])
passed_more seen n number from found count early has =
    let size : length (seen ++ n ∷ []) ≡ length seen + 1 = length-append seen (n ∷ []) in
    has ∙ drop_late (from - 1) seen (omega (arith, count, early)) ∙ sym (drop_late (from - 1) (seen ++ n ∷ []) (omega (arith, count, early, size)))

-- all were read
found_all : (events seen found : List Named) (from max : ℕ) → seen ≡ events → found ≡ drop (from - 1) seen → length found ≤ max → found ≡ take max (drop (from - 1) events)
found_all events seen found from max same has few = sym (take_few found max few) ∙ ap (λ (l : List Named). take max l) (has ∙ ap (λ (l : List Named). drop (from - 1) l) same)

-- so many as were wanted were found
found_enough : (events seen left found : List Named) (from max : ℕ) → events ≡ seen ++ left → found ≡ drop (from - 1) seen → length found ≡ max → found ≡ take max (drop (from - 1) events)
found_enough events seen left found from max whole has size = by_place (cases_lt (length seen) (from - 1)) where
  by_place : (length seen < from - 1) ⊎ (from - 1 ≤ length seen) → found ≡ take max (drop (from - 1) events)
  by_place (inl early) =
      let none : found ≡ [] = has ∙ drop_late (from - 1) seen (omega (arith, early)) in
      let zero_max : max ≡ 0 = sym size ∙ ap (λ (l : List Named). length l) none in
      none ∙ ap (λ (k : ℕ). take k (drop (from - 1) events)) (sym zero_max)
  by_place (inr late) =
      sym (take_front found left max (sym size)) ∙ ap (λ (l : List Named). take max (l ++ left)) has
      ∙ ap (λ (l : List Named). take max l) (sym (drop_early (from - 1) seen left late) ∙ ap (λ (l : List Named). drop (from - 1) l) (sym whole))

module _ {D : Type 0} (g : disk.Ghosts D) (j : Journal D g) (events : List Named) (keeps : KeepsEvents j events) (count from max : ℕ) (size : length events ≡ count) where
  -- at the journal's end
  pub at_last : (new : Journal D g) (seen found : List Named) → KeepsEvents new seen → KeepsEvents new events → found ≡ drop (from - 1) seen → length found ≤ max → found ≡ take max (drop (from - 1) events)
  at_last new seen found has same is few =
      found_all events seen found from max (one_reading header (g.state (disk_of new)).contents seen events (bytes_now g header new seen has) (bytes_now g header new events same)) is few

  -- where the reading stopped before
  pub stopped : (r : JournalReader) (number : ℕ) (found : List Named) → Collected j r number from found → number ≤ count → length found ≤ max → (count ≤ number) ⊎ (max ≤ length found) → found ≡ take max (drop (from - 1) events)
  stopped r number found read within few why = by_cause why where
    left : (rest : List Named) × (events ≡ read.seen ++ rest)
    left = more g header j r read.seen read.at events (bytes_now g header j events keeps)

    by_cause : (count ≤ number) ⊎ (max ≤ length found) → found ≡ take max (drop (from - 1) events)
    by_cause (inl all) =
        let lengths : length events ≡ length read.seen + length left.0 = ap (λ (l : List Named). length l) left.1 ∙ length-append read.seen left.0 in
        let none : length left.0 ≡ 0 = omega (arith, lengths, size, read.count, all, within) in
        found_all events read.seen found from max (sym (left.1 ∙ nothing left.0 none)) read.has few
      where
        nothing : (rest : List Named) → length rest ≡ 0 → read.seen ++ rest ≡ read.seen
        nothing [] is = append-nil read.seen
        nothing (x ∷ rest) is = absurd (omega (arith, is))
    by_cause (inr enough) = found_enough events read.seen left.0 found from max left.1 read.has (omega (arith, few, enough))

pub unless_damaged : {T : Type 0} (result : Result T Refusal) → (result ≡ Err Damaged → ⊥) → IfErr result (λ refusal. refusal ≢ Damaged)
unless_damaged (Ok value) never = tt
unless_damaged (Err refusal) never = λ is. never (ap (λ (r : Refusal). Err r) is)
