-- What a refusal tells of the calls behind it.
use Rattle.std.proofs.Common.{◌≡◌, ◌⊎◌, ◌∙◌, ℕ, ◌+◌, inl, inr, Result, Ok, Err, refl, sym, ap, arith}
use Rattle.hg_model.specs.declared.verdict.Refusal.{Refusal}
use Rattle.hg_model.specs.declared.verdict.Refusal.TheVariants as refusal
use Rattle.hg_model.specs.declared.verdict.Refusal.TheVariants.{Broken, FullSlots, FullSets}
use Rattle.hg_cells.specs.Words as words
use Rattle.hg_journal.specs.Journal.{IsOfReading}
use Rattle.hg_journal.specs.Journal as journals
use Rattle.hg_recovery.specs.Answers.{CountedBy, CountsFailures, IsOfRecovery, failed_in}

-- a refusal tells how many calls failed
pub reading_failed : (r : Refusal) (n : ℕ) → journals.after_refusal r n ≡ failed_in r + n
reading_failed (refusal.Gap k) n = omega arith
reading_failed refusal.BadNumber n = omega arith
reading_failed refusal.BadLength n = omega arith
reading_failed refusal.AddressEnd n = omega arith
reading_failed refusal.NoThread n = omega arith
reading_failed refusal.ChildUsed n = omega arith
reading_failed refusal.SelfJoin n = omega arith
reading_failed refusal.ChildNotAlive n = omega arith
reading_failed refusal.ChildHoldsLocks n = omega arith
reading_failed refusal.Broken n = omega arith
reading_failed refusal.Damaged n = omega arith
reading_failed refusal.AlreadyHeld n = omega arith
reading_failed refusal.LockBusy n = omega arith
reading_failed refusal.NotHeld n = omega arith
reading_failed refusal.FullHeld n = omega arith
reading_failed refusal.FullSegments n = omega arith
reading_failed refusal.MessageUsed n = omega arith
reading_failed refusal.NotSent n = omega arith
reading_failed refusal.MessageTaken n = omega arith
reading_failed refusal.FullEvents n = omega arith
reading_failed refusal.FullPending n = omega arith
reading_failed refusal.FullSets n = omega arith
reading_failed refusal.FullSlots n = omega arith
reading_failed refusal.DeviceFault n = omega arith
reading_failed refusal.OutOfMemory n = omega arith

pub words_failed : (r : Refusal) (n : ℕ) → words.after_refusal r n ≡ failed_in r + n
words_failed (refusal.Gap k) n = omega arith
words_failed refusal.BadNumber n = omega arith
words_failed refusal.BadLength n = omega arith
words_failed refusal.AddressEnd n = omega arith
words_failed refusal.NoThread n = omega arith
words_failed refusal.ChildUsed n = omega arith
words_failed refusal.SelfJoin n = omega arith
words_failed refusal.ChildNotAlive n = omega arith
words_failed refusal.ChildHoldsLocks n = omega arith
words_failed refusal.Broken n = omega arith
words_failed refusal.Damaged n = omega arith
words_failed refusal.AlreadyHeld n = omega arith
words_failed refusal.LockBusy n = omega arith
words_failed refusal.NotHeld n = omega arith
words_failed refusal.FullHeld n = omega arith
words_failed refusal.FullSegments n = omega arith
words_failed refusal.MessageUsed n = omega arith
words_failed refusal.NotSent n = omega arith
words_failed refusal.MessageTaken n = omega arith
words_failed refusal.FullEvents n = omega arith
words_failed refusal.FullPending n = omega arith
words_failed refusal.FullSets n = omega arith
words_failed refusal.FullSlots n = omega arith
words_failed refusal.DeviceFault n = omega arith
words_failed refusal.OutOfMemory n = omega arith

pub none_failed : (r : Refusal) → (r ≡ refusal.DeviceFault → ⊥) → failed_in r ≡ 0
none_failed (refusal.Gap k) other = refl
none_failed refusal.BadNumber other = refl
none_failed refusal.BadLength other = refl
none_failed refusal.AddressEnd other = refl
none_failed refusal.NoThread other = refl
none_failed refusal.ChildUsed other = refl
none_failed refusal.SelfJoin other = refl
none_failed refusal.ChildNotAlive other = refl
none_failed refusal.ChildHoldsLocks other = refl
none_failed refusal.Broken other = refl
none_failed refusal.Damaged other = refl
none_failed refusal.AlreadyHeld other = refl
none_failed refusal.LockBusy other = refl
none_failed refusal.NotHeld other = refl
none_failed refusal.FullHeld other = refl
none_failed refusal.FullSegments other = refl
none_failed refusal.MessageUsed other = refl
none_failed refusal.NotSent other = refl
none_failed refusal.MessageTaken other = refl
none_failed refusal.FullEvents other = refl
none_failed refusal.FullPending other = refl
none_failed refusal.FullSets other = refl
none_failed refusal.FullSlots other = refl
none_failed refusal.DeviceFault other = absurd (other refl)
none_failed refusal.OutOfMemory other = refl

pub of_reading : (r : Refusal) → IsOfReading r → IsOfRecovery r
of_reading r (inl damaged) = inl damaged
of_reading r (inr (inl fault)) = inr (inr (inr (inl fault)))
of_reading r (inr (inr memory)) = inr (inr (inr (inr memory)))

-- a pair that works is read
pub of_next : (r : Refusal) → IsOfReading r ⊎ (r ≡ Broken) → (r ≡ Broken → ⊥) → IsOfReading r
of_next r (inl reading) works = reading
of_next r (inr broken) works = absurd (works broken)

-- a count beside which another one stays
pub counted_beside : (r : Refusal) (old new more : ℕ) → CountedBy r old new → CountedBy r (old + more) (new + more)
counted_beside r old new more is = omega (arith, is)

-- a reading takes no slot, and asks for no set
pub reading_takes_none : {A : Type 0} (r : Refusal) → IsOfReading r → r ≡ FullSlots → A
reading_takes_none r (inl damaged) told = absurd (cc (sym damaged ∙ told))
reading_takes_none r (inr (inl fault)) told = absurd (cc (sym fault ∙ told))
reading_takes_none r (inr (inr memory)) told = absurd (cc (sym memory ∙ told))

pub reading_asks_none : {A : Type 0} (r : Refusal) → IsOfReading r → r ≡ FullSets → A
reading_asks_none r (inl damaged) told = absurd (cc (sym damaged ∙ told))
reading_asks_none r (inr (inl fault)) told = absurd (cc (sym fault ∙ told))
reading_asks_none r (inr (inr memory)) told = absurd (cc (sym memory ∙ told))

-- how many calls failed
pub words_counted : (result : Result (Unit {0}) Refusal) (old new : ℕ) → new ≡ words.failed_after result old → CountsFailures result old new
words_counted (Ok value) old new count = count
words_counted (Err r) old new count = count ∙ words_failed r old

pub none_more : (result : Result (Unit {0}) Refusal) (n : ℕ) → (result ≡ Err refusal.DeviceFault → ⊥) → words.failed_after result n ≡ n
none_more (Ok value) n other = refl
none_more (Err r) n other = let none = none_failed r (λ is. other (ap (λ (x : Refusal). Err x) is)) in let told = words_failed r n in let same : words.after_refusal r n ≡ n = omega (arith, told, none) in same
