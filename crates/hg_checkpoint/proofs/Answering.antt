-- Faults that are passed on, and the failed calls that they tell.
use Rattle.std.proofs.Common.{◌≡◌, ◌∙◌, ◌+◌, length, ℕ, Bool, true, false, if◌then◌else◌, Err, sym, ap, arith}
use Rattle.hg_disk.specs.Calls.{CallsAtMost}
use Rattle.hg_disk.specs.declared.disk.Disk as disk
use Rattle.hg_root.specs.Fault.{after_fault}
use Rattle.hg_root.specs.Pairs.{failures, first_of, newer, older, second_of}
use Rattle.hg_root.specs.declared.fault.RootFault.{RootFault}
use Rattle.hg_root.specs.declared.fault.RootFault.TheVariants as fault
use Rattle.hg_root.specs.declared.pair.RootPair.{RootPair}
use Rattle.hg_checkpoint.specs.declared.cause.Cause.{Cause}
use Rattle.hg_checkpoint.specs.declared.phase.CheckpointFault.{CheckpointFault}
use Rattle.hg_checkpoint.specs.declared.phase.CheckpointFault.TheVariants.{Refused, WrongPhase}
use Rattle.hg_checkpoint.specs.Phases.{BreaksBy, failed_in}
use Rattle.hg_checkpoint.specs.Told.{of_root}

-- a fault says the same of each kind of answer
pub same_fault : (S T : Type 0) (broken : Bool) (fault : CheckpointFault) → BreaksBy {T = S} broken (Err fault) → BreaksBy {T = T} broken (Err fault)
same_fault S T broken (WrongPhase p) is = tt
same_fault S T broken (Refused r) is = is

told_after : (f : RootFault) (n : ℕ) → after_fault f n ≡ failed_in (of_root f) + n
told_after fault.Broken n = omega arith
told_after fault.Damaged n = omega arith
told_after fault.DeviceFault n = omega arith
told_after fault.OutOfMemory n = omega arith

module _ {D : Type 0} (g : disk.Ghosts D) where
  in_both : (t u : Bool) → u ≡ t → (o o_new n n_new : D) (k : ℕ) → g.failures n_new ≡ g.failures n → g.failures o_new ≡ k + g.failures o
      → g.failures (if u then n_new else o_new) + g.failures (if u then o_new else n_new) ≡ k + (g.failures (if t then n else o) + g.failures (if t then o else n))
  in_both true true same o p n m k quiet counted = omega (arith, quiet, counted)
  in_both false false same o p n m k quiet counted = omega (arith, quiet, counted)
  in_both true false same o p n m k quiet counted = absurd (cc same)
  in_both false true same o p n m k quiet counted = absurd (cc same)

  pub counted : (old new : RootPair D) (k : ℕ) → new.is_turned ≡ old.is_turned → newer new ≡ newer old → g.failures (older new) ≡ k + g.failures (older old) → failures g new ≡ k + failures g old
  counted old new k turn same count = in_both old.is_turned new.is_turned turn (older old) (older new) (newer old) (newer new) k (ap g.failures same) count

  pub counted_none : (old new : RootPair D) → new.is_turned ≡ old.is_turned → newer new ≡ newer old → g.failures (older new) ≡ g.failures (older old) → failures g new ≡ 0 + failures g old
  counted_none old new turn same count = counted old new 0 turn same (omega (arith, count))

  pub counted_fault : (old new : RootPair D) (f : RootFault) (r : Cause) → r ≡ of_root f → new.is_turned ≡ old.is_turned → newer new ≡ newer old → g.failures (older new) ≡ after_fault f (g.failures (older old))
      → failures g new ≡ failed_in r + failures g old
  counted_fault old new f r told turn same count =
      counted old new (failed_in r) turn same (count ∙ told_after f (g.failures (older old)) ∙ ap (λ (s : Cause). failed_in s + g.failures (older old)) (sym told))

  called_in : (t u : Bool) → u ≡ t → (o o_new n n_new : D) (most : ℕ) → n_new ≡ n → CallsAtMost g most o o_new
      → CallsAtMost g most (if t then n else o) (if u then n_new else o_new) × CallsAtMost g most (if t then o else n) (if u then o_new else n_new)
  called_in true true same o p n m most quiet calls = (omega (arith, ap (λ d. length (g.past d)) quiet), calls)
  called_in false false same o p n m most quiet calls = (calls, omega (arith, ap (λ d. length (g.past d)) quiet))
  called_in true false same o p n m most quiet calls = absurd (cc same)
  called_in false true same o p n m most quiet calls = absurd (cc same)

  -- the calls of the older file are the only ones
  pub root_calls : (old new : RootPair D) (most : ℕ) → new.is_turned ≡ old.is_turned → newer new ≡ newer old → CallsAtMost g most (older old) (older new)
      → CallsAtMost g most (first_of old) (first_of new) × CallsAtMost g most (second_of old) (second_of new)
  root_calls old new most turn same calls = called_in old.is_turned new.is_turned turn (older old) (older new) (newer old) (newer new) most same calls
