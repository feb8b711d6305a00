-- How a trace state finds a thread and a lock's holders in one step. (No promise to a reader rests on this file.)
use Rattle.std.specs.Prelude.{◌≡◌, ℕ, ◌+◌, ◌<◌, nat_lt, List, [], ◌∷◌, length, Option, Some, None, count_by, if◌then◌else◌, slice_index_or, Bool, false}
use Rattle.hg_model.specs.declared.limits.TheConstants.{LOCK_NUMBERS, THREAD_NUMBERS}
use Rattle.hg_model.specs.declared.thread.ThreadState.{ThreadState}
use Rattle.hg_rules.specs.declared.table.LockUse.{LockUse}
use Rattle.hg_rules.specs.declared.table.LockUse.TheVariants.{Reading, Writing}
use Rattle.hg_model.specs.Locks.{counted, has_lock, has_lock_for_writing}

-- the threads in a table by number
abbrev pub started : List (Option ThreadState) → List ThreadState
started [] = []
started (None ∷ slots) = started slots
started (Some x ∷ slots) = x ∷ started slots

-- each thread stands at its number, with the places numbered from k on
abbrev pub IsNumbered : ℕ → List (Option ThreadState) → Type 0
IsNumbered k [] = Unit {0}
IsNumbered k (None ∷ slots) = IsNumbered (k + 1) slots
IsNumbered k (Some x ∷ slots) = (x.number ≡ k) × IsNumbered (k + 1) slots

-- a test of the thread at a place, false where there is none
abbrev pub test_at : (ThreadState → Bool) → Option ThreadState → Bool
test_at test None = false
test_at test (Some x) = test x

-- the locks that count for an access by the thread at a place
abbrev pub counted_at : Bool → Option ThreadState → List ℕ
counted_at write None = []
counted_at write (Some x) = counted write x.held

-- how many threads hold a lock, in any mode
abbrev pub holders : List ThreadState → ℕ → ℕ
holders threads l = count_by (λ x. has_lock x.held l) threads

-- how many hold it in write mode
abbrev pub writers : List ThreadState → ℕ → ℕ
writers threads l = count_by (λ x. has_lock_for_writing x.held l) threads

-- the entry of a lock in the table of locks
abbrev pub use_of : List ThreadState → ℕ → LockUse
use_of threads l = if nat_lt 0 (writers threads l) then Writing else Reading (holders threads l)

-- how many read under a lock, by its entry
abbrev pub readers_in : LockUse → ℕ
readers_in (Reading n) = n
readers_in Writing = 0

-- The tables agree: threads stand at their numbers, each lock has its use, and a lock that is held for writing has one holder.
pub record TablesAgree (slots : List (Option ThreadState)) (uses : List LockUse) : Type 0 where
  pub slots_len : length slots ≡ THREAD_NUMBERS
  pub uses_len : length uses ≡ LOCK_NUMBERS
  pub numbered : IsNumbered 0 slots
  pub each_use : (l : ℕ) → l < LOCK_NUMBERS → slice_index_or uses l Writing ≡ use_of (started slots) l
  pub one_writer : (l : ℕ) → 0 < writers (started slots) l → holders (started slots) l ≡ 1
