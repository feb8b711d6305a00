-- Definition: what is told of locks that are held.
use Rattle.std.specs.Prelude.{◌≡◌, ◌⊎◌, ◌+◌, true, false, Bool, ℕ, List, [], ◌∷◌, Option, Some, IfSome, slice_get}
use Rattle.std.specs.List.{AllByRecursion}
use Rattle.hg_model.specs.declared.event.Event.{Event}
use Rattle.hg_model.specs.declared.event.Event.TheVariants.{Lock, RdLock, Unlock}
use Rattle.hg_model.specs.declared.held.HeldLock.{HeldLock}
use Rattle.hg_model.specs.declared.thread.ThreadState.{ThreadState}
use Rattle.hg_verbose.specs.declared.holds.Fact.{Fact}
use Rattle.hg_verbose.specs.declared.holds.Fact.TheVariants.{Accepted, Saved}
use Rattle.hg_verbose.specs.declared.holds.Hold.{Hold}

-- the event takes the lock of the hold for its thread, in its mode
abbrev pub BeginsHold : Event → Hold → Type 0
BeginsHold (Lock t l) h = (h.thread ≡ t) × (h.lock ≡ l) × (h.write ≡ true)
BeginsHold (RdLock t l) h = (h.thread ≡ t) × (h.lock ≡ l) × (h.write ≡ false)
BeginsHold _ h = ⊥

-- the event lets it go
abbrev pub LetsGo : Event → Hold → Type 0
LetsGo (Unlock t l) h = (h.thread ≡ t) × (h.lock ≡ l)
LetsGo _ h = ⊥

-- the hold is one of this thread and of this lock, each where it is given
abbrev pub IsOf : Option ℕ → Option ℕ → Hold → Type 0
IsOf thread lock h = IfSome thread (λ t. h.thread ≡ t) × IfSome lock (λ l. h.lock ≡ l)

-- how many events were accepted
abbrev pub accepted : List Fact → ℕ
accepted [] = 0
accepted (Accepted e ∷ earlier) = accepted earlier + 1
accepted (Saved h ∷ earlier) = accepted earlier

-- Of the events behind the one numbered `gone`, the newest first, the one numbered `since` took the lock, or a checkpoint has it, and none behind
-- that let it go.
abbrev pub IsHeld : (gone : ℕ) → List Fact → Hold → Type 0
IsHeld gone [] h = ⊥
IsHeld gone (Accepted e ∷ earlier) h = (BeginsHold e h × (h.since ≡ gone + accepted earlier + 1)) ⊎ (IsHeld gone earlier h × (LetsGo e h → ⊥))
IsHeld gone (Saved s ∷ earlier) h = (h ≡ s) ⊎ IsHeld gone earlier h

-- what is known, the newest first, and the number of the last event before
pub record Followed : Type 0 where
  pub gone : ℕ
  pub facts : List Fact

-- the hold is one by these facts
abbrev pub IsHeldNow : Followed → Hold → Type 0
IsHeldNow f h = IsHeld f.gone f.facts h

-- one fact more
abbrev pub with_fact : Fact → Followed → Followed
with_fact fact f = record { gone = f.gone; facts = fact ∷ f.facts }

-- one event more
abbrev pub after : Event → Followed → Followed
after e f = with_fact (Accepted e) f

-- The new holds are held behind the event of this number, where the old ones were held before it.
abbrev pub HoldsFollow : Event → ℕ → (old new : List Hold) → Type 0
HoldsFollow event since old new =
    (gone : ℕ) (earlier : List Fact) → since ≡ gone + accepted earlier + 1 → AllByRecursion (IsHeld gone earlier) old → AllByRecursion (IsHeld gone (Accepted event ∷ earlier)) new

-- the hold of a checkpoint, the event of which is gone
abbrev pub saved_hold : (gone thread lock : ℕ) (write : Bool) → Hold
saved_hold gone thread lock write = record { thread = thread; lock = lock; write = write; since = gone }

-- The lock is held by the thread already; or the checkpoint's hold is one more.
abbrev pub Saves : (thread lock : ℕ) (write : Bool) → (old new : Followed) → Type 0
Saves thread lock write old new =
    (((h : Hold) × IsHeldNow old h × (h.thread ≡ thread) × (h.lock ≡ lock)) × (new ≡ old))
    ⊎ (new ≡ with_fact (Saved (saved_hold old.gone thread lock write)) old)

-- The thread has this lock in a checkpoint, and the event that took it is gone.
abbrev pub IsSavedOf : (gone : ℕ) → ThreadState → Hold → Type 0
IsSavedOf gone thread h = (i : ℕ) × (held : HeldLock) × (slice_get thread.held i ≡ Some held) × (h ≡ saved_hold gone thread.number held.lock held.write)

-- One of the threads has it.
abbrev pub IsSavedIn : (gone : ℕ) → List ThreadState → Hold → Type 0
IsSavedIn gone threads h = (i : ℕ) × (thread : ThreadState) × (slice_get threads i ≡ Some thread) × IsSavedOf gone thread h

-- No event more was followed, and each hold is one from before or one of these.
pub record SavesOnly (P : Hold → Type 0) (old new : Followed) : Type 0 where
  pub gone : new.gone ≡ old.gone
  pub accepted_is : accepted new.facts ≡ accepted old.facts
  pub each : (h : Hold) → IsHeldNow new h → IsHeldNow old h ⊎ P h

-- Holds of a thread of a checkpoint were taken over.
abbrev pub SavesOf : ThreadState → (old new : Followed) → Type 0
SavesOf thread old new = SavesOnly (IsSavedOf old.gone thread) old new

-- Those of threads were.
abbrev pub SavesOfEach : List ThreadState → (old new : Followed) → Type 0
SavesOfEach threads old new = SavesOnly (IsSavedIn old.gone threads) old new
