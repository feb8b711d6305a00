-- Which locks a thread holds. A trace is given newest event first: in `e ∷ past` the event e comes after those of past.
use Rattle.std.specs.Prelude.{ℕ, Bool, true, false, ◌&&◌, ◌==◌, not, List, [], ◌∷◌, map, filter, Option, Some, None, if◌then◌else◌, nat_lt, nat_le}
use Rattle.hg_model.specs.declared.event.Event.{Event}
use Rattle.hg_model.specs.declared.event.Event.TheVariants.{Lock, RdLock, Unlock}
use Rattle.std.specs.List.{insert, list_any, position_or_len}
use Rattle.std.specs.List.Sorted.{IsStrictlyIncreasing}
use Rattle.hg_model.specs.declared.held.HeldLock.{HeldLock}

-- The mode in which thread t holds lock l, true for writing: the last event among lock, rdlock and unlock of t and l decides.
abbrev pub mode_held : List Event → ℕ → ℕ → Option Bool
mode_held [] t l = None
mode_held (Lock u k ∷ past) t l = if (u == t) && (k == l) then Some true else mode_held past t l
mode_held (RdLock u k ∷ past) t l = if (u == t) && (k == l) then Some false else mode_held past t l
mode_held (Unlock u k ∷ past) t l = if (u == t) && (k == l) then None else mode_held past t l
mode_held (_ ∷ past) t l = mode_held past t l

-- the holds with one more, by rising lock number
abbrev pub with_hold : HeldLock → List HeldLock → List HeldLock
with_hold h [] = h ∷ []
with_hold h (x ∷ xs) = if nat_lt h.lock x.lock then h ∷ x ∷ xs else if h.lock == x.lock then h ∷ xs else x ∷ with_hold h xs

-- the holds without those of a lock
abbrev pub without_lock : ℕ → List HeldLock → List HeldLock
without_lock l hs = filter (λ h. not (h.lock == l)) hs

-- the numbers without this one
abbrev pub without_number : ℕ → List ℕ → List ℕ
without_number l ns = filter (λ n. not (n == l)) ns

-- the numbers with this one, put before the first that is not less
abbrev pub with_number : ℕ → List ℕ → List ℕ
with_number l ns = insert ns (position_or_len (λ n. nat_le l n) ns) l

-- All locks that thread t holds, with their modes, by rising lock number.
abbrev pub held : List Event → ℕ → List HeldLock
held [] t = []
held (Lock u l ∷ past) t = if u == t then with_hold (record { lock = l; write = true }) (held past t) else held past t
held (RdLock u l ∷ past) t = if u == t then with_hold (record { lock = l; write = false }) (held past t) else held past t
held (Unlock u l ∷ past) t = if u == t then without_lock l (held past t) else held past t
held (_ ∷ past) t = held past t

-- The locks that count for an access (Eraser): all for a read, those held in write mode for a write.
abbrev pub counted : Bool → List HeldLock → List ℕ
counted true hs = map (λ h. h.lock) (filter (λ h. h.write) hs)
counted false hs = map (λ h. h.lock) hs

-- the lock is among them, in any mode
abbrev pub has_lock : List HeldLock → ℕ → Bool
has_lock hs l = list_any (λ h. h.lock == l) hs

-- the lock is among them in write mode
abbrev pub has_lock_for_writing : List HeldLock → ℕ → Bool
has_lock_for_writing hs l = list_any (λ h. (h.lock == l) && h.write) hs

-- no lock stands twice, and each stands behind those of lesser number
abbrev pub IsByRisingLock : List HeldLock → Type 0
IsByRisingLock hs = IsStrictlyIncreasing (map (λ h. h.lock) hs)
