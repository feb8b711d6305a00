-- The lines that `explain` reads of a store.
use Rattle.std.specs.Prelude.{ℕ, ◌++◌, ◌∷◌, [], List, codes, decimal}
use Rattle.std.specs.List.{flat_map}
use Rattle.hg_model.specs.declared.event.Event.{Event}
use Rattle.hg_model.specs.declared.event.Event.TheVariants.{Fork, Join, Lock, RdLock, Unlock, Read, Write, Alloc, Free, Send, Recv}
use Rattle.hg_model.specs.declared.event.Named.{Named}

-- each number behind a space, and a line feed
abbrev pub operands : List ℕ → List ℕ
operands [] = 10 ∷ []
operands (n ∷ rest) = 32 ∷ (decimal n ++ operands rest)

-- a verb and its numbers
abbrev pub line : (verb numbers : List ℕ) → List ℕ
line verb numbers = verb ++ operands numbers

-- the line of an event
abbrev pub event_line : Event → List ℕ
event_line (Fork p c) = line (codes "fork") (p ∷ c ∷ [])
event_line (Join p c) = line (codes "join") (p ∷ c ∷ [])
event_line (Lock t l) = line (codes "lock") (t ∷ l ∷ [])
event_line (RdLock t l) = line (codes "rdlock") (t ∷ l ∷ [])
event_line (Unlock t l) = line (codes "unlock") (t ∷ l ∷ [])
event_line (Read a) = line (codes "read") (a.t ∷ a.at ∷ a.len ∷ [])
event_line (Write a) = line (codes "write") (a.t ∷ a.at ∷ a.len ∷ [])
event_line (Alloc b) = line (codes "alloc") (b.t ∷ b.at ∷ b.len ∷ [])
event_line (Free b) = line (codes "free") (b.t ∷ b.at ∷ b.len ∷ [])
event_line (Send t k) = line (codes "send") (t ∷ k ∷ [])
event_line (Recv t k) = line (codes "recv") (t ∷ k ∷ [])

-- the lines of events, in their order
abbrev pub lines : List Named → List ℕ
lines = flat_map (λ named. event_line named.event)
