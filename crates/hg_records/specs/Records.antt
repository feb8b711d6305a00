-- How an event is spelled in a journal: all numbers high byte first.
use Rattle.std.specs.Prelude.{◌≡◌, ℕ, ◌<◌, ◌^◌, nat_lt, Bool, List, [], ◌∷◌, ◌++◌, if◌then◌else◌}
use Rattle.std.specs.Int.{Width, w16, w32, w64, to_be_bytes}
use Rattle.hg_model.specs.declared.event.Access.{Access}
use Rattle.hg_model.specs.declared.event.Block.{Block}
use Rattle.hg_model.specs.declared.event.Event.{Event}
use Rattle.hg_model.specs.declared.event.Event.TheVariants.{Fork, Join, Lock, RdLock, Unlock, Read, Write, Alloc, Free, Send, Recv}
use Rattle.hg_model.specs.declared.event.Named.{Named}

-- a thread, and another thread or a lock
abbrev pub pair_text : ℕ → ℕ → List ℕ
pair_text t n = to_be_bytes w16 t ++ to_be_bytes w16 n

abbrev pub access_text : Access → List ℕ
access_text a = to_be_bytes w16 a.t ++ (to_be_bytes w64 a.at ++ a.len ∷ [])

-- a block, its length in so many bits
abbrev pub block_text : Width → Block → List ℕ
block_text w b = to_be_bytes w16 b.t ++ (to_be_bytes w64 b.at ++ to_be_bytes w b.len)

-- The length of a block fits 16 bits.
abbrev pub is_short : ℕ → Bool
is_short len = nat_lt len (2 ^ 16)

-- The kind and the operands of a block: the first kind where its length fits 16 bits, and else the second, with a length of 32.
abbrev pub by_length : ℕ → ℕ → Block → List ℕ
by_length short long b = if is_short b.len then short ∷ block_text w16 b else long ∷ block_text w32 b

-- a thread and a message
abbrev pub message_text : ℕ → ℕ → List ℕ
message_text t k = to_be_bytes w16 t ++ to_be_bytes w32 k

-- the event's kind, its acting thread and its operands
abbrev pub event_text : Event → List ℕ
event_text (Fork p c) = 1 ∷ pair_text p c
event_text (Join p c) = 2 ∷ pair_text p c
event_text (Lock t l) = 3 ∷ pair_text t l
event_text (RdLock t l) = 4 ∷ pair_text t l
event_text (Unlock t l) = 5 ∷ pair_text t l
event_text (Read a) = 6 ∷ access_text a
event_text (Write a) = 7 ∷ access_text a
event_text (Alloc b) = by_length 8 12 b
event_text (Free b) = by_length 9 13 b
event_text (Send t k) = 10 ∷ message_text t k
event_text (Recv t k) = 11 ∷ message_text t k

-- The record of an event under its name.
abbrev pub record_text : Named → List ℕ
record_text n = to_be_bytes w16 n.source ++ (to_be_bytes w64 n.number ++ event_text n.event)

abbrev pub PairFits : ℕ → ℕ → Type 0
PairFits t n = (t < 2 ^ 16) × (n < 2 ^ 16)

abbrev pub AccessFits : Access → Type 0
AccessFits a = (a.t < 2 ^ 16) × ((a.at < 2 ^ 64) × (a.len < 2 ^ 8))

abbrev pub BlockFits : Block → Type 0
BlockFits b = (b.t < 2 ^ 16) × ((b.at < 2 ^ 64) × (b.len < 2 ^ 32))

abbrev pub MessageFits : ℕ → ℕ → Type 0
MessageFits t k = (t < 2 ^ 16) × (k < 2 ^ 32)

-- each field is within its width
abbrev pub EventFits : Event → Type 0
EventFits (Fork p c) = PairFits p c
EventFits (Join p c) = PairFits p c
EventFits (Lock t l) = PairFits t l
EventFits (RdLock t l) = PairFits t l
EventFits (Unlock t l) = PairFits t l
EventFits (Read a) = AccessFits a
EventFits (Write a) = AccessFits a
EventFits (Alloc b) = BlockFits b
EventFits (Free b) = BlockFits b
EventFits (Send t k) = MessageFits t k
EventFits (Recv t k) = MessageFits t k

-- The events that have a record: each field is within its width.
abbrev pub RecordFits : Named → Type 0
RecordFits n = (n.source < 2 ^ 16) × ((n.number < 2 ^ 64) × EventFits n.event)

-- The bytes begin with the record of this event.
abbrev pub BeginsWith : List ℕ → Named → List ℕ → Type 0
BeginsWith bytes n rest = RecordFits n × (bytes ≡ record_text n ++ rest)

-- The bytes begin with this event, as a record has it after its name.
abbrev pub BeginsWithEvent : List ℕ → Event → List ℕ → Type 0
BeginsWithEvent bytes e rest = EventFits e × (bytes ≡ event_text e ++ rest)
