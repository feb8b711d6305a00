-- Reading a record from left to right: a value and the bytes after it, or nothing.
use Rattle.std.specs.Prelude.{◌≡◌, ℕ, nat_lt, List, [], ◌∷◌, length, take, drop, Option, Some, None, if◌then◌else◌, ◌==◌}
use Rattle.std.specs.Int.{Width, w16, w32, w64, byte_len, from_be_bytes}
use Rattle.hg_model.specs.declared.event.Access.{Access}
use Rattle.hg_model.specs.declared.event.Block.{Block}
use Rattle.hg_model.specs.declared.event.Event.{Event}
use Rattle.hg_model.specs.declared.event.Event.TheVariants.{Fork, Join, Lock, RdLock, Unlock, Read, Write, Alloc, Free, Send, Recv}
use Rattle.hg_model.specs.declared.event.Named.{Named}
use Rattle.hg_records.specs.Records.{is_short}

infixl 10 ◌>>=◌
abbrev pub ◌>>=◌ : {A B : Type 0} → Option A → (A → Option B) → Option B
(Some x) >>= f = f x
None >>= f = None

abbrev pub number_at : Width → List ℕ → Option (ℕ × List ℕ)
number_at w bytes = if nat_lt (length bytes) (byte_len w) then None else Some (from_be_bytes w (take (byte_len w) bytes), drop (byte_len w) bytes)

abbrev pub byte_at : List ℕ → Option (ℕ × List ℕ)
byte_at [] = None
byte_at (b ∷ bytes) = Some (b, bytes)

unfoldable pub access_at : ℕ → List ℕ → Option (Access × List ℕ)
access_at t bytes = do
  at ← number_at w64 bytes
  len ← byte_at at.1
  Some (record { t = t; at = at.0; len = len.0 }, len.1)

-- a block, its length in so many bits
unfoldable pub block_at : Width → ℕ → List ℕ → Option (Block × List ℕ)
block_at w t bytes = do
  at ← number_at w64 bytes
  len ← number_at w at.1
  Some (record { t = t; at = at.0; len = len.0 }, len.1)

-- A block whose length has 32 bits and does not fit 16: one that does has the other spelling.
unfoldable pub long_block_at : ℕ → List ℕ → Option (Block × List ℕ)
long_block_at t bytes = do
  block ← block_at w32 t bytes
  if is_short block.0.len then None else Some block

-- the event made of a value that was read
abbrev pub making : {X : Type 0} → (X → Event) → Option (X × List ℕ) → Option (Event × List ℕ)
making make read = read >>= λ x. Some (make x.0, x.1)

-- the operands of a kind
unfoldable pub operands_at : ℕ → ℕ → List ℕ → Option (Event × List ℕ)
operands_at kind t bytes =
    if kind == 1 then making (λ c. Fork t c) (number_at w16 bytes) else
    if kind == 2 then making (λ c. Join t c) (number_at w16 bytes) else
    if kind == 3 then making (λ l. Lock t l) (number_at w16 bytes) else
    if kind == 4 then making (λ l. RdLock t l) (number_at w16 bytes) else
    if kind == 5 then making (λ l. Unlock t l) (number_at w16 bytes) else
    if kind == 6 then making Read (access_at t bytes) else
    if kind == 7 then making Write (access_at t bytes) else
    if kind == 8 then making Alloc (block_at w16 t bytes) else
    if kind == 9 then making Free (block_at w16 t bytes) else
    if kind == 10 then making (λ k. Send t k) (number_at w32 bytes) else
    if kind == 11 then making (λ k. Recv t k) (number_at w32 bytes) else
    if kind == 12 then making Alloc (long_block_at t bytes) else
    if kind == 13 then making Free (long_block_at t bytes) else
    None

unfoldable pub event_at : List ℕ → Option (Event × List ℕ)
event_at bytes = do
  kind ← byte_at bytes
  t ← number_at w16 kind.1
  operands_at kind.0 t.0 t.1

unfoldable pub record_at : List ℕ → Option (Named × List ℕ)
record_at bytes = do
  source ← number_at w16 bytes
  number ← number_at w64 source.1
  event ← event_at number.1
  Some (record { source = source.0; number = number.0; event = event.0 }, event.1)

-- A function returned what the reading gives.
abbrev pub Gives : {X Y : Type 0} → (X → Y) → Option X → Option Y → Type 0
Gives view (Some x) read = read ≡ Some (view x)
Gives view None read = read ≡ None
