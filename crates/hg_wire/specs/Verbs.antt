-- Definition: part of what `check` promises. The verbs of the trace text.
use Rattle.std.specs.Prelude.{◌≡◌, ◌<◌, ◌^◌, ℕ, List, [], ◌∷◌, codes, slice_index, if◌then◌else◌, ⊤}
use Rattle.hg_model.specs.declared.event.Access.{Access}
use Rattle.hg_model.specs.declared.event.Block.{Block}
use Rattle.hg_model.specs.declared.event.Event.{Event}
use Rattle.hg_wire.specs.declared.verb.Verb.{Verb}
use Rattle.hg_wire.specs.declared.verb.Verb.TheVariants as verb
use Rattle.hg_wire.specs.declared.verb.VerbKind.{VerbKind}
use Rattle.hg_wire.specs.declared.verb.VerbKind.TheVariants as kind
use Rattle.hg_model.specs.declared.event.Event.TheVariants.{Fork, Join, Lock, RdLock, Unlock, Read, Write, Alloc, Free, Send, Recv}

-- A verb: its text, the width of each operand in bits, and the event that the values of the operands make.
pub record VerbRow : Type 0 where
  pub text : List ℕ
  pub widths : List ℕ
  pub event : List ℕ → Event

-- a thread and a child or a lock
abbrev pub pair_widths : List ℕ
pair_widths = 16 ∷ 16 ∷ []

-- a thread, an address and a length
abbrev pub access_widths : List ℕ
access_widths = 16 ∷ 64 ∷ 8 ∷ []

abbrev pub block_widths : List ℕ
block_widths = 16 ∷ 64 ∷ 32 ∷ []

-- a thread and a message
abbrev pub message_widths : List ℕ
message_widths = 16 ∷ 32 ∷ []

abbrev pub of_pair : (ℕ → ℕ → Event) → List ℕ → Event
of_pair make values = make (slice_index values 0) (slice_index values 1)

abbrev pub of_access : (Access → Event) → List ℕ → Event
of_access make values = make (record { t = slice_index values 0; at = slice_index values 1; len = slice_index values 2 })

abbrev pub of_block : (Block → Event) → List ℕ → Event
of_block make values = make (record { t = slice_index values 0; at = slice_index values 1; len = slice_index values 2 })

abbrev pub row : List ℕ → List ℕ → (List ℕ → Event) → VerbRow
row text widths event = record { text = text; widths = widths; event = event }

abbrev pub row_of : Verb → VerbRow
row_of verb.Fork = row (codes "fork") pair_widths (of_pair (λ p c. Fork p c))
row_of verb.Join = row (codes "join") pair_widths (of_pair (λ p c. Join p c))
row_of verb.Lock = row (codes "lock") pair_widths (of_pair (λ t l. Lock t l))
row_of verb.RdLock = row (codes "rdlock") pair_widths (of_pair (λ t l. RdLock t l))
row_of verb.Unlock = row (codes "unlock") pair_widths (of_pair (λ t l. Unlock t l))
row_of verb.Read = row (codes "read") access_widths (of_access (λ a. Read a))
row_of verb.Write = row (codes "write") access_widths (of_access (λ a. Write a))
row_of verb.Alloc = row (codes "alloc") block_widths (of_block (λ b. Alloc b))
row_of verb.Free = row (codes "free") block_widths (of_block (λ b. Free b))
row_of verb.Send = row (codes "send") message_widths (of_pair (λ t k. Send t k))
row_of verb.Recv = row (codes "recv") message_widths (of_pair (λ t k. Recv t k))

-- The eleven verbs.
abbrev pub verbs : List Verb
verbs = verb.Fork ∷ verb.Join ∷ verb.Lock ∷ verb.RdLock ∷ verb.Unlock ∷ verb.Read ∷ verb.Write ∷ verb.Alloc ∷ verb.Free ∷ verb.Send ∷ verb.Recv ∷ []

-- The verb of a kind.
abbrev pub verb_of : VerbKind → Verb
verb_of (kind.Pair verb) = verb
verb_of (kind.Access is_write) = if is_write then verb.Write else verb.Read
verb_of (kind.Block is_alloc) = if is_alloc then verb.Alloc else verb.Free

-- As many values as widths, and each fits.
abbrev pub AllFit : List ℕ → List ℕ → Type 0
AllFit [] [] = ⊤
AllFit (width ∷ widths) (value ∷ values) = (value < 2 ^ width) × AllFit widths values
AllFit _ _ = ⊥

-- The values fit the operands of the verb, and the verb makes the event of them.
abbrev pub Makes : Verb → List ℕ → Event → Type 0
Makes verb values event = AllFit (row_of verb).widths values × (event ≡ (row_of verb).event values)
