-- The laws of streams, which empty public functions promise.
use Rattle.std.specs.Prelude.{◌≡◌, ℕ, List, ◌++◌, Option, None}
use Rattle.hg_protocol.specs.declared.message.Message as message
use Rattle.hg_protocol.specs.declared.message.FrameFault.{FrameFault}
use Rattle.hg_protocol.specs.Streams.{IsRead}

module _ {M : Type 0} (g : message.Ghosts M) where
  -- Reading some bytes, and then their rest with more bytes, gives the same as reading all bytes at once.
  abbrev pub CutsAreNothing : Type 0
  CutsAreNothing = (bytes more left rest : List ℕ) (front later : List M) (fault : Option FrameFault) → IsRead g bytes front None left → IsRead g (left ++ more) later fault rest
      → IsRead g (bytes ++ more) (front ++ later) fault rest

  -- Bytes give one list of messages, one fault or none, and one rest.
  abbrev pub ReadingIsUnique : Type 0
  ReadingIsUnique = (bytes x y : List ℕ) (ms ns : List M) (a b : Option FrameFault) → IsRead g bytes ms a x → IsRead g bytes ns b y → (ms ≡ ns) × (a ≡ b) × (x ≡ y)
