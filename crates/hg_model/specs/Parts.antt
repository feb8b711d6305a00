-- What a trace state shows: the parts of a content that a verdict depends on.
use Rattle.std.specs.Prelude.{◌≡◌, ℕ, List, length, slice_index}
use Rattle.hg_model.specs.declared.thread.ThreadState.{ThreadState}
use Rattle.hg_model.specs.Messages.{Agrees, Messages}
use Rattle.hg_model.specs.Contents.{Content}

-- The counts of events and of segments, the threads by rising number, the last accepted number of each source (0 past the end), and
-- the table of messages.
pub record Parts : Type 0 where
  pub events : ℕ
  pub segments : ℕ
  pub threads : List ThreadState
  pub last : List ℕ
  pub messages : Messages

-- The content has these parts.
pub record HasParts (c : Content) (p : Parts) : Type 0 where
  pub events : p.events ≡ c.events
  pub segments : p.segments ≡ length c.segments
  pub threads : p.threads ≡ c.threads
  pub last : (source : ℕ) → slice_index p.last source ≡ c.last source
  pub messages : Agrees c.segments p.messages
