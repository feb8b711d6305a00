-- Definition: part of what `check` promises. What a writer took.
use Rattle.std.specs.Prelude.{◌≡◌, ℕ, List, ◌++◌, drop}
use Rattle.hg_streams.specs.declared.call.WriteCall.{WriteCall}
use Rattle.hg_streams.specs.Calls.{failed_writes, taken, torn}

-- No call of the writer since `first` failed, and they took this text.
pub record Took (first now : List WriteCall) (text : List ℕ) : Type 0 where
  pub later : List WriteCall
  pub since : now ≡ later ++ first
  pub whole : failed_writes later ≡ 0
  pub all : taken later ≡ text

-- No call of the writer since `first` failed, except perhaps the newest. The bytes that they took, and those that the newest may have
-- taken, are a front of this text.
pub record TookFront (first now : List WriteCall) (text : List ℕ) : Type 0 where
  pub later : List WriteCall
  pub since : now ≡ later ++ first
  pub earlier : failed_writes (drop 1 later) ≡ 0
  pub rest : List ℕ
  pub front : (taken later ++ torn later) ++ rest ≡ text
