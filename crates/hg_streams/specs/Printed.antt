-- What an output was given.
use Rattle.std.specs.Prelude.{◌≡◌, ◌⊎◌, ℕ, List, [], ◌∷◌, ◌++◌, All}
use Rattle.hg_streams.specs.declared.call.WriteCall.{WriteCall}
use Rattle.hg_streams.specs.declared.call.WriteCall.TheVariants.{Took, Torn, Flushed, NotFlushed}

-- A text was written by one call, and flushed.
abbrev pub WasFlushed : List WriteCall → List WriteCall → List ℕ → Type 0
WasFlushed old new text = new ≡ Flushed ∷ Took text ∷ old

-- A text was to be printed at once: it was not written, or its write failed, or its flush failed, or it was written and flushed.
abbrev pub IsPrintedNow : List WriteCall → List WriteCall → List ℕ → Type 0
IsPrintedNow old new text = (new ≡ old) ⊎ ((new ≡ Torn text ∷ old) ⊎ ((new ≡ NotFlushed ∷ Took text ∷ old) ⊎ WasFlushed old new text))

-- the bytes that a call was given, even if it failed
abbrev pub given_to : WriteCall → List ℕ
given_to (Took bytes) = bytes
given_to (Torn bytes) = bytes
given_to Flushed = []
given_to NotFlushed = []

-- Each call of an output since `first` was given a text that has P.
pub record WereGiven (P : List ℕ → Type 0) (first now : List WriteCall) : Type 0 where
  pub later : List WriteCall
  pub since : now ≡ later ++ first
  pub each : All (λ call. P (given_to call)) later
