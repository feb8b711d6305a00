-- For proofs alone: how much of a text is written, held, and still to come.
use Rattle.std.specs.Prelude.{◌≡◌, ℕ, List, ◌++◌, Vec, Result, OnErr, OnOk}
use Rattle.hg_streams.specs.Shown.{Outgoing}
use Rattle.hg_streams.specs.declared.call.WriteCall.{WriteCall}
use Rattle.hg_streams.specs.Written.{Took, TookFront}

-- The goal is all text that is due since the calls `first`: some of it was written, some is held, and the rest is to come.
pub record IsDue (first now : List WriteCall) (held rest goal : List ℕ) : Type 0 where
  pub written : List ℕ
  pub appended : Took first now written
  pub whole : written ++ (held ++ rest) ≡ goal

-- The next text is held, so that less is to come.
abbrev pub HoldsNext : List ℕ → List ℕ → List ℕ → List ℕ → Type 0
HoldsNext old new more less = (first now : List WriteCall) (rest goal : List ℕ) → IsDue first now old (more ++ rest) goal → IsDue first now new (less ++ rest) goal

-- Where a call succeeded, this text, the next one due, was written or is held.
abbrev pub HoldsOrWrites : {T E : Type 0} → List ℕ → List WriteCall → List ℕ → Result T E → List WriteCall → List ℕ → Type 0
HoldsOrWrites text old held r new left =
    (first : List WriteCall) (rest goal : List ℕ) → IsDue first old held (text ++ rest) goal → OnOk r (IsDue first new left rest goal)

-- Where it failed, a front of the goal was written.
abbrev pub WritesFront : {T E : Type 0} → List ℕ → List WriteCall → List ℕ → Result T E → List WriteCall → Type 0
WritesFront text old held r new =
    (first : List WriteCall) (rest goal : List ℕ) → IsDue first old held (text ++ rest) goal → OnErr r (TookFront first new goal)

-- Where a call succeeded, this text was written to the output or is held for it.
abbrev pub HoldsOrPrints : {T E W Z : Type 0} → List ℕ → Outgoing W → Vec ℕ Z → Result T E → Outgoing W → Vec ℕ Z → Type 0
HoldsOrPrints text old held r new left = HoldsOrWrites text old.calls held.items r new.calls left.items

-- Where it failed, a front of what is due for the output was written.
abbrev pub PrintsFront : {T E W Z : Type 0} → List ℕ → Outgoing W → Vec ℕ Z → Result T E → Outgoing W → Type 0
PrintsFront text old held r new = WritesFront text old.calls held.items r new.calls
