-- How many calls, and how many bytes of writes, take no memory.
use Rattle.std.specs.Prelude.{◌≡◌, ◌+◌, ◌≤◌, ◌^◌, ℕ, Bool, false, IsTrue, List, length}
use Rattle.std.specs.Vec.{vec_len, vec_capacity}
use Rattle.hg_disk.specs.declared.tape.Tape.{Tape}

pub record TapeHasRoom (t : Tape) (calls bytes : ℕ) : Type 0 where
  pub open_still : t.is_full ≡ false
  pub calls_fit : vec_len t.calls + calls ≤ vec_capacity t.calls
  pub bytes_fit : vec_len t.written + bytes ≤ vec_capacity t.written

-- It keeps its room for a call that writes so many bytes.
abbrev pub KeepsRoomFor : (len : ℕ) → (old new : Tape) → Type 0
KeepsRoomFor len old new = (n b : ℕ) → TapeHasRoom old (n + 1) (len + b) → TapeHasRoom new (n + 1) (len + b)

-- A sound write within the greatest length takes effect if the tape has room for it and the file's capacity suffices.
abbrev pub WritesSurely : Tape → (at : ℕ) → (bytes : List ℕ) → (capacity : ℕ) → (is_sound is_done : Bool) → Type 0
WritesSurely tape at bytes capacity is_sound is_done =
    (n b : ℕ) → IsTrue is_sound → TapeHasRoom tape (n + 1) (length bytes + b) → at + length bytes ≤ 2 ^ 62
    → at + length bytes ≤ capacity → IsTrue is_done
