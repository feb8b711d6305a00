-- Room that a write takes.
use Rattle.std.proofs.Common.{◌≤◌, ◌+◌, ℕ, List, length, arith}
use Rattle.std.proofs.lemmas.List.{places}
use Rattle.hg_disk.specs.Memory.{room_taken}
use Rattle.hg_disk.specs.Room.{TapeHasRoom}
use Rattle.hg_disk.specs.State.{overwritten}
use Rattle.hg_disk.specs.declared.tape.Tape.{Tape}

-- less room is there too
pub less_room : (t : Tape) (n b less : ℕ) → less ≤ b → TapeHasRoom t n b → TapeHasRoom t n less
less_room t n b less le has = record { open_still = has.open_still; calls_fit = has.calls_fit; bytes_fit = omega (arith, has.bytes_fit, le) }

pub length-overwritten_le : (file : List ℕ) (at : ℕ) (bytes : List ℕ) → length (overwritten file at bytes) ≤ length file + room_taken file at bytes
length-overwritten_le file at bytes = grind (arith, places)
