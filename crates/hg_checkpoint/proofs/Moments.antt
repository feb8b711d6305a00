-- What each moment of a disk leaves, from what may be left.
use Rattle.std.proofs.Common.{inl, inr, ℕ, List, [], ◌∷◌}
use Rattle.hg_disk.specs.State.{DiskState}
use Rattle.hg_disk.specs.Moments.{EachLeaves, GoesOn, IsAmong, LeavesOnly, MayLeave}
use Rattle.hg_disk.specs.declared.disk.Disk as disk

all_among : (P : List ℕ → Type 0) (states : List DiskState) → ((bytes : List ℕ) → IsAmong states bytes → P bytes) → EachLeaves P states
all_among P [] has = tt
all_among P (s ∷ earlier) has = (λ image is. has image (inl is), all_among P earlier (λ image among. has image (inr among)))

module _ {D : Type 0} (g : disk.Ghosts D) where
  pub only_these : (old new : D) (P : List ℕ → Type 0) → GoesOn g old new → ((bytes : List ℕ) → MayLeave g old new bytes → P bytes) → LeavesOnly g old new P
  only_these old new P goes has = record {
    later = goes.0;
    has_gone = goes.1;
    first = λ image is. has image (record { later = goes.0; has_gone = goes.1; among = inl is });
    each = all_among P goes.0 (λ image among. has image (record { later = goes.0; has_gone = goes.1; among = inr among }));
    kept = goes.2;
  }
