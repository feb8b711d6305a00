-- What stays when a disk is only read, and what a broken value answers.
use Rattle.std.specs.Prelude.{◌≡◌, ℕ, Bool, IsTrue, Result, Err, IsErrOf}
use Rattle.hg_disk.specs.declared.disk.Disk as disk
use Rattle.hg_disk.specs.Calls.{CallsAtMost}
use Rattle.hg_disk.specs.Moments.{AddsNoImage}

-- The disk was only read: its state is as it was, no moment adds an image, and it was called at most n times.
pub record WasRead {D : Type 0} (g : disk.Ghosts D) (n : ℕ) (old new : D) : Type 0 where
  pub state : g.state new ≡ g.state old
  pub any_moment : AddsNoImage g old new
  pub calls : CallsAtMost g n old new

-- A value that is broken answers this fault and stays as it is, and no other value answers so.
pub record RefusesIfBroken {V T E : Type 0} (is_broken : Bool) (fault : E) (old new : V) (result : Result T E) : Type 0 where
  pub broken : IsErrOf result fault → IsTrue is_broken
  pub refuses : IsTrue is_broken → result ≡ Err fault
  pub same : IsTrue is_broken → new ≡ old
