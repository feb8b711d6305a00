-- Reads of a file of slots, one after the other.
use Rattle.std.proofs.Common.{◌+◌, ◌≤◌, ◌∙◌, ℕ, subst, arith}
use Rattle.hg_disk.specs.declared.disk.Disk as disk
use Rattle.hg_disk.specs.Moments.{LeavesOnly}
use Rattle.hg_disk.specs.State.{DiskState, IsImage}
use Rattle.hg_disk.proofs.Moments.{joined}
use Rattle.hg_pages.specs.Files.{WasRead, disk_of}
use Rattle.hg_pages.specs.declared.slot_file.SlotFile.{SlotFile}

module _ {D : Type 0} (g : disk.Ghosts D) where
  pub read_on : (n m : ℕ) (old mid new : SlotFile D) → WasRead g n old mid → WasRead g m mid new → WasRead g (n + m) old new
  read_on n m old mid new one two = record {
    known = two.known ∙ one.known;
    state = two.state ∙ one.state;
    any_moment =
        joined g (disk_of old) (disk_of mid) (disk_of new) (IsImage (g.state (disk_of old))) one.any_moment
        (subst (λ (s : DiskState). LeavesOnly g (disk_of mid) (disk_of new) (IsImage s)) one.state two.any_moment);
    calls = let a = one.calls in let b = two.calls in omega (arith, a, b);
    works = two.works ∙ one.works;
  }

  -- at most so many calls are at most more
  pub at_most : (n m : ℕ) (old new : SlotFile D) → n ≤ m → WasRead g n old new → WasRead g m old new
  at_most n m old new le one = record {
    known = one.known;
    state = one.state;
    any_moment = one.any_moment;
    calls = let a = one.calls in omega (arith, a, le);
    works = one.works;
  }
