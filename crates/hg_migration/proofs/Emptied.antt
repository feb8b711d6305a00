-- Files that are emptied.
use Rattle.std.proofs.Common.{◌≡◌, ℕ, List, [], ◌∷◌, OnOk, OnErr, Result, get_or, ◌∙◌, subst, length, arith}
use Rattle.hg_disk.specs.declared.disk.Disk as disk
use Rattle.hg_disk.specs.Kept.{image_of_cut}
use Rattle.hg_disk.specs.Moments.{LeavesOnly, WereTrueBefore}
use Rattle.hg_disk.specs.State.{DiskState, IsImage, SameImages, after_cut, after_sync, settled}
use Rattle.hg_disk.proofs.Moments.{at_end, joined, started, sync_leaves, weaker}
use Rattle.hg_migration.specs.Emptying.{Empties, IsOpen}
use Rattle.hg_gate.specs.Batches.{open_gate}
use Rattle.hg_gate.specs.Reading.{WasRead}

-- an empty file is not open
pub none_is_not_open : (bytes : List ℕ) → length bytes ≡ 0 → IsOpen bytes → ⊥
none_is_not_open [] none is = absurd (cc is.1)
none_is_not_open (b ∷ bytes) none is = omega (arith, none)

-- the first byte of an open file
pub first_byte : (bytes : List ℕ) → IsOpen bytes → get_or bytes 0 0 ≡ open_gate
first_byte [] is = absurd (cc is.1)
first_byte (b ∷ bytes) is = cc is.1

pub open_by_its_byte : (bytes : List ℕ) → get_or bytes 0 0 ≡ open_gate → IsOpen bytes
open_by_its_byte [] is = absurd (omega (arith, is))
open_by_its_byte (b ∷ bytes) is = (bytes, λ i. is i ∷ bytes)

module _ {D : Type 0} (g : disk.Ghosts D) where
  -- a file that is not called
  pub uncalled : (d : D) → Empties g d d
  uncalled d = record {
    cut = started g d (IsImage (after_cut 0 (g.state d))) (image_of_cut 0 (g.state d));
    none = λ is. started g d (IsImage (settled [])) (λ image left. subst (λ (s : DiskState). IsImage s image) is left);
  }

  -- a file that is only read,
  pub only_read : (n : ℕ) (old new : D) → WasRead g n old new → Empties g old new
  only_read n old new read = record {
    cut = weaker g old new (IsImage (g.state old)) (IsImage (after_cut 0 (g.state old))) read.any_moment (image_of_cut 0 (g.state old));
    none = λ is. subst (λ (s : DiskState). LeavesOnly g old new (IsImage s)) is read.any_moment;
  }

  -- and then emptied
  pub emptied_on : (n : ℕ) (old mid new : D) → WasRead g n old mid → Empties g mid new → Empties g old new
  emptied_on n old mid new read next =
      let first = only_read n old mid read in
      record {
        cut = joined g old mid new (IsImage (after_cut 0 (g.state old))) first.cut (subst (λ (s : DiskState). LeavesOnly g mid new (IsImage (after_cut 0 s))) read.state next.cut);
        none = λ is. joined g old mid new (IsImage (settled [])) (first.none is) (next.none (read.state ∙ is));
      }

  -- what each image has stays in a sync
  pub kept_in_sync : {T E : Type 0} (P : List ℕ → Type 0) (old mid new : D) (result : Result T E) → ((d : D) → IsImage (g.state d) (g.state d).contents) → LeavesOnly g old mid P → OnOk result (g.state new ≡ after_sync (g.state mid))
      → OnErr result (SameImages (g.state mid) (g.state new)) → g.past new ≡ (g.state mid ∷ g.past mid) → WereTrueBefore g mid new → LeavesOnly g old new P
  kept_in_sync P old mid new result has_its_bytes first ok err clock before =
      joined g old mid new P first (weaker g mid new (IsImage (g.state mid)) P (sync_leaves g mid new result has_its_bytes ok err clock before) (at_end g old mid P first))

  pub synced : {T E : Type 0} (old mid new : D) (result : Result T E) → ((d : D) → IsImage (g.state d) (g.state d).contents) → Empties g old mid → OnOk result (g.state new ≡ after_sync (g.state mid))
      → OnErr result (SameImages (g.state mid) (g.state new)) → g.past new ≡ (g.state mid ∷ g.past mid) → WereTrueBefore g mid new → Empties g old new
  synced old mid new result has_its_bytes first ok err clock before = record {
    cut = kept_in_sync (IsImage (after_cut 0 (g.state old))) old mid new result has_its_bytes first.cut ok err clock before;
    none = λ is. kept_in_sync (IsImage (settled [])) old mid new result has_its_bytes (first.none is) ok err clock before;
  }
