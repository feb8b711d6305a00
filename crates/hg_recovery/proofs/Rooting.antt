-- A detector at the newest root of two files.
use Rattle.std.proofs.Common.{◌≡◌, ◌∙◌, ℕ, List, Option, Some, None, refl, sym, ap, subst}
use Rattle.std.specs.Prelude.{IfSome}
use Rattle.hg_model.specs.declared.verdict.Refusal.{Refusal}
use Rattle.hg_detect.specs.Shown as detect
use Rattle.hg_disk.specs.State.{DiskState, IsImage, settled}
use Rattle.hg_disk.specs.Moments.{Leaves}
use Rattle.hg_disk.specs.declared.disk.Disk as disk
use Rattle.hg_pool.specs.Maps as pools
use Rattle.hg_pool.specs.Shown as pool
use Rattle.hg_root.specs.Checkpoints.{Checkpoint, HasPages, LieWithin, root_of}
use Rattle.hg_root.specs.Finding.{AreRootsOf, number_in, root_in}
use Rattle.hg_root.specs.Newest.{IsFormer, IsNewest}
use Rattle.hg_root.specs.Pairs.{Stands}
use Rattle.hg_root.specs.Parts.{Parts}
use Rattle.hg_root.specs.declared.pair.Newest.{Newest}
use Rattle.hg_root.specs.declared.pair.RootPair.{RootPair}
use Rattle.hg_root.proofs.Choosing.{newest_of}
use Rattle.hg_checkpoint.specs.Tables.{NamesOf}
use Rattle.hg_contents.specs.Choices.{Choice, HasSlots}
use Rattle.hg_contents.specs.Images.{start_of}
use Rattle.hg_contents.proofs.Contents.{one_start}
use Rattle.hg_recovery.specs.Detectors.{IsReady}
use Rattle.hg_recovery.specs.Rooting.{HasNoRoom, IsRooted, IsTooFew, table_at}

-- what holds of the former root holds of the lesser one
pub of_former : (lesser former : Option Parts) (P : Parts → Type 0) → IsFormer lesser former → IfSome former P → IfSome lesser P
of_former None former P is has = tt
of_former (Some parts) former P is has = subst (λ (o : Option Parts). IfSome o P) is has

pub newest_in : (found : Newest) (s t : DiskState) (one other : List ℕ) → s ≡ settled one → t ≡ settled other → AreRootsOf found s.contents t.contents → IsNewest (root_in found.root) (root_in found.former) one other
newest_in found s t one other first second are =
    newest_of found one other
    (subst (λ (bytes : List ℕ). AreRootsOf found bytes other) (ap (λ (u : DiskState). u.contents) first) (subst (λ (bytes : List ℕ). AreRootsOf found s.contents bytes) (ap (λ (u : DiskState). u.contents) second) are))

-- what is told of room for a root that was found is so of the newest one
pub no_room : (sets slots : ℕ) (one other : List ℕ) (found former : Option Parts) (r : Refusal) → IsNewest found former one other → IsTooFew sets slots found r → HasNoRoom sets slots one other r
no_room sets slots one other None former r newest few = record { sets = λ told. absurd (few.0 told); slots = λ told. absurd (few.1 told) }
no_room sets slots one other (Some root) former r newest few = record {
  sets = λ told. record { root = root; former = former; newest = newest; has = few.0 told };
  slots = λ told. record { root = root; former = former; newest = newest; has = few.1 told };
}

-- ---- durable disks

pub settled_leaves : (P : List ℕ → Type 0) (bytes : List ℕ) (s : DiskState) → s ≡ settled bytes → P bytes → Leaves P s
settled_leaves P bytes s is has image left =
    let left' : IsImage (settled bytes) image = subst (λ (t : DiskState). IsImage t image) is left in
    let same : image ≡ bytes = left'.clean refl in
    subst P (sym same) has

pub settled_reads : (bytes : List ℕ) (s : DiskState) → s ≡ settled bytes → s.contents ≡ bytes
settled_reads bytes s is = ap (λ (t : DiskState). t.contents) is

module _ {D : Type 0} (g : disk.Ghosts D) where
  pub rooted_so : (cap : ℕ) (one other bytes : List ℕ) (found former : Option Parts) (cp : Option Checkpoint) (d : detect.ShownDetector (pool.ShownPool D)) (roots : RootPair D) (number : ℕ) → root_of cp ≡ found
      → IsNewest found former one other → IfSome former (LieWithin bytes) → IfSome cp (HasPages bytes) → ((root f : Option Parts) → IsNewest root f one other → root ≡ found)
      → Stands g roots found former → number ≡ number_in found → g.state (pools.disk_of d.words) ≡ settled bytes → NamesOf d.words.root cp → detect.content (pools.live g) d ≡ start_of cp
      → IsReady g d → d.sets ≡ table_at cap found → IsRooted g cap one other bytes d roots number
  rooted_so most one other bytes found former cp d roots number is newest lie pages only stands counts at names content ready sets =
      let now : Choice = record { checkpoint = cp; former = former } in record {
        now = now;
        has_roots = subst (λ (root : Option Parts). IsNewest root former one other) (sym is) newest;
        has_slots = (pages, lie);
        only = λ k has. one_start k cp bytes (only (root_of k) has.former has.newest ∙ sym is) has.stand.0 pages;
        started = record {
          stands = subst (λ (root : Option Parts). Stands g roots root former) (sym is) stands;
          is_number = counts ∙ ap number_in (sym is);
          slots = settled_leaves (HasSlots now) bytes (g.state (pools.disk_of d.words)) at (pages, lie);
          names = names;
          content = content;
          ready = ready;
        };
        sets = sets ∙ ap (λ (root : Option Parts). table_at most root) (sym is);
      }
