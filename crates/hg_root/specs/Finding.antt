-- The roots that are found in two root files.
use Rattle.std.specs.Prelude.{◌≡◌, ◌≤◌, ◌⊎◌, ℕ, List, Bool, true, false, IsTrue, Option, Some, None, IfSome, Result, IfOk, IsErrOf}
use Rattle.hg_disk.specs.Calls.{CallsAtMost}
use Rattle.hg_disk.specs.Moments.{LeavesOnly}
use Rattle.hg_disk.specs.State.{IsImage, settled}
use Rattle.hg_disk.specs.declared.disk.Disk as disk
use Rattle.hg_gate.specs.Gated.{Rests}
use Rattle.hg_root.specs.Lawful.{IsLawful}
use Rattle.hg_root.specs.Newest.{IsBelow, IsFormer, IsNewest, IsNoRootFile, IsRootFile}
use Rattle.hg_root.specs.Pairs.{Stands, first_bytes, first_of, second_bytes, second_of}
use Rattle.hg_root.specs.Parts.{Parts}
use Rattle.hg_root.specs.Roots.{IsWhole, parts_of}
use Rattle.hg_root.specs.declared.fault.RootFault.{RootFault}
use Rattle.hg_root.specs.declared.fault.RootFault.TheVariants.{Damaged}
use Rattle.hg_root.specs.declared.pair.Newest.{Newest}
use Rattle.hg_root.specs.declared.pair.RootPair.{RootPair}
use Rattle.hg_root.specs.declared.root.Root.{Root}

-- the parts of a root, if there is one
abbrev pub root_in : Option Root → Option Parts
root_in None = None
root_in (Some root) = Some (parts_of root)

-- If there is a root, it is whole and obeys the rules, even if the disk lies.
abbrev pub IsWholeIn : Option Root → Type 0
IsWholeIn found = IfSome found (λ r. IsWhole r × IsLawful (parts_of r))

-- Both roots are whole and obey the rules.
abbrev pub AreWhole : Newest → Type 0
AreWhole found = IsWholeIn found.root × IsWholeIn found.former

-- One of the two files has the newest root and the other the lesser one or is closed; or both are closed.
pub record AreRootsOf (found : Newest) (one other : List ℕ) : Type 0 where
  pub below : IsBelow (root_in found.former) (root_in found.root)
  pub either : (IsRootFile one (root_in found.former) × IsRootFile other (root_in found.root)) ⊎ (IsRootFile one (root_in found.root) × IsRootFile other (root_in found.former))

-- the number of a root, 0 if there is none
abbrev pub number_in : Option Parts → ℕ
number_in None = 0
number_in (Some root) = root.number

-- The file has the root that was found; if none was found, the file is closed.
abbrev pub HasRoot : List ℕ → Option Root → Type 0
HasRoot bytes found = IsRootFile bytes (root_in found)

-- If two files have these roots, or are closed, then the roots that are found are theirs.
abbrev pub ChoosesFrom : {E : Type 0} → (in_older in_newer : Option Root) → Result Newest E → Type 0
ChoosesFrom in_older in_newer result =
    (one other : List ℕ) → IsRootFile one (root_in in_older) → IsRootFile other (root_in in_newer)
    → IfOk result (λ found. AreRootsOf found one other)

-- They are damaged: both are open with the same number.
abbrev pub HaveOneNumber : (in_older in_newer : Option Root) → RootFault → Type 0
HaveOneNumber in_older in_newer fault =
    (fault ≡ Damaged) × (1 ≤ number_in (root_in in_older)) × (number_in (root_in in_older) ≡ number_in (root_in in_newer))

-- Two files are to take turns, or not. (No promise to a reader rests on this.)
abbrev pub IsDue : ℕ → ℕ → Bool → Type 0
IsDue older newer true = newer ≤ older
IsDue older newer false = older ≤ newer

module _ {D : Type 0} (g : disk.Ghosts D) where
  -- The disk was only read: its state is the same, each moment adds no image, and it was called at most three times.
  pub record WasRead (old new : D) : Type 0 where
    pub state : g.state new ≡ g.state old
    pub any_moment : LeavesOnly g old new (IsImage (g.state old))
    pub calls : CallsAtMost g 3 old new

  -- These are the roots of the two files: two, one or none.
  abbrev pub IsNewestOf : RootPair D → Newest → Type 0
  IsNewestOf p found = AreRootsOf found (first_bytes g p) (second_bytes g p)

  -- No other root is the newest, and if a former root was found, no other is the former one.
  abbrev pub IsOnlyOf : RootPair D → Newest → Type 0
  IsOnlyOf p found = (root former : Option Parts) → IsNewest root former (first_bytes g p) (second_bytes g p) → (root ≡ root_in found.root) × IsFormer (root_in found.former) former

  -- The two files have no newest root, and they are not both closed.
  abbrev pub HasNoNewest : RootPair D → Type 0
  HasNoNewest p = (root former : Option Parts) → ¬ IsNewest root former (first_bytes g p) (second_bytes g p)

  -- The pair stands with these roots.
  abbrev pub StandsWith : RootPair D → Newest → Type 0
  StandsWith p found = Stands g p (root_in found.root) (root_in found.former)

  -- If the reads were true and damage is told, the disk's bytes are not a root file's.
  abbrev pub TellsTrueDamage : {T : Type 0} → (old new : D) → Result T RootFault → Type 0
  TellsTrueDamage old new result = IsTrue (g.reads_were_true new) → IsErrOf result Damaged → IsNoRootFile (g.state old).contents

  -- If both files were durable, the pair stands with the roots that were found.
  abbrev pub StandsDurably : {E : Type 0} → (old new : RootPair D) → Result Newest E → Type 0
  StandsDurably old new result =
      (one other : List ℕ) → g.state (first_of old) ≡ settled one → g.state (second_of old) ≡ settled other → IfOk result (StandsWith new)

  -- If both files are durable, and have these roots or are closed, the pair stands with the roots that were found.
  abbrev pub StandsByChoice : {E : Type 0} → (old : RootPair D) → (in_older in_newer : Option Root) → (new : RootPair D) → Result Newest E → Type 0
  StandsByChoice old in_older in_newer new result =
      (one other : List ℕ) → Rests g old.older one → Rests g old.newer other
      → IsRootFile one (root_in in_older) → IsRootFile other (root_in in_newer) → IfOk result (StandsWith new)
