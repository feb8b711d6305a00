-- What the newest root says.
use Rattle.std.proofs.Common.{◌≡◌, ℕ, List, Option, Result, Ok, Err, subst}
use Rattle.std.specs.Prelude.{IfOk, IfSome}
use Rattle.hg_model.specs.declared.verdict.Refusal.{Refusal}
use Rattle.hg_disk.specs.declared.disk.Disk as disk
use Rattle.hg_root.specs.Checkpoints.{LieWithin, root_of}
use Rattle.hg_root.specs.Newest.{IsNewest}
use Rattle.hg_root.specs.Parts.{Parts}
use Rattle.hg_saved.specs.Heads.{IsHeadIn, IsSavedHead}
use Rattle.hg_saved.specs.declared.head.SavedHead.{SavedHead}

-- it is that of each checkpoint
pub head_within : (one other slots : List ℕ) (found former : Option Parts) (result : Result (Option SavedHead) Refusal) → IsNewest found former one other → IfSome former (LieWithin slots)
    → ((root f : Option Parts) → IsNewest root f one other → root ≡ found) → IfOk result (IsHeadIn found) → IfOk result (IsSavedHead one other slots)
head_within one other slots found former (Ok head) newest within only says =
    record { root = found; former = former; newest = newest; within = within; says = says; only = λ c has. only (root_of c) has.former has.newest }
head_within one other slots found former (Err e) newest within only says = tt

-- the same of disks that are alike
pub head_alike : {D : Type 0} (g : disk.Ghosts D) (head : Option SavedHead) (a b d e p q : D) → a ≡ b → d ≡ e → p ≡ q → IsSavedHead (g.state a).contents (g.state d).contents (g.state p).contents head
    → IsSavedHead (g.state b).contents (g.state e).contents (g.state q).contents head
head_alike {D} g head a b d e p q first second slots says =
    subst (λ (x : D). IsSavedHead (g.state x).contents (g.state e).contents (g.state q).contents head) first
    (subst (λ (x : D). IsSavedHead (g.state a).contents (g.state x).contents (g.state q).contents head) second
    (subst (λ (x : D). IsSavedHead (g.state a).contents (g.state d).contents (g.state x).contents head) slots says))
