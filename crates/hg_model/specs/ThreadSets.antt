-- Which sets of threads a content has.
use Rattle.std.specs.Prelude.{◌≡◌, ℕ, ◌+◌, ◌≤◌, List, [], ◌∷◌, length, Some}
use Rattle.std.specs.List.{AllByRecursion}
use Rattle.hg_model.specs.declared.limits.TheConstants.{GREATEST_THREAD, THREAD_NUMBERS}
use Rattle.hg_model.specs.declared.event.Named.{Named}
use Rattle.hg_model.specs.Contents.{Content}
use Rattle.hg_model.specs.Sharing.{threads_in}
use Rattle.hg_model.specs.Change.{empty_content, followed}

-- numbers of threads from n on, each greater than the one before it
abbrev pub RisesFrom : ℕ → List ℕ → Type 0
RisesFrom n [] = Unit {0}
RisesFrom n (t ∷ ts) = (n ≤ t) × (t ≤ GREATEST_THREAD) × RisesFrom (t + 1) ts

-- A set of threads: numbers of threads that rise.
abbrev pub IsThreadSet : List ℕ → Type 0
IsThreadSet ts = RisesFrom 0 ts

-- The threads of each word and of each report are a set of threads.
pub record HasThreadSets (c : Content) : Type 0 where
  pub segments : AllByRecursion (λ s. s.thread ≤ GREATEST_THREAD) c.segments
  pub words : (w : ℕ) → IsThreadSet (threads_in (c.words w))
  pub reports : AllByRecursion (λ r. IsThreadSet r.threads) c.reports

-- The empty content has such sets, accepted events keep them so, and no set of threads has more members than there are threads.
pub record ThreadSetsAreSmall : Type 0 where
  pub start : HasThreadSets empty_content
  pub kept : (c d : Content) (trace : List Named) → followed c trace ≡ Some d → HasThreadSets c → HasThreadSets d
  pub few : (ts : List ℕ) → IsThreadSet ts → length ts ≤ THREAD_NUMBERS
