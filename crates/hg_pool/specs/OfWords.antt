-- A pool as the detector's map of words: what its parts mean, and the laws.
use Rattle.std.proofs.Common.{arith, inl, inr, ◌<◌, ◌≡◌, ◌⊎◌, ◌≤◌, ◌+◌, ◌/◌, ◌%◌, ◌∙◌, ℕ, true, List, [], ◌∷◌, length, get_or, Some, None, is_some, refl, sym, subst}
use Rattle.std.specs.Prelude.{◌≢◌, IfErr, Result}
use Rattle.hg_disk.specs.declared.disk.Disk as disk
use Rattle.hg_disk.specs.State.{DiskState}
use Rattle.hg_disk.specs.Moments.{EachLeaves, GoesOn}
use Rattle.hg_disk.proofs.Moments.{joined, at_end, started}
use Rattle.hg_cells.specs.declared.cell.Cell.TheVariants.{New}
use Rattle.hg_cells.specs.Cells.{IsWithin}
use Rattle.hg_cells.specs.PagedLaws.{within_more}
use Rattle.hg_cells.specs.Words.{AreBytes, ForOverlapped}
use Rattle.hg_model.specs.History.{overlaps}
use Rattle.hg_pages.specs.declared.decoded.TheConstants.{MOST_PAGES}
use Rattle.hg_model.specs.declared.verdict.Refusal.{Refusal}
use Rattle.hg_model.specs.declared.verdict.Refusal.TheVariants as refusal
use Rattle.hg_pages.specs.Slots.{HasBytes, IsKnown}
use Rattle.hg_pages.specs.Tables.{slot_in}
use Rattle.hg_pool.specs.Answers.{IsTrueCause}
use Rattle.hg_pool.specs.Kept.{AreWithin, BreaksByFailure, Extends, IsFaithful, IsWhole, KeepsNamed, Went}
use Rattle.hg_pool.specs.Maps.{copy_in, disk_of, frame_in, is_broken, live}
use Rattle.hg_pool.specs.Shown.{ShownPool}

-- the cells in memory name only segments and sets below these numbers
abbrev pub MayBring : {D : Type 0} → ShownPool D → ℕ → ℕ → Type 0
MayBring p segments sets = AreWithin p.frames segments sets

-- the word's page is in memory
abbrev pub IsBrought : {D : Type 0} → ShownPool D → ℕ → Type 0
IsBrought p w = is_some (frame_in p.frames (w / 256)) ≡ true

-- The page may be changed: it does not wait, or its frozen cells are kept.
abbrev pub IsSettled : {D : Type 0} → ShownPool D → ℕ → Type 0
IsSettled p page = (slot_in p.waiting page ≡ None) ⊎ (is_some (copy_in p.copies page) ≡ true)

-- the word's page is in memory, and may be changed
abbrev pub IsKept : {D : Type 0} → ShownPool D → ℕ → Type 0
IsKept p w = IsBrought p w × IsSettled p (w / 256)

-- the words lie in one page, which is in memory and may be changed
abbrev pub MayFill : {D : Type 0} → ShownPool D → ℕ → ℕ → Type 0
MayFill p first count = IsKept p first × (first % 256 + count ≤ 256)

-- so many bytes overlap each word of the page
abbrev pub IsCovered : (at len page : ℕ) → Type 0
IsCovered at len page = (v : ℕ) → v / 256 ≡ page → overlaps at len v ≡ true

-- The two pages are overlapped, and each other overlapped page is covered.
pub record AreInPart (at len : ℕ) (pages : ℕ × ℕ) : Type 0 where
  pub low : (v : ℕ) × (overlaps at len v ≡ true) × (v / 256 ≡ pages.0)
  pub high : (v : ℕ) × (overlaps at len v ≡ true) × (v / 256 ≡ pages.1)
  pub others : ForOverlapped at len (λ w. (w / 256 ≡ pages.0) ⊎ ((w / 256 ≡ pages.1) ⊎ IsCovered at len (w / 256)))
  pub numbers : (pages.0 < MOST_PAGES) × (pages.1 < MOST_PAGES)

-- The page of each word that so many bytes overlap may be changed, and is in memory where the bytes do not cover it.
abbrev pub MayClear : {D : Type 0} → ShownPool D → ℕ → ℕ → Type 0
MayClear p at len = AreBytes at len × ForOverlapped at len (λ w. IsSettled p (w / 256) × (IsBrought p w ⊎ IsCovered at len (w / 256)))

-- a full table of sets is no cause of a pool's refusals
pub never_full : {D : Type 0} (p : ShownPool D) → IsTrueCause p refusal.FullSets → ⊥
never_full p refused = refused

pub brings_more : {D : Type 0} (p : ShownPool D) (segments sets more_segments more_sets : ℕ) → segments ≤ more_segments → sets ≤ more_sets → MayBring p segments sets → MayBring p more_segments more_sets
brings_more p segments sets more_segments more_sets a b within q f is i = within_more segments sets more_segments more_sets (get_or f.cells i New) a b (within q f is i)

each_unit : (states : List DiskState) → EachLeaves (λ _. Unit {0}) states
each_unit [] = tt
each_unit (s ∷ earlier) = (λ _ _. tt, each_unit earlier)

module _ {D : Type 0} (g : disk.Ghosts D) where
  -- The maps have what was written, and the live cells name only known segments, below this number, and known sets.
  abbrev pub ReadsTrue : ShownPool D → ℕ → List (List ℕ) → Type 0
  ReadsTrue p segments sets = IsWhole g p × ((w : ℕ) → IsKnown segments sets (live g p w))

  -- No page of such maps is found damaged.
  abbrev pub FindsNoDamage : {T : Type 0} → ShownPool D → ℕ → List (List ℕ) → Result T Refusal → Type 0
  FindsNoDamage p segments sets result = ReadsTrue p segments sets → IfErr result (λ r. r ≢ refusal.Damaged)

  pub more_faithful : (p : ShownPool D) (segments sets more_segments more_sets : ℕ) → segments ≤ more_segments → sets ≤ more_sets → IsFaithful g p segments sets → IsFaithful g p more_segments more_sets
  more_faithful p segments sets more_segments more_sets a b h = record { whole = h.whole; within = λ w. within_more segments sets more_segments more_sets (live g p w) a b (h.within w) }

  pub faithful_within : (p : ShownPool D) (segments sets : ℕ) → IsFaithful g p segments sets → (w : ℕ) → IsWithin segments sets (live g p w)
  faithful_within p segments sets h = h.within

  pub went_nowhere : (p : ShownPool D) → Went g p p
  went_nowhere p = record {
    goes = ([], refl, λ were. were);
    works = λ works. works;
    breaks = (omega arith, inl refl);
    root = refl;
    frozen_table = λ page slot names. names;
    root_kept = λ slot bytes named leaves. started g (disk_of p) (HasBytes slot bytes) leaves;
    frozen_kept = λ slot bytes named leaves. started g (disk_of p) (HasBytes slot bytes) leaves;
    long = λ n leaves. started g (disk_of p) (λ image. n ≤ length image) leaves;
    whole = λ h. h;
    frozen_is = λ h w. refl;
    sealed = λ was. was;
    sealed_table = λ was. refl;
    limits = (refl, refl);
    none_waits = λ none. none;
  }

  goes_join : (old mid new : D) → GoesOn g old mid → GoesOn g mid new → GoesOn g old new
  goes_join old mid new one two =
      let both = joined g old mid new (λ _. Unit {0}) (record { later = one.0; has_gone = one.1; first = λ _ _. tt; each = each_unit one.0; kept = one.2 }) (record { later = two.0; has_gone = two.1; first = λ _ _. tt; each = each_unit two.0; kept = two.2 }) in
      (both.later, both.has_gone, both.kept)

  named_join : (table after : List (ℕ × ℕ)) (old mid new : ShownPool D) → Extends table after → KeepsNamed g table old mid → KeepsNamed g after mid new → KeepsNamed g table old new
  named_join table after old mid new extends one two slot bytes named leaves =
      let first = one slot bytes named leaves in
      joined g (disk_of old) (disk_of mid) (disk_of new) (HasBytes slot bytes) first (two slot bytes (named.0, extends named.0 slot named.1) (at_end g (disk_of old) (disk_of mid) (HasBytes slot bytes) first))

  breaks_either : (old mid new : ShownPool D) → g.failures (disk_of old) ≤ g.failures (disk_of mid) → g.failures (disk_of mid) ≤ g.failures (disk_of new)
      → (is_broken mid ≡ is_broken old) ⊎ (g.failures (disk_of old) < g.failures (disk_of mid)) → (is_broken new ≡ is_broken mid) ⊎ (g.failures (disk_of mid) < g.failures (disk_of new))
      → (is_broken new ≡ is_broken old) ⊎ (g.failures (disk_of old) < g.failures (disk_of new))
  breaks_either old mid new a b (inl x) (inl y) = inl (y ∙ x)
  breaks_either old mid new a b (inr x) y = inr (omega (arith, x, b))
  breaks_either old mid new a b (inl x) (inr y) = inr (omega (arith, a, y))

  breaks_join : (old mid new : ShownPool D) → BreaksByFailure g old mid → BreaksByFailure g mid new → BreaksByFailure g old new
  breaks_join old mid new one two =
      let a = one.0 in
      let b = two.0 in
      (omega (arith, a, b), breaks_either old mid new a b one.1 two.1)

  pub went_on : (old mid new : ShownPool D) → Went g old mid → Went g mid new → Went g old new
  went_on old mid new one two = record {
    goes = goes_join (disk_of old) (disk_of mid) (disk_of new) one.goes two.goes;
    works = λ works. one.works (two.works works);
    breaks = breaks_join old mid new one.breaks two.breaks;
    root = two.root ∙ one.root;
    frozen_table = λ page slot names. two.frozen_table page slot (one.frozen_table page slot names);
    root_kept = named_join old.root mid.root old mid new (λ page slot names. subst (λ (t : List (ℕ × ℕ)). slot_in t page ≡ Some slot) (sym one.root) names) one.root_kept two.root_kept;
    frozen_kept = named_join old.frozen mid.frozen old mid new one.frozen_table one.frozen_kept two.frozen_kept;
    long = λ n leaves.
        let first = one.long n leaves in
        joined g (disk_of old) (disk_of mid) (disk_of new) (λ image. n ≤ length image) first (two.long n (at_end g (disk_of old) (disk_of mid) (λ image. n ≤ length image) first));
    whole = λ h. two.whole (one.whole h);
    frozen_is = λ h w. two.frozen_is (one.whole h) w ∙ one.frozen_is h w;
    sealed = λ was. two.sealed (one.sealed was);
    sealed_table = λ was. two.sealed_table (one.sealed was) ∙ one.sealed_table was;
    limits = (two.limits.0 ∙ one.limits.0, two.limits.1 ∙ one.limits.1);
    none_waits = λ none. two.none_waits (one.none_waits none);
  }
