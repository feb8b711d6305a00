-- A detector over a root, or over no events.
use Rattle.std.proofs.Common.{◌≡◌, ℕ, List, [], ◌∷◌, All, false, Some, None, Option, IsTrue, Result, Ok, Err, refl, sym, ap, subst, arith}
use Rattle.std.specs.Prelude.{IfErr, IfOk, OnOk}
use Rattle.std.proofs.lemmas.List.Elements.{All-from_recursion}
use Rattle.hg_model.specs.Change.{empty_content}
use Rattle.hg_sets.specs.Interning.{Table, first_table}
use Rattle.hg_detect.specs.Engine.{AtPresent}
use Rattle.hg_detect.specs.Shown as detect
use Rattle.hg_disk.specs.declared.disk.Disk as disk
use Rattle.hg_pages.specs.declared.slot_file.SlotFile.{SlotFile}
use Rattle.hg_pool.specs.Kept.{IsFaithful}
use Rattle.hg_pool.specs.Maps as pools
use Rattle.hg_pool.specs.Shown as pool
use Rattle.hg_root.specs.Checkpoints.{Checkpoint, HasPages, root_of}
use Rattle.hg_root.specs.Grammar.{SetFits}
use Rattle.hg_root.specs.Lawful.{IsLawful}
use Rattle.hg_root.specs.Parts as roots
use Rattle.hg_root.specs.Roots.{parts_of}
use Rattle.hg_root.specs.declared.parts.PageSlot.{PageSlot}
use Rattle.hg_root.specs.declared.root.Root.{Root}
use Rattle.hg_contents.specs.Images.{content_of}
use Rattle.hg_contents.specs.States.{IsLawfulState}
use Rattle.hg_contents.proofs.lawful.Roots.{root_state}
use Rattle.hg_contents.proofs.lawful.Staying.{first}
use Rattle.hg_checkpoint.specs.declared.limits.Limits.{Limits}
use Rattle.hg_checkpoint.specs.NamedPages.{HasPagesOf, entries_of}
use Rattle.hg_checkpoint.specs.Restoring.{detector_of}
use Rattle.hg_checkpoint.specs.Tables.{Names, NamesOf, pages_of}
use Rattle.hg_checkpoint.proofs.Entries.{are_entries}
use Rattle.hg_checkpoint.proofs.Tables.{has_entry}
use Rattle.hg_recovery.specs.Detectors.{IsReady}

-- the pool of a table over a file, with no page in memory
abbrev pub over_table : {D : Type 0} → SlotFile D → List (ℕ × ℕ) → ℕ → ℕ → pool.ShownPool D
over_table file entries most slots = record {
  file = file;
  root = entries;
  frozen = entries;
  live = entries;
  waiting = [];
  copies = [];
  frames = [];
  most_frames = most;
  slots = slots;
  is_sealed = false;
}

-- a checkpoint that has this root
pub some_checkpoint : (c : Option Checkpoint) (root : roots.Parts) → root_of c ≡ Some root → (k : Checkpoint) × (c ≡ Some k) × (k.root ≡ root)
some_checkpoint None root is = absurd (cc is)
some_checkpoint (Some k) root is = (k, refl, cc is)

pub if_err : {T E : Type 0} (P Q : E → Type 0) (result : Result T E) → ((e : E) → P e → Q e) → IfErr result P → IfErr result Q
if_err P Q (Ok value) from holds = tt
if_err P Q (Err error) from holds = from error holds

there_and_back : (pages : List PageSlot) → pages ≡ pages_of (entries_of pages)
there_and_back [] = refl
there_and_back (p ∷ pages) = ap (λ (rest : List PageSlot). p ∷ rest) (there_and_back pages)

-- the pages of a root are found in its table
named : (root : Root) → IsLawful (parts_of root) → Names (entries_of root.pages.items) (parts_of root)
named root lawful i d lt =
    has_entry (parts_of root) (entries_of root.pages.items) i d (record { pages = there_and_back root.pages.items; entries = are_entries root.pages.items lawful.pages }) lt

module _ {D : Type 0} (g : disk.Ghosts D) where
  none_faithful : (file : SlotFile D) (most slots : ℕ) → IsTrue g.is_honest → (n m : ℕ) → IsFaithful g (over_table file [] most slots) n m
  none_faithful file most slots honest n m = record {
    whole = record {
      honest = honest;
      pages = λ page. record {
        live_page = λ slot is. absurd (cc is);
        frozen_page = λ slot is. absurd (cc is);
        clean = λ f is clean i lt. absurd (cc is);
      };
    };
    within = λ w. tt;
  }

  pub empty_faithful : (file : SlotFile D) (entries : List (ℕ × ℕ)) (most slots : ℕ) → entries ≡ [] → IsTrue g.is_honest → (n m : ℕ) → IsFaithful g (over_table file entries most slots) n m
  empty_faithful file entries most slots none honest n m = subst (λ (es : List (ℕ × ℕ)). IsFaithful g (over_table file es most slots) n m) (sym none) (none_faithful file most slots honest n m)

  -- the detector of a root can go on
  pub root_ready : (root : Root) (d : detect.ShownDetector (pool.ShownPool D)) (slots : List ℕ) (c : Checkpoint) → IsLawful (parts_of root) → c.root ≡ parts_of root → HasPages slots c
      → d.sets.sets ≡ root.sets.sets → detect.content (pools.live g) d ≡ content_of c → AtPresent (IsFaithful g) d → IsReady g d
  root_ready root d slots c lawful is has sets same faithful = record {
    faithful = faithful;
    state = subst IsLawfulState (sym same) (root_state c slots (subst IsLawful (sym is) lawful) has);
    spelled = subst (λ (l : List (List ℕ)). All SetFits l) (sym sets) (All-from_recursion SetFits root.sets.sets lawful.head.fits.sets);
  }

  pub first_ready : (d : detect.ShownDetector (pool.ShownPool D)) (limit : ℕ) → detect.content (pools.live g) d ≡ empty_content → d.sets ≡ first_table limit → AtPresent (IsFaithful g) d → IsReady g d
  first_ready d limit same sets faithful = record {
    faithful = faithful;
    state = subst IsLawfulState (sym same) first;
    spelled = subst (λ (t : Table). All SetFits t.sets) (sym sets) (All-from_recursion SetFits ([] ∷ []) ((omega arith, tt), tt));
  }

  pub each_ready : {E : Type 0} (root : Root) (caps : Limits) (slots : List ℕ) → IsLawful (parts_of root) → (result : Result (detect.ShownDetector (pool.ShownPool D)) E) → OnOk result (HasPagesOf (parts_of root) slots)
      → IfOk result (λ d. d ≡ detector_of root caps d.words.file) → ((c : Checkpoint) → c.root ≡ parts_of root → HasPages slots c → IfOk result (λ d. detect.content (pools.live g) d ≡ content_of c))
      → IfOk result (AtPresent (IsFaithful g)) → IfOk result (IsReady g)
  each_ready root caps slots lawful (Ok d) has shown content faithful =
      root_ready root d slots has.0 lawful has.1 has.2 (ap (λ (e : detect.ShownDetector (pool.ShownPool D)). e.sets.sets) shown) (content has.0 has.1 has.2) faithful
  each_ready root caps slots lawful (Err e) has shown content faithful = tt

  pub each_names : {E : Type 0} (root : Root) (caps : Limits) (o : Option Checkpoint) → IsLawful (parts_of root) → root_of o ≡ Some (parts_of root) → (result : Result (detect.ShownDetector (pool.ShownPool D)) E)
      → IfOk result (λ d. d ≡ detector_of root caps d.words.file) → IfOk result (λ d. NamesOf d.words.root o)
  each_names root caps o lawful is (Ok d) shown =
      let k = some_checkpoint o (parts_of root) is in
      let same : d.words.root ≡ entries_of root.pages.items = ap (λ (e : detect.ShownDetector (pool.ShownPool D)). e.words.root) shown in
      subst (λ (t : List (ℕ × ℕ)). NamesOf t o) (sym same)
      (subst (λ (p : Option Checkpoint). NamesOf (entries_of root.pages.items) p) (sym k.1)
      (subst (λ (r : roots.Parts). Names (entries_of root.pages.items) r) (sym k.2) (named root lawful)))
  each_names root caps o lawful is (Err e) shown = tt
