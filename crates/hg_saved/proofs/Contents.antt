-- The content of a detector over the words of a checkpoint.
use Rattle.std.proofs.Common.{IsTrue, ◌≡◌, ◌∙◌, ℕ, Bool, List, Option, Some, None, Result, Ok, Err, length, map, cond, false, sym, ap, subst}
use Rattle.std.specs.Prelude.{IfOk, IfSome, OnOk}
use Rattle.hg_model.specs.Change.{empty_content}
use Rattle.hg_model.specs.Contents.{Content}
use Rattle.hg_model.specs.declared.verdict.Refusal.{Refusal}
use Rattle.hg_cells.specs.declared.cell.Cell.{Cell}
use Rattle.hg_cells.specs.declared.paged.PagedWords.{PagedWords}
use Rattle.hg_cells.specs.Cells.{meaning}
use Rattle.hg_cells.specs.Paged.{cell_in}
use Rattle.hg_detect.specs.Memory as memory
use Rattle.hg_detect.specs.Shown.{ShownDetector, content, report_of}
use Rattle.hg_disk.specs.Calls.{CallsAtMost}
use Rattle.hg_disk.specs.declared.disk.Disk as disk
use Rattle.hg_pages.specs.Files as files
use Rattle.hg_pages.specs.declared.slot_file.SlotFile.{SlotFile}
use Rattle.hg_sets.specs.declared.table.TheConstants.{MOST_SETS}
use Rattle.hg_root.specs.Checkpoints.{Checkpoint, HasCheckpoint, HasPages, LieWithin, root_of}
use Rattle.hg_root.specs.Newest.{IsNewest}
use Rattle.hg_root.specs.Parts.{Parts}
use Rattle.hg_root.specs.Roots.{IsWhole, parts_of}
use Rattle.hg_root.specs.declared.root.Root.{Root}
use Rattle.hg_checkpoint.specs.NamedPages.{HasPagesOf}
use Rattle.hg_checkpoint.specs.Restoring.{detector_with}
use Rattle.hg_contents.specs.Images.{cell_of, content_of, start_of}
use Rattle.hg_contents.proofs.Contents.{one_start}
use Rattle.hg_recovery.proofs.Detectors.{some_checkpoint}
use Rattle.hg_root.specs.Pairs.{first_of, second_of}
use Rattle.hg_root.specs.declared.pair.RootPair.{RootPair}
use Rattle.hg_saved.specs.declared.saved.CheckpointDisks.{CheckpointDisks}
use Rattle.hg_saved.specs.Disks.{ReadsWereTrue}
use Rattle.hg_saved.specs.Saved.{BothWereTrue, GivesContentOf, IsSaved, ReadsPages, pages_in}
use Rattle.hg_saved.specs.Words.{HasWordsOf}

abbrev with_cells : Parts → (ℕ → List Cell) → Checkpoint
with_cells root cells_of = record { root = root; cells_of = cells_of }

module _ (root : Root) (words : PagedWords) where
  with_parts : (f : ℕ → List Cell) → IsWhole root → ((w : ℕ) → cell_in words w ≡ cell_of (with_cells (parts_of root) f) w) → content cell_in (detector_with root MOST_SETS words) ≡ content_of (with_cells (parts_of root) f)
  with_parts f whole same = λ i. record {
    events = root.state.events;
    segments = root.segments.items;
    threads = root.state.threads;
    words = λ w. meaning root.sets.sets (same w i);
    reports = map (report_of root.sets.sets) root.reports.items;
    total = root.total;
    last = λ source. whole.last source i;
  }

  same_content : (c : Checkpoint) → IsWhole root → c.root ≡ parts_of root → ((w : ℕ) → cell_in words w ≡ cell_of c w) → content cell_in (detector_with root MOST_SETS words) ≡ content_of c
  same_content c whole is same =
      subst (λ (r : Parts). ((w : ℕ) → cell_in words w ≡ cell_of (with_cells r c.cells_of) w) → content cell_in (detector_with root MOST_SETS words) ≡ content_of (with_cells r c.cells_of)) (sym is) (with_parts c.cells_of whole) same

-- a detector over the words of a root has the content of each checkpoint of it
pub each_content : {E : Type 0} (root : Root) (slots : List ℕ) (words : PagedWords) (result : Result (ShownDetector PagedWords) E) → IsWhole root → HasWordsOf (parts_of root) slots words
    → IfOk result (λ d. d ≡ detector_with root MOST_SETS words) → GivesContentOf (parts_of root) slots result
each_content root slots words (Ok d) whole has shown c is pages = ap (λ (x : ShownDetector PagedWords). content cell_in x) shown ∙ same_content root words c whole is (has c is pages)
each_content root slots words (Err e) whole has shown c is pages = tt

module _ (one other slots : List ℕ) where
  -- the content of a checkpoint that stands at the newest root
  saved : (found former : Option Parts) (cp : Option Checkpoint) (c : Content) → root_of cp ≡ found → IsNewest found former one other → IfSome former (LieWithin slots) → IfSome cp (HasPages slots)
      → ((root f : Option Parts) → IsNewest root f one other → root ≡ found) → c ≡ start_of cp → IsSaved one other slots c
  saved found former cp c is newest lie pages only content = record {
    checkpoint = cp;
    stands = record { former = former; newest = subst (λ (root : Option Parts). IsNewest root former one other) (sym is) newest; stand = (pages, lie) };
    content = content;
    only = λ o has. content ∙ sym (one_start o cp slots (only (root_of o) has.former has.newest ∙ sym is) has.stand.0 pages);
  }

  -- that of a root that was found
  pub each_saved : (root : Parts) (found former : Option Parts) (result : Result (ShownDetector PagedWords) Refusal) → found ≡ Some root → IsNewest found former one other → IfSome former (LieWithin slots)
      → ((r f : Option Parts) → IsNewest r f one other → r ≡ found) → OnOk result (HasPagesOf root slots) → GivesContentOf root slots result → IfOk result (λ d. IsSaved one other slots (memory.content_of d))
  each_saved root found former (Ok d) is newest lie only stands gives =
      let c = stands.0 in
      saved found former (Some c) (memory.content_of d) (ap (λ (p : Parts). Some p) stands.1 ∙ sym is) newest lie stands.2 only (gives c stands.1 stands.2)
  each_saved root found former (Err e) is newest lie only stands gives = tt

  -- that of no root
  pub none_saved : (found former : Option Parts) (result : Result (ShownDetector PagedWords) Refusal) → found ≡ None → IsNewest found former one other → IfSome former (LieWithin slots)
      → ((r f : Option Parts) → IsNewest r f one other → r ≡ found) → IfOk result (λ d. memory.content_of d ≡ empty_content) → IfOk result (λ d. IsSaved one other slots (memory.content_of d))
  none_saved found former (Ok d) is newest lie only empty = saved found former None (memory.content_of d) (sym is) newest lie tt only empty
  none_saved found former (Err e) is newest lie only empty = tt

  -- where a root has no pages there is no checkpoint
  pub none_stands : (root : Parts) (found : Option Parts) → found ≡ Some root → ((r f : Option Parts) → IsNewest r f one other → r ≡ found) → (HasPagesOf root slots → ⊥)
      → (cp : Option Checkpoint) → HasCheckpoint cp one other slots → ⊥
  none_stands root found is only lacks cp has =
      let k = some_checkpoint cp root (only (root_of cp) has.former has.newest ∙ is) in
      lacks (k.0, k.2, subst (λ (p : Option Checkpoint). IfSome p (HasPages slots)) k.1 has.stand.0)

module _ {D : Type 0} (g : disk.Ghosts D) where
  -- what is known of a file that works
  pub known_is : (file : SlotFile D) → files.is_broken file ≡ false → files.known g file ≡ (g.state (files.disk_of file)).contents
  known_is file works = ap (λ (b : Bool). cond b (g.state file.before.value).contents (g.state file.disk).contents) works

  -- as many calls as the root has pages
  pub reads_pages : (one other : List ℕ) (root : Parts) (found : Option Parts) (old new : D) → found ≡ Some root → ((r f : Option Parts) → IsNewest r f one other → r ≡ found) → CallsAtMost g (length root.pages) old new
      → ReadsPages g one other old new
  reads_pages one other root found old new is only calls r f newest =
      subst (λ (o : Option Parts). CallsAtMost g (pages_in o) old new) (sym (only r f newest ∙ is)) calls

  -- the same disks under other names
  pub reads_alike : (a b d e p q r s : D) → a ≡ b → d ≡ e → p ≡ q → r ≡ s → ReadsPages g (g.state a).contents (g.state d).contents p r → ReadsPages g (g.state b).contents (g.state e).contents q s
  reads_alike a b d e p q r s first second old new reads =
      subst (λ (x : D). ReadsPages g (g.state x).contents (g.state e).contents q s) first
      (subst (λ (x : D). ReadsPages g (g.state a).contents (g.state x).contents q s) second
      (subst (λ (x : D). ReadsPages g (g.state a).contents (g.state d).contents x s) old
      (subst (λ (x : D). ReadsPages g (g.state a).contents (g.state d).contents p x) new reads)))

  pub saved_alike : (c : Content) (a b d e p q : D) → a ≡ b → d ≡ e → p ≡ q → IsSaved (g.state a).contents (g.state d).contents (g.state p).contents c → IsSaved (g.state b).contents (g.state e).contents (g.state q).contents c
  saved_alike c a b d e p q first second slots is =
      subst (λ (x : D). IsSaved (g.state x).contents (g.state e).contents (g.state q).contents c) first
      (subst (λ (x : D). IsSaved (g.state a).contents (g.state x).contents (g.state q).contents c) second
      (subst (λ (x : D). IsSaved (g.state a).contents (g.state d).contents (g.state x).contents c) slots is))

  pub true_alike : (disks : CheckpointDisks D) (roots : RootPair D) (file : SlotFile D) → disks.root0 ≡ first_of roots → disks.root1 ≡ second_of roots → disks.slots ≡ files.disk_of file → ReadsWereTrue g disks → BothWereTrue g roots file
  true_alike disks roots file first second slots were = (
    (subst (λ (x : D). IsTrue (g.reads_were_true x)) first were.0, subst (λ (x : D). IsTrue (g.reads_were_true x)) second were.1),
    subst (λ (x : D). IsTrue (g.reads_were_true x)) slots were.2,
  )

  pub stands_alike : (cp : Option Checkpoint) (a b d e p q : D) → a ≡ b → d ≡ e → p ≡ q → HasCheckpoint cp (g.state a).contents (g.state d).contents (g.state p).contents
      → HasCheckpoint cp (g.state b).contents (g.state e).contents (g.state q).contents
  stands_alike cp a b d e p q first second slots has =
      subst (λ (x : D). HasCheckpoint cp (g.state x).contents (g.state e).contents (g.state q).contents) first
      (subst (λ (x : D). HasCheckpoint cp (g.state a).contents (g.state x).contents (g.state q).contents) second
      (subst (λ (x : D). HasCheckpoint cp (g.state a).contents (g.state d).contents (g.state x).contents) slots has))
