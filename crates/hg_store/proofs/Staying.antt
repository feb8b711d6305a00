-- A store goes on while its pool is called and its roots are not, or its roots and not its pool.
use Rattle.std.proofs.Common.{◌≡◌, inl, ◌∙◌, ℕ, List, Bool, false, All, get_or, length, map, Some, ⊎_elim, arith, rules, sym, ap, subst}
use Rattle.hg_model.specs.Contents.{Content}
use Rattle.hg_cells.specs.declared.cell.Cell.{Cell}
use Rattle.hg_cells.specs.declared.cell.Cell.TheVariants.{New}
use Rattle.hg_pool.specs.Shown.{Frame}
use Rattle.hg_cells.specs.Cells.{IsWithin, meaning}
use Rattle.hg_detect.specs.Engine.{AtPresent}
use Rattle.hg_detect.specs.Shown as detect
use Rattle.hg_detect.specs.Shown.{report_of}
use Rattle.std.specs.Prelude.{slice_index}
use Rattle.hg_disk.specs.State.{IsImage}
use Rattle.hg_disk.specs.declared.disk.Disk as disk
use Rattle.hg_disk.proofs.Moments.{started}
use Rattle.hg_pool.specs.Kept.{AreWithin, CellsFrom, IsFaithful, SameMap, Stays, Went}
use Rattle.hg_pool.specs.Maps as pools
use Rattle.hg_pool.specs.Shown as pool
use Rattle.hg_root.specs.Grammar.{SetFits}
use Rattle.hg_root.specs.Pairs.{first_of, second_of}
use Rattle.hg_root.specs.declared.pair.RootPair.{RootPair}
use Rattle.hg_contents.specs.Choices.{HasRoots}
use Rattle.hg_images.specs.Choices.{Basis, GivesDurable, HasBothSlots, HasEitherRoots, HaveEvents, Stands}
use Rattle.hg_contents.specs.States.{IsLawfulState}
use Rattle.hg_checkpoint.specs.declared.checkpointer.Checkpointer.{Checkpointer}
use Rattle.hg_checkpoint.specs.Standing.{EachNow, EachOf}
use Rattle.hg_store.specs.Images.{EachImage}
use Rattle.hg_store.specs.Kept.{IsWorking, Parts, Standing, devices_of, shown_of}
use Rattle.hg_store.specs.Shown.{live, saved}
use Rattle.hg_store.proofs.Backing.{parts_stand}
use Rattle.hg_store.proofs.Going as going
use Rattle.hg_store.proofs.Moments.{Moved, each_image, journals_still, keeps_after}

-- what is in memory was there, so it names what is there
pub within_still : (old new : List (ℕ × Frame)) (segments sets : ℕ) → CellsFrom old new → AreWithin old segments sets → AreWithin new segments sets
within_still old new segments sets from within q f is i =
    let was = from q f is in
    subst (λ (cells : List Cell). IsWithin segments sets (get_or cells i New)) (sym was.2) (within q was.0 was.1 i)

module _ {D : Type 0} (g : disk.Ghosts D) where
  -- a pool none of whose calls failed works on
  pub works_on : (old new : pool.ShownPool D) → Went g old new → g.failures (pools.disk_of new) ≡ g.failures (pools.disk_of old) → pools.is_broken old ≡ false → pools.is_broken new ≡ false
  works_on old new went none works = ⊎_elim (λ same. same ∙ works) (λ more. absurd (omega (arith, more, none))) went.breaks.1

  -- a pool that nothing called
  pub went_nowhere : (p : pool.ShownPool D) → Went g p p
  went_nowhere p = search rules

  -- the detector over another pool
  abbrev pub over : detect.ShownDetector (pool.ShownPool D) → pool.ShownPool D → detect.ShownDetector (pool.ShownPool D)
  over d w = record { parts = d.parts; segments = d.segments; sets = d.sets; words = w; kept = d.kept; total = d.total }

  pub same_content : (d : detect.ShownDetector (pool.ShownPool D)) (w : pool.ShownPool D) → SameMap (pools.live g d.words) (pools.live g w) → detect.content (pools.live g) (over d w) ≡ detect.content (pools.live g) d
  same_content d w same = λ i. record {
    events = d.parts.events;
    segments = d.segments;
    threads = d.parts.threads;
    words = λ word. meaning d.sets.sets (same word i);
    reports = map (report_of d.sets.sets) d.kept;
    total = d.total;
    last = slice_index d.parts.last;
  }

  pub stays_faithful : (d : detect.ShownDetector (pool.ShownPool D)) (w : pool.ShownPool D) → Stays g d.words w → AtPresent (IsFaithful g) d → AtPresent (IsFaithful g) (over d w)
  stays_faithful d w stays h = record {
    whole = stays.went.whole h.whole;
    within = λ word. subst (λ (cell : Cell). IsWithin (length d.segments) (length d.sets.sets) cell) (sym (stays.live_is h.whole word)) (h.within word);
  }

  module _ (s : Parts D g) (basis : Basis) (is : Standing g s basis) where
    -- other parts, and another frozen detector
    abbrev pub with_frozen : detect.ShownDetector (pool.ShownPool D) → ℕ → Checkpointer D g → detect.ShownDetector (pool.ShownPool D) → Bool → Parts D g
    with_frozen frozen counting c d broken = record {
      journals = s.journals;
      detector = d;
      checkpointer = c;
      committed = s.committed;
      frozen = frozen;
      pending = s.pending;
      durable = s.durable;
      counted = s.counted;
      counting = counting;
      is_broken = broken;
      in_doubt = s.in_doubt;
    }

    abbrev pub with_parts : Checkpointer D g → detect.ShownDetector (pool.ShownPool D) → Bool → Parts D g
    with_parts c d broken = with_frozen s.frozen s.counting c d broken

    -- The devices went to these, and the content stays.
    pub stands_with : (frozen : detect.ShownDetector (pool.ShownPool D)) (counting : ℕ) (to : Basis) (c : Checkpointer D g) (d : detect.ShownDetector (pool.ShownPool D)) (broken : Bool) → detect.content (pools.live g) d ≡ live g (shown_of g s) → All SetFits d.sets.sets → AtPresent (IsFaithful g) d
        → GivesDurable to (saved g (shown_of g s)) → Moved g to s.pending s.in_doubt (shown_of g s).devices (devices_of g s.journals d.words c) → (broken ≡ false → IsWorking g (with_frozen frozen counting c d broken) to) → Standing g (with_frozen frozen counting c d broken) to
    stands_with frozen counting to c d broken content spelled faithful gives moved works = record {
      keeps = keeps_after g to s.pending s.in_doubt (shown_of g s).devices (devices_of g s.journals d.words c) moved (saved g (shown_of g s)) (live g (shown_of g (with_frozen frozen counting c d broken))) gives
          (is.keeps.live ∙ ap (λ (x : Content). Some x) (sym content)) s.durable is.keeps.count;
      faithful = faithful;
      state = subst IsLawfulState (sym content) is.state;
      spelled = spelled;
      works = works;
    }

    pub stands_after : (to : Basis) (c : Checkpointer D g) (d : detect.ShownDetector (pool.ShownPool D)) (broken : Bool) → detect.content (pools.live g) d ≡ live g (shown_of g s) → All SetFits d.sets.sets → AtPresent (IsFaithful g) d
        → GivesDurable to (saved g (shown_of g s)) → Moved g to s.pending s.in_doubt (shown_of g s).devices (devices_of g s.journals d.words c) → (broken ≡ false → IsWorking g (with_parts c d broken) to) → Standing g (with_parts c d broken) to
    stands_after to c d broken content spelled faithful gives moved works = stands_with s.frozen s.counting to c d broken content spelled faithful gives moved works

    pub images_after : (to : Basis) (c : Checkpointer D g) (w : pool.ShownPool D) → GivesDurable to (saved g (shown_of g s)) → Moved g to s.pending s.in_doubt (shown_of g s).devices (devices_of g s.journals w c)
        → EachImage g (shown_of g s).devices (devices_of g s.journals w c) (Stands (saved g (shown_of g s)) (live g (shown_of g s)) s.in_doubt)
    images_after to c w gives moved = each_image g to s.pending s.in_doubt (shown_of g s).devices (devices_of g s.journals w c) moved (saved g (shown_of g s)) (live g (shown_of g s)) gives is.keeps.live

    -- ---- the roots alone are called

    each_weaker : (old new old_other new_other : D) (P Q : List ℕ → List ℕ → Type 0) → ((one other : List ℕ) → P one other → Q one other) → EachOf g old new old_other new_other P → EachOf g old new old_other new_other Q
    each_weaker old new old_other new_other P Q implies has = record {
      first_goes = has.first_goes;
      second_goes = has.second_goes;
      each = λ one other a b. implies one other (has.each one other a b);
    }

    pub roots_moved : (c : Checkpointer D g) → EachNow g s.checkpointer.roots c.roots basis.now.checkpoint basis.now.former → Moved g basis s.pending s.in_doubt (shown_of g s).devices (devices_of g s.journals s.detector.words c)
    roots_moved c each = record {
      journals = journals_still g (shown_of g s).devices (HaveEvents basis s.pending s.in_doubt) is.keeps.journals;
      roots = each_weaker (shown_of g s).devices.root0 _ (shown_of g s).devices.root1 _ (HasRoots basis.now) (HasEitherRoots basis) (λ one other has. inl has) each;
      slots = started g (shown_of g s).devices.slots (HasBothSlots basis) is.keeps.slots;
    }

    -- ---- the pool alone is called, and the checkpoint goes on

    pub pool_moved : (bytes : (d : D) → IsImage (g.state d) (g.state d).contents) → s.is_broken ≡ false → (c : Checkpointer D g) (w : pool.ShownPool D) → Went g s.detector.words w → c.roots ≡ s.checkpointer.roots
        → Moved g basis s.pending s.in_doubt (shown_of g s).devices (devices_of g s.journals w c)
    pool_moved bytes works c w went same =
        subst (λ (r : RootPair D). Moved g basis s.pending s.in_doubt (shown_of g s).devices (record { journal0 = (shown_of g s).devices.journal0; journal1 = (shown_of g s).devices.journal1; slots = pools.disk_of w; root0 = first_of r; root1 = second_of r })) (sym same)
        (going.moved g bytes s basis is works s.pending w went)

    -- nothing was called
    pub same_images_as : (c : Checkpointer D g) (w : pool.ShownPool D) → c ≡ s.checkpointer → w ≡ s.detector.words
        → EachImage g (shown_of g s).devices (devices_of g s.journals w c) (Stands (saved g (shown_of g s)) (live g (shown_of g s)) s.in_doubt)
    same_images_as c w same stays =
        subst (λ (x : Checkpointer D g). EachImage g (shown_of g s).devices (devices_of g s.journals w x) (Stands (saved g (shown_of g s)) (live g (shown_of g s)) s.in_doubt)) (sym same)
        (subst (λ (p : pool.ShownPool D). EachImage g (shown_of g s).devices (devices_of g s.journals p s.checkpointer) (Stands (saved g (shown_of g s)) (live g (shown_of g s)) s.in_doubt)) (sym stays)
        (parts_stand g s basis s.in_doubt is (λ doubt. doubt)))
