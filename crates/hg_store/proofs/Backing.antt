-- What a store stands for while no device is called.
use Rattle.std.proofs.Common.{◌≡◌, ◌+◌, ◌∙◌, ◌++◌, inl, inr, Bool, true, false, ℕ, List, length, length-append, sym, ap, subst, arith, if◌then◌else◌}
use Rattle.std.proofs.lemmas.Bool.{false≢true}
use Rattle.hg_model.specs.declared.event.Named.{Named}
use Rattle.hg_disk.specs.declared.disk.Disk as disk
use Rattle.hg_contents.specs.Choices.{Choice, HasRoots}
use Rattle.hg_images.specs.Choices.{Basis, HasEitherRoots, HaveEvents, Stands}
use Rattle.hg_images.specs.Images.{Image}
use Rattle.hg_contents.proofs.Following.{followed_events}
use Rattle.hg_images.proofs.Following.{counted}
use Rattle.hg_images.proofs.Joining.{facts_back}
use Rattle.hg_images.proofs.Stepping.{turns}
use Rattle.hg_images.specs.Steps.{IsAtRest}
use Rattle.hg_journals.specs.Journals.{HaveJournals}
use Rattle.hg_contents.specs.Images.{start_of}
use Rattle.hg_store.specs.Images.{EachImage}
use Rattle.hg_store.specs.Kept.{Parts, Standing, shown_of}
use Rattle.hg_store.specs.Shown.{ShownStore, live, saved}
use Rattle.hg_store.specs.Store.{Backs, HasItsEvents, HasItsNumber, other_file, view_of}
use Rattle.hg_disk.specs.Moments.{Leaves}
use Rattle.hg_disk.specs.State.{DiskState}
use Rattle.hg_journal.specs.File.{IsJournalFile, Open}
use Rattle.hg_journals.specs.Pairs as journals
use Rattle.hg_journals.proofs.Imaging.{newer_stays, older_stays}
use Rattle.hg_journals.proofs.Keeping.{file_of}
use Rattle.hg_store.proofs.Moments.{all_still}

-- at rest, and in no doubt, the journals keep the durable events
pub durable_at_rest : (basis : Basis) (pending : List Named) (in_doubt : Bool) (one other : List ℕ) → IsAtRest basis → in_doubt ≡ false → HaveEvents basis pending in_doubt one other → HaveJournals basis.base basis.events one other
durable_at_rest basis pending in_doubt one other rests certain (inl has) = (turns basis one other rests).1 has
durable_at_rest basis pending in_doubt one other rests certain (inr doubt) = absurd (false≢true (sym certain ∙ doubt.0))

-- the two journals of a pair, by which of them comes first
of_other : {D : Type 0} (turned : Bool) (older newer : D) (P : D → Type 0) → P older → P (if turned then (if turned then older else newer) else (if turned then newer else older))
of_other true older newer P has = has
of_other false older newer P has = has

of_current : {D : Type 0} (turned : Bool) (older newer : D) (P : D → Type 0) → P newer → P (if turned then (if turned then newer else older) else (if turned then older else newer))
of_current true older newer P has = has
of_current false older newer P has = has

as_other : (spare : Bool) (base : ℕ) (former : List Named) (s : DiskState) → Leaves (λ bytes. IsJournalFile bytes (file_of spare base former)) s → Leaves (λ bytes. IsJournalFile bytes (other_file spare base former)) s
as_other true base former s has = has
as_other false base former s has = has

module _ {D : Type 0} (g : disk.Ghosts D) where
  pub backs_of : (s : Parts D g) (basis : Basis) → Standing g s basis → Backs g (shown_of g s)
  backs_of s basis is = facts_back basis (view_of g (shown_of g s)) (saved g (shown_of g s)) is.keeps

  -- what each image has as its newest checkpoint
  pub newest_of : (s : Parts D g) (basis : Basis) → Standing g s basis → s.is_broken ≡ false → HasItsNumber g (shown_of g s)
  newest_of s basis is works =
      let w = is.works works in
      record {
        checkpoint = basis.now.checkpoint;
        is_number = w.number;
        is_count = w.counted;
        newest = λ image left. record {
          former = basis.now.former;
          newest = one_of image (is.keeps.roots image.root0 image.root1 left.root0 left.root1) w.rests.one_choice;
          stand = (is.keeps.slots image.slots left.slots).0;
        };
      }
    where
      one_of : (image : Image) → HasEitherRoots basis image.root0 image.root1 → basis.next ≡ basis.now → HasRoots basis.now image.root0 image.root1
      one_of image (inl now) same = now
      one_of image (inr next) same = subst (λ (choice : Choice). HasRoots choice image.root0 image.root1) same next

  -- what the journals keep in each image
  pub events_of : (s : Parts D g) (basis : Basis) → Standing g s basis → s.is_broken ≡ false → HasItsEvents g (shown_of g s)
  events_of s basis is works =
      let w = is.works works in
      let k = w.journals in
      let count = counted (start_of basis.now.checkpoint) (saved g (shown_of g s)) basis.base basis.events is.keeps.gives.now in
      let durable = is.keeps.count in
      let begins = k.begins in
      let ends = k.ends in
      let turned = k.turned_at in
      let whole : length basis.events ≡ length k.former + length k.current = ap (λ (l : List Named). length l) k.whole ∙ length-append k.former k.current in
      record {
        former = k.former;
        later = k.current;
        has_other = of_other s.journals.is_turned (journals.older s.journals) (journals.newer s.journals) (λ (d : D). Leaves (λ bytes. IsJournalFile bytes (other_file s.journals.has_spare s.journals.base k.former)) (g.state d))
            (as_other s.journals.has_spare s.journals.base k.former (g.state (journals.older s.journals))
            (subst (λ (n : ℕ). Leaves (λ bytes. IsJournalFile bytes (file_of s.journals.has_spare n k.former)) (g.state (journals.older s.journals))) (sym begins) (older_stays g s.journals basis.base basis.events k).first));
        has_current = of_current s.journals.is_turned (journals.older s.journals) (journals.newer s.journals) (λ (d : D). Leaves (λ bytes. IsJournalFile bytes (Open s.journals.newer_base k.current)) (g.state d))
            (λ image left. (let order = s.journals.order_of_last in let fits = s.journals.fits in omega (arith, order, fits), (newer_stays g s.journals basis.base basis.events k).first image left));
        begins = omega (arith, begins, turned);
        ends = omega (arith, ends, turned, whole);
        last = omega (arith, count, durable, ends);
        images = λ image left. kept image (is.keeps.journals image.journal0 image.journal1 left.journal0 left.journal1);
      }
    where
      kept : (image : Image) → HaveEvents basis s.pending s.in_doubt image.journal0 image.journal1 → HaveJournals (shown_of g s).turns.base ((is.works works).journals.former ++ (is.works works).journals.current) image.journal0 image.journal1
      kept image has =
          let w = is.works works in
          subst (λ (es : List Named). HaveJournals s.journals.base es image.journal0 image.journal1) w.journals.whole
          (subst (λ (n : ℕ). HaveJournals n basis.events image.journal0 image.journal1) (sym w.journals.begins) (durable_at_rest basis s.pending s.in_doubt image.journal0 image.journal1 w.rests w.certain has))

  -- the accepted events are those that are durable and those that are pending
  pub counts_all : (s : ShownStore D) → Backs g s → (live g s).events ≡ s.durable + length s.pending
  counts_all s backs = followed_events s.pending (saved g s) (live g s) backs.live ∙ ap (λ (n : ℕ). n + length s.pending) (sym backs.count)

  -- a step that called no device
  pub images_stand : (s : ShownStore D) (in_doubt : Bool) → Backs g s → (s.in_doubt ≡ true → in_doubt ≡ true) → EachImage g s.devices s.devices (Stands (saved g s) (live g s) in_doubt)
  images_stand s in_doubt backs more = all_still g s.devices (Stands (saved g s) (live g s) in_doubt) (λ image left. raised s.in_doubt (backs.stands image left) more) where
    raised : {image : Image} (doubt : Bool) → Stands (saved g s) (live g s) doubt image → (doubt ≡ true → in_doubt ≡ true) → Stands (saved g s) (live g s) in_doubt image
    raised doubt (inl a) more = inl a
    raised doubt (inr b) more = inr (more b.0, b.1)

  pub parts_stand : (s : Parts D g) (basis : Basis) (in_doubt : Bool) → Standing g s basis → (s.in_doubt ≡ true → in_doubt ≡ true)
      → EachImage g (shown_of g s).devices (shown_of g s).devices (Stands (saved g (shown_of g s)) (live g (shown_of g s)) in_doubt)
  parts_stand s basis in_doubt is more = images_stand (shown_of g s) in_doubt (backs_of s basis is) more
