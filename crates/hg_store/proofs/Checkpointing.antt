-- A store goes on by the steps of a checkpoint.
use Rattle.std.proofs.Common.{◌≡◌, ◌⊎◌, inl, inr, ◌∙◌, ℕ, List, Bool, true, false, Option, Some, refl, sym, ap, subst}
use Rattle.hg_model.specs.Contents.{Content}
use Rattle.hg_detect.specs.Shown as detect
use Rattle.hg_disk.specs.State.{IsImage}
use Rattle.hg_disk.specs.declared.disk.Disk as disk
use Rattle.hg_cells.specs.declared.cell.Cell.{Cell}
use Rattle.hg_pool.specs.Kept.{Stays, Went}
use Rattle.hg_pool.specs.Shown as pool
use Rattle.hg_root.specs.Checkpoints.{Checkpoint}
use Rattle.hg_images.specs.Choices.{Basis, Stands}
use Rattle.hg_contents.specs.Images.{content_of}
use Rattle.hg_contents.specs.Maps.{IsNewElsewhere, checkpoint_of}
use Rattle.hg_contents.specs.States.{IsLawfulState}
use Rattle.hg_contents.proofs.Maps.{contents}
use Rattle.hg_contents.proofs.lawful.Sources.{read_again}
use Rattle.hg_checkpoint.specs.Capturing.{parts_with}
use Rattle.hg_checkpoint.specs.declared.checkpointer.Checkpointer.{Checkpointer}
use Rattle.hg_checkpoint.specs.declared.phase.Phase.{Phase}
use Rattle.hg_checkpoint.specs.declared.phase.Phase.TheVariants as phase
use Rattle.hg_checkpoint.specs.Standing as checkpoints
use Rattle.hg_checkpoint.specs.Standing.{EachEither, EachNow, EachOf, root_with}
use Rattle.hg_checkpoint.proofs.Between.{calls_between}
use Rattle.hg_store.specs.Images.{EachImage}
use Rattle.hg_store.specs.Kept.{IsFreezing, IsInProgress, IsRooting, Parts, Standing, devices_of, shown_of}
use Rattle.hg_store.specs.Shown.{live, saved}
use Rattle.hg_store.proofs.Moments.{Moved}
use Rattle.hg_store.proofs.Going as going
use Rattle.hg_store.proofs.Staying.{images_after, over, pool_moved, roots_moved, same_content, stands_after, stays_faithful, with_parts}

-- What a call of the checkpointer leaves as it was, where it is one of a checkpoint in progress.
pub record KeepsHead {D : Type 0} {g : disk.Ghosts D} (old new : Checkpointer D g) : Type 0 where
  pub next : new.next ≡ old.next
  pub number : new.number ≡ old.number
  pub head : new.head ≡ old.head

-- what a call tells of a pool that it was lent
pub of_pool : {T : Type 0} (P Q : T → Type 0) (lent own : T) → lent ≡ own → (P lent → Q lent) → P own → Q own
of_pool P Q lent own same tells = subst (λ x. P x → Q x) same tells

-- the head of a draft, by equal parts
draft_by : {D : Type 0} (g : disk.Ghosts D) (old new : Checkpointer D g) (w : pool.ShownPool D) (now : Option Checkpoint) (was : detect.ShownDetector (ℕ → Cell)) → KeepsHead old new
    → checkpoints.IsDraft g old w now (parts_with old.next was) was.words → checkpoints.IsDraft g new w now (parts_with new.next was) was.words
draft_by g old new w now was keeps draft =
    subst (λ (h : Option (List ℕ)). checkpoints.IsDraftOf g h new.next w now (parts_with new.next was) was.words) (sym keeps.head)
    (subst (λ (n : ℕ). checkpoints.IsDraftOf g old.head n w now (parts_with n was) was.words) (sym keeps.next) draft)

module _ {D : Type 0} (g : disk.Ghosts D) (s : Parts D g) (basis : Basis) (is : Standing g s basis) (bytes : (d : D) → IsImage (g.state d) (g.state d).contents) where
  -- the checkpoint that is in progress goes on, while its head stays and its pool is called
  pub freezing_on : (c : Checkpointer D g) (w : pool.ShownPool D) (broken : Bool) → KeepsHead s.checkpointer c → Went g s.detector.words w → IsFreezing g s basis → IsFreezing g (with_parts g s basis is c (over g s.detector w) broken) basis
  freezing_on c w broken keeps went f = record {
    was = f.was;
    content = f.content;
    state = f.state;
    front = f.front;
    draft = draft_by g s.checkpointer c w basis.now.checkpoint f.was keeps ((calls_between g bytes s.checkpointer s.detector.words w went).draft basis.now.checkpoint _ _ f.draft);
  }

  -- ---- a page is put

  stays_moved : (w : pool.ShownPool D) → s.is_broken ≡ false → Stays g s.detector.words w → Moved g basis s.pending s.in_doubt (shown_of g s).devices (devices_of g s.journals w s.checkpointer)
  stays_moved w works stays = pool_moved g s basis is bytes works s.checkpointer w stays.went refl

  pub put_images : (w : pool.ShownPool D) → s.is_broken ≡ false → Stays g s.detector.words w
      → EachImage g (shown_of g s).devices (devices_of g s.journals w s.checkpointer) (Stands (saved g (shown_of g s)) (live g (shown_of g s)) s.in_doubt)
  put_images w works stays = images_after g s basis is basis s.checkpointer w is.keeps.gives (stays_moved w works stays)

  pub put_standing : (w : pool.ShownPool D) (broken : Bool) → s.is_broken ≡ false → Stays g s.detector.words w → Standing g (with_parts g s basis is s.checkpointer (over g s.detector w) broken) basis
  put_standing w broken works stays =
      let d = over g s.detector w in
      let content = same_content g s.detector w (stays.live_is is.faithful.whole) in
      going.standing g bytes s basis is works d s.pending broken stays.went (stays_faithful g s.detector w stays is.faithful) (subst IsLawfulState (sym content) is.state) is.spelled
      (is.keeps.live ∙ ap (λ (x : Content). Some x) (sym content))

  -- ---- the pages are sealed

  seal_moved : (c : Checkpointer D g) (w : pool.ShownPool D) → s.is_broken ≡ false → Stays g s.detector.words w → c.roots ≡ s.checkpointer.roots → Moved g basis s.pending s.in_doubt (shown_of g s).devices (devices_of g s.journals w c)
  seal_moved c w works stays same = pool_moved g s basis is bytes works c w stays.went same

  pub seal_images : (c : Checkpointer D g) (w : pool.ShownPool D) → s.is_broken ≡ false → Stays g s.detector.words w → c.roots ≡ s.checkpointer.roots
      → EachImage g (shown_of g s).devices (devices_of g s.journals w c) (Stands (saved g (shown_of g s)) (live g (shown_of g s)) s.in_doubt)
  seal_images c w works stays same = images_after g s basis is basis c w is.keeps.gives (seal_moved c w works stays same)

  pub sealing_failed : (c : Checkpointer D g) (w : pool.ShownPool D) → s.is_broken ≡ false → Stays g s.detector.words w → c.roots ≡ s.checkpointer.roots → Standing g (with_parts g s basis is c (over g s.detector w) true) basis
  sealing_failed c w works stays same =
      stands_after g s basis is basis c (over g s.detector w) true (same_content g s.detector w (stays.live_is is.faithful.whole)) is.spelled (stays_faithful g s.detector w stays is.faithful) is.keeps.gives (seal_moved c w works stays same) (λ no. absurd (cc no))

  content_next : (was : detect.ShownDetector (ℕ → Cell)) (w : pool.ShownPool D) → IsLawfulState (detect.content (λ map. map) was) → IsNewElsewhere (root_with (parts_with s.checkpointer.next was) w.frozen) was.words
      → content_of (checkpoint_of (root_with (parts_with s.checkpointer.next was) w.frozen) was.words) ≡ detect.content (λ map. map) was
  content_next was w state new = contents was (root_with (parts_with s.checkpointer.next was) w.frozen) (record {
    events = refl;
    segments = refl;
    threads = refl;
    sets = refl;
    total = refl;
    reports = refl;
    last = λ source. sym (read_again (detect.content (λ map. map) was).last (detect.content (λ map. map) was).events source state.lawful.last);
  }) new

  rooting : (c : Checkpointer D g) (w : pool.ShownPool D) (broken : Bool) → Stays g s.detector.words w → KeepsHead s.checkpointer c → (f : IsFreezing g s basis)
      → checkpoints.IsNext g c w basis.now.checkpoint (checkpoint_of (root_with (parts_with s.checkpointer.next f.was) w.frozen) f.was.words) → IsNewElsewhere (root_with (parts_with s.checkpointer.next f.was) w.frozen) f.was.words
      → IsRooting g (with_parts g s basis is c (over g s.detector w) broken) basis
  unfolding freezing_on
  rooting c w broken stays keeps f next new = record {
    freezing = freezing_on c w broken keeps stays.went f;
    next = checkpoint_of (root_with (parts_with s.checkpointer.next f.was) w.frozen) f.was.words;
    is_next = next;
    content = content_next f.was w f.state new;
  }

  pub sealed : (c : Checkpointer D g) (w : pool.ShownPool D) (broken : Bool) → s.is_broken ≡ false → Stays g s.detector.words w → c.roots ≡ s.checkpointer.roots → KeepsHead s.checkpointer c → c.phase ≡ phase.Sealed
      → (f : IsFreezing g s basis) → checkpoints.Stands g c w basis.now.checkpoint basis.now.former
      → checkpoints.IsNext g c w basis.now.checkpoint (checkpoint_of (root_with (parts_with s.checkpointer.next f.was) w.frozen) f.was.words) → IsNewElsewhere (root_with (parts_with s.checkpointer.next f.was) w.frozen) f.was.words
      → Standing g (with_parts g s basis is c (over g s.detector w) broken) basis
  sealed c w broken works stays same keeps at f stands next new =
      let was = is.works works in
      stands_after g s basis is basis c (over g s.detector w) broken (same_content g s.detector w (stays.live_is is.faithful.whole)) is.spelled (stays_faithful g s.detector w stays is.faithful) is.keeps.gives (seal_moved c w works stays same) (λ _. record {
        certain = was.certain;
        rests = was.rests;
        journals = was.journals;
        stands = stands;
        number = keeps.number ∙ was.number;
        counted = was.counted;
        progress = subst (λ (p : Phase). IsInProgress g p (with_parts g s basis is c (over g s.detector w) broken) basis) (sym at) (rooting c w broken stays keeps f next new);
      })

  -- ---- the root is prepared and written

  pub roots_images : (c : Checkpointer D g) → EachNow g s.checkpointer.roots c.roots basis.now.checkpoint basis.now.former
      → EachImage g (shown_of g s).devices (devices_of g s.journals s.detector.words c) (Stands (saved g (shown_of g s)) (live g (shown_of g s)) s.in_doubt)
  roots_images c each = images_after g s basis is basis c s.detector.words is.keeps.gives (roots_moved g s basis is c each)

  pub rooting_failed : (c : Checkpointer D g) → EachNow g s.checkpointer.roots c.roots basis.now.checkpoint basis.now.former → Standing g (with_parts g s basis is c s.detector true) basis
  rooting_failed c each = stands_after g s basis is basis c s.detector true refl is.spelled is.faithful is.keeps.gives (roots_moved g s basis is c each) (λ no. absurd (cc no))

  still_rooting : (c : Checkpointer D g) (broken : Bool) → KeepsHead s.checkpointer c → (r : IsRooting g s basis) → checkpoints.IsNext g c s.detector.words basis.now.checkpoint r.next → IsRooting g (with_parts g s basis is c s.detector broken) basis
  still_rooting c broken keeps r next = record {
    freezing = record { was = r.freezing.was; content = r.freezing.content; state = r.freezing.state; front = r.freezing.front; draft = draft_by g s.checkpointer c s.detector.words basis.now.checkpoint r.freezing.was keeps r.freezing.draft };
    next = r.next;
    is_next = next;
    content = r.content;
  }

  by_phase : (at : Phase) (c : Checkpointer D g) (broken : Bool) → (at ≡ phase.Prepared) ⊎ (at ≡ phase.Written) → IsRooting g (with_parts g s basis is c s.detector broken) basis → IsInProgress g at (with_parts g s basis is c s.detector broken) basis
  by_phase at c broken (inl is_at) r = subst (λ (p : Phase). IsInProgress g p (with_parts g s basis is c s.detector broken) basis) (sym is_at) r
  by_phase at c broken (inr is_at) r = subst (λ (p : Phase). IsInProgress g p (with_parts g s basis is c s.detector broken) basis) (sym is_at) r

  pub rooted : (c : Checkpointer D g) (broken : Bool) → s.is_broken ≡ false → EachNow g s.checkpointer.roots c.roots basis.now.checkpoint basis.now.former → KeepsHead s.checkpointer c → (c.phase ≡ phase.Prepared) ⊎ (c.phase ≡ phase.Written)
      → (r : IsRooting g s basis) → checkpoints.Stands g c s.detector.words basis.now.checkpoint basis.now.former → checkpoints.IsNext g c s.detector.words basis.now.checkpoint r.next
      → Standing g (with_parts g s basis is c s.detector broken) basis
  rooted c broken works each keeps at r stands next =
      let was = is.works works in
      stands_after g s basis is basis c s.detector broken refl is.spelled is.faithful is.keeps.gives (roots_moved g s basis is c each) (λ _. record {
        certain = was.certain;
        rests = was.rests;
        journals = was.journals;
        stands = stands;
        number = keeps.number ∙ was.number;
        counted = was.counted;
        progress = by_phase c.phase c broken at (still_rooting c broken keeps r next);
      })
