-- A store goes on by the opening of a root.
use Rattle.std.proofs.Common.{◌≡◌, inl, ◌∙◌, ℕ, List, Bool, true, false, length, Some, refl, sym, ap, subst}
use Rattle.hg_model.specs.declared.event.Named.{Named}
use Rattle.hg_model.specs.Contents.{Content}
use Rattle.hg_detect.specs.Engine.{AtPresent}
use Rattle.hg_disk.specs.State.{IsImage}
use Rattle.hg_disk.specs.declared.disk.Disk as disk
use Rattle.hg_disk.proofs.Moments.{left_at_end, started, stays}
use Rattle.hg_pool.specs.Kept.{IsFaithful, IsWhole}
use Rattle.hg_pool.specs.Maps as pools
use Rattle.hg_pool.specs.Shown as pool
use Rattle.hg_root.specs.Checkpoints.{root_of}
use Rattle.hg_root.specs.Pairs.{first_of, second_of}
use Rattle.hg_contents.specs.Choices.{Choice}
use Rattle.hg_images.specs.Choices.{Basis, GivesDurable, HasBothSlots, HasEitherRoots, HaveEvents, Stands}
use Rattle.hg_images.specs.Images.{count_of}
use Rattle.hg_images.specs.Steps as steps
use Rattle.hg_images.proofs.Stepping.{openings}
use Rattle.hg_checkpoint.specs.declared.checkpointer.Checkpointer.{Checkpointer}
use Rattle.hg_checkpoint.specs.declared.phase.Phase.{Phase}
use Rattle.hg_checkpoint.specs.declared.phase.Phase.TheVariants as phase
use Rattle.hg_checkpoint.specs.Standing as checkpoints
use Rattle.hg_checkpoint.specs.Standing.{EachEither}
use Rattle.hg_checkpoint.proofs.Rooting.{still_now}
use Rattle.hg_store.specs.Images.{EachImage, HasOpened}
use Rattle.hg_detect.specs.Shown as detect
use Rattle.hg_store.specs.Kept.{IsInProgress, IsRooting, Parts, Standing, devices_of, shown_of}
use Rattle.hg_store.specs.Shown.{captured, live, saved}
use Rattle.hg_store.proofs.Moments.{Moved, journals_still}
use Rattle.hg_store.proofs.Staying.{images_after, over, same_content, stands_after, with_parts}

module _ {D : Type 0} (g : disk.Ghosts D) (s : Parts D g) (basis : Basis) (is : Standing g s basis) (works : s.is_broken ≡ false) (r : IsRooting g s basis) where
  -- the next checkpoint, over the former root
  abbrev pub opened : Choice
  opened = record { checkpoint = Some r.next; former = root_of basis.now.checkpoint }

  -- while its root is opened, and after
  abbrev pub opening : Basis
  opening = steps.opening basis opened

  abbrev pub at_opened : Basis
  at_opened = steps.opened basis opened

  -- it gives the durable content too, whatever was committed since the freeze
  opens : steps.OpeningStands basis opened (saved g (shown_of g s))
  opens =
      openings basis r.next opened (saved g (shown_of g s)) (is.works works).rests is.keeps.gives
      (subst (λ (c : Content). steps.IsFront basis c) (sym r.content) r.freezing.front) refl

  gives_opening : GivesDurable opening (saved g (shown_of g s))
  gives_opening = opens.gives_during

  moved : (c : Checkpointer D g) → EachEither g s.checkpointer.roots c.roots basis.now.checkpoint basis.now.former r.next → Moved g opening s.pending s.in_doubt (shown_of g s).devices (devices_of g s.journals s.detector.words c)
  moved c each = record {
    journals = journals_still g (shown_of g s).devices (HaveEvents opening s.pending s.in_doubt) is.keeps.journals;
    roots = each;
    slots = started g (shown_of g s).devices.slots (HasBothSlots opening) (λ image left. ((is.works works).stands.slots image left, r.is_next.slots image left));
  }

  pub images : (c : Checkpointer D g) → EachEither g s.checkpointer.roots c.roots basis.now.checkpoint basis.now.former r.next
      → EachImage g (shown_of g s).devices (devices_of g s.journals s.detector.words c) (Stands (saved g (shown_of g s)) (live g (shown_of g s)) s.in_doubt)
  images c each = images_after g s basis is opening c s.detector.words gives_opening (moved c each)

  -- the images, with a pool over an equal disk
  pub images_as : (c : Checkpointer D g) (w : pool.ShownPool D) → pools.disk_of w ≡ pools.disk_of s.detector.words → EachEither g s.checkpointer.roots c.roots basis.now.checkpoint basis.now.former r.next
      → EachImage g (shown_of g s).devices (devices_of g s.journals w c) (Stands (saved g (shown_of g s)) (live g (shown_of g s)) s.in_doubt)
  images_as c w same each =
      subst (λ (d : D). EachImage g (shown_of g s).devices (record { journal0 = (shown_of g s).devices.journal0; journal1 = (shown_of g s).devices.journal1; slots = d; root0 = first_of c.roots; root1 = second_of c.roots }) (Stands (saved g (shown_of g s)) (live g (shown_of g s)) s.in_doubt)) (sym same)
      (images c each)

  -- a device failed: the root may be open or not
  pub failed : (c : Checkpointer D g) → EachEither g s.checkpointer.roots c.roots basis.now.checkpoint basis.now.former r.next → Standing g (with_parts g s basis is c s.detector true) opening
  failed c each = stands_after g s basis is opening c s.detector true refl is.spelled is.faithful gives_opening (moved c each) (λ no. absurd (cc no))

  -- a device failed, and the pool stayed
  pub failed_as : (c : Checkpointer D g) (w : pool.ShownPool D) → w ≡ s.detector.words → EachEither g s.checkpointer.roots c.roots basis.now.checkpoint basis.now.former r.next → Standing g (with_parts g s basis is c (over g s.detector w) true) opening
  failed_as c w same each =
      let other = over g s.detector w in
      let moved_as = subst (λ (p : pool.ShownPool D). Moved g opening s.pending s.in_doubt (shown_of g s).devices (devices_of g s.journals p c)) (sym same) (moved c each) in
      stands_after g s basis is opening c other true (same_content g s.detector w (λ word. ap (λ (p : pool.ShownPool D). pools.live g p word) same)) is.spelled
      (subst (λ (p : pool.ShownPool D). IsFaithful g p (length s.detector.segments) (length s.detector.sets.sets)) (sym same) is.faithful) gives_opening moved_as (λ no. absurd (cc no))

  -- ---- the root is open

  abbrev rooted : pool.ShownPool D
  rooted = record s.detector.words { root = s.detector.words.frozen }

  whole : IsWhole g s.detector.words → IsWhole g rooted
  whole h = record {
    honest = h.honest;
    pages = λ page. record { live_page = (h.pages page).live_page; frozen_page = (h.pages page).frozen_page; clean = (h.pages page).clean };
  }

  faithful : AtPresent (IsFaithful g) (over g s.detector rooted)
  faithful = record { whole = whole is.faithful.whole; within = is.faithful.within }

  both_roots : (c : Checkpointer D g) → c.phase ≡ phase.Idle → checkpoints.Stands g c rooted (Some r.next) (root_of basis.now.checkpoint)
      → (one other : List ℕ) → IsImage (g.state (first_of c.roots)) one → IsImage (g.state (second_of c.roots)) other → HasEitherRoots at_opened one other
  both_roots c at stands one other is_one is_other =
      inl ((still_now g c.phase c.roots (Some r.next.root) (root_of basis.now.checkpoint) c.body.value.items stands.roots).each one other
      (left_at_end g (first_of c.roots) (first_of c.roots) one (stays g (first_of c.roots)) is_one) (left_at_end g (second_of c.roots) (second_of c.roots) other (stays g (second_of c.roots)) is_other))

  -- the parts with these, and another count of the newest root
  abbrev pub with_count : Checkpointer D g → detect.ShownDetector (pool.ShownPool D) → ℕ → Bool → Parts D g
  with_count c d counted broken = record {
    journals = s.journals;
    detector = d;
    checkpointer = c;
    committed = s.committed;
    frozen = s.frozen;
    pending = s.pending;
    durable = s.durable;
    counted = counted;
    counting = s.counting;
    is_broken = broken;
    in_doubt = s.in_doubt;
  }

  -- the next root counts the events at the freeze
  pub counts_next : s.frozen.parts.events ≡ count_of (Some r.next)
  counts_next = sym (ap (λ (x : Content). x.events) (r.content ∙ r.freezing.content))

  pub succeeded : (c : Checkpointer D g) (counted : ℕ) (broken : Bool) → c.phase ≡ phase.Idle → c.number ≡ s.checkpointer.next → counted ≡ s.frozen.parts.events
      → checkpoints.Stands g c rooted (Some r.next) (root_of basis.now.checkpoint) → Standing g (with_count c (over g s.detector rooted) counted broken) at_opened
  succeeded c counted broken at number counts stands = record {
    keeps = record {
      gives = opens.gives;
      live = is.keeps.live;
      count = is.keeps.count;
      journals = is.keeps.journals;
      roots = both_roots c at stands;
      slots = λ image left. (r.is_next.slots image left, r.is_next.slots image left);
    };
    faithful = faithful;
    state = is.state;
    spelled = is.spelled;
    works = λ _.
        let was = is.works works in
        record {
          certain = was.certain;
          rests = opens.rests;
          journals = was.journals;
          stands = stands;
          number = number ∙ r.is_next.number;
          counted = counts ∙ counts_next;
          progress = subst (λ (p : Phase). IsInProgress g p (with_count c (over g s.detector rooted) counted broken) at_opened) (sym at) tt;
        };
  }

  -- the root was opened, with a pool that is equal to this one
  pub succeeded_as : (c : Checkpointer D g) (w : pool.ShownPool D) (counted : ℕ) (broken : Bool) → w ≡ rooted → c.phase ≡ phase.Idle → c.number ≡ s.checkpointer.next → counted ≡ s.frozen.parts.events
      → checkpoints.Stands g c w (Some r.next) (root_of basis.now.checkpoint) → Standing g (with_count c (over g s.detector w) counted broken) at_opened
  succeeded_as c w counted broken same at number counts stands =
      subst (λ (p : pool.ShownPool D). Standing g (with_count c (over g s.detector p) counted broken) at_opened) (sym same)
      (succeeded c counted broken at number counts (subst (λ (p : pool.ShownPool D). checkpoints.Stands g c p (Some r.next) (root_of basis.now.checkpoint)) same stands))

  -- what the devices have then
  pub has_opened : (c : Checkpointer D g) (w : pool.ShownPool D) (number : ℕ) → w ≡ rooted → c.phase ≡ phase.Idle → number ≡ s.checkpointer.next → checkpoints.Stands g c w (Some r.next) (root_of basis.now.checkpoint)
      → HasOpened g (devices_of g s.journals w c) number (captured g (shown_of g s))
  has_opened c w number same at is_next stands =
      let content = r.content ∙ r.freezing.content in
      record {
        checkpoint = r.next;
        is_number = sym r.is_next.number ∙ sym is_next;
        events = ap (λ (x : Content). x.events) content;
        is_content = content;
        newest = λ image left. record {
          former = root_of basis.now.checkpoint;
          newest = (still_now g c.phase c.roots (Some r.next.root) (root_of basis.now.checkpoint) c.body.value.items stands.roots).each image.root0 image.root1
              (left_at_end g (first_of c.roots) (first_of c.roots) image.root0 (stays g (first_of c.roots)) left.root0) (left_at_end g (second_of c.roots) (second_of c.roots) image.root1 (stays g (second_of c.roots)) left.root1);
          stand = stands.slots image.slots left.slots;
        };
      }
