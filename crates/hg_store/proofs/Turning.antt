-- A store goes on by a turn of its journals, and by a retirement.
use Rattle.std.proofs.Common.{◌≡◌, ◌⊎◌, ◌∙◌, ◌≤◌, ◌<◌, inl, inr, ⊎_elim, ℕ, List, Bool, true, false, refl, sym, subst, arith, ◌&&◌, nat_le, not, MatchBool}
use Rattle.std.proofs.lemmas.Bool.{cases_lt}
use Rattle.hg_model.specs.declared.event.Named.{Named}
use Rattle.hg_model.specs.Contents.{Content}
use Rattle.hg_disk.specs.declared.disk.Disk as disk
use Rattle.hg_disk.proofs.Moments.{started}
use Rattle.hg_journals.specs.Journals.{HaveAllOrBehind, HaveJournals, behind}
use Rattle.hg_journals.specs.declared.pair.JournalPair.{JournalPair}
use Rattle.hg_journals.specs.Pairs as journals
use Rattle.hg_images.specs.Choices.{Basis, GivesDurable, HasBothSlots, HaveDurable, HaveEvents, Stands}
use Rattle.hg_images.specs.Images.{count_of}
use Rattle.hg_images.specs.Steps.{IsAtRest, IsFront, RetirementStands, retired, retiring}
use Rattle.hg_images.proofs.Stepping.{retirements, turns}
use Rattle.hg_checkpoint.specs.declared.phase.Phase.{Phase}
use Rattle.hg_checkpoint.specs.declared.phase.Phase.TheVariants as phase
use Rattle.hg_store.specs.Images.{EachImage}
use Rattle.hg_store.specs.Kept.{IsFreezing, IsInProgress, IsRooting, Parts, Standing, devices_of, shown_of}
use Rattle.hg_store.specs.Shown.{live, saved}
use Rattle.hg_store.specs.Store.{view_of}
use Rattle.hg_store.proofs.Moments.{Moved, each_image, journals_weaker, keeps_after, kept_images, none_moved}

-- what a retirement rests on
reached : (spare : Bool) (base count : ℕ) → spare && nat_le base count ≡ true → base ≤ count
reached true base count due = grind arith
reached false base count due = absurd (cc due)

module _ {D : Type 0} (g : disk.Ghosts D) (s : Parts D g) (basis : Basis) (is : Standing g s basis) (pair : JournalPair D g) where
  -- other journals
  abbrev pub with_journals : Bool → Parts D g
  with_journals broken = record {
    journals = pair;
    detector = s.detector;
    checkpointer = s.checkpointer;
    committed = s.committed;
    frozen = s.frozen;
    pending = s.pending;
    durable = s.durable;
    counted = s.counted;
    counting = s.counting;
    is_broken = broken;
    in_doubt = s.in_doubt;
  }

  -- what is there of the journals meanwhile
  abbrev pub Leaves : (List ℕ → List ℕ → Type 0) → Type 0
  Leaves P = journals.EachPair s.journals pair P

  -- the durable events behind other bases, with the same choices
  module _ (base next_base : ℕ) (events : List Named) where
    abbrev to : Basis
    to = record { base = base; next_base = next_base; events = events; now = basis.now; next = basis.next }

    -- the journals alone are called
    moved : Leaves (HaveDurable to) → Moved g to s.pending s.in_doubt (shown_of g s).devices (devices_of g pair s.detector.words s.checkpointer)
    moved leaves = record {
      journals = journals_weaker g (journals.first_of s.journals) (journals.first_of pair) (journals.second_of s.journals) (journals.second_of pair) (HaveDurable to) (HaveEvents to s.pending s.in_doubt) (λ one other has. inl has) leaves;
      roots = none_moved g basis (view_of g (shown_of g s)) (saved g (shown_of g s)) (shown_of g s).devices refl is.keeps;
      slots = started g (shown_of g s).devices.slots (HasBothSlots basis) is.keeps.slots;
    }

    images_to : GivesDurable to (saved g (shown_of g s)) → Leaves (HaveDurable to)
        → EachImage g (shown_of g s).devices (devices_of g pair s.detector.words s.checkpointer) (Stands (saved g (shown_of g s)) (live g (shown_of g s)) s.in_doubt)
    images_to gives leaves =
        each_image g to s.pending s.in_doubt (shown_of g s).devices (devices_of g pair s.detector.words s.checkpointer) (moved leaves) (saved g (shown_of g s)) (live g (shown_of g s)) gives is.keeps.live

    -- a device failed
    failed_to : GivesDurable to (saved g (shown_of g s)) → Leaves (HaveDurable to) → Standing g (with_journals true) to
    failed_to gives leaves = record {
      keeps = keeps_after g to s.pending s.in_doubt (shown_of g s).devices (devices_of g pair s.detector.words s.checkpointer) (moved leaves) (saved g (shown_of g s)) (live g (shown_of g s)) gives is.keeps.live s.durable is.keeps.count;
      faithful = is.faithful;
      state = is.state;
      spelled = is.spelled;
      works = λ no. absurd (cc no);
    }

    -- what is in progress goes on
    module _ (fronts : (c : Content) → IsFront basis c → IsFront to c) (broken : Bool) where
      freezing : IsFreezing g s basis → IsFreezing g (with_journals broken) to
      freezing f = record { was = f.was; content = f.content; state = f.state; front = fronts _ f.front; draft = f.draft }

      rooting : IsRooting g s basis → IsRooting g (with_journals broken) to
      unfolding freezing
      rooting r = record { freezing = freezing r.freezing; next = r.next; is_next = r.is_next; content = r.content }

      in_progress : (at : Phase) → IsInProgress g at s basis → IsInProgress g at (with_journals broken) to
      in_progress phase.Idle p = tt
      in_progress phase.Flushing p = freezing p
      in_progress phase.Sealed p = rooting p
      in_progress phase.Prepared p = rooting p
      in_progress phase.Written p = rooting p

      -- the journals keep these events
      kept_to : s.is_broken ≡ false → IsAtRest to → GivesDurable to (saved g (shown_of g s)) → journals.Keeps pair base events → Standing g (with_journals broken) to
      kept_to works rests gives keeps = record {
        keeps = record {
          gives = gives;
          live = is.keeps.live;
          count = is.keeps.count;
          journals = λ one other is_one is_other. inl (inl (kept_images g pair base events keeps one other is_one is_other));
          roots = is.keeps.roots;
          slots = is.keeps.slots;
        };
        faithful = is.faithful;
        state = is.state;
        spelled = is.spelled;
        works = λ _.
            let w = is.works works in
            record {
              certain = w.certain;
              rests = rests;
              journals = keeps;
              stands = w.stands;
              number = w.number;
              counted = w.counted;
              progress = in_progress s.checkpointer.phase w.progress;
            };
      }

  -- ---- the same events are kept: a turn

  same_left : Leaves (HaveJournals basis.base basis.events) → Leaves (HaveDurable basis)
  same_left leaves = journals_weaker g (journals.first_of s.journals) (journals.first_of pair) (journals.second_of s.journals) (journals.second_of pair) (HaveJournals basis.base basis.events) (HaveDurable basis) (λ one other has. inl has) leaves

  pub turn_images : Leaves (HaveJournals basis.base basis.events)
      → EachImage g (shown_of g s).devices (devices_of g pair s.detector.words s.checkpointer) (Stands (saved g (shown_of g s)) (live g (shown_of g s)) s.in_doubt)
  turn_images leaves = images_to basis.base basis.next_base basis.events is.keeps.gives (same_left leaves)

  pub turn_failed : Leaves (HaveJournals basis.base basis.events) → Standing g (with_journals true) basis
  turn_failed leaves = failed_to basis.base basis.next_base basis.events is.keeps.gives (same_left leaves)

  pub turned : (broken : Bool) → s.is_broken ≡ false → journals.Keeps pair basis.base basis.events → Standing g (with_journals broken) basis
  turned broken works keeps = kept_to basis.base basis.next_base basis.events (λ c front. front) broken works (is.works works).rests is.keeps.gives keeps

  -- ---- events are given up: a retirement

  module _ (works : s.is_broken ≡ false) where
    abbrev next_base : ℕ
    next_base = journals.newer_base_of s.journals

    -- what the journals keep ends behind the base of the current one
    begins : basis.base ≤ next_base
    begins = let at = (is.works works).journals.turned_at in omega (arith, at)

    stood : next_base ≤ s.counted → RetirementStands basis next_base (saved g (shown_of g s))
    stood counts =
        let w = is.works works in
        let same = w.counted in
        retirements basis next_base (saved g (shown_of g s)) w.rests is.keeps.gives begins (omega (arith, counts, same))

    -- the events that the newest open root counts reach so far, or nothing is given up
    reaches : (next_base ≤ s.counted) ⊎ (s.counted < next_base)
    reaches = ⊎_elim (λ below. inr below) (λ upto. inl upto) (cases_lt s.counted next_base)

    either_left : next_base ≤ s.counted → Leaves (HaveAllOrBehind s.counted basis.base next_base basis.events) → Leaves (HaveDurable (retiring basis next_base))
    either_left counts leaves =
        let same = (is.works works).counted in
        journals_weaker g (journals.first_of s.journals) (journals.first_of pair) (journals.second_of s.journals) (journals.second_of pair) (HaveAllOrBehind s.counted basis.base next_base basis.events) (HaveDurable (retiring basis next_base))
        (λ one other has. ((stood counts).during one other).0 (subst (λ (n : ℕ). HaveAllOrBehind n basis.base next_base basis.events one other) same has)) leaves

    none_behind : s.counted < next_base → Leaves (HaveAllOrBehind s.counted basis.base next_base basis.events) → Leaves (HaveJournals basis.base basis.events)
    none_behind below leaves =
        journals_weaker g (journals.first_of s.journals) (journals.first_of pair) (journals.second_of s.journals) (journals.second_of pair) (HaveAllOrBehind s.counted basis.base next_base basis.events) (HaveJournals basis.base basis.events)
        (λ one other has. ⊎_elim (λ all. all) (λ rest. absurd (omega (arith, below, rest.0))) has) leaves

    pub retire_images : Leaves (HaveAllOrBehind s.counted basis.base next_base basis.events)
        → EachImage g (shown_of g s).devices (devices_of g pair s.detector.words s.checkpointer) (Stands (saved g (shown_of g s)) (live g (shown_of g s)) s.in_doubt)
    retire_images leaves =
        ⊎_elim
        (λ counts. images_to basis.base next_base basis.events (stood counts).gives_during (either_left counts leaves))
        (λ below. turn_images (none_behind below leaves))
        reaches

    pub retire_failed : Leaves (HaveAllOrBehind s.counted basis.base next_base basis.events) → (to : Basis) × Standing g (with_journals true) to
    retire_failed leaves =
        ⊎_elim
        (λ counts. (retiring basis next_base, failed_to basis.base next_base basis.events (stood counts).gives_during (either_left counts leaves)))
        (λ below. (basis, turn_failed (none_behind below leaves)))
        reaches

    -- the older file is closed
    pub retired_to : (broken : Bool) → next_base ≤ s.counted → journals.Keeps pair next_base (behind basis.base next_base basis.events) → Standing g (with_journals broken) (retired basis next_base)
    retired_to broken counts keeps =
        let stands = stood counts in
        kept_to next_base next_base (behind basis.base next_base basis.events) stands.fronts broken works stands.rests stands.gives keeps

    -- it is closed, or nothing was done
    pub retired_or_not : (broken retired_it : Bool) → retired_it ≡ journals.is_retirable s.counted s.journals → MatchBool retired_it (journals.IsRetired s.journals pair) (pair ≡ s.journals)
        → journals.Keeps pair (journals.base_of pair) (behind basis.base (journals.base_of pair) basis.events) → (to : Basis) × Standing g (with_journals broken) to
    retired_or_not broken true told closed keeps =
        let upto : next_base ≤ s.counted = reached (not s.journals.has_spare) next_base s.counted (sym told) in
        (retired basis next_base, retired_to broken upto (subst (λ (n : ℕ). journals.Keeps pair n (behind basis.base n basis.events)) closed.base keeps))
    retired_or_not broken false told same keeps =
        (basis, turned broken works (subst (λ (p : JournalPair D g). journals.Keeps p basis.base basis.events) (sym same) (is.works works).journals))
