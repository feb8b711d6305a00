-- A store goes on by a commit.
use Rattle.std.proofs.Common.{◌≡◌, inl, ◌∙◌, ℕ, List, [], ◌++◌, Bool, true, false, Some, refl, sym, ap, subst}
use Rattle.hg_model.specs.declared.event.Named.{Named}
use Rattle.hg_model.specs.Contents.{Content}
use Rattle.hg_model.specs.Change.{followed}
use Rattle.hg_detect.specs.Shown as detect
use Rattle.hg_disk.specs.declared.disk.Disk as disk
use Rattle.hg_disk.proofs.Moments.{started}
use Rattle.hg_journals.specs.Journals.{HaveAllOrNone}
use Rattle.hg_journals.specs.declared.pair.JournalPair.{JournalPair}
use Rattle.hg_journals.specs.Pairs as journals
use Rattle.hg_pool.specs.Maps as pools
use Rattle.hg_pool.specs.Shown as pool
use Rattle.hg_images.specs.Choices.{Basis, GivesDurable, HasBothSlots, HaveEvents, Stands}
use Rattle.hg_images.specs.Steps.{CommitStands, IsAtRest, committed}
use Rattle.hg_images.proofs.Stepping.{commits}
use Rattle.hg_checkpoint.specs.declared.phase.Phase.{Phase}
use Rattle.hg_checkpoint.specs.declared.phase.Phase.TheVariants as phase
use Rattle.hg_store.specs.Images.{EachImage}
use Rattle.hg_store.specs.Kept.{IsFreezing, IsInProgress, IsRooting, Parts, Standing, devices_of, shown_of}
use Rattle.hg_store.specs.Shown.{live, saved}
use Rattle.hg_store.specs.Store.{view_of}
use Rattle.hg_store.proofs.Moments.{Moved, each_image, journals_weaker, keeps_after, kept_images, none_moved}

module _ {D : Type 0} (g : disk.Ghosts D) (s : Parts D g) (basis : Basis) (is : Standing g s basis) (pair : JournalPair D g) (rests : IsAtRest basis) where
  abbrev pub Appends : Type 0
  Appends = journals.EachPair s.journals pair (HaveAllOrNone basis.base basis.events s.pending)

  -- what the basis says meanwhile, and after it
  stood : CommitStands basis s.pending (live g (shown_of g s))
  stood = commits basis s.pending (saved g (shown_of g s)) (live g (shown_of g s)) rests is.keeps.gives is.keeps.live

  -- the journals alone are called
  moved : Appends → Moved g basis s.pending true (shown_of g s).devices (devices_of g pair s.detector.words s.checkpointer)
  moved appends = record {
    journals = journals_weaker g (journals.first_of s.journals) (journals.first_of pair) (journals.second_of s.journals) (journals.second_of pair) (HaveAllOrNone basis.base basis.events s.pending) (HaveEvents basis s.pending true)
        (λ one other. (stood.during one other).0) appends;
    roots = none_moved g basis (view_of g (shown_of g s)) (saved g (shown_of g s)) (shown_of g s).devices refl is.keeps;
    slots = started g (shown_of g s).devices.slots (HasBothSlots basis) is.keeps.slots;
  }

  pub images : Appends → EachImage g (shown_of g s).devices (devices_of g pair s.detector.words s.checkpointer) (Stands (saved g (shown_of g s)) (live g (shown_of g s)) true)
  images appends =
      each_image g basis s.pending true (shown_of g s).devices (devices_of g pair s.detector.words s.checkpointer) (moved appends) (saved g (shown_of g s)) (live g (shown_of g s)) is.keeps.gives is.keeps.live

  abbrev pub with_journals : detect.ShownDetector (pool.ShownPool D) → List Named → ℕ → Bool → Bool → Parts D g
  with_journals was pending durable broken doubt = record {
    journals = pair;
    detector = s.detector;
    checkpointer = s.checkpointer;
    committed = was;
    frozen = s.frozen;
    pending = pending;
    durable = durable;
    counted = s.counted;
    counting = s.counting;
    is_broken = broken;
    in_doubt = doubt;
  }

  -- a device failed
  pub failed : Appends → Standing g (with_journals s.committed s.pending s.durable true true) basis
  failed appends = record {
    keeps = keeps_after g basis s.pending true (shown_of g s).devices (devices_of g pair s.detector.words s.checkpointer) (moved appends) (saved g (shown_of g s)) (live g (shown_of g s)) is.keeps.gives is.keeps.live s.durable
        is.keeps.count;
    faithful = is.faithful;
    state = is.state;
    spelled = is.spelled;
    works = λ no. absurd (cc no);
  }

  -- the basis with the pending events
  abbrev pub grown : Basis
  grown = committed basis s.pending

  module _ (durable : ℕ) where
    abbrev succeeding : Parts D g
    succeeding = with_journals s.detector [] durable false false

    freezing : IsFreezing g s basis → IsFreezing g succeeding grown
    freezing f = record { was = f.was; content = f.content; state = f.state; front = stood.fronts _ f.front; draft = f.draft }

    rooting : IsRooting g s basis → IsRooting g succeeding grown
    unfolding freezing
    rooting r = record { freezing = freezing r.freezing; next = r.next; is_next = r.is_next; content = r.content }

    in_progress : (at : Phase) → IsInProgress g at s basis → IsInProgress g at succeeding grown
    in_progress phase.Idle p = tt
    in_progress phase.Flushing p = freezing p
    in_progress phase.Sealed p = rooting p
    in_progress phase.Prepared p = rooting p
    in_progress phase.Written p = rooting p

    succeeded : s.is_broken ≡ false → durable ≡ (live g (shown_of g s)).events → journals.Keeps pair basis.base (basis.events ++ s.pending) → Standing g succeeding grown
    succeeded works count keeps = record {
      keeps = record {
        gives = stood.gives;
        live = refl;
        count = count;
        journals = λ one other is_one is_other. inl (inl (kept_images g pair basis.base (basis.events ++ s.pending) keeps one other is_one is_other));
        roots = is.keeps.roots;
        slots = is.keeps.slots;
      };
      faithful = is.faithful;
      state = is.state;
      spelled = is.spelled;
      works = λ _.
          let w = is.works works in
          record {
            certain = refl;
            rests = stood.rests;
            journals = keeps;
            stands = w.stands;
            number = w.number;
            counted = w.counted;
            progress = in_progress s.checkpointer.phase w.progress;
          };
    }

    -- a commit succeeded, with parts that are equal to these
    pub succeeded_as : (was : detect.ShownDetector (pool.ShownPool D)) (pending : List Named) (broken doubt : Bool) → was ≡ s.detector → pending ≡ [] → broken ≡ false → doubt ≡ false
        → s.is_broken ≡ false → durable ≡ (live g (shown_of g s)).events → journals.Keeps pair basis.base (basis.events ++ s.pending) → Standing g (with_journals was pending durable broken doubt) grown
    succeeded_as was pending broken doubt same none works certain worked count keeps =
        subst (λ (x : detect.ShownDetector (pool.ShownPool D)). Standing g (with_journals x pending durable broken doubt) grown) (sym same)
        (subst (λ (x : List Named). Standing g (with_journals s.detector x durable broken doubt) grown) (sym none)
        (subst (λ (x : Bool). Standing g (with_journals s.detector [] durable x doubt) grown) (sym works)
        (subst (λ (x : Bool). Standing g (with_journals s.detector [] durable false x) grown) (sym certain) (succeeded worked count keeps))))

-- a commit of nothing
module _ {D : Type 0} (g : disk.Ghosts D) (s : Parts D g) (basis : Basis) (is : Standing g s basis) (none : s.pending ≡ []) where
  some_is : (c d : Content) → Some c ≡ Some d → c ≡ d
  some_is c d same = cc

  all_saved : saved g (shown_of g s) ≡ live g (shown_of g s)
  all_saved = some_is (saved g (shown_of g s)) (live g (shown_of g s)) (ap (λ (p : List Named). followed (saved g (shown_of g s)) p) (sym none) ∙ is.keeps.live)

  abbrev marked : detect.ShownDetector (pool.ShownPool D) → ℕ → Parts D g
  marked was durable = record {
    journals = s.journals;
    detector = s.detector;
    checkpointer = s.checkpointer;
    committed = was;
    frozen = s.frozen;
    pending = s.pending;
    durable = durable;
    counted = s.counted;
    counting = s.counting;
    is_broken = s.is_broken;
    in_doubt = s.in_doubt;
  }

  still_freezing : (was : detect.ShownDetector (pool.ShownPool D)) (durable : ℕ) → IsFreezing g s basis → IsFreezing g (marked was durable) basis
  still_freezing was durable f = record { was = f.was; content = f.content; state = f.state; front = f.front; draft = f.draft }

  still_rooting : (was : detect.ShownDetector (pool.ShownPool D)) (durable : ℕ) → IsRooting g s basis → IsRooting g (marked was durable) basis
  unfolding still_freezing
  still_rooting was durable r = record { freezing = still_freezing was durable r.freezing; next = r.next; is_next = r.is_next; content = r.content }

  still_in_progress : (was : detect.ShownDetector (pool.ShownPool D)) (durable : ℕ) (at : Phase) → IsInProgress g at s basis → IsInProgress g at (marked was durable) basis
  still_in_progress was durable phase.Idle p = tt
  still_in_progress was durable phase.Flushing p = still_freezing was durable p
  still_in_progress was durable phase.Sealed p = still_rooting was durable p
  still_in_progress was durable phase.Prepared p = still_rooting was durable p
  still_in_progress was durable phase.Written p = still_rooting was durable p

  pub nothing_waited : (was : detect.ShownDetector (pool.ShownPool D)) (durable : ℕ) → was ≡ s.detector → durable ≡ (live g (shown_of g s)).events → Standing g (marked was durable) basis
  nothing_waited was durable same count =
      let now : detect.content (pools.live g) was ≡ live g (shown_of g s) = ap (λ (d : detect.ShownDetector (pool.ShownPool D)). detect.content (pools.live g) d) same in
      let stays : saved g (shown_of g s) ≡ detect.content (pools.live g) was = all_saved ∙ sym now in
      record {
        keeps = record {
          gives = subst (λ (c : Content). GivesDurable basis c) stays is.keeps.gives;
          live = subst (λ (c : Content). followed c s.pending ≡ Some (live g (shown_of g s))) stays is.keeps.live;
          count = count ∙ ap (λ (c : Content). c.events) (sym now);
          journals = is.keeps.journals;
          roots = is.keeps.roots;
          slots = is.keeps.slots;
        };
        faithful = is.faithful;
        state = is.state;
        spelled = is.spelled;
        works = λ works.
            let w = is.works works in
            record {
              certain = w.certain;
              rests = w.rests;
              journals = w.journals;
              stands = w.stands;
              number = w.number;
              counted = w.counted;
              progress = still_in_progress was durable s.checkpointer.phase w.progress;
            };
      }
