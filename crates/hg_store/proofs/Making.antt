-- A store that was just made or recovered.
use Rattle.std.proofs.Common.{◌≡◌, ◌≤◌, ◌+◌, inl, ℕ, false, List, [], Some, None, IsTrue, length, refl, sym, ap, ◌∙◌, subst, arith}
use Rattle.std.proofs.lemmas.Bool.{false≢true}
use Rattle.hg_model.specs.declared.event.Named.{Named}
use Rattle.hg_model.specs.Contents.{Content}
use Rattle.hg_model.specs.Change.{empty_content, followed}
use Rattle.hg_detect.specs.Engine.{AtPresent}
use Rattle.hg_detect.specs.Shown as detect
use Rattle.hg_disk.specs.State.{IsImage}
use Rattle.hg_disk.specs.declared.disk.Disk as disk
use Rattle.hg_disk.proofs.Moments.{at_end, left_at_end, stays}
use Rattle.hg_gate.specs.declared.based.TheConstants.{MAX_BASE}
use Rattle.hg_journals.specs.Pairs as journals
use Rattle.hg_journals.specs.declared.pair.JournalPair.{JournalPair}
use Rattle.hg_pool.specs.Kept.{Went}
use Rattle.hg_pool.specs.Maps as pools
use Rattle.hg_pool.specs.OfWords.{MayBring}
use Rattle.hg_pool.specs.Shown as pool
use Rattle.hg_root.specs.Checkpoints.{root_of}
use Rattle.hg_root.specs.Pairs.{first_of, second_of}
use Rattle.hg_root.specs.declared.pair.RootPair.{RootPair}
use Rattle.hg_contents.specs.Choices.{Choice, HasSlots}
use Rattle.hg_images.specs.Choices.{Basis, GivesDurable}
use Rattle.hg_images.specs.Images.{Gives, LeadFrom}
use Rattle.hg_images.specs.Stores as stores
use Rattle.hg_images.specs.Steps.{resting}
use Rattle.hg_contents.specs.Images.{start_of}
use Rattle.hg_images.proofs.Joining.{facts_back}
use Rattle.hg_checkpoint.specs.Standing.{RootsStand}
use Rattle.hg_checkpoint.specs.Tables.{NamesOf}
use Rattle.hg_checkpoint.specs.declared.checkpointer.Checkpointer.{Checkpointer}
use Rattle.hg_checkpoint.specs.declared.phase.Phase.{Phase}
use Rattle.hg_checkpoint.specs.declared.phase.Phase.TheVariants as phase
use Rattle.hg_checkpoint.proofs.Rooting.{still_now}
use Rattle.hg_checkpoint.proofs.Staying.{slots_stay}
use Rattle.hg_recovery.specs.Detectors.{IsReady}
use Rattle.hg_recovery.specs.Rooting.{IsStarted}
use Rattle.hg_store.specs.Kept.{IsInProgress, IsSound, IsWorking, Parts, Standing, is_rooting, shown_of}
use Rattle.hg_store.specs.Recovering.{IsBased}
use Rattle.hg_store.specs.Shown.{live, saved}
use Rattle.hg_store.specs.Store.{IsFresh, IsIdle, view_of}
use Rattle.hg_store.proofs.Moments.{kept_images}

-- the basis of a store that was made
abbrev pub new_basis : Basis
new_basis = resting 0 [] (record { checkpoint = None; former = None })

module _ {D : Type 0} (g : disk.Ghosts D) where
  -- Nothing is pending, and no checkpoint is in progress.
  pub record IsMade (s : Parts D g) : Type 0 where
    pub committed : s.committed ≡ s.detector
    pub pending : s.pending ≡ []
    pub durable : s.durable ≡ s.detector.parts.events
    pub counting : s.counting ≡ s.frozen.parts.events
    pub works : s.is_broken ≡ false
    pub certain : s.in_doubt ≡ false
    pub idle : s.checkpointer.phase ≡ phase.Idle

  module _ (s : Parts D g) (made : IsMade s) (basis : Basis) (based : IsBased g s.journals s.detector s.checkpointer s.counted basis) where
    saved_is : saved g (shown_of g s) ≡ live g (shown_of g s)
    saved_is = ap (λ (d : detect.ShownDetector (pool.ShownPool D)). detect.content (pools.live g) d) made.committed

    gives : GivesDurable basis (live g (shown_of g s))
    gives =
        let counts : basis.next_base ≤ (start_of basis.now.checkpoint).events = let reaches = based.gives.reaches in let one = based.rests.one_base in omega (arith, reaches, one) in
        record {
          now = based.gives;
          next = subst (λ (choice : Choice). Gives choice.checkpoint basis.base basis.events (live g (shown_of g s))) (sym based.rests.one_choice) based.gives;
          order = let one = based.rests.one_base in omega (arith, one);
          counted_now = counts;
          counted_next = subst (λ (choice : Choice). basis.next_base ≤ (start_of choice.checkpoint).events) (sym based.rests.one_choice) counts;
        }

    keeps : stores.KeepsContent basis (view_of g (shown_of g s)) (saved g (shown_of g s))
    keeps = record {
      gives = subst (λ (c : Content). GivesDurable basis c) (sym saved_is) gives;
      live = ap (λ (p : List Named). followed (saved g (shown_of g s)) p) made.pending ∙ ap (λ (c : Content). Some c) saved_is;
      count = made.durable ∙ ap (λ (c : Content). c.events) (sym saved_is);
      journals = λ one other is_one is_other. inl (inl (kept_images g s.journals basis.base basis.events based.keeps one other is_one is_other));
      roots = λ one other is_one is_other.
          let at = still_now g s.checkpointer.phase s.checkpointer.roots (root_of basis.now.checkpoint) basis.now.former s.checkpointer.body.value.items based.stands.roots in
          let first = first_of s.checkpointer.roots in
          let second = second_of s.checkpointer.roots in
          inl (at.each one other (left_at_end g first first one (stays g first) is_one) (left_at_end g second second other (stays g second) is_other));
      slots = λ image left.
          let has = based.stands.slots image left in
          (has, subst (λ (choice : Choice). HasSlots choice image) (sym based.rests.one_choice) has);
    }

    working : IsWorking g s basis
    working = record {
      certain = made.certain;
      rests = based.rests;
      journals = based.keeps;
      stands = based.stands;
      number = based.number;
      counted = based.counts;
      progress = subst (λ (p : Phase). IsInProgress g p s basis) (sym made.idle) tt;
    }

    standing : IsReady g s.detector → Standing g s basis
    standing ready = record { keeps = keeps; faithful = ready.faithful; state = ready.state; spelled = ready.spelled; works = λ _. working }

    idle : IsIdle (shown_of g s)
    idle = record { pending = made.pending; phase = made.idle; works = made.works; certain = made.certain }

    pub fresh : IsFresh g (shown_of g s) (live g (shown_of g s))
    fresh = record {
      has = refl;
      durable = saved_is;
      idle = idle;
      backs = facts_back basis (view_of g (shown_of g s)) (saved g (shown_of g s)) keeps;
    }

  pub sound : (s : Parts D g) (room : ℕ) → IsMade s → AtPresent MayBring s.detector → 1024 ≤ room → journals.is_broken s.journals ≡ false → pools.is_broken s.detector.words ≡ false → s.checkpointer.is_broken ≡ false
      → (IsTrue g.is_honest → (basis : Basis) × IsBased g s.journals s.detector s.checkpointer s.counted basis × IsReady g s.detector) → IsSound g s room
  sound s room made lawful enough journals words checkpointer stands = record {
    lawful = lawful;
    few = subst (λ (p : List Named). length p ≤ 1024) (sym made.pending) (omega arith);
    room = enough;
    journals = λ _. journals;
    fits = λ _. subst (λ (p : List Named). s.journals.last + length p ≤ MAX_BASE) (sym made.pending) (let few = s.journals.fits in omega (arith, few));
    counting = made.counting;
    words = λ _. words;
    checkpointer = λ _. checkpointer;
    sealed = λ rooting. absurd (false≢true (ap is_rooting (sym made.idle) ∙ rooting));
    stands = λ honest. let all = stands honest in (all.0, standing s made all.0 all.1 all.2);
  }

  -- the parts of a store of no events on two closed roots
  pub new_based : (pair : JournalPair D g) (d : detect.ShownDetector (pool.ShownPool D)) (c : Checkpointer D g) → journals.Keeps pair 0 [] → detect.content (pools.live g) d ≡ empty_content
      → RootsStand g c.phase c.roots None None c.body.value.items → c.number ≡ 0 → IsBased g pair d c 0 new_basis
  new_based pair d c keeps content stand number = record {
    rests = record { one_base = refl; one_choice = refl };
    keeps = keeps;
    stands = record { roots = stand; slots = λ image left. (tt, tt); names = tt };
    number = number;
    counts = refl;
    gives = record { reaches = omega arith; enough = omega arith; leads = ap (λ (s : Content). Some s) (sym content) };
  }

  module _ (bytes : (d : D) → IsImage (g.state d) (g.state d).contents) (old : detect.ShownDetector (pool.ShownPool D)) (roots : RootPair D) (number : ℕ) (now : Choice) (started : IsStarted g old roots number now) (d : detect.ShownDetector (pool.ShownPool D)) (went : Went g old.words d.words) where
    -- the parts of a store that was recovered
    pub based : (pair : JournalPair D g) (base : ℕ) (events : List Named) (c : Checkpointer D g) (counted : ℕ) → journals.Keeps pair base events → LeadFrom (detect.content (pools.live g) old) base events (detect.content (pools.live g) d)
        → RootsStand g c.phase c.roots (root_of now.checkpoint) now.former c.body.value.items → c.number ≡ number → counted ≡ (detect.content (pools.live g) old).events → IsBased g pair d c counted (resting base events now)
    based pair base events c counted keeps lead stand is counts = record {
      rests = record { one_base = refl; one_choice = refl };
      keeps = keeps;
      stands = record {
        roots = stand;
        slots = at_end g (pools.disk_of old.words) (pools.disk_of d.words) (HasSlots now) (slots_stay g bytes old.words d.words now.checkpoint now.former went started.names started.slots);
        names = subst (λ (t : List (ℕ × ℕ)). NamesOf t now.checkpoint) (sym went.root) started.names;
      };
      number = is ∙ started.is_number;
      counts = counts ∙ ap (λ (s : Content). s.events) started.content;
      gives = subst (λ (s : Content). LeadFrom s base events (detect.content (pools.live g) d)) started.content lead;
    }
