-- A store goes on by a freeze.
use Rattle.std.proofs.Common.{◌≡◌, ◌∙◌, inl, inr, ⊎_elim, ◌+◌, ◌<◌, ℕ, List, [], ◌∷◌, Bool, false, length, Option, Some, None, Result, Ok, Err, ◌&&◌, nat_lt, if◌then◌else◌, refl, sym, ap, subst, arith}
use Rattle.std.specs.Prelude.{◌≢◌, OnOk, MatchBool}
use Rattle.std.proofs.lemmas.Bool.{true≢false}
use Rattle.std.proofs.lemmas.List.{append-nil}
use Rattle.hg_model.specs.declared.event.Named.{Named}
use Rattle.hg_model.specs.Contents.{Content}
use Rattle.hg_model.specs.Change.{followed}
use Rattle.hg_cells.specs.declared.cell.Cell.{Cell}
use Rattle.hg_cells.specs.Cells.{IsWithin}
use Rattle.hg_detect.specs.Engine.{AtPresent}
use Rattle.hg_detect.specs.Shown as detect
use Rattle.hg_disk.specs.declared.disk.Disk as disk
use Rattle.hg_pages.specs.Files as files
use Rattle.hg_pool.specs.Kept.{IsFaithful, IsWhole, SameMap}
use Rattle.hg_pool.specs.Maps as pools
use Rattle.hg_pool.specs.Shown as pool
use Rattle.hg_root.specs.Checkpoints.{Checkpoint, root_of}
use Rattle.hg_root.specs.Finding.{number_in}
use Rattle.hg_root.specs.Grammar.{head_text}
use Rattle.hg_root.specs.Lawful.{IsLawfulHead}
use Rattle.hg_root.specs.Newest.{IsBelow}
use Rattle.hg_root.specs.Pairs.{first_of, second_of}
use Rattle.hg_images.specs.Choices.{Basis, HasBothSlots, HaveEvents, Stands}
use Rattle.hg_images.specs.Images.{Gives}
use Rattle.hg_images.specs.Steps.{IsFront}
use Rattle.hg_contents.specs.Maps.{IsKnownTo}
use Rattle.hg_contents.proofs.lawful.Sharing.{live_known}
use Rattle.hg_pool.specs.Picking.{LacksSlots}
use Rattle.hg_root.specs.declared.root.TheConstants.{MOST_CHECKPOINTS}
use Rattle.hg_checkpoint.specs.Calls as calls
use Rattle.hg_checkpoint.specs.Capturing.{parts_with}
use Rattle.hg_checkpoint.specs.Phases as phases
use Rattle.hg_checkpoint.specs.declared.cause.Cause.{Cause}
use Rattle.hg_checkpoint.specs.declared.cause.Cause.TheVariants as cause
use Rattle.hg_checkpoint.specs.declared.phase.CheckpointFault.TheVariants as fault
use Rattle.hg_checkpoint.specs.declared.checkpointer.Checkpointer.{Checkpointer}
use Rattle.hg_checkpoint.specs.declared.phase.Phase.{Phase}
use Rattle.hg_checkpoint.specs.declared.phase.Phase.TheVariants as phase
use Rattle.hg_checkpoint.specs.Standing as checkpoints
use Rattle.hg_store.specs.Kept.{IsFreezing, IsInProgress, Parts, Standing, devices_of, shown_of}
use Rattle.hg_disk.specs.Calls.{CallsAtMost}
use Rattle.hg_store.specs.Answers.{IfRefused, IsAllowed, IsOfFreezing}
use Rattle.hg_store.specs.Doing.{BeginsWhenIdle, LeavesCurrent, TakesTurns, TurnAnswers, other_since}
use Rattle.hg_store.specs.Images.{EachImage}
use Rattle.hg_store.specs.Steps.{SameButJournals}
use Rattle.hg_store.specs.declared.steps.StepFault.{StepFault}
use Rattle.hg_store.specs.Shown.{Progress, ShownStore, Turns, after_turn, live, other, phase_by, phase_of, saved, words}
use Rattle.hg_store.specs.declared.steps.StepFault.TheVariants as step
use Rattle.hg_store.specs.declared.steps.StorePhase.TheVariants as store
use Rattle.hg_disk.proofs.Moments.{started}
use Rattle.hg_store.specs.declared.devices.Devices.{Devices}
use Rattle.hg_store.specs.Store.{StandMeanwhile, view_of}
use Rattle.hg_store.proofs.Moments.{Moved, journals_still, none_moved}
use Rattle.hg_store.proofs.Staying.{over, same_content, stands_with, with_frozen}

-- a store that rests has no checkpoint in progress, and nothing waits
pub idle_phase : (p : Phase) (pending : List Named) → phase_by p pending ≡ store.Idle → (p ≡ phase.Idle) × (pending ≡ [])
idle_phase phase.Idle [] is = (refl, refl)
idle_phase phase.Idle (n ∷ pending) is = absurd (cc is)
idle_phase phase.Flushing pending is = absurd (cc is)
idle_phase phase.Sealed pending is = absurd (cc is)
idle_phase phase.Prepared pending is = absurd (cc is)
idle_phase phase.Written pending is = absurd (cc is)

-- a freeze that the checkpointer refused, of a store that works and rests
pub freeze_refused : {D : Type 0} (T U : Type 0) (s : ShownStore D) (p : pool.ShownPool D) (b : Bool) (at : Phase) (Lawful : Type 0) (r : Cause) → s.is_broken ≡ false → phase_of s ≡ store.Idle
    → s.progress.number < MOST_CHECKPOINTS → p ≡ words s → b ≡ false → phases.IsAllowed {T = U} b at Lawful (calls.IsOfFreezing p) (Err (fault.Refused r)) → IsAllowed {T = T} s (phase_of s ≡ store.Idle) (IsOfFreezing s) (Err (step.Refused r))
freeze_refused T U s p b at Lawful r works idle few is own (inl broken) = absurd (true≢false (sym broken.0 ∙ own))
freeze_refused {D} T U s p b at Lawful r works idle few is own (inr may) = inr (
  works,
  idle,
  ⊎_elim
      (λ none. subst (λ (x : Cause). IsOfFreezing s x) (sym none) few)
      (λ full. subst (λ (x : Cause). IsOfFreezing s x) (sym full.0) (few, subst (λ (q : pool.ShownPool D). LacksSlots q) is full.1))
      may.2,
)

-- no device failed in it
pub freeze_is_quiet : {D : Type 0} (T U : Type 0) (p : pool.ShownPool D) (b : Bool) (at : Phase) (Lawful : Type 0) (r : Cause) → phases.IsAllowed {T = U} b at Lawful (calls.IsOfFreezing p) (Err (fault.Refused r)) → IfRefused {T = T} (λ x. x ≢ cause.DeviceFault) (Err (step.Refused r))
freeze_is_quiet T U p b at Lawful r (inl broken) device = absurd (cc (sym broken.1 ∙ device))
freeze_is_quiet T U p b at Lawful r (inr may) device = ⊎_elim (λ none. absurd (cc (sym none ∙ device))) (λ full. absurd (cc (sym full.0 ∙ device))) may.2

-- and no part was without a spelling
pub freeze_is_spelled : {D : Type 0} (T U : Type 0) (p : pool.ShownPool D) (b : Bool) (at : Phase) (Lawful : Type 0) (r : Cause) → phases.IsAllowed {T = U} b at Lawful (calls.IsOfFreezing p) (Err (fault.Refused r)) → IfRefused {T = T} (λ x. x ≢ cause.Damaged) (Err (step.Refused r))
freeze_is_spelled T U p b at Lawful r (inl broken) damaged = absurd (cc (sym broken.1 ∙ damaged))
freeze_is_spelled T U p b at Lawful r (inr may) damaged = ⊎_elim (λ none. absurd (cc (sym none ∙ damaged))) (λ full. absurd (cc (sym full.0 ∙ damaged))) may.2

-- A checkpoint has begun, and then the journals took turns.
module _ {D : Type 0} (g : disk.Ghosts D) (old mid new : ShownStore D) where
  pub begun : (result : Result (Unit {0}) StepFault) → BeginsWhenIdle old mid (Ok tt) → old.progress.number < MOST_CHECKPOINTS → TurnAnswers mid new result → SameButJournals mid new → BeginsWhenIdle old new result
  begun (Ok value) done few answers same = record {
    allowed = done.allowed;
    phase = ap (λ (p : Progress). p.phase) same.progress ∙ done.phase;
    works = answers.0;
    unchanged = tt;
    refused = tt;
    pending = same.pending ∙ done.pending;
    committed = same.committed ∙ done.committed;
    durable = same.durable ∙ done.durable;
    in_doubt = same.in_doubt ∙ done.in_doubt;
  }
  begun (Err f) done few answers same = subst (λ (x : StepFault). BeginsWhenIdle old new (Err x)) (sym answers.0) (record {
    allowed = inr (done.allowed.0, done.allowed.1, few);
    phase = tt;
    works = tt;
    unchanged = tt;
    refused = (λ _. answers.1, λ other. absurd (other refl));
    pending = same.pending ∙ done.pending;
    committed = same.committed ∙ done.committed;
    durable = same.durable ∙ done.durable;
    in_doubt = same.in_doubt ∙ done.in_doubt;
  })

  -- a failed turn is told as one
  pub turn_undamaged : (result : Result (Unit {0}) StepFault) → TurnAnswers mid new result → IfRefused (λ r. r ≢ cause.Damaged) result
  turn_undamaged (Ok value) answers = tt
  turn_undamaged (Err f) answers = subst (λ (x : StepFault). IfRefused {T = Unit {0}} (λ r. r ≢ cause.Damaged) (Err x)) (sym answers.0) (λ damaged. absurd (cc damaged))

  pub on_turn : {P : Type 0} (result : Result (Unit {0}) StepFault) → P → OnOk result P
  on_turn (Ok value) holds = holds
  on_turn (Err f) holds = tt

  module _ (devices : mid.devices ≡ old.devices) (turns : mid.turns ≡ old.turns) where
    pub takes_turns : (result : Result (Unit {0}) StepFault) → TurnAnswers mid new result → OnOk result (TakesTurns old new)
    takes_turns (Ok value) answers =
        subst (λ (t : Turns). MatchBool (t.has_spare && nat_lt t.current_base t.last) (new.turns ≡ after_turn t) (new.turns ≡ t × (new.devices ≡ old.devices))) turns
        (subst (λ (d : Devices D). MatchBool (mid.turns.has_spare && nat_lt mid.turns.current_base mid.turns.last) (new.turns ≡ after_turn mid.turns) (new.turns ≡ mid.turns × (new.devices ≡ d))) devices answers.1)
    takes_turns (Err f) answers = tt

    pub leaves_current : LeavesCurrent mid new → LeavesCurrent old new
    leaves_current is =
        subst (λ (t : Turns). (if t.is_turned then new.devices.journal0 else new.devices.journal1) ≡ (if t.is_turned then old.devices.journal0 else old.devices.journal1)) turns
        (subst (λ (d : Devices D). (if mid.turns.is_turned then new.devices.journal0 else new.devices.journal1) ≡ (if mid.turns.is_turned then d.journal0 else d.journal1)) devices is)

    pub calls_other : (n : ℕ) → CallsAtMost g n (other mid) (other_since mid new) → CallsAtMost g n (other old) (other_since old new)
    calls_other n is =
        subst (λ (t : Turns). CallsAtMost g n (if t.is_turned then old.devices.journal1 else old.devices.journal0) (if t.is_turned then new.devices.journal1 else new.devices.journal0)) turns
        (subst (λ (d : Devices D). CallsAtMost g n (if mid.turns.is_turned then d.journal1 else d.journal0) (if mid.turns.is_turned then new.devices.journal1 else new.devices.journal0)) devices is)

    pub stands_on : mid.committed ≡ old.committed → live g mid ≡ live g old → mid.in_doubt ≡ old.in_doubt → StandMeanwhile g mid new mid.in_doubt → StandMeanwhile g old new old.in_doubt
    stands_on committed content doubt is =
        subst (λ (d : Devices D). EachImage g d new.devices (Stands (saved g old) (live g old) old.in_doubt)) devices
        (subst (λ (b : Bool). EachImage g mid.devices new.devices (Stands (saved g old) (live g old) b)) doubt
        (subst (λ (c : Content). EachImage g mid.devices new.devices (Stands (saved g old) c mid.in_doubt)) content
        (subst (λ (c : Content). EachImage g mid.devices new.devices (Stands c (live g mid) mid.in_doubt)) (ap (λ (d : detect.ShownDetector (pool.ShownPool D)). detect.content (pools.live g) d) committed) is)))

-- the draft by the number that the checkpointer noted
pub draft_of : {D : Type 0} (g : disk.Ghosts D) (c : Checkpointer D g) (w : pool.ShownPool D) (to : Option Checkpoint) (was : detect.ShownDetector (ℕ → Cell)) (number : ℕ) → c.next ≡ number
    → checkpoints.IsDraft g c w to (parts_with number was) was.words → checkpoints.IsDraft g c w to (parts_with c.next was) was.words
draft_of g c w to was number same draft = subst (λ (n : ℕ). checkpoints.IsDraft g c w to (parts_with n was) was.words) (sym same) draft

module _ {D : Type 0} (g : disk.Ghosts D) (s : Parts D g) (basis : Basis) (is : Standing g s basis) (works : s.is_broken ≡ false) where
  -- the detector as it stands, with its words by number
  abbrev pub now : detect.ShownDetector (ℕ → Cell)
  now = record { parts = s.detector.parts; segments = s.detector.segments; sets = s.detector.sets; words = pools.live g s.detector.words; kept = s.detector.kept; total = s.detector.total }

  pub known : (number : ℕ) → IsKnownTo (parts_with number now) (pools.live g s.detector.words)
  known number w = live_known (live g (shown_of g s)) (length s.detector.segments) s.detector.sets.sets (pools.live g s.detector.words w) w is.state refl (is.faithful.within w)

  below : (number : ℕ) → (c : Option Checkpoint) → number_in (root_of c) < number → IsBelow (root_of c) (Some (parts_with number now))
  below number None less = tt
  below number (Some c) less = less

  pub head : (text : List ℕ) (number : ℕ) → text ≡ head_text (parts_with number now) → IsLawfulHead (parts_with number now) → number ≡ s.checkpointer.number + 1 → checkpoints.IsHead basis.now.checkpoint (parts_with number now) text number
  head text number is_text lawful next = record {
    text = is_text;
    lawful = lawful;
    below = below number basis.now.checkpoint (let same = (is.works works).number in omega (arith, same, next));
    is_number = refl;
  }

  some_is : (c d : Content) → Some c ≡ Some d → c ≡ d
  some_is c d same = cc

  all_durable : s.pending ≡ [] → saved g (shown_of g s) ≡ live g (shown_of g s)
  all_durable none = some_is (saved g (shown_of g s)) (live g (shown_of g s)) (ap (λ (p : List Named). followed (saved g (shown_of g s)) p) (sym none) ∙ is.keeps.live)

  front : s.pending ≡ [] → IsFront basis (live g (shown_of g s))
  front none = record { front = basis.events; since = []; split = append-nil basis.events; gives = subst (λ (c : Content). Gives basis.now.checkpoint basis.base basis.events c) (all_durable none) is.keeps.gives.now }

  -- what a freeze leaves
  module _ (c : Checkpointer D g) (w : pool.ShownPool D) (same : SameMap (pools.live g s.detector.words) (pools.live g w)) (whole : IsWhole g w) (file : w.file ≡ s.detector.words.file) (roots : c.roots ≡ s.checkpointer.roots) where
    still : devices_of g s.journals w c ≡ (shown_of g s).devices
    still = λ i. record { journal0 = (shown_of g s).devices.journal0; journal1 = (shown_of g s).devices.journal1; slots = files.disk_of (file i); root0 = first_of (roots i); root1 = second_of (roots i) }

    moved : Moved g basis s.pending s.in_doubt (shown_of g s).devices (devices_of g s.journals w c)
    moved = subst (λ (d : Devices D). Moved g basis s.pending s.in_doubt (shown_of g s).devices d) (sym still) (record {
      journals = journals_still g (shown_of g s).devices (HaveEvents basis s.pending s.in_doubt) is.keeps.journals;
      roots = none_moved g basis (view_of g (shown_of g s)) (saved g (shown_of g s)) (shown_of g s).devices refl is.keeps;
      slots = started g (shown_of g s).devices.slots (HasBothSlots basis) is.keeps.slots;
    })

    faithful : AtPresent (IsFaithful g) (over g s.detector w)
    faithful = record { whole = whole; within = λ word. subst (λ (cell : Cell). IsWithin (length s.detector.segments) (length s.detector.sets.sets) cell) (sym (same word)) (is.faithful.within word) }

    freezing : (counting : ℕ) (broken : Bool) → s.pending ≡ [] → checkpoints.IsDraft g c w basis.now.checkpoint (parts_with c.next now) now.words → IsFreezing g (with_frozen g s basis is s.detector counting c (over g s.detector w) broken) basis
    freezing counting broken none draft = record { was = now; content = refl; state = is.state; front = front none; draft = draft }

    frozen : (counting : ℕ) (broken : Bool) → s.pending ≡ [] → c.phase ≡ phase.Flushing → c.number ≡ s.checkpointer.number → checkpoints.Stands g c w basis.now.checkpoint basis.now.former
        → checkpoints.IsDraft g c w basis.now.checkpoint (parts_with c.next now) now.words → Standing g (with_frozen g s basis is s.detector counting c (over g s.detector w) broken) basis
    frozen counting broken none at number stands draft =
        let was = is.works works in
        stands_with g s basis is s.detector counting basis c (over g s.detector w) broken (same_content g s.detector w same) is.spelled faithful is.keeps.gives moved (λ _. record {
          certain = was.certain;
          rests = was.rests;
          journals = was.journals;
          stands = stands;
          number = number ∙ was.number;
          counted = was.counted;
          progress = subst (λ (p : Phase). IsInProgress g p (with_frozen g s basis is s.detector counting c (over g s.detector w) broken) basis) (sym at) (freezing counting broken none draft);
        })

    -- a checkpoint has begun, with a detector that is equal to this one
    pub frozen_as : (was : detect.ShownDetector (pool.ShownPool D)) (counting : ℕ) (broken : Bool) → was ≡ s.detector → s.pending ≡ [] → c.phase ≡ phase.Flushing → c.number ≡ s.checkpointer.number → checkpoints.Stands g c w basis.now.checkpoint basis.now.former
        → checkpoints.IsDraft g c w basis.now.checkpoint (parts_with c.next now) now.words → Standing g (with_frozen g s basis is was counting c (over g s.detector w) broken) basis
    frozen_as was counting broken is_was none at number stands draft =
        subst (λ (d : detect.ShownDetector (pool.ShownPool D)). Standing g (with_frozen g s basis is d counting c (over g s.detector w) broken) basis) (sym is_was) (frozen counting broken none at number stands draft)
