use Rattle.std.proofs.Common.{◌≡◌, ◌∙◌, ◌+◌, ◌<◌, false, length, ℕ, List, Err, Result, refl, rules, subst, sym, ap}
use Rattle.hg_model.specs.Parts as model
use Rattle.hg_detect.specs.Shown as detect
use Rattle.hg_root.specs.declared.root.TheConstants.{MOST_CHECKPOINTS}
use Rattle.std.proofs.lemmas.Bool.{true≢false}
use Rattle.hg_checkpoint.specs.Calls.{IsAllowedIn, IsOfFreezing}
use Rattle.hg_checkpoint.specs.declared.phase.CheckpointFault.{CheckpointFault}
use Rattle.hg_checkpoint.specs.declared.phase.Phase.{Phase}
use Rattle.hg_checkpoint.specs.declared.phase.Phase.TheVariants as phase
use Rattle.hg_pages.specs.Files as files
use Rattle.hg_pages.specs.declared.slot_file.SlotFile.{SlotFile}
use Rattle.hg_checkpoint.specs.Capturing.{parts_with}
use Rattle.hg_store.specs.Shown.{ShownStore, live as of_store, phase_by, phase_of, words}
use Rattle.hg_store.specs.declared.steps.StorePhase.TheVariants as store
use Rattle.hg_store.specs.Kept.{is_rooting}
use Rattle.hg_pool.specs.Kept.{AreWithin}
use Rattle.hg_pool.specs.Maps.{live}
use Rattle.hg_pool.specs.Shown.{Frame, ShownPool as Pool}
use Rattle.hg_contents.proofs.lawful.Staying.{fits_a_root}
use Rattle.hg_store.proofs.Freezing.{draft_of, freeze_is_quiet, freeze_is_spelled, freeze_refused, frozen_as, head, idle_phase, known, now}
use Rattle.hg_store.proofs.Staying.{same_content}
use Rattle.hg_store.proofs.Unchanged.{nothing_done, same_shown, same_sound}
use Rattle.hg_store.proofs.store.Store.begin.Goals as goal

pub returns-in-Ok-clause-live : goal.returns-in-Ok-clause-live
returns-in-Ok-clause-live g c honest =
    rw (← c.self.view_is) (same_content g.D.Disk c.self.inside.detector c.freeze.new.pool (rw c.words_mut.ensures.value at c.freeze.ensures.live))

pub invariant_of-self : goal.invariant_of-self
invariant_of-self g c =
    let pool = rw c.words_mut.ensures.value at c.freeze.ensures.pool in
    let rests : phase_by c.self.inside.checkpointer.phase c.self.inside.pending.items ≡ store.Idle = search rules in
    let none = (idle_phase c.self.inside.checkpointer.phase c.self.inside.pending.items rests).1 in
    let is_next : c.number-number.result + 1 ≡ c.self.inside.checkpointer.number + 1 = search rules in
    record {
      lawful = subst (λ (f : List (ℕ × Frame)). AreWithin f (length c.self.inside.detector.segments) (length c.self.inside.detector.sets.sets)) (sym pool.2) c.self.invariant.lawful;
      few = c.self.invariant.few;
      room = c.self.invariant.room;
      journals = c.self.invariant.journals;
      fits = c.self.invariant.fits;
      counting = c.events-counting.ensures ∙ ap (λ (p : model.Parts). p.events) c.state.ensures ∙ ap (λ (d : detect.ShownDetector (Pool g.row.D.Denot)). d.parts.events) (sym c.of-frozen.ensures);
      words = λ works. ap (λ (f : SlotFile g.row.D.Denot). files.is_broken f) pool.1 ∙ c.self.invariant.words works;
      checkpointer = λ works. c.freeze.ensures.rest.3 ∙ c.self.invariant.checkpointer works;
      sealed = λ rooting. absurd (true≢false (sym rooting ∙ ap (λ (p : Phase). is_rooting p) c.in-Ok.ensures.frozen));
      stands = λ honest.
          let k = c.self.invariant.stands honest in
          let works : c.self.inside.is_broken ≡ false = search rules in
          let w = k.1.works works in
          let whole = rw c.words_mut.ensures.value at c.freeze.ensures.whole in
          let on = rw c.words_mut.ensures.value at c.freeze.ensures.stands in
          let draft = rw c.words_mut.ensures.value at c.in-Ok.ensures.draft in
          let same = rw c.words_mut.ensures.value at c.freeze.ensures.live in
          let fits = fits_a_root (live g.D.Disk) c.self.inside.detector k.1.state c.kept_reports-kept.ensures.sets k.1.spelled c.kept_reports-kept.ensures.named in
          let number = c.number-number.result + 1 in
          let drafted = draft k.0.now.checkpoint (parts_with number (now g.D.Disk _ k.0 k.1 works)) k.1.faithful.whole
          (head g.D.Disk _ k.0 k.1 works c.in_ok-head.head number c.in_ok-head.ensures.text (c.in_ok-head.ensures.lawful fits) is_next) (known g.D.Disk _ k.0 k.1 works number) in (
            k.0,
            frozen_as g.D.Disk _ k.0 k.1 works c.freeze.new.self c.freeze.new.pool same (whole k.1.faithful.whole) pool.1 c.freeze.ensures.rest.0 c.of-frozen.result.value c.events-counting.result c.self.inside.is_broken (search rules) none c.in-Ok.ensures.frozen c.freeze.ensures.rest.2
                (on k.0.now.checkpoint k.0.now.former w.stands) (draft_of g.D.Disk c.freeze.new.self c.freeze.new.pool k.0.now.checkpoint (now g.D.Disk _ k.0 k.1 works) number c.in-Ok.ensures.head.1 drafted),
          );
    }

pub invariant_of-self-in-Err-WrongPhase : goal.invariant_of-self-in-Err-WrongPhase
invariant_of-self-in-Err-WrongPhase g c =
    same_sound g.D.Disk _ c.freeze.new.self c.freeze.new.pool c.in-Err-WrongPhase.ensures.refused.0 (c.in-Err-WrongPhase.ensures.refused.1 ∙ c.words_mut.ensures.value) _ c.self.invariant

pub returns-in-Err-WrongPhase-clause-refused : goal.returns-in-Err-WrongPhase-clause-refused
returns-in-Err-WrongPhase-clause-refused g c = same_shown g.D.Disk _ c.freeze.new.self c.freeze.new.pool c.in-Err-WrongPhase.ensures.refused.0 (c.in-Err-WrongPhase.ensures.refused.1 ∙ c.words_mut.ensures.value) _ c.self.invariant _ c.self.view_is

pub returns-in-Err-WrongPhase-clause-devices : goal.returns-in-Err-WrongPhase-clause-devices
returns-in-Err-WrongPhase-clause-devices g c = ap (λ (s : ShownStore g.row.D.Denot). s.devices) (same_shown g.D.Disk _ c.freeze.new.self c.freeze.new.pool c.in-Err-WrongPhase.ensures.refused.0 (c.in-Err-WrongPhase.ensures.refused.1 ∙ c.words_mut.ensures.value) _ c.self.invariant _ c.self.view_is)

pub returns-in-Err-WrongPhase-clause-live : goal.returns-in-Err-WrongPhase-clause-live
returns-in-Err-WrongPhase-clause-live g c honest = ap (λ (s : ShownStore g.row.D.Denot). of_store g.D.Disk s) (same_shown g.D.Disk _ c.freeze.new.self c.freeze.new.pool c.in-Err-WrongPhase.ensures.refused.0 (c.in-Err-WrongPhase.ensures.refused.1 ∙ c.words_mut.ensures.value) _ c.self.invariant _ c.self.view_is)

pub returns-in-Err-WrongPhase-clause-done : goal.returns-in-Err-WrongPhase-clause-done
returns-in-Err-WrongPhase-clause-done g c = nothing_done _ _ _ _ _ _ (same_shown g.D.Disk _ c.freeze.new.self c.freeze.new.pool c.in-Err-WrongPhase.ensures.refused.0 (c.in-Err-WrongPhase.ensures.refused.1 ∙ c.words_mut.ensures.value) _ c.self.invariant _ c.self.view_is) (search rules) tt

pub invariant_of-self-in-Err-Refused : goal.invariant_of-self-in-Err-Refused
invariant_of-self-in-Err-Refused g c =
    same_sound g.D.Disk _ c.freeze.new.self c.freeze.new.pool c.in-Err-Refused.ensures.refused.0 (c.in-Err-Refused.ensures.refused.1 ∙ c.words_mut.ensures.value) _ c.self.invariant

pub returns-clause-refused : goal.returns-clause-refused
returns-clause-refused g c = same_shown g.D.Disk _ c.freeze.new.self c.freeze.new.pool c.in-Err-Refused.ensures.refused.0 (c.in-Err-Refused.ensures.refused.1 ∙ c.words_mut.ensures.value) _ c.self.invariant _ c.self.view_is

pub returns-clause-devices : goal.returns-clause-devices
returns-clause-devices g c = ap (λ (s : ShownStore g.row.D.Denot). s.devices) (same_shown g.D.Disk _ c.freeze.new.self c.freeze.new.pool c.in-Err-Refused.ensures.refused.0 (c.in-Err-Refused.ensures.refused.1 ∙ c.words_mut.ensures.value) _ c.self.invariant _ c.self.view_is)

pub returns-clause-live : goal.returns-clause-live
returns-clause-live g c honest = ap (λ (s : ShownStore g.row.D.Denot). of_store g.D.Disk s) (same_shown g.D.Disk _ c.freeze.new.self c.freeze.new.pool c.in-Err-Refused.ensures.refused.0 (c.in-Err-Refused.ensures.refused.1 ∙ c.words_mut.ensures.value) _ c.self.invariant _ c.self.view_is)

pub returns-clause-done : goal.returns-clause-done
returns-clause-done g c =
    let works : c.self.inside.is_broken ≡ false = search rules in
    let rests : phase_by c.self.inside.checkpointer.phase c.self.inside.pending.items ≡ store.Idle = search rules in
    let few : c.self.inside.checkpointer.number < MOST_CHECKPOINTS = search rules in
    let may = subst (λ (f : CheckpointFault). IsAllowedIn {T = Unit {0}} phase.Idle (IsOfFreezing c.self.inside.detector.words) c.self.inside.checkpointer (Err f)) c.in-Err-Refused.field-0-is
    (subst (λ (r : Result (Unit {0}) CheckpointFault). IsAllowedIn {T = Unit {0}} phase.Idle (IsOfFreezing c.self.inside.detector.words) c.self.inside.checkpointer r) c.in-Err-Refused.is
    (subst (λ (p : Pool g.row.D.Denot). IsAllowedIn {T = Unit {0}} phase.Idle (IsOfFreezing p) c.self.inside.checkpointer c.freeze.result) c.words_mut.ensures.value c.freeze.ensures.phase)) in
    nothing_done _ _ _ _ _ _
    (same_shown g.D.Disk _ c.freeze.new.self c.freeze.new.pool c.in-Err-Refused.ensures.refused.0 (c.in-Err-Refused.ensures.refused.1 ∙ c.words_mut.ensures.value) _ c.self.invariant _ c.self.view_is)
    (freeze_refused (Unit {0}) (Unit {0}) c.args.self.now c.self.inside.detector.words c.self.inside.checkpointer.is_broken c.self.inside.checkpointer.phase (c.self.inside.checkpointer.phase ≡ phase.Idle) c.in-Err-Refused.cause
    (ap (λ (s : ShownStore g.row.D.Denot). s.is_broken) (sym c.self.view_is) ∙ works) (ap (λ (s : ShownStore g.row.D.Denot). phase_of s) (sym c.self.view_is) ∙ rests)
    (subst (λ (s : ShownStore g.row.D.Denot). s.progress.number < MOST_CHECKPOINTS) c.self.view_is few) (ap (λ (s : ShownStore g.row.D.Denot). words s) c.self.view_is) (c.self.invariant.checkpointer works) may)
    (freeze_is_quiet (Unit {0}) (Unit {0}) c.self.inside.detector.words c.self.inside.checkpointer.is_broken c.self.inside.checkpointer.phase (c.self.inside.checkpointer.phase ≡ phase.Idle) c.in-Err-Refused.cause may)

pub returns-clause-undamaged : goal.returns-clause-undamaged
returns-clause-undamaged g c honest =
    let may = subst (λ (f : CheckpointFault). IsAllowedIn {T = Unit {0}} phase.Idle (IsOfFreezing c.self.inside.detector.words) c.self.inside.checkpointer (Err f)) c.in-Err-Refused.field-0-is
    (subst (λ (r : Result (Unit {0}) CheckpointFault). IsAllowedIn {T = Unit {0}} phase.Idle (IsOfFreezing c.self.inside.detector.words) c.self.inside.checkpointer r) c.in-Err-Refused.is
    (subst (λ (p : Pool g.row.D.Denot). IsAllowedIn {T = Unit {0}} phase.Idle (IsOfFreezing p) c.self.inside.checkpointer c.freeze.result) c.words_mut.ensures.value c.freeze.ensures.phase)) in
    freeze_is_spelled (Unit {0}) (Unit {0}) c.self.inside.detector.words c.self.inside.checkpointer.is_broken c.self.inside.checkpointer.phase (c.self.inside.checkpointer.phase ≡ phase.Idle) c.in-Err-Refused.cause may

pub returns-in-Ok-clause-done : goal.returns-in-Ok-clause-done
returns-in-Ok-clause-done g c = record {
  allowed = search rules;
  phase = c.in-Ok.ensures.frozen;
  works = search rules;
  unchanged = tt;
  refused = tt;
  pending = ap (λ (s : ShownStore g.row.D.Denot). s.pending) c.self.view_is;
  committed = ap (λ (s : ShownStore g.row.D.Denot). s.committed) c.self.view_is;
  durable = ap (λ (s : ShownStore g.row.D.Denot). s.durable) c.self.view_is;
  in_doubt = ap (λ (s : ShownStore g.row.D.Denot). s.in_doubt) c.self.view_is;
}

pub returns-in-Ok-clause-limits : goal.returns-in-Ok-clause-limits
returns-in-Ok-clause-limits g c = rw (← c.self.view_is) (rw c.words_mut.ensures.value at c.freeze.ensures.limits)

pub returns-in-Err-WrongPhase-clause-limits : goal.returns-in-Err-WrongPhase-clause-limits
returns-in-Err-WrongPhase-clause-limits g c =
    let same = same_shown g.D.Disk _ c.freeze.new.self c.freeze.new.pool c.in-Err-WrongPhase.ensures.refused.0 (c.in-Err-WrongPhase.ensures.refused.1 ∙ c.words_mut.ensures.value) _ c.self.invariant _ c.self.view_is in
    (ap (λ (s : ShownStore g.row.D.Denot). (words s).most_frames) same, ap (λ (s : ShownStore g.row.D.Denot). (words s).slots) same)

pub returns-clause-limits : goal.returns-clause-limits
returns-clause-limits g c =
    let same = same_shown g.D.Disk _ c.freeze.new.self c.freeze.new.pool c.in-Err-Refused.ensures.refused.0 (c.in-Err-Refused.ensures.refused.1 ∙ c.words_mut.ensures.value) _ c.self.invariant _ c.self.view_is in
    (ap (λ (s : ShownStore g.row.D.Denot). (words s).most_frames) same, ap (λ (s : ShownStore g.row.D.Denot). (words s).slots) same)

pub returns-in-Err-WrongPhase-clause-turns : goal.returns-in-Err-WrongPhase-clause-turns
returns-in-Err-WrongPhase-clause-turns g c = ap (λ (s : ShownStore g.row.D.Denot). s.turns) (same_shown g.D.Disk _ c.freeze.new.self c.freeze.new.pool c.in-Err-WrongPhase.ensures.refused.0 (c.in-Err-WrongPhase.ensures.refused.1 ∙ c.words_mut.ensures.value) _ c.self.invariant _ c.self.view_is)

pub returns-in-Err-WrongPhase-clause-counted : goal.returns-in-Err-WrongPhase-clause-counted
returns-in-Err-WrongPhase-clause-counted g c = ap (λ (s : ShownStore g.row.D.Denot). s.counted) (same_shown g.D.Disk _ c.freeze.new.self c.freeze.new.pool c.in-Err-WrongPhase.ensures.refused.0 (c.in-Err-WrongPhase.ensures.refused.1 ∙ c.words_mut.ensures.value) _ c.self.invariant _ c.self.view_is)

pub returns-clause-turns : goal.returns-clause-turns
returns-clause-turns g c = ap (λ (s : ShownStore g.row.D.Denot). s.turns) (same_shown g.D.Disk _ c.freeze.new.self c.freeze.new.pool c.in-Err-Refused.ensures.refused.0 (c.in-Err-Refused.ensures.refused.1 ∙ c.words_mut.ensures.value) _ c.self.invariant _ c.self.view_is)

pub returns-clause-counted : goal.returns-clause-counted
returns-clause-counted g c = ap (λ (s : ShownStore g.row.D.Denot). s.counted) (same_shown g.D.Disk _ c.freeze.new.self c.freeze.new.pool c.in-Err-Refused.ensures.refused.0 (c.in-Err-Refused.ensures.refused.1 ∙ c.words_mut.ensures.value) _ c.self.invariant _ c.self.view_is)
