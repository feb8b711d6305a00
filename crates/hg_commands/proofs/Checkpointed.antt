-- A checkpoint of a store that is fed.
use Rattle.std.proofs.Common.{◌≡◌, ◌∙◌, ◌+◌, ℕ, Bool, true, false, List, [], Option, Some, None, is_some, Result, Ok, Err, IfErr, IsTrue, codes, cond, refl, sym, ap, subst, inl, inr, arith}
use Rattle.std.proofs.lemmas.Bool.{true≢false}
use Rattle.std.specs.Prelude.{◌≢◌, IfOk, OnOk}
use Rattle.std.proofs.lemmas.Result.{IfErr-weaker}
use Rattle.hg_model.specs.declared.verdict.Refusal.{Refusal}
use Rattle.hg_model.specs.declared.verdict.Refusal.TheVariants as refusal
use Rattle.hg_disk.specs.declared.disk.Disk as disk
use Rattle.hg_detect.specs.Shown as detect
use Rattle.hg_pool.specs.Maps as pools
use Rattle.hg_pool.specs.Shown as pool
use Rattle.hg_pool.specs.Answers.{IsFrozen}
use Rattle.hg_pool.specs.Calls.{IsNextJob, IsStale, LosesWritten}
use Rattle.hg_pool.specs.declared.job.Job.{Job}
use Rattle.hg_pool.specs.declared.job.Put.{Put}
use Rattle.hg_pool.specs.declared.job.Put.TheVariants as put
use Rattle.hg_cells.specs.declared.cell.Cell.{Cell}
use Rattle.hg_pages.specs.Encoded.{Encoded}
use Rattle.hg_pages.specs.Slots.{slot_text}
use Rattle.hg_pages.specs.Tables.{slot_in}
use Rattle.hg_checkpoint.specs.Calls.{IsOfDevice, IsOfWriting}
use Rattle.hg_checkpoint.specs.Told.{refusal_of}
use Rattle.hg_checkpoint.specs.declared.cause.Cause.{Cause}
use Rattle.hg_checkpoint.specs.declared.cause.Cause.TheVariants as cause
use Rattle.hg_checkpoint.specs.declared.phase.Phase.{Phase}
use Rattle.hg_checkpoint.specs.declared.phase.Phase.TheVariants as phase
use Rattle.hg_store.specs.Doing.{SameWords}
use Rattle.hg_store.specs.Answers.{IfRefused, IsAllowed, IsOfFreezing, LeavesOrBreaks, failed_by}
use Rattle.hg_store.specs.Steps.{ByRetire, IsRetired}
use Rattle.hg_store.specs.Store.{HasItsNumber}
use Rattle.hg_store.specs.declared.steps.StorePhase.TheVariants as store
use Rattle.hg_streams.specs.Faults.{IsStreamFault}
use Rattle.hg_reading.specs.declared.ending.Ending.{Ending}
use Rattle.hg_reading.specs.declared.ending.Ending.TheVariants as ending
use Rattle.hg_reading.specs.declared.ending.Ending.TheVariants.{Ended, Bad}
use Rattle.hg_streams.specs.declared.call.WriteCall.{WriteCall}
use Rattle.hg_streams.specs.Written.{Took}
use Rattle.hg_images.specs.Choices.{Stands}
use Rattle.hg_store.specs.Images.{EachImage, HasOpened, failures_of}
use Rattle.hg_store.specs.Shown.{KeepsLimits, ShownStore, live, saved, phase_by, phase_of, words}
use Rattle.hg_store.specs.declared.devices.Devices.{Devices}
use Rattle.hg_store.specs.declared.steps.StepFault.{StepFault}
use Rattle.hg_store.specs.declared.steps.StepFault.TheVariants.{Refused, WrongPhase}
use Rattle.hg_commands.specs.FeedRunning.{StaysFed, WasCheckpointed, WasMade, WasStepped, failed_of, is_due}
use Rattle.hg_commands.specs.FeedFaults.{IsCheckpointFault, IsFeedFault, IsToldBy, LosesOne, Rests, WorksIn}
use Rattle.hg_commands.specs.GivingUp.{GivesUp}
use Rattle.hg_streams.specs.Texts.{number_text}

pub failed_is : {T : Type 0} (result : Result T StepFault) (f : StepFault) → result ≡ Err f → failed_by result ≡ failed_of f
failed_is result (WrongPhase p) is = ap failed_by is
failed_is result (Refused cause) is = ap failed_by is

-- a step of a checkpoint that was not made

device_told : (c : Cause) → IsOfDevice c → IsStreamFault (refusal_of c)
device_told c is = inr (ap refusal_of is)

writing_told : (c : Cause) → IsOfWriting c → IsStreamFault (refusal_of c)
writing_told c (inl memory) = inl (ap refusal_of memory)
writing_told c (inr device) = inr (ap refusal_of device)

-- in its phase, a store that works refuses it for one of its causes
told_by : {D T : Type 0} (s : ShownStore D) (Lawful : Type 0) (Causes : Cause → Type 0) (P : Refusal → Type 0) (done : Result T StepFault) (r : Refusal) → s.is_broken ≡ false → Lawful
    → ((c : Cause) → Causes c → P (refusal_of c)) → IsAllowed s Lawful Causes done → IsToldBy done r → P r
told_by s Lawful Causes P (Ok value) r works lawful each allowed told = absurd told
told_by s Lawful Causes P (Err (WrongPhase p)) r works lawful each allowed told = absurd (allowed.1 lawful)
told_by s Lawful Causes P (Err (Refused c)) r works lawful each (inl broken) told = absurd (true≢false (sym broken.0 ∙ works))
told_by s Lawful Causes P (Err (Refused c)) r works lawful each (inr may) told = subst P (sym told) (each c may.2)

pub step_fails : {D T : Type 0} (s : ShownStore D) (Lawful : Type 0) (result : Result T Refusal) (done : Result T StepFault) → s.is_broken ≡ false → Lawful → IsAllowed s Lawful IsOfDevice done → IfErr result (IsToldBy done)
    → IfErr result IsStreamFault
step_fails s Lawful result done works lawful allowed told = IfErr-weaker result (IsToldBy done) IsStreamFault (λ r is. told_by s Lawful IsOfDevice IsStreamFault done r works lawful device_told allowed is) told

pub writing_fails : {D T : Type 0} (s : ShownStore D) (Lawful : Type 0) (result : Result T Refusal) (done : Result T StepFault) → s.is_broken ≡ false → Lawful → IsAllowed s Lawful IsOfWriting done → IfErr result (IsToldBy done)
    → IfErr result IsStreamFault
writing_fails s Lawful result done works lawful allowed told = IfErr-weaker result (IsToldBy done) IsStreamFault (λ r is. told_by s Lawful IsOfWriting IsStreamFault done r works lawful writing_told allowed is) told

-- the phase behind a step that was made
pub works_in : {D T : Type 0} (s m : ShownStore D) (to : Phase) (result : Result T Refusal) (done : Result T StepFault) → m ≡ s → IfOk result (λ answer. done ≡ Ok answer) → OnOk done (s.is_broken ≡ false) → OnOk done (s.progress.phase ≡ to)
    → OnOk result (WorksIn to m)
works_in {D} {T} s m to (Ok answer) done same is works in_phase =
    subst (λ (x : ShownStore D). WorksIn to x) (sym same) (subst (λ (d : Result T StepFault). OnOk d (s.is_broken ≡ false)) is works, subst (λ (d : Result T StepFault). OnOk d (s.progress.phase ≡ to)) is in_phase)
works_in {D} {T} s m to (Err r) done same is works in_phase = tt

-- a retirement that failed, by a store that worked
pub retire_fails : {D : Type 0} (s m : ShownStore D) (result : Result Bool Refusal) → s.is_broken ≡ false → ByRetire s m result → IfErr result IsStreamFault
retire_fails s m (Ok retired) works is = tt
retire_fails s m (Err r) works is = inr (is.answer ∙ ap (λ (b : Bool). cond b refusal.Broken refusal.DeviceFault) works)

pub retires : {D : Type 0} (s m : ShownStore D) (result : Result Bool Refusal) → ByRetire s m result → IfOk result (IsRetired s m)
retires s m (Ok retired) is = is
retires s m (Err r) is = tt

pub retired_works : {D : Type 0} (s m : ShownStore D) (result : Result Bool Refusal) → ByRetire s m result → OnOk result (m.is_broken ≡ false)
retired_works s m (Ok retired) is = is.works
retired_works s m (Err r) is = tt

-- a page that is not stale was written
pub wrote_one : {D : Type 0} (old new m : ShownStore D) (page : Encoded) (result : Result Put Refusal) (done : Result Put StepFault) → m ≡ new → IfOk result (λ answer. done ≡ Ok answer) → ¬ IsStale (words old) page
    → IfOk done (λ p. p ≡ put.Stale → IsStale (words old) page) → LosesWritten page.page (words old).waiting (words new).waiting done → OnOk result (LosesOne old m)
wrote_one {D} old new m page (Ok put.Written) done same is waits stale loses =
    subst (λ (x : ShownStore D). LosesOne old x) (sym same) (subst (λ (d : Result Put StepFault). LosesWritten page.page (words old).waiting (words new).waiting d) is loses refl).1
wrote_one {D} old new m page (Ok put.Stale) done same is waits stale loses = absurd (waits (subst (λ (d : Result Put StepFault). IfOk d (λ p. p ≡ put.Stale → IsStale (words old) page)) is stale refl))
wrote_one {D} old new m page (Err r) done same is waits stale loses = tt

-- the next page is not stale
pub next_waits : {D : Type 0} (p : pool.ShownPool D) (job : Job) (page : Encoded) → IsNextJob p (Some job) → page.page ≡ job.page → page.bytes ≡ slot_text job.page job.cells → ¬ IsStale p page
next_waits p job page next same bytes stale =
    let slot = the_some (slot_in p.waiting job.page) next.1 in
    subst (λ (n : ℕ). (slot : ℕ) (cells : List Cell) → slot_in p.waiting n ≡ Some slot → IsFrozen p n cells → page.bytes ≡ slot_text n cells → ⊥) same stale slot.0 job.cells slot.1 next.2 bytes
  where
    the_some : (o : Option ℕ) → is_some o ≡ true → (x : ℕ) × (o ≡ Some x)
    the_some (Some x) some = (x, refl)
    the_some None some = absurd (true≢false (sym some))

-- a store behind a commit rests, if no checkpoint is in progress
pub rests_behind : {D : Type 0} (s : ShownStore D) → s.is_broken ≡ false → s.progress.phase ≡ phase.Idle → s.pending ≡ [] → Rests s
rests_behind s works idle none =
    (works, subst (λ p. phase_by p s.pending ≡ store.Idle) (sym idle) (subst (λ events. phase_by phase.Idle events ≡ store.Idle) (sym none) refl))

-- where a checkpoint was due, one was asked for
asked_if_due : (asked : Bool) (end : Ending) → is_due asked end ≡ true → asked ≡ true
asked_if_due asked Ended due = due
asked_if_due asked (ending.Refused line refusal) due = absurd (true≢false (sym due))
asked_if_due asked (Bad line) due = absurd (true≢false (sym due))

module _ {D : Type 0} (g : disk.Ghosts D) where
  -- a freeze that was refused
  pub freeze_fails : (s m : ShownStore D) (done : Result (Unit {0}) StepFault) (r : Refusal) → Rests s → (IsTrue g.is_honest → s.is_broken ≡ false → HasItsNumber g s) → IfRefused (LeavesOrBreaks s m) done
      → IsAllowed s (phase_of s ≡ store.Idle) (IsOfFreezing s) done → (IsTrue g.is_honest → IfRefused (λ c. c ≢ cause.Damaged) done) → IsToldBy done r → IsCheckpointFault g s m.devices r
  freeze_fails s m (Ok value) r rests number still allowed undamaged told = absurd told
  freeze_fails s m (Err (WrongPhase p)) r rests number still allowed undamaged told = absurd (allowed.1 rests.1)
  freeze_fails s m (Err (Refused c)) r rests number still (inl broken) undamaged told = absurd (true≢false (sym broken.0 ∙ rests.0))
  freeze_fails s m (Err (Refused c)) r rests number still (inr may) undamaged told = by_cause c may.2 still.1 undamaged told
    where
      by_cause : (c : Cause) → IsOfFreezing s c → (c ≢ cause.DeviceFault → m ≡ s) → (IsTrue g.is_honest → c ≢ cause.Damaged) → r ≡ refusal_of c → IsCheckpointFault g s m.devices r
      by_cause cause.FullEvents last same undamaged told =
          inr (record { rests = rests; still = ap (λ (x : ShownStore D). x.devices) (same (λ e. absurd (cc))); number = λ honest. number honest rests.0; short = inl (told, last) })
      by_cause cause.FullSlots lacks same undamaged told =
          inr (record { rests = rests; still = ap (λ (x : ShownStore D). x.devices) (same (λ e. absurd (cc))); number = λ honest. number honest rests.0; short = inr (told, lacks) })
      by_cause cause.OutOfMemory few same undamaged told = inl (inl (inl told))
      by_cause cause.Damaged few same undamaged told = inl (inr (told, λ honest. undamaged honest refl))
      by_cause cause.DeviceFault few same undamaged told = inl (inl (inr told))
      by_cause cause.Broken never same undamaged told = absurd never

  -- a checkpoint that was due and not made, or not told
  pub fault_if_due : (is_made : Bool) (s : ShownStore D) (now : Devices D) (r : Refusal) → is_made ≡ true → IsCheckpointFault g s now r → IsFeedFault g is_made now r
  fault_if_due is_made s now r due (inl fault) = inl fault
  fault_if_due is_made s now r due (inr refused) = inr (due, (s, refused))

  pub fault_of_due : (asked is_made : Bool) (end : Ending) (now : Devices D) (r : Refusal) → is_made ≡ is_due asked end → IsFeedFault g is_made now r → IsFeedFault g asked now r
  fault_of_due asked is_made end now r is (inl fault) = inl fault
  fault_of_due asked is_made end now r is (inr due) = inr (asked_if_due asked end (sym is ∙ due.0), due.1)

  -- a step that left the detector
  pub stepped_roots : {T : Type 0} (began s m : ShownStore D) (result : Result T StepFault) → began ≡ s → SameWords s m → m.committed ≡ s.committed → m.pending ≡ s.pending → failures_of g m.devices ≡ failed_by result + failures_of g s.devices
      → (IsTrue g.is_honest → EachImage g s.devices m.devices (Stands (saved g s) (live g s) s.in_doubt)) → WasStepped g began m result
  stepped_roots began s m result is same committed pending failures images =
      let stepped : WasStepped g s m result = record {
        images = λ honest backs. images honest;
        live = λ honest. ap (λ (d : detect.ShownDetector (pool.ShownPool D)). detect.content (pools.live g) d) same.detector;
        committed = committed;
        pending = pending;
        failures = failures;
        limits = (ap (λ (d : detect.ShownDetector (pool.ShownPool D)). d.words.most_frames) same.detector, ap (λ (d : detect.ShownDetector (pool.ShownPool D)). d.words.slots) same.detector);
      } in
      subst (λ (x : ShownStore D). WasStepped g x m result) (sym is) stepped

  -- a step that was made, and what came behind it
  pub stays_then : {S T : Type 0} (a b c : ShownStore D) (first : S) (result : Result T Refusal) → StaysFed g {T = S} a b (Ok first) → StaysFed g b c result → StaysFed g a c result
  stays_then a b c first result one two = record {
    live = λ honest. two.live honest ∙ one.live honest;
    committed = two.committed ∙ one.committed;
    pending = two.pending ∙ one.pending;
    failures = omega (arith, two.failures, one.failures);
  }

  -- a checkpoint that was due was made, and told
  pub checkpointed : (is_made : Bool) → is_made ≡ true → (s m : ShownStore D) (number : ℕ) (before after : List WriteCall) → StaysFed g {T = ℕ} s m (Ok number) → (IsTrue g.is_honest → HasOpened g m.devices number (live g s)) → (IsTrue g.is_honest → GivesUp s m) → m.is_broken ≡ false
      → Took before after (number_text (codes "checkpoint ") number) → WasCheckpointed g is_made s m before after
  checkpointed is_made due s m number before after stays opened given_up works printed = record {
    checkpoint = Some number;
    made = subst (λ (b : Bool). WasMade g b m.devices (live g s) (Some number)) (sym due) opened;
    given_up = λ due honest. given_up honest;
    quiet = λ none. absurd (true≢false (sym due ∙ none));
    printed = printed;
    live = stays.live;
    committed = stays.committed;
    works = works;
    failures = omega (arith, stays.failures);
  }
