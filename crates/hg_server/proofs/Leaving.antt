-- What a server leaves of its devices.
use Rattle.std.proofs.Common.{◌≡◌, None, Option, inl, inr, ⊎_elim, ◌⊎◌, ◌+◌, ◌<◌, ◌∙◌, ◌∷◌, [], ℕ, List, ap, map, Result, Ok, Err, IfErr, IsTrue, Bool, true, false, cond, arith, refl, sym, subst}
use Rattle.hg_model.specs.Contents.{Content}
use Rattle.hg_model.specs.declared.verdict.Refusal.{Refusal}
use Rattle.hg_model.specs.declared.verdict.Refusal.TheVariants as refusal
use Rattle.hg_disk.specs.declared.disk.Disk as disk
use Rattle.hg_detect.specs.Shown as detect
use Rattle.hg_pool.specs.Maps as pools
use Rattle.hg_pool.specs.Shown as pool
use Rattle.hg_images.specs.Images.{HasContent}
use Rattle.hg_store.specs.Journal.{after_refusal, failed_after}
use Rattle.hg_store.specs.declared.devices.Devices.{Devices}
use Rattle.hg_store.specs.Images.{EachImage, EachImageAlong, HasContentOfOne, IsOn, Recovers, failures_of, read_of}
use Rattle.hg_store.specs.Runs.{Made, made}
use Rattle.hg_store.specs.Shown.{ShownStore, live}
use Rattle.hg_store.specs.Steps.{CommitDone, IsCommitted, IsNotCommitted}
use Rattle.hg_store.specs.Store.{Backs, IsFresh, IsIdle, StandMeanwhile}
use Rattle.hg_store.specs.declared.steps.Step.TheVariants.{Commit}
use Rattle.hg_store.specs.declared.steps.StepResult.TheVariants.{Committed}
use Rattle.hg_streams.specs.Calls.{failed_writes}
use Rattle.hg_streams.specs.Faults.{HasWriteCause}
use Rattle.hg_streams.specs.Written.{Took, TookFront}
use Rattle.hg_streams.proofs.Printed.{failed_on}
use Rattle.hg_streams.specs.declared.call.WriteCall.{WriteCall}
use Rattle.hg_desk.specs.Going.{IsRun, LeadsTo, Point, RanFrom, WentOn, began, moments_of, of_points, oldest, points_of}
use Rattle.hg_desk.proofs.Going.{along_of_points, each_of_points, each_to_points, is_run, oldest_point, ran_on, step_went}
use Rattle.hg_store.specs.Limits.{greatest_with, limits_of}
use Rattle.hg_server.specs.Acknowledged.{LeavesAcksDurable}
use Rattle.hg_server.specs.Recording.{Accounts, NoneLacks, held_in, refusal_of}
use Rattle.hg_server.specs.Serving.{IsAccounted, LeavesRun, Served, StoppedEarly, WasOpened, serving_by}
use Rattle.hg_server.specs.Settling.{IsCommitFault, IsServingFault, IsSettled, SettlesOrBreaks, StillRan, StillWentOn, StopsFor}
use Rattle.hg_server.specs.declared.course.Course.{Course}
use Rattle.hg_server.specs.declared.settings.Settings.{Settings}
use Rattle.hg_server.specs.declared.fault.ServingFault.{ServingFault}
use Rattle.hg_server.specs.declared.fault.ServingFault.TheVariants as fault
use Rattle.hg_server.specs.declared.handing.Cut.{Cut}
use Rattle.hg_server.specs.declared.handing.Taken.{Taken}
use Rattle.hg_server.specs.declared.wire.Transcript.{Transcript}

-- what holds of an Err, and what follows from it
pub if_err_weaker : {T E : Type 0} (P Q : E → Type 0) (result : Result T E) → ((e : E) → P e → Q e) → IfErr result P → IfErr result Q
if_err_weaker P Q (Ok value) more is = tt
if_err_weaker P Q (Err e) more is = more e is

-- how a commit is told, by whether the store was broken before it
told_commit : (was_broken : Bool) (r : Refusal) (told : ServingFault) (n m : ℕ) → r ≡ cond was_broken refusal.Broken refusal.DeviceFault → m ≡ after_refusal r n → (r ≡ refusal.Broken → told ≡ fault.Broken)
    → (r ≡ refusal.DeviceFault → told ≡ fault.DeviceFault) → ((told ≡ fault.Broken) × (was_broken ≡ true) × (m ≡ n)) ⊎ ((told ≡ fault.DeviceFault) × (n < m))
told_commit true r told n m is count broken device = inl (broken is, refl, count ∙ ap (λ (x : Refusal). after_refusal x n) is)
told_commit false r told n m is count broken device = let one : m ≡ n + 1 = count ∙ ap (λ (x : Refusal). after_refusal x n) is in inr (device is, omega (arith, one))

-- what was written did not fail
pub took_failed : (first now : List WriteCall) (text : List ℕ) → Took first now text → failed_writes now ≡ failed_writes first
took_failed first now text t = ap failed_writes t.since ∙ omega (arith, failed_on t.later first, t.whole)

module _ {D : Type 0} (g : disk.Ghosts D) where
  -- a commit that was made settles a store
  pub settled_by : (old new : ShownStore D) (count : ℕ) → IsCommitted g old new count → new.detector ≡ old.detector → (IsTrue g.is_honest → Backs g new) → IsSettled g new
  settled_by old new count done same backs = record {
    works = done.works;
    pending = done.pending;
    durable = λ honest. ap (λ (d : detect.ShownDetector (pool.ShownPool D)). detect.content (pools.live g) d) (done.committed ∙ sym same);
    backs = backs;
  }

  -- one that was refused
  pub commit_fault : (old new : ShownStore D) (r : Refusal) (told : ServingFault) → IsNotCommitted old new r → failures_of g new.devices ≡ after_refusal r (failures_of g old.devices)
      → (r ≡ refusal.Broken → told ≡ fault.Broken) → (r ≡ refusal.DeviceFault → told ≡ fault.DeviceFault) → IsCommitFault g old new told
  commit_fault old new r told done count broken device = (
    done.broken,
    told_commit old.is_broken r told (failures_of g old.devices) (failures_of g new.devices) done.answer count broken device,
  )

  -- why serving a store ended early, by what settling it answers
  pub stops_for : (old : Devices D) (mid new : ShownStore D) (moments before : List (Devices D)) (taken : Taken) (told : ServingFault) → moments ≡ mid.devices ∷ before
      → (mid.is_broken ≡ true → failures_of g old < failures_of g mid.devices) → SettlesOrBreaks g mid new taken told → StopsFor g old moments new taken told
  stops_for old mid new moments before taken told pushed failed is =
      subst (λ (l : List (Devices D)). StopsFor g old l new taken told) (sym pushed) (by is) where
        by : SettlesOrBreaks g mid new taken told → StopsFor g old (mid.devices ∷ before) new taken told
        by (inl broke) = ⊎_elim
            (λ a. inl (a.0, (broke.0, subst (λ (n : ℕ). failures_of g old < n) (sym a.2) (failed a.1), a.2)))
            (λ a. inr (inl (a.0, (broke.0, a.1))))
            broke.1
        by (inr settled) = inr (inr settled)

  -- the same as it is printed, where no write had failed
  pub serving_fault : (old : Devices D) (moments : List (Devices D)) (s : ShownStore D) (taken : Taken) (calls_old calls_new : List WriteCall) (told : ServingFault)
      → failed_writes calls_new ≡ failed_writes calls_old → StopsFor g old moments s taken told → IsServingFault g old moments s taken calls_old calls_new (refusal_of told)
  serving_fault old moments s taken calls_old calls_new told none (inl is) = inl (ap refusal_of is.0, is.1)
  serving_fault old moments s taken calls_old calls_new told none (inr (inl is)) = inr (inl (ap refusal_of is.0, is.1))
  serving_fault old moments s taken calls_old calls_new told none (inr (inr is)) = inr (inr (is.0, inl (told, is.1, refl, none)))

  -- one of the output, or of want of memory, over a store that is settled
  pub output_fault : (old : Devices D) (moments : List (Devices D)) (s : ShownStore D) (taken : Taken) (calls_old calls_mid calls_new : List WriteCall) (r : Refusal)
      → failed_writes calls_mid ≡ failed_writes calls_old → IsSettled g s → NoneLacks taken → HasWriteCause calls_mid calls_new r → IsServingFault g old moments s taken calls_old calls_new r
  output_fault old moments s taken calls_old calls_mid calls_new r none settled whole cause = inr (inr (
    settled,
    inr (
      whole,
      ⊎_elim
          (λ memory. inl (memory.0, memory.1 ∙ none))
          (λ device. inr (device.0, subst (λ (n : ℕ). n < failed_writes calls_new) none device.1))
          cause,
    ),
  ))

  -- by the devices before the store was opened, of which no call failed meanwhile
  since_opening : (old start : Devices D) (moments : List (Devices D)) (s : ShownStore D) (taken : Taken) (calls_old calls_new : List WriteCall) (r : Refusal)
      → failures_of g start ≡ failures_of g old → IsServingFault g start moments s taken calls_old calls_new r → IsServingFault g old moments s taken calls_old calls_new r
  since_opening old start moments s taken calls_old calls_new r same (inl is) = inl (is.0, (is.1.0, subst (λ (n : ℕ). n < failures_of g s.devices) same is.1.1, is.1.2))
  since_opening old start moments s taken calls_old calls_new r same (inr is) = inr is

  -- what is on record of the conversations of a server that went so
  pub accounted : (settings : Settings) (course : Course D) (talks : List (List Transcript)) (taken : Taken) → course.talks ≡ talks → course.taken ≡ taken
      → Accounts settings.connections (held_in talks) taken.count taken.cut → IsAccounted g settings course
  accounted settings course talks taken same took accounts =
      subst (λ (t : Taken). Accounts settings.connections (held_in course.talks) t.count t.cut) (sym took)
      (subst (λ (l : List (List Transcript)). Accounts settings.connections (held_in l) taken.count taken.cut) (sym same) accounts)

  -- where nothing cut it short, it has them all
  pub whole_accounts : (settings : Settings) (course : Course D) → course.taken.cut ≡ None → IsAccounted g settings course → Accounts settings.connections (held_in course.talks) course.taken.count None
  whole_accounts settings course whole accounts = subst (λ (o : Option Cut). Accounts settings.connections (held_in course.talks) course.taken.count o) whole accounts

  -- a store as it is opened
  pub opened_settled : (old : Devices D) (s : ShownStore D) → IsIdle s → (IsTrue g.is_honest → (c : Content) × HasContent (read_of g old) c × IsFresh g s c) → IsSettled g s
  opened_settled old s idle fresh = record {
    works = idle.works;
    pending = idle.pending;
    durable = λ honest. let has = fresh honest in has.2.durable ∙ sym has.2.has;
    backs = λ honest. (fresh honest).2.backs;
  }

  -- the commit at the end was noted
  pub commit_listed : (began old : ShownStore D) (earlier steps : List (Made D)) (one : Made D) (r : Result ℕ Refusal) → steps ≡ one ∷ earlier → one ≡ made began Commit (Committed r) → began ≡ old → steps ≡ made old Commit (Committed r) ∷ earlier
  commit_listed began old earlier steps one r pushed is same =
      pushed ∙ ap (λ (m : Made D). m ∷ earlier) (is ∙ ap (λ (s : ShownStore D). made s Commit (Committed r)) same)

  -- and its store went on
  module _ (old new : ShownStore D) (earlier steps : List (Made D)) (r : Result ℕ Refusal) (listed : steps ≡ made old Commit (Committed r) ∷ earlier) (done : CommitDone g old new r)
      (device : failures_of g new.devices ≡ failed_after r (failures_of g old.devices)) (images : IsTrue g.is_honest → StandMeanwhile g old new true) where
    same_content : live g new ≡ live g old
    same_content = ap (λ (d : detect.ShownDetector (pool.ShownPool D)). detect.content (pools.live g) d) done.detector

    pub commit_went : (IsTrue g.is_honest → Backs g old) → StillWentOn g (moments_of earlier) old (moments_of steps) new
    commit_went backs start went =
        subst (λ (list : List (Made D)). WentOn g start (moments_of list) new) (sym listed)
        (step_went g old new start (moments_of earlier) Commit (Committed r) went (r, refl, done) (λ honest. same_content) device backs images)

    pub commit_ran : (IsTrue g.is_honest → Backs g new) → StillRan g earlier old steps new
    commit_ran backs start ran =
        ran_on g start old new earlier steps Commit (Committed r) listed (record { done = (r, refl, done); failures = device; content = λ honest. same_content; images = images }) backs ran

  -- what was done to its store is a run
  pub leaves_run : (start now : ShownStore D) (course : Course D) (first : ShownStore D) (steps : List (Made D)) → course.opened ≡ first ∷ [] → first ≡ start → course.steps ≡ steps → RanFrom g (began g start) steps now → LeavesRun g course now
  leaves_run start now course first steps pushed is same ran other opened =
      let one : start ≡ other = cc in
      subst (λ (s : ShownStore D). IsRun g (began g s) course.steps now) one (subst (λ (list : List (Made D)). IsRun g (began g start) list now) (sym same) (is_run g (began g start) steps now ran))

  module _ (old : Devices D) (start now : ShownStore D) (moments : List (Devices D)) (went : WentOn g (began g start) moments now) where
    abbrev opened : Devices D
    opened = oldest now.devices moments

    is_opening : points_of g opened ≡ points_of g start.devices
    is_opening = oldest_point g moments now.devices ∙ went.opening

    -- it was opened with these limits
    pub was_opened : (frames : ℕ) (course : Course D) (first : ShownStore D) → limits_of start ≡ greatest_with frames → course.opened ≡ first ∷ [] → first ≡ start → moments_of course.steps ≡ moments
        → WasOpened g frames course now.devices
    was_opened frames course first limits pushed is same = record {
      store = start;
      once = pushed ∙ ap (λ s. s ∷ []) is;
      limits = limits;
      is_oldest = ap (λ (ms : List (Devices D)). points_of g (oldest now.devices ms)) same ∙ is_opening;
    }

    -- a store that was opened, and went on
    pub served : (IsTrue g.is_honest → (c : Content) × HasContent (read_of g old) c × IsFresh g start c) → (IsTrue g.is_honest → Recovers g old start.devices)
        → IsTrue g.is_honest → Served g old moments now.devices (live g now)
    served content looked honest =
        let has = content honest in
        let recovers = looked honest in
        let behind : EachImage (of_points g.is_honest) (points_of g recovers.synced) (points_of g start.devices) (HasContentOfOne g old) = each_to_points g recovers.synced start.devices (HasContentOfOne g old) recovers.behind in
        let images : EachImageAlong (of_points g.is_honest) (points_of g start.devices) (map (points_of g) moments) (points_of g now.devices) (IsOn has.0 (live g now)) =
        subst (λ (c : Content). EachImageAlong (of_points g.is_honest) (points_of g start.devices) (map (points_of g) moments) (points_of g now.devices) (IsOn c (live g now))) has.2.durable (went.images honest) in
        record {
          first = has.0;
          had = has.1;
          follows = subst (λ (c : Content). LeadsTo c (live g now)) has.2.has (went.follows honest);
          opened = opened;
          is_oldest = refl;
          looked = record {
            synced = recovers.synced;
            before = recovers.before;
            behind = each_of_points g recovers.synced opened (HasContentOfOne g old) (subst (λ (d : Devices Point). EachImage (of_points g.is_honest) (points_of g recovers.synced) d (HasContentOfOne g old)) (sym is_opening) behind);
          };
          kept = along_of_points g opened moments now.devices (IsOn has.0 (live g now))
              (subst (λ (d : Devices Point). EachImageAlong (of_points g.is_honest) d (map (points_of g) moments) (points_of g now.devices) (IsOn has.0 (live g now))) (sym is_opening) images);
        }

    -- it ended early
    pub stopped_early : (settings : Settings) (course : Course D) (first : ShownStore D) (left : Devices D) (taken : Taken) (calls_old calls_new : List WriteCall) (r : Refusal) → limits_of start ≡ greatest_with settings.frames
        → course.opened ≡ first ∷ [] → first ≡ start → moments_of course.steps ≡ moments → course.left ≡ now ∷ [] → course.taken ≡ taken → left ≡ now.devices → failures_of g start.devices ≡ failures_of g old
        → (IsTrue g.is_honest → (c : Content) × HasContent (read_of g old) c × IsFresh g start c) → (IsTrue g.is_honest → Recovers g old start.devices)
        → IsServingFault g start.devices moments now taken calls_old calls_new r → IsAccounted g settings course → LeavesRun g course now → TookFront calls_old calls_new (serving_by g settings now) → LeavesAcksDurable g course now
        → StoppedEarly g settings old course left calls_old calls_new r
    stopped_early settings course first left taken calls_old calls_new r limits pushed is same ended took devices none content looked cause accounts driven wrote acked =
        subst (λ (d : Devices D). StoppedEarly g settings old course d calls_old calls_new r) (sym devices) (record {
          store = now;
          left = ended;
          devices = refl;
          began = was_opened settings.frames course first limits pushed is same;
          cause = subst (λ (ms : List (Devices D)). IsServingFault g old ms now course.taken calls_old calls_new r) (sym same)
              (subst (λ (t : Taken). IsServingFault g old moments now t calls_old calls_new r) (sym took)
              (since_opening old start.devices moments now taken calls_old calls_new r none cause));
          accounts = accounts;
          served = subst (λ (ms : List (Devices D)). IsTrue g.is_honest → Served g old ms now.devices (live g now)) (sym same) (served content looked);
          driven = driven;
          wrote = wrote;
          acked = acked;
        })
