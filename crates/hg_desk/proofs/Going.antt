-- Each step goes on from the store before it.
use Rattle.std.proofs.Common.{◌≡◌, inl, inr, ◌≤◌, ◌++◌, ◌+◌, ℕ, List, [], ◌∷◌, map, Bool, true, false, ◌⊎◌, ◌<◌, cond, if◌then◌else◌, Some, None, Ok, Err, Result, IsTrue, OnOk, refl, sym, ap, ◌∙◌, subst, arith}
use Rattle.std.proofs.Math.Nat.{eq-or-lt_of_le}
use Rattle.std.proofs.lemmas.Bool.{false≢true}
use Rattle.hg_model.specs.declared.verdict.Refusal.{Refusal}
use Rattle.hg_model.specs.declared.verdict.Refusal.TheVariants as refusal
use Rattle.hg_model.specs.Contents.{Content}
use Rattle.hg_model.specs.Change.{after, followed, is_accept}
use Rattle.hg_model.specs.Verdicts.{standing_of, verdict}
use Rattle.hg_model.specs.declared.event.Named.{Named}
use Rattle.hg_model.specs.declared.verdict.Verdict.{Verdict}
use Rattle.hg_model.specs.declared.verdict.Verdict.TheVariants.{Accept, Duplicate, Refuse}
use Rattle.std.specs.Option.{option_and_then}
use Rattle.std.specs.Prelude.{◌==◌}
use Rattle.hg_receipts.specs.declared.view.Acked.{Acked}
use Rattle.hg_disk.specs.declared.disk.Disk as disk
use Rattle.hg_detect.specs.Shown as detect
use Rattle.hg_pool.specs.Maps as pools
use Rattle.hg_pool.specs.Shown as pool
use Rattle.hg_checkpoint.specs.Phases.{failed_in}
use Rattle.hg_checkpoint.specs.declared.cause.Cause.{Cause}
use Rattle.hg_detect.specs.declared.detector.Answer.{Answer}
use Rattle.hg_store.specs.Answers.{IfRefused, IfWrongPhase, LeavesOrBreaks, failed_by}
use Rattle.hg_store.specs.Journal.{after_refusal, failed_after}
use Rattle.hg_images.specs.Choices.{Stands}
use Rattle.hg_images.specs.Images.{Image}
use Rattle.hg_contents.proofs.Following.{followed_append}
use Rattle.hg_store.specs.declared.devices.Devices.{Devices}
use Rattle.hg_store.specs.declared.steps.Step.{Step}
use Rattle.hg_store.specs.declared.steps.Step.TheVariants as step
use Rattle.hg_store.specs.declared.steps.StepResult.{StepResult}
use Rattle.hg_store.specs.declared.steps.StepResult.TheVariants as told
use Rattle.hg_store.specs.Doing.{ContentDone, StepDone, fails_by, in_doubt_during}
use Rattle.hg_store.specs.Images.{EachImage, EachImageAlong, IsOn, MayLeaveAll, failures_of}
use Rattle.hg_store.specs.Shown.{ShownStore, live, saved}
use Rattle.hg_store.specs.Paging.{MovesOnlyPages}
use Rattle.hg_store.specs.Steps.{CommitDone, OfferDone, RetireDone, if_accepted}
use Rattle.hg_store.specs.declared.steps.StepFault.{StepFault}
use Rattle.hg_store.specs.declared.steps.StepFault.TheVariants.{Refused, WrongPhase}
use Rattle.hg_store.specs.Runs.{Made, MadeAlong, Makes, made}
use Rattle.hg_store.specs.Store.{Backs}
use Rattle.hg_store.proofs.Driven.{made_drive, made_steps, made_then}
use Rattle.hg_store.proofs.Moments.{all_still}
use Rattle.hg_desk.specs.Going.{Began, FailedFrom, IsRun, LeadsTo, Point, RanFrom, WentOn, began, of_points, oldest, points_of}
use Rattle.hg_desk.specs.Told.{HasAcked}

one_more : (b : Bool) (k : ℕ) → k ≤ (if b then k + 1 else k)
one_more true k = omega arith
one_more false k = omega arith

last_after : (c : Content) (n : Named) (s : ℕ) → c.last s ≤ (after c n).last s
last_after c n s = one_more (n.source == s) (c.last s)

pub nowhere : (c : Content) → LeadsTo c c
nowhere c = ([], refl)

pub further : (a b c : Content) → LeadsTo a b → LeadsTo b c → LeadsTo a c
further a b c one two = (one.0 ++ two.0, followed_append one.0 two.0 a b one.1 ∙ two.1)

lasts_behind : (xs : List Named) (c d : Content) (n : Named) (s : ℕ) → ((e : Content) → followed e xs ≡ Some d → e.last s ≤ d.last s)
    → (v : Verdict) → option_and_then (λ (e : Content). followed e xs) (if is_accept v then Some (after c n) else None) ≡ Some d → c.last s ≤ d.last s
lasts_behind xs c d n s more Accept is = let rest = more (after c n) is in let one = last_after c n s in omega (arith, rest, one)
lasts_behind xs c d n s more (Duplicate last) is = absurd (cc)
lasts_behind xs c d n s more (Refuse refusal) is = absurd (cc)

-- the last number of a source never falls
last_on : (xs : List Named) (c d : Content) (s : ℕ) → followed c xs ≡ Some d → c.last s ≤ d.last s
last_on [] c d s is = let same : c ≡ d = cc in omega (arith, ap (λ (e : Content). e.last s) same)
last_on (n ∷ xs) c d s is = lasts_behind xs c d n s (λ e. last_on xs e d s) (verdict (standing_of c) n) is

-- a content that more events lead to has what was acknowledged before
pub still_acked : (a b : Content) (acks : List Acked) → LeadsTo a b → HasAcked a acks → HasAcked b acks
still_acked a b acks leads all entry has = let was = all entry has in let more = last_on leads.0 a b entry.source leads.1 in omega (arith, was, more)

-- the events that an image's content lacks, and those that it has more, may be more
pub wider : (a first last b : Content) (image : Image) → LeadsTo a first → LeadsTo last b → IsOn first last image → IsOn a b image
wider a first last b image before behind on =
    let front = further a first on.content before (on.front, on.before) in
    let back = further on.content last b (on.back, on.behind) behind in
    record { content = on.content; has = on.has; front = front.0; back = back.0; before = front.1; behind = back.1 }

-- an image that stands for the contents of a store
stands_on : (durable last : Content) (in_doubt : Bool) (image : Image) → LeadsTo durable last → Stands durable last in_doubt image → IsOn durable last image
stands_on durable last in_doubt image leads (inl has) = record { content = durable; has = has; front = []; back = leads.0; before = refl; behind = leads.1 }
stands_on durable last in_doubt image leads (inr is) = record { content = last; has = is.1; front = leads.0; back = []; before = leads.1; behind = refl }

same_leads : (a b : Content) → b ≡ a → LeadsTo a b
same_leads a b same = subst (λ (c : Content). LeadsTo a c) (sym same) (nowhere a)

one_is_none : (n : ℕ) → n + 1 ≡ n → ⊥
one_is_none n is = absurd (omega (arith, is))

none_is_one : (n : ℕ) → 1 + n ≡ n → ⊥
none_is_one n is = absurd (omega (arith, is))

-- no call that failed is taken back
more_failed : (r : Refusal) (n : ℕ) → n ≤ after_refusal r n
more_failed (refusal.Gap k) n = omega arith
more_failed refusal.BadNumber n = omega arith
more_failed refusal.BadLength n = omega arith
more_failed refusal.AddressEnd n = omega arith
more_failed refusal.NoThread n = omega arith
more_failed refusal.ChildUsed n = omega arith
more_failed refusal.SelfJoin n = omega arith
more_failed refusal.ChildNotAlive n = omega arith
more_failed refusal.ChildHoldsLocks n = omega arith
more_failed refusal.Broken n = omega arith
more_failed refusal.Damaged n = omega arith
more_failed refusal.AlreadyHeld n = omega arith
more_failed refusal.LockBusy n = omega arith
more_failed refusal.NotHeld n = omega arith
more_failed refusal.FullHeld n = omega arith
more_failed refusal.FullSegments n = omega arith
more_failed refusal.MessageUsed n = omega arith
more_failed refusal.NotSent n = omega arith
more_failed refusal.MessageTaken n = omega arith
more_failed refusal.FullEvents n = omega arith
more_failed refusal.FullPending n = omega arith
more_failed refusal.FullSets n = omega arith
more_failed refusal.FullSlots n = omega arith
more_failed refusal.OutOfMemory n = omega arith
more_failed refusal.DeviceFault n = omega arith

more_after : {T : Type 0} (r : Result T Refusal) (n : ℕ) → n ≤ failed_after r n
more_after (Ok value) n = omega arith
more_after (Err r) n = more_failed r n

pub more_fail : (result : StepResult) (n : ℕ) → n ≤ fails_by result n
more_fail (told.Offered r) n = more_after r n
more_fail (told.Committed r) n = more_after r n
more_fail (told.Frozen r) n = omega arith
more_fail (told.Taken r) n = omega arith
more_fail (told.Put r) n = omega arith
more_fail (told.Sealed r) n = omega arith
more_fail (told.Prepared r) n = omega arith
more_fail (told.Written r) n = omega arith
more_fail (told.Opened r) n = omega arith
more_fail (told.Evicted r) n = omega arith
more_fail (told.Loaded r) n = omega arith
more_fail (told.Retired r) n = more_after r n

module _ {D : Type 0} (g : disk.Ghosts D) where
  each_weaker : (old new : Devices D) (P Q : Image → Type 0) → ((image : Image) → P image → Q image) → EachImage g old new P → EachImage g old new Q
  each_weaker old new P Q more all = record { journal0 = all.journal0; journal1 = all.journal1; slots = all.slots; root0 = all.root0; root1 = all.root1; each = λ image may. more image (all.each image may) }

  along_weaker : (start : Devices D) (moments : List (Devices D)) (now : Devices D) (P Q : Image → Type 0) → ((image : Image) → P image → Q image) → EachImageAlong g start moments now P → EachImageAlong g start moments now Q
  along_weaker start [] now P Q more all = each_weaker start now P Q more all
  along_weaker start (mid ∷ earlier) now P Q more all = (each_weaker mid now P Q more all.0, along_weaker start earlier mid P Q more all.1)

module _ {D : Type 0} (g : disk.Ghosts D) where
  abbrev points : disk.Ghosts Point
  points = of_points g.is_honest

  -- ---- devices and their points

  may_of_points : (old new : Devices D) (image : Image) → MayLeaveAll points (points_of g old) (points_of g new) image → MayLeaveAll g old new image
  may_of_points old new image may = record {
    journal0 = record { later = may.journal0.later; has_gone = may.journal0.has_gone; among = may.journal0.among };
    journal1 = record { later = may.journal1.later; has_gone = may.journal1.has_gone; among = may.journal1.among };
    slots = record { later = may.slots.later; has_gone = may.slots.has_gone; among = may.slots.among };
    root0 = record { later = may.root0.later; has_gone = may.root0.has_gone; among = may.root0.among };
    root1 = record { later = may.root1.later; has_gone = may.root1.has_gone; among = may.root1.among };
  }

  may_to_points : (old new : Devices D) (image : Image) → MayLeaveAll g old new image → MayLeaveAll points (points_of g old) (points_of g new) image
  may_to_points old new image may = record {
    journal0 = record { later = may.journal0.later; has_gone = may.journal0.has_gone; among = may.journal0.among };
    journal1 = record { later = may.journal1.later; has_gone = may.journal1.has_gone; among = may.journal1.among };
    slots = record { later = may.slots.later; has_gone = may.slots.has_gone; among = may.slots.among };
    root0 = record { later = may.root0.later; has_gone = may.root0.has_gone; among = may.root0.among };
    root1 = record { later = may.root1.later; has_gone = may.root1.has_gone; among = may.root1.among };
  }

  pub each_to_points : (old new : Devices D) (P : Image → Type 0) → EachImage g old new P → EachImage points (points_of g old) (points_of g new) P
  each_to_points old new P all = record { journal0 = all.journal0; journal1 = all.journal1; slots = all.slots; root0 = all.root0; root1 = all.root1; each = λ image may. all.each image (may_of_points old new image may) }

  pub each_of_points : (old new : Devices D) (P : Image → Type 0) → EachImage points (points_of g old) (points_of g new) P → EachImage g old new P
  each_of_points old new P all = record { journal0 = all.journal0; journal1 = all.journal1; slots = all.slots; root0 = all.root0; root1 = all.root1; each = λ image may. all.each image (may_to_points old new image may) }

  pub along_of_points : (start : Devices D) (moments : List (Devices D)) (now : Devices D) (P : Image → Type 0) → EachImageAlong points (points_of g start) (map (points_of g) moments) (points_of g now) P → EachImageAlong g start moments now P
  along_of_points start [] now P all = each_of_points start now P all
  along_of_points start (mid ∷ earlier) now P all = (each_of_points mid now P all.0, along_of_points start earlier mid P all.1)

  pub oldest_point : (moments : List (Devices D)) (now : Devices D) → points_of g (oldest now moments) ≡ oldest (points_of g now) (map (points_of g) moments)
  oldest_point [] now = refl
  oldest_point (mid ∷ earlier) now = oldest_point earlier mid

  -- ---- steps

  -- a store of which nothing was asked yet
  pub went_nowhere : (s : ShownStore D) → (IsTrue g.is_honest → Backs g s) → WentOn g (began g s) [] s
  went_nowhere s backs =
      let same : failures_of points (points_of g s.devices) ≡ failures_of g s.devices = refl in
      record {
        follows = λ honest. nowhere (live g s);
        durable = λ honest. nowhere (saved g s);
        failed = omega (arith, same);
        broken = λ works is. absurd (false≢true (sym works ∙ is));
        opening = refl;
        images = λ honest. each_to_points s.devices s.devices (IsOn (saved g s) (live g s)) (all_still g s.devices (IsOn (saved g s) (live g s))
            (λ image left. stands_on (saved g s) (live g s) s.in_doubt image (s.pending, (backs honest).live) ((backs honest).stands image left)));
      }

  module _ (old new : ShownStore D) where
    saved_same : new.committed ≡ old.committed → saved g new ≡ saved g old
    saved_same same = ap (λ (d : detect.ShownDetector (pool.ShownPool D)). detect.content (pools.live g) d) same

    live_leads : (step : Step) (result : StepResult) → ContentDone g old new step result → LeadsTo (live g old) (live g new)
    live_leads (step.Offer n) result content = (if_accepted n content.0, content.2.leads)
    live_leads step.Commit result content = same_leads (live g old) (live g new) content
    live_leads step.Freeze result content = same_leads (live g old) (live g new) content.2.live
    live_leads step.TakeJob result content = same_leads (live g old) (live g new) content
    live_leads (step.Put page) result content = same_leads (live g old) (live g new) content
    live_leads step.SealPages result content = same_leads (live g old) (live g new) content
    live_leads step.PrepareRoot result content = same_leads (live g old) (live g new) content
    live_leads step.WriteRoot result content = same_leads (live g old) (live g new) content
    live_leads step.OpenRoot result content = same_leads (live g old) (live g new) content.2.live
    live_leads step.Evict result content = same_leads (live g old) (live g new) content
    live_leads (step.Load page) result content = same_leads (live g old) (live g new) content.2.live
    live_leads step.Retire result content = same_leads (live g old) (live g new) content

    commit_leads : (r : Result ℕ Refusal) → CommitDone g old new r → LeadsTo (saved g old) (live g old) → LeadsTo (saved g old) (saved g new)
    commit_leads (Ok count) done leads = subst (λ (c : Content). LeadsTo (saved g old) c) (sym (ap (λ (d : detect.ShownDetector (pool.ShownPool D)). detect.content (pools.live g) d) done.answer.committed)) leads
    commit_leads (Err r) done leads = same_leads (saved g old) (saved g new) (saved_same done.answer.committed)

    pub saved_leads : (step : Step) (result : StepResult) → StepDone g old new step result → LeadsTo (saved g old) (live g old) → LeadsTo (saved g old) (saved g new)
    saved_leads (step.Offer n) result done leads = same_leads (saved g old) (saved g new) (saved_same done.2.same.committed)
    saved_leads step.Commit result done leads = commit_leads done.0 done.2 leads
    saved_leads step.Freeze result done leads = same_leads (saved g old) (saved g new) (saved_same done.2.done.committed)
    saved_leads step.TakeJob result done leads = same_leads (saved g old) (saved g new) (ap (λ (s : ShownStore D). saved g s) done.2.same)
    saved_leads (step.Put page) result done leads = same_leads (saved g old) (saved g new) (saved_same done.2.done.committed)
    saved_leads step.SealPages result done leads = same_leads (saved g old) (saved g new) (saved_same done.2.done.committed)
    saved_leads step.PrepareRoot result done leads = same_leads (saved g old) (saved g new) (saved_same done.2.done.committed)
    saved_leads step.WriteRoot result done leads = same_leads (saved g old) (saved g new) (saved_same done.2.done.committed)
    saved_leads step.OpenRoot result done leads = same_leads (saved g old) (saved g new) (saved_same done.2.done.committed)
    saved_leads step.Evict result done leads = same_leads (saved g old) (saved g new) (saved_same done.2.moves.same.committed)
    saved_leads (step.Load page) result done leads = same_leads (saved g old) (saved g new) (saved_same done.2.moves.same.committed)
    saved_leads step.Retire result done leads = same_leads (saved g old) (saved g new) (saved_same done.2.same.committed)

    works_and_broken : {X : Type 0} → new.is_broken ≡ false → new.is_broken ≡ true → X
    works_and_broken works is = absurd (false≢true (sym works ∙ is))

    -- ---- a step of which no call failed does not break a store

    was_broken : new.is_broken ≡ old.is_broken → new.is_broken ≡ true → old.is_broken ≡ true
    was_broken same is = sym same ∙ is

    still_broken : new ≡ old → new.is_broken ≡ true → old.is_broken ≡ true
    still_broken same = was_broken (ap (λ (s : ShownStore D). s.is_broken) same)

    offer_broken : (n : Named) (r : Result Answer Refusal) (k : ℕ) → OfferDone g old new n r → failed_after r k ≡ k → new.is_broken ≡ true → old.is_broken ≡ true
    offer_broken n r k done none = was_broken (done.breaks (λ is. one_is_none k (subst (λ (x : Result Answer Refusal). failed_after x k ≡ k) is none)))

    refused_broken : (b : Bool) (r : Refusal) (k : ℕ) → b ≡ old.is_broken → r ≡ cond b refusal.Broken refusal.DeviceFault → after_refusal r k ≡ k → old.is_broken ≡ true
    refused_broken true r k is answer none = sym is
    refused_broken false r k is answer none = absurd (one_is_none k (subst (λ (x : Refusal). after_refusal x k ≡ k) answer none))

    commit_broken : (r : Result ℕ Refusal) (k : ℕ) → CommitDone g old new r → failed_after r k ≡ k → new.is_broken ≡ true → old.is_broken ≡ true
    commit_broken (Ok count) k done none is = works_and_broken done.answer.works is
    commit_broken (Err r) k done none is = refused_broken old.is_broken r k refl done.answer.answer none

    retire_broken : (r : Result Bool Refusal) (k : ℕ) → RetireDone old new r → failed_after r k ≡ k → new.is_broken ≡ true → old.is_broken ≡ true
    retire_broken (Ok retired) k done none is = works_and_broken done.answer.works is
    retire_broken (Err r) k done none is = refused_broken old.is_broken r k refl done.answer.answer none

    moved_broken : {T : Type 0} (r : Result T StepFault) (k : ℕ) → MovesOnlyPages old new r → failed_by r + k ≡ k → new.is_broken ≡ true → old.is_broken ≡ true
    moved_broken {T} r k moves none = was_broken (moves.breaks (λ is. none_is_one k (subst (λ (x : Result T StepFault). failed_by x + k ≡ k) is none)))

    checkpoint_broken : {T : Type 0} (r : Result T StepFault) (k : ℕ) → OnOk r (new.is_broken ≡ false) → IfWrongPhase (new ≡ old) r → IfRefused (LeavesOrBreaks old new) r → failed_by r + k ≡ k
        → new.is_broken ≡ true → old.is_broken ≡ true
    checkpoint_broken (Ok value) k works wrong refused none is = works_and_broken works is
    checkpoint_broken (Err (WrongPhase p)) k works wrong refused none is = still_broken wrong is
    checkpoint_broken (Err (Refused r)) k works wrong refused none is =
        still_broken (refused.1 (λ device. none_is_one k (subst (λ (x : Cause). failed_in x + k ≡ k) device none))) is

    step_broken : (step : Step) (result : StepResult) (k : ℕ) → StepDone g old new step result → fails_by result k ≡ k → new.is_broken ≡ true → old.is_broken ≡ true
    step_broken (step.Offer n) result k done none = offer_broken n done.0 k done.2 (subst (λ (r : StepResult). fails_by r k ≡ k) done.1 none)
    step_broken step.Commit result k done none = commit_broken done.0 k done.2 (subst (λ (r : StepResult). fails_by r k ≡ k) done.1 none)
    step_broken step.Freeze result k done none =
        let all = done.2.done in checkpoint_broken done.0 k all.works all.unchanged all.refused (subst (λ (r : StepResult). fails_by r k ≡ k) done.1 none)
    step_broken step.TakeJob result k done none = still_broken done.2.same
    step_broken (step.Put page) result k done none =
        let all = done.2.done in checkpoint_broken done.0 k all.works all.unchanged all.refused (subst (λ (r : StepResult). fails_by r k ≡ k) done.1 none)
    step_broken step.SealPages result k done none =
        let all = done.2.done in checkpoint_broken done.0 k all.works all.unchanged all.refused (subst (λ (r : StepResult). fails_by r k ≡ k) done.1 none)
    step_broken step.PrepareRoot result k done none =
        let all = done.2.done in checkpoint_broken done.0 k all.works all.unchanged all.refused (subst (λ (r : StepResult). fails_by r k ≡ k) done.1 none)
    step_broken step.WriteRoot result k done none =
        let all = done.2.done in checkpoint_broken done.0 k all.works all.unchanged all.refused (subst (λ (r : StepResult). fails_by r k ≡ k) done.1 none)
    step_broken step.OpenRoot result k done none =
        let all = done.2.done in checkpoint_broken done.0 k all.works all.unchanged all.refused (subst (λ (r : StepResult). fails_by r k ≡ k) done.1 none)
    step_broken step.Evict result k done none = moved_broken done.0 k done.2.moves (subst (λ (r : StepResult). fails_by r k ≡ k) done.1 none)
    step_broken (step.Load page) result k done none = moved_broken done.0 k done.2.moves (subst (λ (r : StepResult). fails_by r k ≡ k) done.1 none)
    step_broken step.Retire result k done none = retire_broken done.0 k done.2 (subst (λ (r : StepResult). fails_by r k ≡ k) done.1 none)

    -- what broke a store that worked at the opening is counted
    broken_on : (start : Began) (moments : List (Devices D)) (step : Step) (result : StepResult) → WentOn g start moments old → StepDone g old new step result
        → failures_of g new.devices ≡ fails_by result (failures_of g old.devices) → start.is_broken ≡ false → new.is_broken ≡ true → FailedFrom g start new
    broken_on start moments step result went done device works is = by (eq-or-lt_of_le (more_fail result (failures_of g old.devices))) where
      by : (failures_of g old.devices ≡ fails_by result (failures_of g old.devices)) ⊎ (failures_of g old.devices < fails_by result (failures_of g old.devices)) → FailedFrom g start new
      by (inl same) =
          let less = went.broken works (step_broken step result (failures_of g old.devices) done (sym same) is) in
          omega (arith, less, same, device)
      by (inr more) = let before = went.failed in omega (arith, before, more, device)

    -- one step more
    pub step_went : (start : Began) (moments : List (Devices D)) (step : Step) (result : StepResult) → WentOn g start moments old → StepDone g old new step result
        → (IsTrue g.is_honest → ContentDone g old new step result) → failures_of g new.devices ≡ fails_by result (failures_of g old.devices) → (IsTrue g.is_honest → Backs g old)
        → (IsTrue g.is_honest → EachImage g old.devices new.devices (Stands (saved g old) (live g old) (in_doubt_during step old.in_doubt)))
        → WentOn g start (old.devices ∷ moments) new
    step_went start moments step result went done content device backs images = record {
      follows = λ honest. further start.live (live g old) (live g new) (went.follows honest) (live_leads step result (content honest));
      durable = λ honest. further start.saved (saved g old) (saved g new) (went.durable honest) (saved_leads step result done (old.pending, (backs honest).live));
      failed = omega (arith, went.failed, device, more_fail result (failures_of g old.devices));
      broken = broken_on start moments step result went done device;
      opening = went.opening;
      images = λ honest.
          let on = live_leads step result (content honest) in
          let leads : LeadsTo (saved g old) (live g old) = (old.pending, (backs honest).live) in (
            each_to_points old.devices new.devices (IsOn start.saved (live g new)) (each_weaker g old.devices new.devices (Stands (saved g old) (live g old) (in_doubt_during step old.in_doubt)) (IsOn start.saved (live g new))
                (λ image is. wider start.saved (saved g old) (live g old) (live g new) image (went.durable honest) on (stands_on (saved g old) (live g old) (in_doubt_during step old.in_doubt) image leads is))
                (images honest)),
            along_weaker points start.devices (map (points_of g) moments) (points_of g old.devices) (IsOn start.saved (live g old)) (IsOn start.saved (live g new))
                (λ image is. wider start.saved start.saved (live g old) (live g new) image (nowhere start.saved) on is)
                (went.images honest),
          );
    }

module _ {D : Type 0} (g : disk.Ghosts D) where
  -- no step was made yet
  pub ran_nowhere : (s : ShownStore D) (steps : List (Made D)) → steps ≡ [] → (IsTrue g.is_honest → Backs g s) → RanFrom g (began g s) steps s
  ran_nowhere s steps none backs = record { first = s; is_start = refl; backs = backs; along = subst (λ (list : List (Made D)). MadeAlong g s list s) (sym none) refl }

  -- one step more was made
  pub ran_on : (start : Began) (old new : ShownStore D) (earlier steps : List (Made D)) (step : Step) (result : StepResult) → steps ≡ made old step result ∷ earlier → Makes g old new step result
      → (IsTrue g.is_honest → Backs g new) → RanFrom g start earlier old → RanFrom g start steps new
  ran_on start old new earlier steps step result is makes backs ran =
      record { first = ran.first; is_start = ran.is_start; backs = ran.backs; along = made_then g ran.first old new earlier steps step result is makes backs ran.along }

  -- what was made is a run
  pub is_run : (start : Began) (steps : List (Made D)) (now : ShownStore D) → RanFrom g start steps now → IsRun g start steps now
  is_run start steps now ran = record {
    first = ran.first;
    is_start = ran.is_start;
    each = made_steps g ran.first now steps ran.along;
    run = λ honest. made_drive g honest ran.first now steps (ran.backs honest) ran.along;
  }
