-- What a store that is fed keeps.
use Rattle.std.proofs.Common.{◌≡◌, ℕ, ◌≤◌, List, [], ◌∷◌, ◌++◌, All, Some, Result, Ok, Err, IsTrue, Bool, true, refl, sym, ap, subst, ◌∙◌, inl, inr, arith}
use Rattle.std.proofs.lemmas.List.Elements.{All-nil, All-cons}
use Rattle.hg_streams.specs.declared.call.ReadCall.{ReadCall}
use Rattle.hg_streams.specs.declared.call.WriteCall.{WriteCall}
use Rattle.hg_sets.specs.declared.table.TheConstants.{MOST_SETS}
use Rattle.hg_model.specs.declared.event.Named.{Named}
use Rattle.hg_model.specs.declared.verdict.Refusal.{Refusal}
use Rattle.hg_model.specs.Contents.{Content}
use Rattle.hg_model.specs.Change.{empty_content, followed}
use Rattle.hg_disk.specs.declared.disk.Disk as disk
use Rattle.hg_detect.specs.declared.detector.Answer.{Answer}
use Rattle.hg_detect.specs.Shown as detect
use Rattle.hg_pool.specs.Maps as pools
use Rattle.hg_pool.specs.Shown as pool
use Rattle.hg_images.specs.Choices.{Stands}
use Rattle.hg_images.specs.Images.{HasContent, Image}
use Rattle.hg_contents.proofs.Following.{followed_append, followed_events}
use Rattle.hg_store.specs.declared.devices.Devices.{Devices}
use Rattle.hg_store.specs.declared.steps.StepFault.{StepFault}
use Rattle.hg_store.specs.Images.{EachImage, KeepsFiles, Recovers, read_of}
use Rattle.hg_store.specs.Limits.{Limits, limits_of}
use Rattle.hg_store.specs.Recovering.{HasTable}
use Rattle.hg_store.specs.Shown.{KeepsLimits, ShownStore, live, saved}
use Rattle.hg_store.specs.Steps.{CommitDone, ContentOffered, OfferDone, RetireDone, if_accepted}
use Rattle.hg_store.specs.Store.{Backs, IsFresh, IsIdle}
use Rattle.hg_store.proofs.Moments.{all_still}
use Rattle.hg_store.proofs.Refusals.{limits_stay}
use Rattle.hg_commands.specs.FeedRunning.{LiesOnWayOfAny, WasStepped}
use Rattle.hg_commands.specs.Feeding.{ack_text}
use Rattle.hg_store.specs.declared.steps.Step.{Step}
use Rattle.hg_store.specs.declared.steps.StepResult.{StepResult}
use Rattle.hg_store.specs.Runs.{MadeAlong, Makes, made}
use Rattle.hg_store.proofs.Driven.{made_drive, made_steps, made_then}
use Rattle.hg_commands.specs.Instants.{HasLimits, Instant, instant, instant_behind, instant_of, made_at}
use Rattle.hg_commands.specs.Keeping.{AcksAtMost, EachAckIsKept, HasAtLeast, IsKept, IsKeptAlong, IsKeptBetween, KeepsOn, WasDriven}
use Rattle.hg_streams.specs.Printed.{IsPrintedNow, WereGiven}
use Rattle.hg_commands.proofs.Given.{given_none, given_printed, given_weaker, grows}

acks_more : (n m : ℕ) (text : List ℕ) → n ≤ m → AcksAtMost n text → AcksAtMost m text
acks_more n m text more (inl ack) = inl (ack.0, omega (arith, more, ack.1), ack.2)
acks_more n m text more (inr other) = inr other

-- the images

on_more : (first last more : Content) (events : List Named) (n : ℕ) (image : Image) → followed last events ≡ Some more → HasAtLeast first last n image → HasAtLeast first more n image
on_more first last more events n image leads on = (
  record {
    content = on.0.content;
    has = on.0.has;
    front = on.0.front;
    back = on.0.back ++ events;
    before = on.0.before;
    behind = followed_append on.0.back events on.0.content last on.0.behind ∙ leads;
  },
  on.1,
)

-- an image that stands for the contents of a store
stands_on : (first durable live : Content) (in_doubt : Bool) (front pending : List Named) (image : Image) → followed first front ≡ Some durable → followed durable pending ≡ Some live
    → Stands durable live in_doubt image → HasAtLeast first live durable.events image
stands_on first durable live in_doubt front pending image before leads (inl is) = (record { content = durable; has = is; front = front; back = pending; before = before; behind = leads }, omega arith)
stands_on first durable live in_doubt front pending image before leads (inr is) = (
  record { content = live; has = is.1; front = front ++ pending; back = []; before = followed_append front pending first durable before ∙ leads; behind = refl },
  omega (arith, followed_events pending durable live leads),
)

module _ {D : Type 0} (g : disk.Ghosts D) where
  each_weaker : (old new : Devices D) (P Q : Image → Type 0) → ((image : Image) → P image → Q image) → EachImage g old new P → EachImage g old new Q
  each_weaker old new P Q more all = record { journal0 = all.journal0; journal1 = all.journal1; slots = all.slots; root0 = all.root0; root1 = all.root1; each = λ image may. more image (all.each image may) }

  -- more events were accepted
  along_more : (first last more : Content) (events : List Named) (start : Instant D) (mids : List (Instant D)) (now : Instant D) → followed last events ≡ Some more
      → IsKeptAlong g first last start mids now → IsKeptAlong g first more start mids now
  along_more first last more events start [] now leads h = h
  along_more first last more events start (mid ∷ mids) now leads h = (
    record {
      later = h.0.later;
      since = h.0.since;
      count = h.0.count;
      acked = h.0.acked;
      each = each_weaker mid.devices now.devices (HasAtLeast first last h.0.count) (HasAtLeast first more h.0.count) (λ image on. on_more first last more events h.0.count image leads on) h.0.each;
    },
    along_more first last more events start mids mid leads h.1,
  )

  -- what is kept while the devices are not called, and nothing is written but what acknowledges durable events
  standing : (s : ShownStore D) (calls : List WriteCall) (start newest : Instant D) (first : Content) (front : List Named) → Backs g s → followed first front ≡ Some (saved g s) → WereGiven (AcksAtMost (saved g s).events) start.calls calls
      → s.devices ≡ newest.devices → (later : List WriteCall) × (calls ≡ later ++ newest.calls) → IsKeptBetween g first (live g s) start.calls newest (instant s.devices calls)
  standing s calls start newest first front backs before acked still goes =
      let c = live g s in
      let d = saved g s in
      record {
        later = goes.0;
        since = goes.1;
        count = d.events;
        acked = acked;
        each = subst (λ (x : Devices D). EachImage g x s.devices (HasAtLeast first c d.events)) still
            (all_still g s.devices (HasAtLeast first c d.events)
            (λ image left. stands_on first d c s.in_doubt front s.pending image before backs.live (backs.stands image left)));
      }

  -- One step was made, and its moment was kept: the live content and the durable one were led on by events, and each image during the step stands for
  -- those that the store had before it.
  pub keeps_step : (s m : ShownStore D) (calls : List WriteCall) (moments later : List (Instant D)) (moment : Instant D) (doubt : Bool) (events more : List Named)
      → (IsTrue g.is_honest → followed (live g s) events ≡ Some (live g m)) → (IsTrue g.is_honest → Backs g s → followed (saved g s) more ≡ Some (saved g m))
      → (IsTrue g.is_honest → Backs g s → EachImage g s.devices m.devices (Stands (saved g s) (live g s) doubt)) → (IsTrue g.is_honest → Backs g m)
      → KeepsLimits s m → later ≡ moment ∷ moments → (step : Step) (answer : StepResult) → moment ≡ instant_behind (made s step answer) m calls → Makes g s m step answer → KeepsOn g s calls moments m calls later
  keeps_step s m calls moments later moment doubt events more leads durable images backs same pushed step answer is makes = (
    λ start limits first honest h.
        let mid = instant_behind (made s step answer) m calls in
        let has : limits_of m ≡ limits = limits_stay s m same ∙ h.has in
        let front = h.front ++ more in
        let next = durable honest h.backs in
        let before : followed first front ≡ Some (saved g m) = followed_append h.front more first (saved g s) h.before ∙ next in
        let acked =
        given_weaker (AcksAtMost (saved g s).events) (AcksAtMost (saved g m).events) start.calls calls (λ text. acks_more (saved g s).events (saved g m).events text (omega (arith, followed_events more (saved g s) (saved g m) next))) h.acked in
        let between : IsKeptBetween g first (live g s) start.calls h.newest mid = record {
          later = h.along.0.later;
          since = h.along.0.since;
          count = (saved g s).events;
          acked = h.acked;
          each = subst (λ (x : Devices D). EachImage g x m.devices (HasAtLeast first (live g s) (saved g s).events)) h.still
              (each_weaker s.devices m.devices (Stands (saved g s) (live g s) doubt) (HasAtLeast first (live g s) (saved g s).events)
              (λ image on. stands_on first (saved g s) (live g s) doubt h.front s.pending image h.before h.backs.live on) (images honest h.backs));
        } in
        record {
          backs = backs honest;
          front = front;
          before = before;
          acked = acked;
          newest = mid;
          earlier = moments;
          is = pushed ∙ ap (λ x. x ∷ moments) is;
          still = refl;
          along = (
            standing m calls start mid first front (backs honest) before acked refl ([], refl),
            along_more first (live g s) (live g m) events start moments mid (leads honest)
                (subst (λ (t : List (Instant D)). IsKeptAlong g first (live g s) start t mid) (sym h.is) (between, h.along.1)),
          );
          has = has;
          had = subst (λ (t : List (Instant D)). All (HasLimits limits) t) (sym (pushed ∙ ap (λ x. x ∷ moments) is))
              (All-cons (HasLimits limits) mid moments (ap (λ (l : Limits). Some l) has) h.had);
        },
    λ first along. made_then g first s m (made_at moments) (made_at later) step answer (ap made_at (pushed ∙ ap (λ x. x ∷ moments) is)) makes backs along,
  )

  -- an event was offered
  pub keeps_offer : (s m : ShownStore D) (calls : List WriteCall) (moments later : List (Instant D)) (moment : Instant D) (n : Named) (r : Result Answer Refusal) → OfferDone g s m n r → (IsTrue g.is_honest → ContentOffered g s m n r)
      → (IsTrue g.is_honest → EachImage g s.devices m.devices (Stands (saved g s) (live g s) s.in_doubt)) → (IsTrue g.is_honest → Backs g m) → KeepsLimits s m → later ≡ moment ∷ moments → (step : Step) (answer : StepResult) → moment ≡ instant_behind (made s step answer) m calls → Makes g s m step answer
      → KeepsOn g s calls moments m calls later
  keeps_offer s m calls moments later moment n r done content images backs limits pushed step answer is makes =
      keeps_step s m calls moments later moment s.in_doubt (if_accepted n r) [] (λ honest. (content honest).leads)
      (λ honest b. ap (λ (d : detect.ShownDetector (pool.ShownPool D)). Some (detect.content (pools.live g) d)) (sym done.same.committed)) (λ honest b. images honest) backs limits pushed step answer is makes

  same_detector : (s m : ShownStore D) → m.detector ≡ s.detector → KeepsLimits s m
  same_detector s m same = (ap (λ (d : detect.ShownDetector (pool.ShownPool D)). d.words.most_frames) same, ap (λ (d : detect.ShownDetector (pool.ShownPool D)). d.words.slots) same)

  -- a commit was made, or failed
  pub keeps_commit : (s m : ShownStore D) (calls : List WriteCall) (moments later : List (Instant D)) (moment : Instant D) (r : Result ℕ Refusal) → CommitDone g s m r
      → (IsTrue g.is_honest → EachImage g s.devices m.devices (Stands (saved g s) (live g s) true)) → (IsTrue g.is_honest → Backs g m) → later ≡ moment ∷ moments → (step : Step) (answer : StepResult) → moment ≡ instant_behind (made s step answer) m calls → Makes g s m step answer
      → KeepsOn g s calls moments m calls later
  keeps_commit s m calls moments later moment (Ok count) done images backs pushed step answer is makes =
      keeps_step s m calls moments later moment true [] s.pending (λ honest. ap (λ (d : detect.ShownDetector (pool.ShownPool D)). Some (detect.content (pools.live g) d)) (sym done.detector))
      (λ honest b. b.live ∙ ap (λ (d : detect.ShownDetector (pool.ShownPool D)). Some (detect.content (pools.live g) d)) (sym done.answer.committed)) (λ honest b. images honest) backs (same_detector s m done.detector) pushed step answer is makes
  keeps_commit s m calls moments later moment (Err refusal) done images backs pushed step answer is makes =
      keeps_step s m calls moments later moment true [] [] (λ honest. ap (λ (d : detect.ShownDetector (pool.ShownPool D)). Some (detect.content (pools.live g) d)) (sym done.detector))
      (λ honest b. ap (λ (d : detect.ShownDetector (pool.ShownPool D)). Some (detect.content (pools.live g) d)) (sym done.answer.committed)) (λ honest b. images honest) backs (same_detector s m done.detector) pushed step answer is makes

  -- a step of a checkpoint was made, or refused
  pub keeps_stepped : {T : Type 0} (s m : ShownStore D) (calls : List WriteCall) (moments later : List (Instant D)) (moment : Instant D) (result : Result T StepFault) → WasStepped g s m result
      → (IsTrue g.is_honest → Backs g m) → later ≡ moment ∷ moments → (step : Step) (answer : StepResult) → moment ≡ instant_behind (made s step answer) m calls → Makes g s m step answer → KeepsOn g s calls moments m calls later
  keeps_stepped s m calls moments later moment result stepped backs pushed step answer is makes =
      keeps_step s m calls moments later moment s.in_doubt [] [] (λ honest. ap (λ (c : Content). Some c) (sym (stepped.live honest)))
      (λ honest b. ap (λ (d : detect.ShownDetector (pool.ShownPool D)). Some (detect.content (pools.live g) d)) (sym stepped.committed)) (λ honest b. stepped.images honest b) backs stepped.limits pushed step answer is makes

  -- events that the newest root counts were given up, or not
  pub keeps_retired : (s m : ShownStore D) (calls : List WriteCall) (moments later : List (Instant D)) (moment : Instant D) (result : Result Bool Refusal) → RetireDone s m result
      → (IsTrue g.is_honest → EachImage g s.devices m.devices (Stands (saved g s) (live g s) s.in_doubt)) → (IsTrue g.is_honest → Backs g m) → KeepsLimits s m → later ≡ moment ∷ moments → (step : Step) (answer : StepResult) → moment ≡ instant_behind (made s step answer) m calls → Makes g s m step answer
      → KeepsOn g s calls moments m calls later
  keeps_retired s m calls moments later moment result done images backs limits pushed step answer is makes =
      keeps_step s m calls moments later moment s.in_doubt [] [] (λ honest. ap (λ (d : detect.ShownDetector (pool.ShownPool D)). Some (detect.content (pools.live g) d)) (sym done.same.detector))
      (λ honest b. ap (λ (d : detect.ShownDetector (pool.ShownPool D)). Some (detect.content (pools.live g) d)) (sym done.same.committed)) (λ honest b. images honest) backs limits pushed step answer is makes

  -- a text was printed that acknowledges no more than what is durable
  pub keeps_printed : (s : ShownStore D) (calls new : List WriteCall) (moments : List (Instant D)) (text : List ℕ) → IsPrintedNow calls new text
      → (IsTrue g.is_honest → Backs g s → AcksAtMost (saved g s).events text) → KeepsOn g s calls moments s new moments
  keeps_printed s calls new moments text printed says = (
    λ start limits first honest h.
        let acked = given_printed (AcksAtMost (saved g s).events) start.calls calls new text printed (says honest h.backs) (inr (inl refl)) h.acked in
        record {
          backs = h.backs;
          front = h.front;
          before = h.before;
          acked = acked;
          newest = h.newest;
          earlier = h.earlier;
          is = h.is;
          still = h.still;
          along = (
            standing s new start h.newest first h.front h.backs h.before acked h.still (grows h.newest.calls calls new text printed (h.along.0.later, h.along.0.since)),
            h.along.1,
          );
          has = h.has;
          had = h.had;
        },
    λ first along. along,
  )

  -- what a commit counts is durable
  pub ack_enough : (s m : ShownStore D) (count : ℕ) → CommitDone g s m (Ok count) → AcksAtMost (saved g m).events (ack_text count)
  ack_enough s m count done = inl (
    count,
    omega (arith, done.answer.answer, ap (λ (d : detect.ShownDetector (pool.ShownPool D)). (detect.content (pools.live g) d).events) done.answer.committed),
    refl,
  )

  -- a store that was just opened
  fresh_kept : (old : Devices D) (s : ShownStore D) (first : Content) (calls : List WriteCall) → Recovers g old s.devices → IsFresh g s first
      → IsKept g (instant old calls) (limits_of s) first (instant_of s calls ∷ []) s calls
  fresh_kept old s first calls recovery fresh =
      let none = given_none (AcksAtMost (saved g s).events) calls in
      let before : followed first [] ≡ Some (saved g s) = ap (λ (c : Content). Some c) (sym fresh.durable) in
      record {
        backs = fresh.backs;
        front = [];
        before = before;
        acked = none;
        newest = instant_of s calls;
        earlier = [];
        is = refl;
        still = refl;
        along = (standing s calls (instant old calls) (instant_of s calls) first [] fresh.backs before none refl ([], refl), (recovery, refl));
        has = refl;
        had = All-cons (HasLimits (limits_of s)) (instant_of s calls) [] refl (All-nil (HasLimits (limits_of s)));
      }

  -- a store was opened, and its opening is the first moment
  opening_is : (s : ShownStore D) (before : List WriteCall) (none opening : List (Instant D)) (moment : Instant D) → opening ≡ moment ∷ none → moment ≡ instant_of s before → none ≡ [] → opening ≡ instant_of s before ∷ []
  opening_is s before none opening moment pushed first empty = pushed ∙ (ap (λ x. x ∷ none) first ∙ ap (λ t. instant_of s before ∷ t) empty)

  -- a store was opened and fed
  fed_on : (old : Devices D) (s u : ShownStore D) (before after : List WriteCall) (none opening moments : List (Instant D)) (moment : Instant D) → Recovers g old s.devices
      → (began : (c : Content) × HasContent (read_of g old) c × IsFresh g s c) → IsTrue g.is_honest → KeepsOn g s before opening u after moments → opening ≡ moment ∷ none → moment ≡ instant_of s before → none ≡ []
      → IsKept g (instant old before) (limits_of s) began.0 moments u after
  fed_on old s u before after none opening moments moment recovery began honest keeps pushed first empty =
      keeps.0 (instant old before) (limits_of s) began.0 honest (subst (λ t. IsKept g (instant old before) (limits_of s) began.0 t s before) (sym (opening_is s before none opening moment pushed first empty)) (fresh_kept old s began.0 before recovery began.2))

  pub fed_is_kept : (source : ℕ) (reads now : List ReadCall) (old new : Devices D) (s u : ShownStore D) (before after : List WriteCall) (none opening moments : List (Instant D)) (moment : Instant D) → Recovers g old s.devices
      → ((c : Content) × HasContent (read_of g old) c × IsFresh g s c) → HasTable MOST_SETS (read_of g old) (live g s) s.detector.sets → LiesOnWayOfAny source s.detector.sets (live g s) reads now (live g u)
      → IsTrue g.is_honest → KeepsOn g s before opening u after moments → opening ≡ moment ∷ none → moment ≡ instant_of s before → none ≡ [] → new ≡ u.devices
      → EachAckIsKept g source reads now (instant old before) moments (instant new after)
  fed_is_kept source reads now old new s u before after none opening moments moment recovery began sets way honest keeps pushed first empty is =
      let h = fed_on old s u before after none opening moments moment recovery began honest keeps pushed first empty in
      record {
        first = began.0;
        last = live g u;
        opened = λ _. began.1;
        way = λ _. (
          s.detector.sets,
          (
            subst (λ (c : Content). HasTable MOST_SETS (read_of g old) c s.detector.sets) began.2.has sets,
            subst (λ (c : Content). LiesOnWayOfAny source s.detector.sets c reads now (live g u)) began.2.has way,
          ),
        );
        along = subst (λ (d : Devices D). IsKeptAlong g began.0 (live g u) (instant old before) moments (instant d after)) (sym is)
            (subst (λ (t : List (Instant D)). IsKeptAlong g began.0 (live g u) (instant old before) t (instant u.devices after)) (sym h.is) h.along);
      }

  -- it had its limits at each moment
  pub fed_had_limits : (limits : Limits) (old : Devices D) (s u : ShownStore D) (before after : List WriteCall) (none opening moments : List (Instant D)) (moment : Instant D) → limits_of s ≡ limits → Recovers g old s.devices
      → ((c : Content) × HasContent (read_of g old) c × IsFresh g s c) → IsTrue g.is_honest → KeepsOn g s before opening u after moments → opening ≡ moment ∷ none → moment ≡ instant_of s before → none ≡ []
      → All (HasLimits limits) moments
  fed_had_limits limits old s u before after none opening moments moment has recovery began honest keeps pushed first empty =
      subst (λ (l : Limits). All (HasLimits l) moments) has (fed_on old s u before after none opening moments moment recovery began honest keeps pushed first empty).had

  -- no store was opened
  pub none_is_kept : (source : ℕ) (reads now : List ReadCall) (old new : Devices D) (calls : List WriteCall) (moments : List (Instant D)) → moments ≡ [] → Recovers g old new
      → EachAckIsKept g source reads now (instant old calls) moments (instant new calls)
  none_is_kept source reads now old new calls moments none images = record {
    first = empty_content;
    last = empty_content;
    opened = λ some. absurd (some none);
    way = λ some. absurd (some none);
    along = subst (λ (t : List (Instant D)). IsKeptAlong g empty_content empty_content (instant old calls) t (instant new calls)) (sym none) (images, refl);
  }

  -- a store was opened and fed: its moments tell of a run
  pub fed_is_driven : (old new : Devices D) (s u : ShownStore D) (before after : List WriteCall) (none opening moments : List (Instant D)) (moment : Instant D) → IsIdle s → KeepsFiles g old s.devices
      → (IsTrue g.is_honest → (c : Content) × HasContent (read_of g old) c × IsFresh g s c) → KeepsOn g s before opening u after moments → opening ≡ moment ∷ none → moment ≡ instant_of s before → none ≡ [] → new ≡ u.devices
      → WasDriven g old before moments new after
  fed_is_driven old new s u before after none opening moments moment idle kept began keeps pushed first empty is =
      let along : MadeAlong g s (made_at moments) u =
      keeps.1 s (subst (λ (t : List (Instant D)). MadeAlong g s (made_at t) s) (sym (opening_is s before none opening moment pushed first empty)) refl) in
      inr (record {
        opened = s;
        idle = idle;
        kept = kept;
        fresh = began;
        closed = u;
        left = is;
        each = made_steps g s u (made_at moments) along;
        run = λ honest. made_drive g honest s u (made_at moments) (began honest).2.backs along;
      })
