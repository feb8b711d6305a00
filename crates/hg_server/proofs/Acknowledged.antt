-- What clients were told is durable in the store that a server leaves, and each event that it accepted is in their conversations.
use Rattle.std.proofs.Common.{◌≡◌, ◌+◌, ◌≤◌, ◌∷◌, ◌∙◌, arith, inl, ⊎_elim, [], ℕ, All, Contains, List, Option, Some, map, reverse, IfOk, IsTrue, OnOk, Result, Ok, Err, Vec, ap, refl, subst, sym}
use Rattle.std.specs.List.{sum_by}
use Rattle.std.proofs.lemmas.List.{reverse-append, reverse-reverse}
use Rattle.std.proofs.lemmas.List.Sums.{sum-map, sum_by-cons, sum_by_push}
use Rattle.std.proofs.lemmas.List.Elements.{All-cons, All-contains, All-contains_itself, All-head, All-nil, All-push, All-tail, All-weaker}
use Rattle.hg_model.specs.Contents.{Content}
use Rattle.hg_disk.specs.declared.disk.Disk as disk
use Rattle.hg_receipts.specs.declared.view.Acked.{Acked}
use Rattle.hg_store.specs.Shown.{ShownStore, live, saved}
use Rattle.hg_desk.specs.Counting.{AreAcked, accepted_in, events_of}
use Rattle.hg_desk.specs.Going.{Began, LeadsTo, began}
use Rattle.hg_desk.specs.Told.{HasAcked, Told, ack, nothing_told}
use Rattle.hg_desk.proofs.Going.{still_acked}
use Rattle.hg_server.specs.Acknowledged.{AcceptedIn, AcksAreDurable, BackAreRecorded, BackAreTold, EventsAreRecorded, HasEventsOf, IsDurable, LedFromNothing, OneWasTold, TalksAreDurable, TalksAreTold, ToldItsAcks, Worked, share_of, talks_of}
use Rattle.hg_server.specs.Talking.{IsAcked}
use Rattle.hg_server.specs.declared.course.Course.{Course}
use Rattle.hg_server.specs.declared.wire.Transcript.{Transcript}
use Rattle.hg_server.proofs.Talking.{all_acked}

-- ---- lists

-- what holds of each element holds of each in reverse
all_reverse : {X : Type 0} (P : X → Type 0) (xs : List X) → All P xs → All P (reverse xs)
all_reverse P [] all = All-nil P
all_reverse P (x ∷ xs) all =
    subst (λ l. All P l) (sym (reverse-append (x ∷ []) xs)) (All-push P (reverse xs) x (all_reverse P xs (All-tail P x xs all)) (All-head P x xs all))

-- the elements of a list are among those of its reverse
all_in_reverse : {X : Type 0} (xs : List X) → All (Contains (reverse xs)) xs
all_in_reverse xs = subst (λ l. All (Contains (reverse xs)) l) (reverse-reverse xs) (all_reverse (Contains (reverse xs)) (reverse xs) (All-contains_itself (reverse xs)))

-- ---- how many events shares were told of

abbrev accepted_of : Told → ℕ
accepted_of share = share.accepted

summed : (shares : List Told) → accepted_in shares ≡ sum_by accepted_of shares
summed shares = sum-map accepted_of shares

summed_reverse : (shares : List Told) → sum_by accepted_of (reverse shares) ≡ sum_by accepted_of shares
summed_reverse [] = refl
summed_reverse (one ∷ others) =
    let back = ap (sum_by accepted_of) (reverse-append (one ∷ []) others) ∙ sum_by_push accepted_of (reverse others) one in
    let rest = summed_reverse others in
    let front = sum_by-cons accepted_of one others in
    omega (arith, back, rest, front)

-- Beside one that was told of none, in reverse, they were told of as many.
all_accepted : (first : Told) (shares : List Told) → first.accepted ≡ 0 → accepted_in shares ≡ accepted_in (first ∷ reverse shares)
all_accepted first shares none =
    let all = summed (first ∷ reverse shares) ∙ sum_by-cons accepted_of first (reverse shares) in
    let back = summed_reverse shares in
    let these = summed shares in
    omega (arith, all, back, these, none)

module _ {D : Type 0} (g : disk.Ghosts D) (opening : Option Began) where
  -- ---- the threads' shares

  -- Workers' shares were told of each acknowledgement in the conversations that led them from nothing.
  pub led_told : (worked : List Worked) → All (LedFromNothing g opening) worked → All (ToldItsAcks g opening) worked
  led_told worked led = All-weaker (LedFromNothing g opening) (ToldItsAcks g opening) (λ (w : Worked) is. all_acked g opening nothing_told w.1 w.0 is) worked led

  told_among : (shares : List Told) (worked : List Worked) → All (Contains shares) (map share_of worked) → All (ToldItsAcks g opening) worked
      → All (OneWasTold g opening shares) (map talks_of worked)
  told_among shares [] among told = All-nil (OneWasTold g opening shares)
  told_among shares (one ∷ others) among told =
      All-cons (OneWasTold g opening shares) (talks_of one) (map talks_of others)
      (share_of one, All-head (Contains shares) (share_of one) (map share_of others) among, All-head (ToldItsAcks g opening) one others told)
      (told_among shares others (All-tail (Contains shares) (share_of one) (map share_of others) among) (All-tail (ToldItsAcks g opening) one others told))

  -- what was read and written in the workers' conversations, beside all shares
  pub talks_told : (first : Told) (worked : List Worked) (shares : List Told) (talks : List (List Transcript)) → shares ≡ first ∷ reverse (map share_of worked)
      → talks ≡ map talks_of worked → All (ToldItsAcks g opening) worked → TalksAreTold g opening shares talks
  talks_told first worked shares talks are held told =
      subst (λ (l : List (List Transcript)). TalksAreTold g opening shares l) (sym held)
      (told_among shares worked
      (All-weaker (Contains (reverse (map share_of worked))) (Contains shares)
      (λ s has. subst (λ (l : List Told). Contains l s) (sym are) (All-contains (Contains (first ∷ reverse (map share_of worked))) (reverse (map share_of worked)) s
      (All-tail (Contains (first ∷ reverse (map share_of worked))) first (reverse (map share_of worked)) (All-contains_itself (first ∷ reverse (map share_of worked)))) has))
      (map share_of worked) (all_in_reverse (map share_of worked)))
      told)

  -- the same where there was memory for them
  pub back_told : {Z E : Type 0} (first : Told) (worked : List Worked) (result : Result (Vec Told Z × List (List Transcript)) E) → IfOk result (λ r. r.0.items ≡ first ∷ reverse (map share_of worked))
      → IfOk result (λ r. r.1 ≡ map talks_of worked) → All (ToldItsAcks g opening) worked → BackAreTold g opening result
  back_told first worked (Ok back) is held told = talks_told first worked back.0.items back.1 is held told
  back_told first worked (Err e) is held told = tt

  -- All events that the shares were told of are in the workers' conversations, where the first was told of none.
  pub back_recorded : {Z E : Type 0} (first : Told) (worked : List Worked) (result : Result (Vec Told Z × List (List Transcript)) E) → IfOk result (λ r. r.0.items ≡ first ∷ reverse (map share_of worked))
      → IfOk result (λ r. r.1 ≡ map talks_of worked) → first.accepted ≡ 0 → All (LedFromNothing g opening) worked → BackAreRecorded g opening result
  back_recorded first worked (Ok back) is held none led = record {
    worked = worked;
    held = held;
    led = led;
    told = all_accepted first (map share_of worked) none ∙ sym (ap accepted_in is);
  }
  back_recorded first worked (Err e) is held none led = tt

  -- ---- what is durable

  pub no_talks_durable : (c : Content) (talks : List (List Transcript)) → talks ≡ [] → TalksAreDurable g opening c talks
  no_talks_durable c talks none = subst (λ (l : List (List Transcript)). TalksAreDurable g opening c l) (sym none) (All-nil (All (IsDurable g opening c)))

  one_durable : (c : Content) (share : Told) → HasAcked c share.acks → (held : Transcript) → IsAcked g opening share held → IsDurable g opening c held
  one_durable c share has held is = record {
    before = is.before;
    after = is.after;
    talk = is.talk;
    durable = λ source number a. has (ack source number) (is.acked source number a);
  }

  -- A content that has what the shares were told has what the clients were told.
  pub talks_durable : (c : Content) (shares : List Told) (talks : List (List Transcript)) → AreAcked c shares → TalksAreTold g opening shares talks → TalksAreDurable g opening c talks
  talks_durable c shares talks acked told =
      All-weaker (OneWasTold g opening shares) (All (IsDurable g opening c))
      (λ held is. All-weaker (IsAcked g opening is.0) (IsDurable g opening c)
      (one_durable c is.0 (All-contains (λ s. HasAcked c s.acks) shares is.0 acked is.1)) held is.2)
      talks told

  still_one : (a b : Content) → LeadsTo a b → (held : Transcript) → IsDurable g opening a held → IsDurable g opening b held
  still_one a b leads held is = record {
    before = is.before;
    after = is.after;
    talk = is.talk;
    durable = λ source number acknowledged.
        let entry : Acked = ack source number in
        still_acked a b (entry ∷ []) leads
        (λ other has. ⊎_elim (λ same. subst (λ (e : Acked). e.number ≤ a.last e.source) same (is.durable source number acknowledged)) (λ none. absurd none) has)
        entry (inl refl);
  }

  -- So has one that more events lead to.
  pub still_durable : (a b : Content) (talks : List (List Transcript)) → LeadsTo a b → TalksAreDurable g opening a talks → TalksAreDurable g opening b talks
  still_durable a b talks leads durable =
      All-weaker (All (IsDurable g opening a)) (All (IsDurable g opening b))
      (λ held is. All-weaker (IsDurable g opening a) (IsDurable g opening b) (still_one a b leads) held is)
      talks durable

module _ {D : Type 0} (g : disk.Ghosts D) where
  -- Where no share was taken in, there are none.
  pub none_durable : (start left : ShownStore D) (talks : List (List Transcript)) → talks ≡ [] → AcksAreDurable g start left talks
  none_durable start left talks none honest = no_talks_durable g (Some (began g start)) (saved g left) talks none

  -- What holds of the store that was opened, and of the conversations, holds of a server that went so.
  pub leaves : (P : ShownStore D → List (List Transcript) → Type 0) (start : ShownStore D) (course : Course D) (first : ShownStore D) (talks : List (List Transcript)) → course.opened ≡ first ∷ [] → first ≡ start
      → course.talks ≡ talks → P start talks → (other : ShownStore D) → course.opened ≡ other ∷ [] → P other course.talks
  leaves P start course first talks pushed is same holds other opened =
      let one : start ≡ other = cc in
      subst (λ (s : ShownStore D). P s course.talks) one (subst (λ (t : List (List Transcript)). P start t) (sym same) holds)

  -- The events that were accepted are in the conversations, where the shares were taken in, and the store accepted none since.
  pub still_recorded : {T E : Type 0} (ended : Result T E) (Whole : Type 0) (opening : Option Began) (before : ℕ) (start mid left : ShownStore D) (talks : List (List Transcript)) → opening ≡ Some (began g start)
      → events_of g start ≡ before → live g left ≡ live g mid → OnOk ended Whole → (IsTrue g.is_honest → Whole → HasEventsOf g opening before mid talks) → OnOk ended (EventsAreRecorded g start left talks)
  still_recorded (Ok done) Whole opening before start mid left talks began_so count same whole has =
      λ honest.
      let events = has honest whole in
      let are : AcceptedIn g (Some (began g start)) talks events.0 = subst (λ (o : Option Began). AcceptedIn g o talks events.0) began_so events.1 in (
        events.0,
        are,
        ap (λ (c : Content). c.events) same ∙ events.2 ∙ ap (λ n. n + events.0) (sym count),
      )
  still_recorded (Err e) Whole opening before start mid left talks began_so count same whole has = tt
