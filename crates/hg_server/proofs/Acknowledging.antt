-- A share is told of each Ack of a conversation.
use Rattle.std.proofs.Common.{◌≡◌, ◌+◌, ◌⊎◌, ◌∙◌, inl, inr, ⊎_elim, ℕ, Option, List, [], ◌∷◌, Bool, true, false, cond, nat_lt, length, Result, Ok, Err, ap, refl, subst, sym}
use Rattle.hg_model.specs.Contents.{Content}
use Rattle.hg_model.specs.declared.limits.TheConstants.{GREATEST_SOURCE}
use Rattle.hg_model.specs.declared.verdict.Refusal.{Refusal}
use Rattle.hg_model.specs.declared.verdict.Refusal.TheVariants.{BadNumber, Broken}
use Rattle.hg_detect.specs.declared.detector.Answer.{Answer}
use Rattle.hg_detect.specs.declared.detector.Answer.TheVariants.{Accepted as IsAccepted, Duplicate as IsDuplicate}
use Rattle.hg_disk.specs.declared.disk.Disk as disk
use Rattle.hg_protocol.specs.declared.frame.Frame.{Frame}
use Rattle.hg_protocol.specs.declared.frame.Frame.TheVariants.{Hello, Event as Numbered, Ask, Reports, Bye}
use Rattle.hg_protocol.specs.declared.reply.Reply.{Reply}
use Rattle.hg_protocol.specs.declared.reply.Reply.TheVariants.{Welcome, Ack, Fault, Nothing}
use Rattle.hg_receipts.specs.Receipts.{AreAmong, Has}
use Rattle.hg_receipts.specs.declared.view.Acked.{Acked}
use Rattle.hg_store.specs.declared.store.TheConstants.{MOST_PENDING}
use Rattle.hg_store.specs.Shown.{ShownStore, live}
use Rattle.hg_desk.specs.declared.desk.Stage.{Stage}
use Rattle.hg_desk.specs.declared.desk.Stage.TheVariants.{Greeting, Talking, Over}
use Rattle.hg_desk.specs.Conversation.{Answers, Converses, ReportsAnswer, Still, WasAnswered, WasCommitted, commit_reply, offer_reply, refused, with_ack}
use Rattle.hg_desk.specs.Going.{Began}
use Rattle.hg_desk.specs.Told.{Told, ack}
use Rattle.hg_server.specs.Talking.{AcksAreTold, AreTurns, IsGiven, Turn, WasGiven}

-- ---- replies

abbrev IsNoWelcome : Reply → Type 0
IsNoWelcome (Welcome last) = ⊥
IsNoWelcome _ = Unit {0}

abbrev IsNoAck : Reply → Type 0
IsNoAck (Ack number) = ⊥
IsNoAck _ = Unit {0}

abbrev IsSilent : Reply → Type 0
IsSilent reply = IsNoWelcome reply × IsNoAck reply

abbrev source_of : Frame → ℕ
source_of (Hello source) = source
source_of _ = 0

abbrev number_of : Reply → ℕ
number_of (Ack number) = number
number_of _ = 0

offer_silent : (number : ℕ) (result : Result Answer Refusal) → IsSilent (offer_reply number result)
offer_silent number (Ok IsAccepted) = (tt, tt)
offer_silent number (Ok (IsDuplicate last)) = (tt, tt)
offer_silent number (Err refusal) = (tt, tt)

reports_silent : (is_honest is_broken : Bool) (c : Content) (reply : Reply) → ReportsAnswer is_honest is_broken c reply → IsSilent reply
reports_silent is_honest true c reply is = subst IsSilent (sym is) (tt, tt)
reports_silent is_honest false c reply (inl is) = subst IsSilent (sym is) (tt, tt)
reports_silent is_honest false c reply (inr (inl is)) = subst IsSilent (sym is) (tt, tt)
reports_silent is_honest false c reply (inr (inr is)) = subst IsSilent (sym is.0) (tt, tt)

-- what one reply more gives
abbrev With : (Frame → Reply → Type 0) → Frame → Reply → Frame → Reply → Type 0
With G one its frame reply = G frame reply ⊎ ((one ≡ frame) × (its ≡ reply))

-- ---- `E`: entries that the share was told before; `G`: which frames were given which replies so far

module _ (E : Acked → Type 0) where
  -- No other source was welcomed, the share was told of each Ack as one of this source, and was told the entries of before.
  record IsOf (G : Frame → Reply → Type 0) (told : Told) (source : ℕ) : Type 0 where
    welcomed : (other last : ℕ) → G (Hello other) (Welcome last) → other ≡ source
    acked : (frame : Frame) (number : ℕ) → G frame (Ack number) → Has told.acks (ack source number)
    kept : (entry : Acked) → E entry → Has told.acks entry

  -- before the Welcome of any source, and behind it of one
  abbrev Fits : Stage → (Frame → Reply → Type 0) → Told → Type 0
  Fits Greeting G told = (source : ℕ) → IsOf G told source
  Fits (Talking source) G told = IsOf G told source
  Fits Over G told = (source : ℕ) × IsOf G told source

  of_some : (stage : Stage) (G : Frame → Reply → Type 0) (told : Told) → Fits stage G told → (source : ℕ) × IsOf G told source
  of_some Greeting G told is = (0, is 0)
  of_some (Talking source) G told is = (source, is)
  of_some Over G told is = is

  less : (G H : Frame → Reply → Type 0) (told after : Told) (source : ℕ) → ((frame : Frame) (reply : Reply) → H frame reply → G frame reply) → after.acks ≡ told.acks → IsOf G told source → IsOf H after source
  less G H told after source fewer same is = record {
    welcomed = λ other last given. is.welcomed other last (fewer (Hello other) (Welcome last) given);
    acked = λ frame number given. subst (λ (l : List Acked). Has l (ack source number)) (sym same) (is.acked frame number (fewer frame (Ack number) given));
    kept = λ entry e. subst (λ (l : List Acked). Has l entry) (sym same) (is.kept entry e);
  }

  fits_less : (stage : Stage) (G H : Frame → Reply → Type 0) (told after : Told) → ((frame : Frame) (reply : Reply) → H frame reply → G frame reply) → after.acks ≡ told.acks → Fits stage G told → Fits stage H after
  fits_less Greeting G H told after fewer same is = λ source. less G H told after source fewer same (is source)
  fits_less (Talking source) G H told after fewer same is = less G H told after source fewer same is
  fits_less Over G H told after fewer same is = (is.0, less G H told after is.0 fewer same is.1)

  silent : (G : Frame → Reply → Type 0) (told after : Told) (source : ℕ) (one : Frame) (its : Reply) → IsSilent its → after.acks ≡ told.acks → IsOf G told source → IsOf (With G one its) after source
  silent G told after source one its none same is = record {
    welcomed = λ other last given.
        ⊎_elim (λ (h : G (Hello other) (Welcome last)). is.welcomed other last h) (λ (h : (one ≡ Hello other) × (its ≡ Welcome last)). absurd (subst IsNoWelcome h.1 none.0)) given;
    acked = λ frame number given.
        ⊎_elim
        (λ (h : G frame (Ack number)). subst (λ (l : List Acked). Has l (ack source number)) (sym same) (is.acked frame number h))
        (λ (h : (one ≡ frame) × (its ≡ Ack number)). absurd (subst IsNoAck h.1 none.1))
        given;
    kept = λ entry e. subst (λ (l : List Acked). Has l entry) (sym same) (is.kept entry e);
  }

  stays : (stage to : Stage) (G : Frame → Reply → Type 0) (told after : Told) (one : Frame) (its said : Reply) → to ≡ stage → its ≡ said → IsSilent said → after.acks ≡ told.acks
      → Fits stage G told → Fits to (With G one its) after
  stays Greeting to G told after one its said at is none same p =
      subst (λ (s : Stage). Fits s (With G one its) after) (sym at) (λ source. silent G told after source one its (subst IsSilent (sym is) none) same (p source))
  stays (Talking source) to G told after one its said at is none same p =
      subst (λ (s : Stage). Fits s (With G one its) after) (sym at) (silent G told after source one its (subst IsSilent (sym is) none) same p)
  stays Over to G told after one its said at is none same p =
      subst (λ (s : Stage). Fits s (With G one its) after) (sym at) (p.0, silent G told after p.0 one its (subst IsSilent (sym is) none) same p.1)

  ends : (stage to : Stage) (G : Frame → Reply → Type 0) (told after : Told) (one : Frame) (its said : Reply) → to ≡ Over → its ≡ said → IsSilent said → after.acks ≡ told.acks
      → Fits stage G told → Fits to (With G one its) after
  ends stage to G told after one its said at is none same p = stays Over to G told after one its said at is none same (of_some stage G told p)

  -- ---- one frame

  greeted : (is_great is_broken : Bool) (to : Stage) (G : Frame → Reply → Type 0) (told after : Told) (source last : ℕ) (its : Reply)
      → to ≡ cond is_great Greeting (cond is_broken Greeting (Talking source)) → its ≡ cond is_great (refused 0 BadNumber) (cond is_broken (refused 0 Broken) (Welcome last))
      → after.acks ≡ told.acks → Fits Greeting G told → Fits to (With G (Hello source) its) after
  greeted true is_broken to G told after source last its at is same p = stays Greeting to G told after (Hello source) its (refused 0 BadNumber) at is (tt, tt) same p
  greeted false true to G told after source last its at is same p = stays Greeting to G told after (Hello source) its (refused 0 Broken) at is (tt, tt) same p
  greeted false false to G told after source last its at is same p =
      let all = p source in
      let new : IsOf (With G (Hello source) its) after source = record {
        welcomed = λ other number given.
            ⊎_elim (λ (h : G (Hello other) (Welcome number)). all.welcomed other number h) (λ (h : (Hello source ≡ Hello other) × (its ≡ Welcome number)). sym (ap source_of h.0)) given;
        acked = λ frame number given.
            ⊎_elim
            (λ (h : G frame (Ack number)). subst (λ (l : List Acked). Has l (ack source number)) (sym same) (all.acked frame number h))
            (λ (h : (Hello source ≡ frame) × (its ≡ Ack number)). absurd (subst IsNoAck (sym is ∙ h.1) tt))
            given;
        kept = λ entry e. subst (λ (l : List Acked). Has l entry) (sym same) (all.kept entry e);
      } in
      subst (λ (s : Stage). Fits s (With G (Hello source) its) after) (sym at) new

  asked : (result : Result ℕ Refusal) (G : Frame → Reply → Type 0) (told between after : Told) (source last : ℕ) (its : Reply) → its ≡ commit_reply last result → after ≡ with_ack source its between
      → between.acks ≡ told.acks → IsOf G told source → IsOf (With G Ask its) after source
  asked (Ok count) G told between after source last its is now same p =
      let acks : after.acks ≡ ack source last ∷ told.acks =
      ap (λ (t : Told). t.acks) now ∙ ap (λ (r : Reply). (with_ack source r between).acks) is ∙ ap (λ (l : List Acked). ack source last ∷ l) same
      in record {
        welcomed = λ other number given.
            ⊎_elim (λ (h : G (Hello other) (Welcome number)). p.welcomed other number h) (λ (h : (Ask ≡ Hello other) × (its ≡ Welcome number)). absurd (subst IsNoWelcome (sym is ∙ h.1) tt)) given;
        acked = λ frame number given.
            subst (λ (l : List Acked). Has l (ack source number)) (sym acks) (⊎_elim
            (λ (h : G frame (Ack number)). inr (p.acked frame number h))
            (λ (h : (Ask ≡ frame) × (its ≡ Ack number)). inl (ap (λ (n : ℕ). ack source n) (ap number_of (sym is ∙ h.1))))
            given);
        kept = λ entry e. subst (λ (l : List Acked). Has l entry) (sym acks) (inr (p.kept entry e));
      }
  asked (Err refusal) G told between after source last its is now same p =
      silent G told after source Ask its (subst IsSilent (sym is) (tt, tt))
      (ap (λ (t : Told). t.acks) now ∙ ap (λ (r : Reply). (with_ack source r between).acks) is ∙ same) p

  module _ {D : Type 0} (g : disk.Ghosts D) where
    answered : (stage : Stage) (old new : ShownStore D) (told after : Told) (frame : Frame) (to : Stage) (reply : Reply) (G : Frame → Reply → Type 0) → Answers g stage old new told after frame to reply
        → Fits stage G told → Fits to (With G frame reply) after
    answered Greeting old new told after (Hello source) to reply G is p =
        greeted (nat_lt GREATEST_SOURCE source) old.is_broken to G told after source ((live g old).last source) reply is.1.0 is.1.1 (ap (λ (t : Told). t.acks) is.0.1) p
    answered Greeting old new told after (Numbered number event) to reply G is p =
        ends Greeting to G told after (Numbered number event) reply (Fault 2) is.1.0 is.1.1 (tt, tt) (ap (λ (t : Told). t.acks) is.0.1) p
    answered Greeting old new told after Ask to reply G is p = ends Greeting to G told after Ask reply (Fault 2) is.1.0 is.1.1 (tt, tt) (ap (λ (t : Told). t.acks) is.0.1) p
    answered Greeting old new told after Reports to reply G is p = ends Greeting to G told after Reports reply (Fault 2) is.1.0 is.1.1 (tt, tt) (ap (λ (t : Told). t.acks) is.0.1) p
    answered Greeting old new told after Bye to reply G is p = ends Greeting to G told after Bye reply (Fault 2) is.1.0 is.1.1 (tt, tt) (ap (λ (t : Told). t.acks) is.0.1) p
    answered (Talking source) old new told after (Hello other) to reply G is p =
        ends (Talking source) to G told after (Hello other) reply (Fault 3) is.1.0 is.1.1 (tt, tt) (ap (λ (t : Told). t.acks) is.0.1) p
    answered (Talking source) old new told after (Numbered number event) to reply G is p =
        stays (Talking source) to G told after (Numbered number event) reply (offer_reply number is.0) is.2.0 is.2.1 (offer_silent number is.0) is.1.told_of.acks p
    answered (Talking source) old new told after Ask to reply G is p =
        subst (λ (s : Stage). Fits s (With G Ask reply) after) (sym is.0)
        (asked is.1.0 G told is.1.1 after source ((live g new).last source) reply is.1.3 is.1.4 is.1.2.told_of.acks p)
    answered (Talking source) old new told after Reports to reply G is p =
        stays (Talking source) to G told after Reports reply reply is.1 refl (reports_silent g.is_honest old.is_broken (live g old) reply is.2) (ap (λ (t : Told). t.acks) is.0.1) p
    answered (Talking source) old new told after Bye to reply G is p =
        ends (Talking source) to G told after Bye reply Nothing is.1.0 is.1.1 (tt, tt) (ap (λ (t : Told). t.acks) is.0.1) p
    answered Over old new told after frame to reply G is p = ends Over to G told after frame reply (Fault 4) is.1.0 is.1.1 (tt, tt) (ap (λ (t : Told). t.acks) is.0.1) p

    -- ---- frames, one after another

    moved : (G : Frame → Reply → Type 0) (one : Frame) (its : Reply) (frames : List Frame) (replies : List Reply) (frame : Frame) (reply : Reply)
        → G frame reply ⊎ IsGiven (one ∷ frames) (its ∷ replies) frame reply → With G one its frame reply ⊎ IsGiven frames replies frame reply
    moved G one its frames replies frame reply (inl before) = inl (inl before)
    moved G one its frames replies frame reply (inr (inl here)) = inl (inr here)
    moved G one its frames replies frame reply (inr (inr behind)) = inr behind

    none_given : (G : Frame → Reply → Type 0) (frame : Frame) (reply : Reply) → G frame reply ⊎ IsGiven [] [] frame reply → G frame reply
    none_given G frame reply (inl before) = before
    none_given G frame reply (inr given) = absurd given

    conversed : (stage : Stage) (old new : ShownStore D) (told after : Told) (frames : List Frame) (to : Stage) (replies : List Reply) (G : Frame → Reply → Type 0)
        → Converses g stage old new told after frames to replies → Fits stage G told → Fits to (λ frame reply. G frame reply ⊎ IsGiven frames replies frame reply) after
    conversed stage old new told after [] to [] G is p =
        subst (λ (s : Stage). Fits s (λ frame reply. G frame reply ⊎ IsGiven [] [] frame reply) after) (sym is.0)
        (fits_less stage G (λ frame reply. G frame reply ⊎ IsGiven [] [] frame reply) told after (none_given G) (ap (λ (t : Told). t.acks) is.1.1) p)
    conversed stage old new told after (one ∷ frames) to (its ∷ replies) G is p =
        let next = answered stage old is.0 told is.1 one is.2 its G is.3 p in
        let rest = conversed is.2 is.0 new is.1 after frames to replies (With G one its) is.4 next in
        fits_less to (λ frame reply. With G one its frame reply ⊎ IsGiven frames replies frame reply) (λ frame reply. G frame reply ⊎ IsGiven (one ∷ frames) (its ∷ replies) frame reply)
        after after (moved G one its frames replies) refl rest
    conversed stage old new told after [] to (its ∷ replies) G is p = absurd is
    conversed stage old new told after (one ∷ frames) to [] G is p = absurd is

    -- ---- a turn

    roomed : (is_full : Bool) (old new : ShownStore D) (told after : Told) → cond is_full (WasCommitted g old new told after) (Still old new told after) → after.acks ≡ told.acks
    roomed true old new told after is = is.1.told_of.acks
    roomed false old new told after is = ap (λ (t : Told). t.acks) is.1

    turned : (opening : Option Began) (stage : Stage) (told after : Told) (frames : List Frame) (to : Stage) (replies : List Reply) (events : Result ℕ Refusal) (G : Frame → Reply → Type 0)
        → WasAnswered g opening stage told after frames to replies events → Fits stage G told → Fits to (λ frame reply. G frame reply ⊎ IsGiven frames replies frame reply) after
    turned opening stage told after frames to replies events G is p =
        let t = is.turn in
        let same = roomed (nat_lt MOST_PENDING (length is.old.pending + length frames)) is.old t.0 told t.1 t.2 in
        conversed stage t.0 is.new t.1 after frames to replies G t.3 (fits_less stage G G told t.1 (λ frame reply given. given) same p)

module _ {D : Type 0} (g : disk.Ghosts D) (opening : Option Began) (first : Told) where
  turns_fit : (turns : List Turn) (stage : Stage) (told : Told) → AreTurns g opening first turns stage told → Fits (Has first.acks) stage (WasGiven turns) told
  turns_fit [] stage told is =
      subst (λ (s : Stage). Fits (Has first.acks) s (WasGiven []) told) (sym is.0)
      (λ source. record {
        welcomed = λ other last given. absurd given;
        acked = λ frame number given. absurd given;
        kept = λ entry has. subst (λ (t : Told). Has t.acks entry) (sym is.1) has;
      })
  turns_fit (turn ∷ earlier) stage told is =
      turned (Has first.acks) g opening is.0 is.1 told turn.frames stage turn.replies is.3 (WasGiven earlier) is.4 (turns_fit earlier is.0 is.1 is.2)

  -- Turns take no acknowledgement away.
  pub turns_among : (turns : List Turn) (stage : Stage) (told : Told) → AreTurns g opening first turns stage told → AreAmong first.acks told.acks
  turns_among turns stage told is = (of_some (Has first.acks) stage (WasGiven turns) told (turns_fit turns stage told is)).1.kept

  -- The share was told of each acknowledgement of these turns.
  pub acks_are_told : (turns : List Turn) (stage : Stage) (told : Told) → AreTurns g opening first turns stage told → AcksAreTold turns told
  acks_are_told turns stage told is source number a =
      let all = of_some (Has first.acks) stage (WasGiven turns) told (turns_fit turns stage told is) in
      subst (λ (s : ℕ). Has told.acks (ack s number)) (sym (all.1.welcomed source a.last a.welcomed)) (all.1.acked a.frame number a.acked)
