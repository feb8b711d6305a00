-- What the answers to frames tell the share.
use Rattle.std.proofs.Common.{◌≡◌, ◌+◌, inl, inr, ℕ, List, [], ◌∷◌, length, Bool, true, false, cond, nat_lt, Result, Ok, Err, arith, ap, refl, ◌∙◌}
use Rattle.hg_model.specs.Contents.{Content}
use Rattle.hg_model.specs.declared.verdict.Refusal.{Refusal}
use Rattle.hg_model.specs.declared.verdict.Refusal.TheVariants.{BadNumber, Broken}
use Rattle.hg_detect.specs.declared.detector.Answer.{Answer}
use Rattle.hg_detect.specs.declared.detector.Answer.TheVariants.{Accepted as IsAccepted, Duplicate as IsDuplicate}
use Rattle.hg_disk.specs.declared.disk.Disk as disk
use Rattle.hg_protocol.specs.declared.frame.Frame.{Frame}
use Rattle.hg_protocol.specs.declared.frame.Frame.TheVariants.{Hello, Event as Numbered, Ask, Reports, Bye}
use Rattle.hg_protocol.specs.declared.reply.Reply.{Reply}
use Rattle.hg_protocol.specs.declared.reply.Reply.TheVariants.{Welcome, Accepted, Duplicate, Refused, Ack, Line, Fault, Lines, Nothing}
use Rattle.hg_store.specs.declared.steps.StepResult.{StepResult}
use Rattle.hg_store.specs.declared.steps.StepResult.TheVariants.{Committed, Offered}
use Rattle.hg_store.specs.declared.store.TheConstants.{MOST_PENDING}
use Rattle.hg_store.specs.Shown.{ShownStore, live}
use Rattle.hg_desk.specs.declared.desk.Stage.{Stage}
use Rattle.hg_desk.specs.declared.desk.Stage.TheVariants.{Greeting, Talking, Over}
use Rattle.hg_desk.specs.Conversation.{Answers, AnswersTurn, Converses, ReportsAnswer, Still, ToldAccepted, WasCommitted, accepted_by, accepted_by_all, commit_reply, offer_reply, refused, with_ack}
use Rattle.hg_desk.specs.Told.{StepTold, Told, taken}

-- ---- one frame

none_told : (is_honest : Bool) (told after : Told) (count : ℕ) → after ≡ told → count ≡ 0 → ToldAccepted is_honest told after count
none_told is_honest told after count same none =
    let a : after.accepted ≡ told.accepted = ap (λ (t : Told). t.accepted) same in
    let d : after.durable ≡ told.durable = ap (λ (t : Told). t.durable) same in record {
      accepted = λ honest. omega (arith, a, none);
      at_most = omega (arith, a, none);
      at_least = omega (arith, a, none);
      durable = omega (arith, d);
    }

step_told : (is_honest : Bool) (told after : Told) (result : StepResult) (count : ℕ) → StepTold is_honest told after result → count ≡ taken result → ToldAccepted is_honest told after count
step_told is_honest told after result count step is = record {
  accepted = λ honest. let all = step.accepted honest in omega (arith, all, is);
  at_most = let most = step.at_most in omega (arith, most, is);
  at_least = step.at_least;
  durable = step.durable;
}

hello_none : (is_great is_broken : Bool) (last : ℕ) → accepted_by (cond is_great (refused 0 BadNumber) (cond is_broken (refused 0 Broken) (Welcome last))) ≡ 0
hello_none true is_broken last = refl
hello_none false true last = refl
hello_none false false last = refl

offer_counts : (number : ℕ) (result : Result Answer Refusal) → accepted_by (offer_reply number result) ≡ taken (Offered result)
offer_counts number (Ok IsAccepted) = refl
offer_counts number (Ok (IsDuplicate last)) = refl
offer_counts number (Err refusal) = refl

commit_none : (last : ℕ) (result : Result ℕ Refusal) → accepted_by (commit_reply last result) ≡ 0
commit_none last (Ok count) = refl
commit_none last (Err refusal) = refl

reports_none : (is_honest is_broken : Bool) (c : Content) (reply : Reply) → ReportsAnswer is_honest is_broken c reply → accepted_by reply ≡ 0
reports_none is_honest true c reply is = ap accepted_by is
reports_none is_honest false c reply (inl is) = ap accepted_by is
reports_none is_honest false c reply (inr (inl is)) = ap accepted_by is
reports_none is_honest false c reply (inr (inr is)) = ap accepted_by is.0

-- an acknowledgement changes no count
same_accepted : (source : ℕ) (reply : Reply) (told : Told) → (with_ack source reply told).accepted ≡ told.accepted
same_accepted source (Ack number) told = refl
same_accepted source (Welcome last) told = refl
same_accepted source (Accepted number) told = refl
same_accepted source (Duplicate last) told = refl
same_accepted source (Refused number code expected) told = refl
same_accepted source (Line line) told = refl
same_accepted source (Fault code) told = refl
same_accepted source (Lines lines) told = refl
same_accepted source Nothing told = refl

same_durable : (source : ℕ) (reply : Reply) (told : Told) → (with_ack source reply told).durable ≡ told.durable
same_durable source (Ack number) told = refl
same_durable source (Welcome last) told = refl
same_durable source (Accepted number) told = refl
same_durable source (Duplicate last) told = refl
same_durable source (Refused number code expected) told = refl
same_durable source (Line line) told = refl
same_durable source (Fault code) told = refl
same_durable source (Lines lines) told = refl
same_durable source Nothing told = refl

acked_told : (is_honest : Bool) (source : ℕ) (reply : Reply) (told between after : Told) (count : ℕ) → after ≡ with_ack source reply between → ToldAccepted is_honest told between count
    → ToldAccepted is_honest told after count
acked_told is_honest source reply told between after count is all =
    let a : after.accepted ≡ between.accepted = ap (λ (t : Told). t.accepted) is ∙ same_accepted source reply between in
    let d : after.durable ≡ between.durable = ap (λ (t : Told). t.durable) is ∙ same_durable source reply between in record {
      accepted = λ honest. let one = all.accepted honest in omega (arith, a, one);
      at_most = let one = all.at_most in omega (arith, a, one);
      at_least = let one = all.at_least in omega (arith, a, one);
      durable = let one = all.durable in omega (arith, d, one);
    }

module _ {D : Type 0} (g : disk.Ghosts D) where
  answer_told : (stage : Stage) (old new : ShownStore D) (told after : Told) (frame : Frame) (to : Stage) (reply : Reply) → Answers g stage old new told after frame to reply
      → ToldAccepted g.is_honest told after (accepted_by reply)
  answer_told Greeting old new told after (Hello source) to reply is = none_told g.is_honest told after (accepted_by reply) is.0.1 (ap accepted_by is.1.1 ∙ hello_none _ _ _)
  answer_told Greeting old new told after (Numbered number event) to reply is = none_told g.is_honest told after (accepted_by reply) is.0.1 (ap accepted_by is.1.1)
  answer_told Greeting old new told after Ask to reply is = none_told g.is_honest told after (accepted_by reply) is.0.1 (ap accepted_by is.1.1)
  answer_told Greeting old new told after Reports to reply is = none_told g.is_honest told after (accepted_by reply) is.0.1 (ap accepted_by is.1.1)
  answer_told Greeting old new told after Bye to reply is = none_told g.is_honest told after (accepted_by reply) is.0.1 (ap accepted_by is.1.1)
  answer_told (Talking source) old new told after (Hello other) to reply is = none_told g.is_honest told after (accepted_by reply) is.0.1 (ap accepted_by is.1.1)
  answer_told (Talking source) old new told after (Numbered number event) to reply is =
      step_told g.is_honest told after (Offered is.0) (accepted_by reply) is.1.told_of (ap accepted_by is.2.1 ∙ offer_counts number is.0)
  answer_told (Talking source) old new told after Ask to reply is =
      acked_told g.is_honest source reply told is.1.1 after (accepted_by reply) is.1.4
      (step_told g.is_honest told is.1.1 (Committed is.1.0) (accepted_by reply) is.1.2.told_of (ap accepted_by is.1.3 ∙ commit_none _ is.1.0))
  answer_told (Talking source) old new told after Reports to reply is = none_told g.is_honest told after (accepted_by reply) is.0.1 (reports_none g.is_honest old.is_broken (live g old) reply is.2)
  answer_told (Talking source) old new told after Bye to reply is = none_told g.is_honest told after (accepted_by reply) is.0.1 (ap accepted_by is.1.1)
  answer_told Over old new told after frame to reply is = none_told g.is_honest told after (accepted_by reply) is.0.1 (ap accepted_by is.1.1)

  -- ---- frames, one after another

  further_told : (told mid after : Told) (one more : ℕ) → ToldAccepted g.is_honest told mid one → ToldAccepted g.is_honest mid after more → ToldAccepted g.is_honest told after (one + more)
  further_told told mid after one more first rest = record {
    accepted = λ honest. let a = first.accepted honest in let b = rest.accepted honest in omega (arith, a, b);
    at_most = let a = first.at_most in let b = rest.at_most in omega (arith, a, b);
    at_least = let a = first.at_least in let b = rest.at_least in omega (arith, a, b);
    durable = let a = first.durable in let b = rest.durable in omega (arith, a, b);
  }

  pub replies_told : (stage : Stage) (old new : ShownStore D) (told after : Told) (frames : List Frame) (to : Stage) (replies : List Reply) → Converses g stage old new told after frames to replies
      → ToldAccepted g.is_honest told after (accepted_by_all replies)
  replies_told stage old new told after [] to [] is = none_told g.is_honest told after 0 is.1.1 refl
  replies_told stage old new told after (frame ∷ frames) to (reply ∷ replies) is =
      further_told told is.1 after (accepted_by reply) (accepted_by_all replies) (answer_told stage old is.0 told is.1 frame is.2 reply is.3)
      (replies_told is.2 is.0 new is.1 after frames to replies is.4)
  replies_told stage old new told after [] to (reply ∷ replies) is = absurd is
  replies_told stage old new told after (frame ∷ frames) to [] is = absurd is

  pub replies_count : (stage : Stage) (old new : ShownStore D) (told after : Told) (frames : List Frame) (to : Stage) (replies : List Reply) → Converses g stage old new told after frames to replies
      → length replies ≡ length frames
  replies_count stage old new told after [] to [] is = refl
  replies_count stage old new told after (frame ∷ frames) to (reply ∷ replies) is = let rest = replies_count is.2 is.0 new is.1 after frames to replies is.4 in omega (arith, rest)
  replies_count stage old new told after [] to (reply ∷ replies) is = absurd is
  replies_count stage old new told after (frame ∷ frames) to [] is = absurd is

  -- ---- a turn

  room_told : (is_full : Bool) (old new : ShownStore D) (told after : Told) → cond is_full (WasCommitted g old new told after) (Still old new told after) → ToldAccepted g.is_honest told after 0
  room_told true old new told after is = step_told g.is_honest told after (Committed is.0) 0 is.1.told_of refl
  room_told false old new told after is = none_told g.is_honest told after 0 is.1 refl

  pub turn_told : (stage : Stage) (old new : ShownStore D) (told after : Told) (frames : List Frame) (to : Stage) (replies : List Reply) → AnswersTurn g stage old new told after frames to replies
      → ToldAccepted g.is_honest told after (accepted_by_all replies)
  turn_told stage old new told after frames to replies is =
      let room = room_told (nat_lt MOST_PENDING (length old.pending + length frames)) old is.0 told is.1 is.2 in
      let rest = replies_told stage is.0 new is.1 after frames to replies is.3 in
      record {
        accepted = λ honest. let a = room.accepted honest in let b = rest.accepted honest in omega (arith, a, b);
        at_most = let a = room.at_most in let b = rest.at_most in omega (arith, a, b);
        at_least = let a = room.at_least in let b = rest.at_least in omega (arith, a, b);
        durable = let a = room.durable in let b = rest.durable in omega (arith, a, b);
      }

  pub turn_count : (stage : Stage) (old new : ShownStore D) (told after : Told) (frames : List Frame) (to : Stage) (replies : List Reply) → AnswersTurn g stage old new told after frames to replies
      → length replies ≡ length frames
  turn_count stage old new told after frames to replies is = replies_count stage is.0 new is.1 after frames to replies is.3
