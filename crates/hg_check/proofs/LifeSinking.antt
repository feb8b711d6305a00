-- What explaining a word takes of one line, and what it prints.
use Rattle.std.proofs.Common.{◌≡◌, ◌+◌, ◌≤◌, ℕ, suc, List, [], ◌∷◌, ◌++◌, Option, None, Some, Result, Ok, Err, IfErr, OnErr, OnOk, refl, sym, ap, ◌∙◌, subst, inl, arith}
use Rattle.std.proofs.lemmas.List.{append-nil}
use Rattle.hg_model.specs.declared.verdict.Refusal.{Refusal}
use Rattle.hg_model.specs.declared.verdict.Refusal.TheVariants.{OutOfMemory}
use Rattle.hg_model.specs.Contents.{Content}
use Rattle.hg_detect.specs.declared.detector.Detector.{Detector}
use Rattle.hg_cells.specs.declared.paged.PagedWords.{PagedWords}
use Rattle.hg_detect.specs.Memory.{IsWhole, content_of}
use Rattle.hg_streams.specs.declared.call.WriteCall.{WriteCall}
use Rattle.hg_streams.specs.Calls.{failed_writes}
use Rattle.hg_streams.specs.Told.{told}
use Rattle.hg_wire.specs.declared.reader.Reading.{Reading}
use Rattle.hg_reading.specs.declared.ending.Ending.{Ending}
use Rattle.hg_streams.specs.Holding.{IsDue}
use Rattle.hg_check.specs.Running.{Steps}
use Rattle.hg_streams.specs.Faults.{HasWriteCause}
use Rattle.hg_check.specs.TakingLaws.{steps_none}
use Rattle.hg_streams.specs.Written.{TookFront}
use Rattle.hg_streams.proofs.Printed.{due_line, front_due, front_more}
use Rattle.hg_check.proofs.Sinking.{none_failed, steps_stay}
use Rattle.hg_check.specs.declared.explain.explaining.Explaining.{Explaining}
use Rattle.hg_check.specs.declared.explain.form.Asked.{Asked}
use Rattle.hg_check.specs.declared.explain.form.Form.{Form}
use Rattle.hg_check.specs.Life.{life, look_of, more_text}
use Rattle.hg_check.specs.LifeTaking.{Adds, ExplainsLines, IsReady, PassesLine}
use Rattle.hg_check.specs.Telling.{Stays, Tells}

adds_line : (w : ℕ) (form : Form) (c d : Content) (k j : ℕ) (reading : Reading) (held kept : List ℕ) → (t : Tells w form c k reading d j held kept) → Adds w form c k (reading ∷ []) (Ok None) d j t.added
adds_line w form c d k j reading held kept t = record {
  count = 1;
  counted = λ fine. t.counted;
  on = λ is n later. let one : 1 + n ≡ suc n = omega arith in ap (λ (m : ℕ). life w form c k m (reading ∷ later)) one ∙ t.text n later;
  ends = λ end is. absurd (cc);
}

adds_stop : (w : ℕ) (form : Form) (c d : Content) (k j : ℕ) (reading : Reading) (end : Ending) → d ≡ c → j ≡ k → Adds w form c k (reading ∷ []) (Ok (Some end)) d j []
adds_stop w form c d k j reading end content more = record {
  count = 0;
  counted = λ fine. omega (arith, ap (λ (x : Content). x.events) content);
  on = λ is. absurd (cc);
  ends = λ x is later. ap (λ (n : ℕ). more_text n) (sym more);
}

adds_nothing : (w : ℕ) (form : Form) (c d : Content) (k j : ℕ) → d ≡ c → j ≡ k → Adds w form c k [] (Ok None) d j []
adds_nothing w form c d k j content more = record {
  count = 0;
  counted = λ fine. omega (arith, ap (λ (x : Content). x.events) content);
  on = λ is n later.
      let same : 0 + n ≡ n = omega arith in
      ap (λ (m : ℕ). life w form c k m later) same ∙ (ap (λ (x : Content). life w form x k n later) (sym content) ∙ ap (λ (m : ℕ). life w form d m n later) (sym more));
  ends = λ end is. absurd (cc);
}

adds_any : (w : ℕ) (form : Form) (c d : Content) (k j : ℕ) (lines : List Reading) (x : Refusal) → Adds w form c k lines (Err x) d j []
adds_any w form c d k j lines x = record {
  count = 0;
  counted = λ fine. absurd (fine x refl);
  on = λ is. absurd (cc);
  ends = λ end is. absurd (cc);
}

-- A line was passed.
takes_passed : (old new : Explaining) (calls : List WriteCall) (reading : Reading) → IsReady old → new.asked ≡ old.asked → Steps old.detector (reading ∷ []) (Ok None) new.detector → IsWhole new.detector
    → Tells old.asked.word old.asked.form (content_of old.detector) old.more reading (content_of new.detector) new.more old.held.items new.held.items
    → new.look ≡ look_of ((content_of new.detector).words old.asked.word)
    → ExplainsLines old calls (reading ∷ []) (Ok None) new calls
takes_passed old new calls reading is_ready asked steps whole tells looks = record {
  asked = asked;
  steps = steps;
  ready = λ is h. record {
    whole = whole;
    word = omega (arith, h.word, ap (λ (q : Asked). q.word) asked);
    few = tells.few h.few;
    looks = looks ∙ ap (λ (q : Asked). look_of ((content_of new.detector).words q.word)) (sym asked);
  };
  text = tells.added;
  adds = adds_line old.asked.word old.asked.form (content_of old.detector) (content_of new.detector) old.more new.more reading old.held.items new.held.items tells;
  due = λ fine first goal h. due_line first calls old.held.items new.held.items tells.added goal tells.held_on h;
  front = λ x is. absurd (cc);
  cause = λ x is. absurd (cc);
  failures = omega arith;
}

-- A line ended the run.
takes_stop : (old new : Explaining) (calls : List WriteCall) (reading : Reading) (end : Ending) → new.asked ≡ old.asked → Steps old.detector (reading ∷ []) (Ok (Some end)) new.detector
    → Stays old.detector old.more old.held.items new.detector new.more new.held.items
    → ExplainsLines old calls (reading ∷ []) (Ok (Some end)) new calls
takes_stop old new calls reading end asked steps stays = record {
  asked = asked;
  steps = steps;
  ready = λ is. absurd (cc);
  text = [];
  adds = adds_stop old.asked.word old.asked.form (content_of old.detector) (content_of new.detector) old.more new.more reading end stays.content stays.more;
  due = λ fine first goal h. subst (λ x. IsDue first calls new.held.items [] x) (sym (append-nil goal)) (subst (λ items. IsDue first calls items [] goal) (sym stays.text) h);
  front = λ x is. absurd (cc);
  cause = λ x is. absurd (cc);
  failures = omega arith;
}

-- A line was broken off, by want of memory.
takes_broken : (old new : Explaining) (calls : List WriteCall) (reading : Reading) (y : Refusal) → new.asked ≡ old.asked → Steps old.detector (reading ∷ []) (Err y) new.detector → y ≡ OutOfMemory
    → ExplainsLines old calls (reading ∷ []) (Err y) new calls
takes_broken old new calls reading y asked steps memory = record {
  asked = asked;
  steps = steps;
  ready = λ is. absurd (cc);
  text = [];
  adds = adds_any old.asked.word old.asked.form (content_of old.detector) (content_of new.detector) old.more new.more (reading ∷ []) y;
  due = λ fine. absurd (fine y refl);
  front = λ x is first goal due n later last end h counted.
      let more = life old.asked.word old.asked.form (content_of old.detector) old.more n ((reading ∷ []) ++ later) in
      front_more first calls goal more (goal ++ more) refl (front_due first calls old.held.items [] goal due);
  cause = λ x is. let same : y ≡ x = cc in inl (sym same ∙ memory, refl);
  failures = none_failed (Err y) (failed_writes calls) memory;
}

-- One line was offered.
pub takes_line : (old new : Explaining) (calls : List WriteCall) (line : Reading) (r : Result (Option Ending) Refusal) → IsReady old → PassesLine old line r new → ExplainsLines old calls (line ∷ []) r new calls
takes_line old new calls line (Ok None) ready p = takes_passed old new calls line ready p.asked p.steps (p.steps.whole ready.whole) (p.tells refl) (p.looks refl ∙ ap (λ (q : Asked). look_of ((content_of new.detector).words q.word)) p.asked)
takes_line old new calls line (Ok (Some end)) ready p = takes_stop old new calls line end p.asked p.steps (p.stays end refl)
takes_line old new calls line (Err y) ready p = takes_broken old new calls line y p.asked p.steps p.fault

-- The held text was written, or that was broken off.
pub takes_printed : {T : Type 0} (old new : Explaining) (before now : List WriteCall) (r : Result T Refusal)
    → new.asked ≡ old.asked → new.detector ≡ old.detector → new.look ≡ old.look → new.more ≡ old.more
    → ((first : List WriteCall) (rest goal : List ℕ) → IsDue first before old.held.items rest goal → OnOk r (IsDue first now new.held.items rest goal))
    → ((first : List WriteCall) (rest goal : List ℕ) → IsDue first before old.held.items rest goal → OnErr r (TookFront first now goal))
    → IfErr r (λ x. HasWriteCause before now x)
    → failed_writes now ≡ told r + failed_writes before
    → OnOk r (ExplainsLines old before [] (Ok None) new now) × IfErr r (λ x. ExplainsLines old before [] (Err x) new now)
takes_printed old new before now (Ok done) asked detector look more printed front cause failures = (
  record {
    asked = asked;
    steps = subst (λ (d : Detector PagedWords). Steps old.detector [] (Ok None) d) (sym detector) (steps_none old.detector);
    ready = λ is h. record {
      whole = subst IsWhole (sym detector) h.whole;
      word = omega (arith, h.word, ap (λ (q : Asked). q.word) asked);
      few = subst (λ (d : Detector PagedWords). new.more ≤ (content_of d).last 0) (sym detector) (omega (arith, h.few, more));
      looks = look ∙ (h.looks ∙ (ap (λ (d : Detector PagedWords). look_of ((content_of d).words old.asked.word)) (sym detector) ∙ ap (λ (q : Asked). look_of ((content_of new.detector).words q.word)) (sym asked)));
    };
    text = [];
    adds = adds_nothing old.asked.word old.asked.form (content_of old.detector) (content_of new.detector) old.more new.more (ap (λ (d : Detector PagedWords). content_of d) detector) more;
    due = λ fine first goal h. subst (λ x. IsDue first now new.held.items [] x) (sym (append-nil goal)) (printed first [] goal h);
    front = λ x is. absurd (cc);
    cause = λ x is. absurd (cc);
    failures = failures;
  },
  tt,
)
takes_printed old new before now (Err y) asked detector look more printed front cause failures = (
  tt,
  record {
    asked = asked;
    steps = subst (λ (d : Detector PagedWords). Steps old.detector [] (Err y) d) (sym detector) (steps_stay old.detector y);
    ready = λ is. absurd (cc);
    text = [];
    adds = adds_any old.asked.word old.asked.form (content_of old.detector) (content_of new.detector) old.more new.more [] y;
    due = λ fine. absurd (fine y refl);
    front = λ x is first goal due n later last end h counted.
        let rest = life old.asked.word old.asked.form (content_of old.detector) old.more n ([] ++ later) in
        front_more first now goal rest (goal ++ rest) refl (front first [] goal due);
    cause = λ x is. let same : y ≡ x = cc in subst (λ z. HasWriteCause before now z) same cause;
    failures = failures;
  },
)
