-- What the offer of an event gives, by how it went.
use Rattle.std.proofs.Common.{◌≡◌, ◌≤◌, ◌∷◌, ℕ, Bool, true, false, Result, Ok, Err, length, refl, sym, ap, ◌∙◌, subst}
use Rattle.std.specs.Prelude.{◌≢◌, IsErrAnd, if◌then◌else◌}
use Rattle.hg_model.specs.declared.event.Access.{Access}
use Rattle.hg_model.specs.declared.event.Event.{Event}
use Rattle.hg_model.specs.declared.event.Named.{Named}
use Rattle.hg_model.specs.declared.verdict.Refusal.{Refusal}
use Rattle.hg_model.specs.declared.verdict.Refusal.TheVariants.{Damaged, OutOfMemory}
use Rattle.hg_model.specs.declared.verdict.Verdict.{Verdict}
use Rattle.hg_model.specs.declared.verdict.Verdict.TheVariants.{Accept, Duplicate, Refuse}
use Rattle.hg_model.specs.Accessing.{access_event}
use Rattle.hg_model.specs.Change.{after}
use Rattle.hg_model.specs.Contents.{Content}
use Rattle.hg_model.specs.Verdicts.{IsAccepted, standing_of, verdict}
use Rattle.hg_model.proofs.Central.{summary_step}
use Rattle.hg_cells.specs.declared.words.Words as words
use Rattle.hg_cells.specs.Words.{after_refusal}
use Rattle.hg_detect.specs.declared.detector.Answer.{Answer}
use Rattle.hg_detect.specs.declared.detector.Answer.TheVariants as answers
use Rattle.hg_detect.specs.declared.engine.Engine.{Engine}
use Rattle.hg_detect.specs.Answering.{AnswersOffer, Applies, Becomes, IsAnswered, IsOnLock, KeepsSummary, is_accepted}
use Rattle.hg_detect.specs.Growing.{MayGrow}
use Rattle.hg_detect.specs.Engine.{Answers, AtPresent, IsSound, LacksRoom, ReadsTrue, shown_of}
use Rattle.hg_detect.specs.Shown.{Accepts, Advances, AsksFor, SameContent, ShownDetector, content, verdict_on}
use Rattle.hg_detect.proofs.Admitting.{answered, answered_refused}
use Rattle.hg_detect.proofs.Refusing.{rules_call_nothing}

accepts_of : (v : Verdict) (may_refuse : Refusal → Type 0) → Applies v may_refuse (Ok answers.Accepted) → v ≡ Accept
accepts_of Accept may_refuse h = refl
accepts_of (Duplicate k) may_refuse h = absurd (cc)
accepts_of (Refuse r) may_refuse h = absurd (cc)

-- What the answer and the content say of the summary of a trace.
summary_kept : {W : Type 0} (g : words.Ghosts W) (old : ShownDetector W) (n : Named) (answer : Result Answer Refusal) (new : ShownDetector W)
    → IsAnswered g old n answer new → Becomes g old n answer new → KeepsSummary g old n answer new
summary_kept g old n answer new is becomes = λ past faithful accepted was_summary was.
    let now : Accepts g.cell_of old n = accepts_of (verdict_on g.cell_of old n) (g.may_refuse new.words) (subst (λ (r : Result Answer Refusal). IsAnswered g old n r new) was is) in
    let follows : IsAccepted (n ∷ past) = (accepted, ap (λ (c : Content). verdict (standing_of c) n) (sym was_summary) ∙ now) in
    let goes : content g.cell_of new ≡ after (content g.cell_of old) n =
    subst (λ (r : Result Answer Refusal). content g.cell_of new ≡ (if is_accepted r then after (content g.cell_of old) n else content g.cell_of old)) was (becomes faithful)
    in
    (follows, goes ∙ ap (λ (c : Content). after c n) was_summary ∙ sym (summary_step n past follows))

-- An accepted event.
pub offer_accepted : {W : Type 0} (g : words.Ghosts W) (old new : ShownDetector W) (n : Named) → Accepts g.cell_of old n
    → (AtPresent g.is_faithful old → Advances g.cell_of old n new) → (AtPresent g.is_faithful old → AsksFor g.cell_of old n.event (Ok tt) new) → length old.kept ≤ 65536
    → AtPresent g.may_bring new → (AtPresent g.is_faithful old → AtPresent g.is_faithful new) → g.went old.words new.words → g.failures new.words ≡ g.failures old.words
    → AnswersOffer g old n (Ok answers.Accepted) new
offer_accepted g old new n accepts goes asked few lawful faithful went failures =
    let is = answered g old new n accepts in
    record {
      answered = is;
      undamaged = λ accepts_it true_map. tt;
      held = λ accepts_it on_lock. refl;
      grows = λ accepts_it h out. absurd (cc);
      content = goes;
      summary = summary_kept g old n (Ok answers.Accepted) new is goes;
      sets = λ h accepts_it. asked h;
      same = λ not. absurd (not accepts);
      few = λ was. few;
      lawful = lawful;
      faithful = faithful;
      went = went;
      failures = failures;
    }

-- An event that the engine accepted.
pub engine_accepted : {W : Type 0} (g : words.Ghosts W) (e e' : Engine W) (d : ShownDetector W) (n : Named) → shown_of e ≡ d → IsSound e → Accepts g.cell_of d n → Answers g e n (Ok tt) e'
    → g.went e.words e'.words → g.failures e'.words ≡ g.failures e.words → AnswersOffer g d n (Ok answers.Accepted) (shown_of e')
engine_accepted {W} g e e' d n shows sound accepts a went failures =
    subst (λ (x : ShownDetector W). AnswersOffer g x n (Ok answers.Accepted) (shown_of e')) shows
    (offer_accepted g (shown_of e) (shown_of e') n (subst (λ (x : ShownDetector W). Accepts g.cell_of x n) (sym shows) accepts) a.accepted a.asked sound.few a.lawful a.faithful went failures)

-- the refusal of an answer
err_is : (x y : Refusal) → ◌≡◌ {A = Result Answer Refusal} (Err x) (Err y) → x ≡ y
err_is x y is = cc

-- the engine's answer with this refusal
abbrev pub err_of : Refusal → Result (Unit {0}) Refusal
err_of r = Err r

-- An event that the rules accept, and that was refused.
pub offer_lacks_room : {W : Type 0} (g : words.Ghosts W) (old new : ShownDetector W) (n : Named) (answer : Result Answer Refusal) (r : Refusal) → IsErrAnd answer (λ x. x ≡ r) → Accepts g.cell_of old n
    → (AtPresent g.is_faithful old → SameContent g.cell_of old new) → (AtPresent g.is_faithful old → AsksFor g.cell_of old n.event (Err r) new) → LacksRoom (g.may_refuse new.words) r
    → (ReadsTrue g old → r ≢ Damaged) → (IsOnLock n.event → ⊥) → (AtPresent g.is_faithful old → r ≡ OutOfMemory → MayGrow g old n.event) → AtPresent g.may_bring new → (AtPresent g.is_faithful old → AtPresent g.is_faithful new) → g.went old.words new.words
    → g.failures new.words ≡ after_refusal r (g.failures old.words) → AnswersOffer g old n answer new
offer_lacks_room g old new n (Ok a) r refused accepts stays asked lacks undamaged no_lock grows lawful faithful went failures = absurd refused
offer_lacks_room g old new n (Err x) r refused accepts stays asked lacks undamaged no_lock grows lawful faithful went failures =
    let is = answered_refused g old new n (Err x) r refused accepts lacks in
    record {
      answered = is;
      undamaged = λ accepts_it true_map. subst (λ (y : Refusal). y ≢ Damaged) (sym refused) (undamaged true_map);
      held = λ accepts_it on_lock. absurd (no_lock on_lock);
      grows = λ accepts_it h out. grows h (sym refused ∙ err_is x OutOfMemory out);
      content = stays;
      summary = summary_kept g old n (Err x) new is stays;
      sets = λ h accepts_it. subst (λ (y : Refusal). AsksFor g.cell_of old n.event (Err y) new) (sym refused) (asked h);
      same = λ not. absurd (not accepts);
      few = λ was. absurd (cc);
      lawful = lawful;
      faithful = faithful;
      went = went;
      failures = failures ∙ ap (λ (y : Refusal). after_refusal y (g.failures old.words)) (sym refused);
    }

-- An event that the engine refused.
pub engine_refused : {W : Type 0} (g : words.Ghosts W) (e e' : Engine W) (d : ShownDetector W) (n : Named) (answer : Result Answer Refusal) (r : Refusal) → IsErrAnd answer (λ x. x ≡ r) → shown_of e ≡ d
    → Accepts g.cell_of d n → Answers g e n (Err r) e' → (IsOnLock n.event → ⊥) → g.went e.words e'.words
    → g.failures e'.words ≡ after_refusal r (g.failures e.words) → AnswersOffer g d n answer (shown_of e')
engine_refused {W} g e e' d n answer r refused shows accepts a no_lock went failures =
    subst (λ (x : ShownDetector W). AnswersOffer g x n answer (shown_of e')) shows
    (offer_lacks_room g (shown_of e) (shown_of e') n answer r refused (subst (λ (x : ShownDetector W). Accepts g.cell_of x n) (sym shows) accepts) a.refused a.asked a.cause a.undamaged no_lock (λ h is. a.grows h (ap err_of is)) a.lawful a.faithful went failures)

-- A read or a write is on no lock.
pub no_lock_named : (write : Bool) (a : Access) → IsOnLock (access_event write a) → ⊥
no_lock_named true a on_lock = on_lock
no_lock_named false a on_lock = on_lock

-- An event on a lock is not refused.
pub no_lock_refused : (e : Event) (r : Refusal) → (IsOnLock e → ◌≡◌ {A = Result (Unit {0}) Refusal} (Err r) (Ok tt)) → IsOnLock e → ⊥
no_lock_refused e r held on_lock = let is = held on_lock in absurd (cc)

-- An event that was sent before.
pub offer_again : {W : Type 0} (g : words.Ghosts W) (old : ShownDetector W) (n : Named) (k : ℕ) → verdict_on g.cell_of old n ≡ Duplicate k → AtPresent g.may_bring old → g.went old.words old.words
    → AnswersOffer g old n (Ok (answers.Duplicate k)) old
offer_again g old n k is lawful went =
    let applies : IsAnswered g old n (Ok (answers.Duplicate k)) old = subst (λ (v : Verdict). Applies v (g.may_refuse old.words) (Ok (answers.Duplicate k))) (sym is) refl in
    record {
      answered = applies;
      undamaged = λ accepts true_map. tt;
      held = λ accepts on_lock. absurd (cc);
      grows = λ accepts h out. absurd (cc);
      content = λ h. refl;
      summary = summary_kept g old n (Ok (answers.Duplicate k)) old applies (λ h. refl);
      sets = λ h accepts. absurd (cc);
      same = λ not. refl;
      few = λ was. absurd (cc);
      lawful = lawful;
      faithful = λ h. h;
      went = went;
      failures = refl;
    }

-- An event that the rules refuse.
pub offer_refused : {W : Type 0} (g : words.Ghosts W) (old : ShownDetector W) (n : Named) (r : Refusal) → verdict_on g.cell_of old n ≡ Refuse r → AtPresent g.may_bring old → g.went old.words old.words
    → AnswersOffer g old n (Err r) old
offer_refused g old n r is lawful went =
    let applies : IsAnswered g old n (Err r) old = subst (λ (v : Verdict). Applies v (g.may_refuse old.words) (Err r)) (sym is) refl in
    record {
      answered = applies;
      undamaged = λ accepts true_map. absurd (cc);
      held = λ accepts on_lock. absurd (cc);
      grows = λ accepts h out. absurd (cc);
      content = λ h. refl;
      summary = summary_kept g old n (Err r) old applies (λ h. refl);
      sets = λ h accepts. absurd (cc);
      same = λ not. refl;
      few = λ was. absurd (cc);
      lawful = lawful;
      faithful = λ h. h;
      went = went;
      failures = sym (rules_call_nothing (standing_of (content g.cell_of old)) n r (g.failures old.words) is);
    }

-- A refusal that was handed on.
pub refused_on : {W : Type 0} (g : words.Ghosts W) (old new : ShownDetector W) (n : Named) (answer : Result Answer Refusal) (r : Refusal) → IsErrAnd answer (λ x. x ≡ r) → AnswersOffer g old n (Err r) new
    → AnswersOffer g old n answer new
refused_on g old new n (Ok a) r refused h = absurd refused
refused_on g old new n (Err x) r refused h = subst (λ (y : Refusal). AnswersOffer g old n (Err y) new) (sym refused) h
