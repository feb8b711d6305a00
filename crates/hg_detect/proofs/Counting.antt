-- An access that is counted, and does nothing else.
use Rattle.std.proofs.Common.{◌≡◌, ℕ, Bool, true, false, List, length, refl, sym, ap, ◌∙◌, subst, arith, append-nil, Result, Ok, Err}
use Rattle.std.specs.Prelude.{IsErrAnd, if◌then◌else◌}
use Rattle.std.proofs.lemmas.Bool.{true≢false}
use Rattle.hg_model.specs.declared.event.Access.{Access}
use Rattle.hg_model.specs.declared.segment.Segment.{Segment}
use Rattle.hg_model.specs.declared.thread.ThreadState.{ThreadState}
use Rattle.hg_model.specs.declared.verdict.Refusal.{Refusal}
use Rattle.hg_model.specs.declared.verdict.Verdict.{Verdict}
use Rattle.hg_model.specs.declared.verdict.Verdict.TheVariants.{Accept, Duplicate, Refuse}
use Rattle.hg_model.specs.Accessing.{MayAccess, access_named}
use Rattle.hg_model.specs.Change.{after, is_accept}
use Rattle.hg_model.specs.Contents.{Content}
use Rattle.hg_model.specs.Messages.{Agrees}
use Rattle.hg_model.specs.Parts.{HasParts, Parts}
use Rattle.hg_model.specs.Verdicts.{Standing, standing, standing_of, verdict}
use Rattle.hg_rules.specs.Counting.{CountsAccesses}
use Rattle.hg_cells.specs.declared.cell.Cell.{Cell}
use Rattle.hg_cells.specs.declared.words.Words as words
use Rattle.hg_detect.specs.declared.detector.Answer.{Answer}
use Rattle.hg_detect.specs.declared.detector.Answer.TheVariants.{Accepted}
use Rattle.hg_detect.specs.declared.engine.Engine.{Engine}
use Rattle.hg_detect.specs.Answering.{AnswersPass, after_passing, answer_by, is_accepted}
use Rattle.hg_detect.specs.Engine.{AtPresent, IsSound, shown_of}
use Rattle.hg_detect.specs.Shown.{Accepts, ShownDetector, content, verdict_on}
use Rattle.hg_detect.proofs.Admitting.{verdict_is}
use Rattle.hg_detect.proofs.Answering.{has_parts}
use Rattle.hg_detect.proofs.Threads.{started}

-- what follows an accepted read or write of a source
abbrev pub FollowsAccess : Parts → ℕ → ℕ → Parts → Type 0
FollowsAccess old source number new = (write : Bool) (a : Access) (c : Content) → HasParts c old → HasParts (after c (access_named source number write a)) new

-- after a read, the parts are those of the content before, with the counts one on
read_parts : {W : Type 0} (cell_of : W → ℕ → Cell) (old : Engine W) (state : Parts) (source number : ℕ) → IsSound old → FollowsAccess old.state source number state → (a : Access)
    → HasParts (after (content cell_of (shown_of old)) (access_named source number false a)) state
read_parts cell_of old state source number sound follows a = follows false a (content cell_of (shown_of old)) (has_parts cell_of old sound)

pub passing_sound : {W : Type 0} (cell_of : W → ℕ → Cell) (old : Engine W) (state : Parts) (source number : ℕ) → IsSound old → MayAccess old.state source number → FollowsAccess old.state source number state
    → IsSound (record old { state = state })
passing_sound cell_of old state source number sound may follows =
    let parts = read_parts cell_of old state source number sound follows may.1 in
    record {
      segments = parts.segments ∙ ap (λ (xs : List Segment). length xs) (append-nil old.graph);
      threads = λ t. ap (λ (xs : List ThreadState). started xs t) parts.threads ∙ sound.threads t;
      messages = subst (λ (xs : List Segment). Agrees xs state.messages) (append-nil old.graph) parts.messages;
      sets = sound.sets;
      reports = sound.reports;
      few = sound.few;
      total = let t = sound.total in let e = parts.events in omega arith;
      plan = sound.plan;
    }

pub passing_content : {W : Type 0} (cell_of : W → ℕ → Cell) (old : Engine W) (state : Parts) (source number : ℕ) → IsSound old → MayAccess old.state source number → FollowsAccess old.state source number state
    → content cell_of (shown_of (record old { state = state })) ≡ after_passing (content cell_of (shown_of old)) source
passing_content cell_of old state source number sound may follows =
    let parts = read_parts cell_of old state source number sound follows may.1 in
    λ i. record (content cell_of (shown_of old)) { events = parts.events i; threads = parts.threads i; last = λ s. parts.last s i }

-- A read and a write are judged alike.
pub judged_alike : (s : Standing) (source number : ℕ) (a : Access) (write : Bool) → verdict s (access_named source number false a) ≡ verdict s (access_named source number write a)
judged_alike s source number a true = refl
judged_alike s source number a false = refl

-- An access that the rules accept, and that was counted.
pub pass_accepted : {W : Type 0} (g : words.Ghosts W) (e e' : Engine W) (d : ShownDetector W) (source number : ℕ) (a : Access) → shown_of e ≡ d
    → ((write : Bool) → Accepts g.cell_of d (access_named source number write a)) → e' ≡ record e { state = e'.state }
    → content g.cell_of (shown_of e') ≡ after_passing (content g.cell_of (shown_of e)) source → AnswersPass g d source number a (Ok Accepted) (shown_of e')
pass_accepted {W} g e e' d source number a shows accepts stays counts =
    subst (λ (x : ShownDetector W). AnswersPass g x source number a (Ok Accepted) (shown_of e')) shows
    (record {
      answered = λ write. sym (ap answer_by (subst (λ (x : ShownDetector W). Accepts g.cell_of x (access_named source number write a)) (sym shows) (accepts write)));
      content = counts;
      rest = ap (λ (x : Engine W). shown_of x) stays;
      same = λ not. absurd (true≢false not);
      lawful = λ h. subst (λ (x : Engine W). AtPresent g.may_bring (shown_of x)) (sym stays) h;
      faithful = λ h. subst (λ (x : Engine W). AtPresent g.is_faithful (shown_of x)) (sym stays) h;
    })

refused_is : (v : Verdict) → is_accept v ≡ false → is_accepted (answer_by v) ≡ false
refused_is Accept h = absurd (true≢false h)
refused_is (Duplicate n) h = refl
refused_is (Refuse r) h = refl

-- An access that the rules do not accept.
pub pass_refused : {W : Type 0} (g : words.Ghosts W) (e : Engine W) (d : ShownDetector W) (source number : ℕ) (a : Access) (answer : Result Answer Refusal) → IsSound e → shown_of e ≡ d
    → answer ≡ answer_by (verdict_on g.cell_of d (access_named source number false a)) → is_accept (verdict (standing e.state) (access_named source number false a)) ≡ false
    → AnswersPass g d source number a answer d
pass_refused g e d source number a answer sound shows is not_accepted =
    let n = access_named source number false a in
    let none : is_accepted answer ≡ false = ap is_accepted is ∙ refused_is (verdict_on g.cell_of d n) (ap is_accept (sym (verdict_is g.cell_of e d n sound shows)) ∙ not_accepted) in
    record {
      answered = λ write. is ∙ ap answer_by (judged_alike (standing_of (content g.cell_of d)) source number a write);
      content = sym (ap (λ (b : Bool). if b then after_passing (content g.cell_of d) source else content g.cell_of d) none);
      rest = refl;
      same = λ not. refl;
      lawful = λ h. h;
      faithful = λ h. h;
    }

-- a refusal that was handed on
pub handed_on : (answer given : Result Answer Refusal) (r : Refusal) → IsErrAnd answer (λ x. x ≡ r) → Err r ≡ given → answer ≡ given
handed_on (Ok a) given r refused h = absurd refused
handed_on (Err x) given r refused h = ap (λ (y : Refusal). Err y) refused ∙ h

-- The parts still agree after accesses that were counted.
pub passing_all_sound : {W : Type 0} (old : Engine W) (state : Parts) (source count : ℕ) → IsSound old → CountsAccesses old.state source count state → IsSound (record old { state = state })
passing_all_sound old state source count sound counts =
    record {
      segments = ap (λ (p : Parts). p.segments) counts.rest ∙ sound.segments;
      threads = λ t. ap (λ (p : Parts). started p.threads t) counts.rest ∙ sound.threads t;
      messages = subst (λ (p : Parts). Agrees old.graph p.messages) (sym counts.rest) sound.messages;
      sets = sound.sets;
      reports = sound.reports;
      few = sound.few;
      total = let t = sound.total in let e = counts.never_less in omega arith;
      plan = sound.plan;
    }
