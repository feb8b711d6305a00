-- The laws of a judge that checks a trace text.
use Rattle.std.specs.Prelude.{◌≡◌, ℕ, ◌+◌, List, [], ◌++◌, length, Option, None, Result, Ok, Err, refl}
use Rattle.std.proofs.Common.{sym, ap, ◌∙◌, arith}
use Rattle.std.proofs.lemmas.List.{append-nil, append_assoc, length-append}
use Rattle.hg_model.specs.declared.verdict.Refusal.{Refusal}
use Rattle.hg_model.specs.Contents.{Content}
use Rattle.hg_sets.specs.Interning.{Table}
use Rattle.hg_wire.specs.declared.reader.Reading.{Reading}
use Rattle.hg_streams.specs.declared.call.WriteCall.{WriteCall}
use Rattle.hg_reading.specs.declared.ending.Ending.{Ending}
use Rattle.hg_check.specs.TakingLaws.{cause_on}
use Rattle.hg_parts.specs.declared.checking.PartsChecking.{PartsChecking}
use Rattle.hg_parts.specs.Taking.{Comes, MayTake, TakesLines, pending}
use Rattle.hg_parts.specs.GoingLaws.{counts_on, events_at, passes_on}

no_error : (x : Refusal) → ◌≡◌ {A = Result (Option Ending) Refusal} (Ok None) (Err x) → ⊥
no_error x h = absurd (cc)

pub takes_none : (s : PartsChecking) (calls : List WriteCall) → TakesLines s calls [] (Ok None) s calls
takes_none s calls = record {
  comes = λ c t at. record {
    went = record {
      judged = [];
      left = pending s;
      last = c;
      filled = t;
      joined = append-nil (pending s);
      passes = (refl, refl);
      comes = (refl, at);
    };
    tells = record { printed = λ fine first h. h; front = λ x is. absurd (no_error x is) };
  };
  fit = λ h. h;
  cause = λ x is. absurd (no_error x is);
  failures = omega arith;
}

went_on : (a b c : PartsChecking) (at_a at_b at_c : List WriteCall) (first later : List Reading) (r : Result (Option Ending) Refusal) (x : Content) (u : Table)
    → (one : Comes a at_a first (Ok None) b at_b x u) → Comes b at_b later r c at_c one.went.last one.went.filled → Comes a at_a (first ++ later) r c at_c x u
went_on a b c at_a at_b at_c first later r x u one two = record {
  went = record {
    judged = one.went.judged ++ two.went.judged;
    left = two.went.left;
    last = two.went.last;
    filled = two.went.filled;
    joined = sym (append_assoc (pending a) first later)
        ∙ ap (λ xs. xs ++ later) one.went.joined
        ∙ append_assoc one.went.judged one.went.left later
        ∙ ap (λ xs. one.went.judged ++ (xs ++ later)) one.went.comes.0
        ∙ ap (λ xs. one.went.judged ++ xs) two.went.joined
        ∙ sym (append_assoc one.went.judged two.went.judged two.went.left);
    passes = passes_on one.went.judged two.went.judged x one.went.last two.went.last u one.went.filled two.went.filled one.went.passes two.went.passes;
    comes = two.went.comes;
  };
  tells = record {
    printed = λ fine start h. two.tells.printed fine start (one.tells.printed no_error start h);
    front = λ y is start h. two.tells.front y is start (one.tells.printed no_error start h);
  };
}

pub takes_on : (a b c : PartsChecking) (at_a at_b at_c : List WriteCall) (first later : List Reading) (r : Result (Option Ending) Refusal) → TakesLines a at_a first (Ok None) b at_b → TakesLines b at_b later r c at_c
    → TakesLines a at_a (first ++ later) r c at_c
takes_on a b c at_a at_b at_c first later r s t = record {
  comes = λ x u at.
      let one = s.comes x u at in
      went_on a b c at_a at_b at_c first later r x u one (t.comes one.went.last one.went.filled one.went.comes.1);
  fit = λ h. t.fit (s.fit h);
  cause = λ x is. cause_on at_a at_b at_c x s.failures (t.cause x is);
  failures = omega (arith, s.failures, t.failures);
}

pub takes_room : (a b : PartsChecking) (at_a at_b : List WriteCall) (first : List Reading) (n : ℕ) → MayTake a (length first + n) → TakesLines a at_a first (Ok None) b at_b → MayTake b n
takes_room a b at_a at_b first n may s =
    let one = s.comes may.1.0 may.1.1 may.1.2 in
    let went = one.went in
    let before = events_at may.1.0 may.1.1 a.judge may.1.2 in
    let now = events_at went.last went.filled b.judge went.comes.1 in
    let counts = counts_on went.judged may.1.0 went.last may.1.1 went.filled went.passes in
    let joined : length (pending a) + length first ≡ length went.judged + length (pending b) =
    sym (length-append (pending a) first) ∙ ap (λ (xs : List Reading). length xs) went.joined ∙ length-append went.judged went.left ∙ ap (λ (xs : List Reading). length went.judged + length xs) went.comes.0 in
    let room = may.2 in
    let passed = counts.0 in (
      s.fit may.0,
      (went.last, went.filled, went.comes.1),
      omega (arith, before, now, passed, joined, room),
    )

pub takes_fewer : (s : PartsChecking) (n more : ℕ) → MayTake s (n + more) → MayTake s n
takes_fewer s n more may = (may.0, may.1, (let room = may.2 in omega (arith, room)))
