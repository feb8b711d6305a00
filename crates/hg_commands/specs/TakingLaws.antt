-- The laws of feeding a store.
use Rattle.std.specs.Prelude.{◌+◌, ℕ, List, [], ◌++◌, length, Option, None, Result, Ok, refl}
use Rattle.std.proofs.Common.{ap, sym, ◌∙◌, subst, arith}
use Rattle.std.proofs.lemmas.List.{append_assoc, length-append}
use Rattle.hg_model.specs.declared.verdict.Refusal.{Refusal}
use Rattle.hg_disk.specs.declared.disk.Disk as disk
use Rattle.hg_wire.specs.declared.reader.Reading.{Reading}
use Rattle.hg_reading.specs.declared.ending.Ending.{Ending}
use Rattle.hg_reading.specs.declared.ending.Ending.TheVariants.{Ended}
use Rattle.hg_commands.specs.Feeding.{FeedsTo}
use Rattle.hg_store.specs.Shown.{ShownStore}
use Rattle.hg_commands.specs.FeedRunning.{LeadsOn, Place, WentWell, content_at, table_at}
use Rattle.hg_commands.specs.GivingUp.{IsQuiet}
use Rattle.hg_streams.specs.declared.call.WriteCall.{WriteCall}
use Rattle.hg_commands.specs.Instants.{Instant}
use Rattle.hg_commands.specs.Keeping.{KeepsOn}
use Rattle.hg_commands.specs.Taking.{FeedsLines, IsFine, IsReadyAt, MayTake}

-- where nothing but the current journal is called
pub quiet_still : {D : Type 0} (s : ShownStore D) → IsQuiet s s
quiet_still s = record {
  roots = record { root0 = refl; root1 = refl };
  turn = record { base = refl; current_base = refl; has_spare = refl; is_turned = refl };
  other = refl;
}

pub quiet_then : {D : Type 0} (a b c : ShownStore D) → IsQuiet a b → IsQuiet b c → IsQuiet a c
quiet_then a b c first second = record {
  roots = record { root0 = second.roots.root0 ∙ first.roots.root0; root1 = second.roots.root1 ∙ first.roots.root1 };
  turn = record {
    base = second.turn.base ∙ first.turn.base;
    current_base = second.turn.current_base ∙ first.turn.current_base;
    has_spare = second.turn.has_spare ∙ first.turn.has_spare;
    is_turned = second.turn.is_turned ∙ first.turn.is_turned;
  };
  other = second.other ∙ first.other;
}

passed : IsFine (Ok None)
passed x h = absurd (cc)

module _ {D : Type 0} (g : disk.Ghosts D) where
  keeps_still : (s : ShownStore D) (x : List WriteCall) (k : List (Instant D)) → KeepsOn g s x k s x k
  keeps_still s x k = (λ start limits content honest h. h, λ first h. h)

  pub keeps_then : (a b c : ShownStore D) (x y z : List WriteCall) (k l m : List (Instant D)) → KeepsOn g a x k b y l → KeepsOn g b y l c z m → KeepsOn g a x k c z m
  keeps_then a b c x y z k l m first second =
      (λ start limits content honest h. second.0 start limits content honest (first.0 start limits content honest h), λ start h. second.1 start (first.1 start h))

  stays : (p : Place D) → IsReadyAt p → WentWell g p p
  stays p ready = record { source = refl; failures = refl; quiet = quiet_still p.store; printed = λ honest first front events h. h; ready = ready }

  goes_then : (p q r : Place D) → WentWell g p q → WentWell g q r → WentWell g p r
  goes_then p q r first second = record {
    source = second.source ∙ first.source;
    failures = second.failures ∙ first.failures;
    quiet = quiet_then p.store q.store r.store first.quiet second.quiet;
    printed = λ honest start front events h. second.printed honest start front events (first.printed honest start front events h);
    ready = second.ready;
  }

  pub takes_none : (p : Place D) (moments : List (Instant D)) → FeedsLines g p moments [] (Ok None) p moments
  takes_none p moments = record {
    goes = λ fine ready. stays p ready;
    number = λ is. omega arith;
    leads = λ is honest more last end h. h;
    back = λ is honest more last end room h. h;
    ends = λ end is. absurd (cc);
    front = λ x is. absurd (passed x is);
    way = λ ready honest more last end room h. record {
      passed = [];
      rest = more;
      all = refl;
      before = (refl, refl);
      between = table_at p;
      behind = subst (λ (n : ℕ). FeedsTo p.fed.source more (table_at p) (content_at g p) n last end) (omega arith) h;
    };
    cause = λ x is. absurd (passed x is);
    failures = omega arith;
    kept = keeps_still p.store p.output moments;
  }

  pub takes_on : (a b c : Place D) (at_a at_b at_c : List (Instant D)) (first later : List Reading) (r : Result (Option Ending) Refusal)
      → FeedsLines g a at_a first (Ok None) b at_b → FeedsLines g b at_b later r c at_c → FeedsLines g a at_a (first ++ later) r c at_c
  takes_on a b c at_a at_b at_c first later r s t = record {
    goes = λ fine ready. let goes = s.goes passed ready in goes_then a b c goes (t.goes fine goes.ready);
    number = λ is. omega (arith, s.number refl, t.number is, length-append first later);
    leads = λ is honest more last end h. subst (λ xs. LeadsOn g a xs last end) (sym (append_assoc first later more)) (s.leads refl honest (later ++ more) last end (t.leads is honest more last end h));
    back = λ is honest more last end room h. t.back is honest more last end room (s.back refl honest (later ++ more) last end room (subst (λ xs. LeadsOn g a xs last end) (append_assoc first later more) h));
    ends = λ end is honest more. subst (λ xs. LeadsOn g a xs (content_at g c) end) (sym (append_assoc first later more)) (s.leads refl honest (later ++ more) (content_at g c) end (t.ends end is honest more));
    front = λ x is ready honest more last end room h begun text events printed.
        let goes = s.goes passed ready in
        t.front x is goes.ready honest more last end room (s.back refl honest (later ++ more) last end room (subst (λ xs. LeadsOn g a xs last end) (append_assoc first later more) h)) begun text events
        (goes.printed honest begun text events printed);
    way = λ ready honest more last end room h.
        let goes = s.goes passed ready in
        let way = t.way goes.ready honest more last end room (s.back refl honest (later ++ more) last end room (subst (λ xs. LeadsOn g a xs last end) (append_assoc first later more) h)) in
        record {
          passed = first ++ way.passed;
          rest = way.rest;
          all = append_assoc first later more ∙ (ap (λ xs. first ++ xs) way.all ∙ sym (append_assoc first way.passed way.rest));
          before = s.leads refl honest way.passed (content_at g c) Ended way.before;
          between = way.between;
          behind = subst (λ (n : ℕ). FeedsTo n way.rest way.between (content_at g c) (a.fed.number + length (first ++ way.passed)) last end) goes.source
              (subst (λ (n : ℕ). FeedsTo b.fed.source way.rest way.between (content_at g c) n last end) (omega (arith, s.number refl, length-append first way.passed)) way.behind);
        };
    cause = t.cause;
    failures = omega (arith, s.failures, t.failures);
    kept = keeps_then a.store b.store c.store a.output b.output c.output at_a at_b at_c s.kept t.kept;
  }

  pub takes_room : (a b : Place D) (at_a at_b : List (Instant D)) (first : List Reading) (n : ℕ) → MayTake a (length first + n) → FeedsLines g a at_a first (Ok None) b at_b → MayTake b n
  takes_room a b at_a at_b first n may s = ((s.goes passed may.0).ready, omega (arith, may.1, s.number refl))

pub takes_fewer : {D : Type 0} (p : Place D) (n more : ℕ) → MayTake p (n + more) → MayTake p n
takes_fewer p n more may = (may.0, omega (arith, may.1))
