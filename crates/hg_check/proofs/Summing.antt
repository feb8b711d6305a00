-- What a trace text leads to is the summary of its events.
use Rattle.std.proofs.Common.{◌≡◌, List, [], ◌∷◌, map, Result, Ok, Err, refl, sym, ap, subst, ◌∙◌, inl, inr, ⊎_elim}
use Rattle.hg_model.specs.declared.event.Event.{Event}
use Rattle.hg_model.specs.declared.event.Named.{Named}
use Rattle.hg_model.specs.declared.verdict.Verdict.{Verdict}
use Rattle.hg_model.specs.declared.verdict.Verdict.TheVariants.{Accept, Duplicate, Refuse}
use Rattle.hg_model.specs.Contents.{Content, summary}
use Rattle.hg_model.specs.Verdicts.{IsAccepted, verdict, standing_of}
use Rattle.hg_model.proofs.Central.{summary_step}
use Rattle.hg_sets.specs.Interning.{Table}
use Rattle.hg_wire.specs.declared.line.LineFault.{LineFault}
use Rattle.hg_wire.specs.declared.reader.Reading.{Reading}
use Rattle.hg_reading.specs.declared.ending.Ending.{Ending}
use Rattle.hg_check.specs.Checking.{Answered, IsRead, LeadsTo, next_named}
use Rattle.hg_check.specs.Laws.{IsOfAccepted, StopsAt}

-- nothing more is accepted
stopped : (r : Reading) (later : List Reading) (past : List Named) (c : Content) (end : Ending) → IsAccepted past → c ≡ summary past → StopsAt r.event r.line c end → IsOfAccepted past (r ∷ later) c end
stopped r later past c end ok same stops =
    record { front = []; left = r ∷ later; events = []; joined = refl; read = refl; accepted = ok; content = same; ends = stops }

-- one event more is accepted
went : (r : Reading) (e : Event) (later : List Reading) (past : List Named) (c : Content) (end : Ending) → r.event ≡ Ok e → IsOfAccepted (next_named (summary past) e ∷ past) later c end → IsOfAccepted past (r ∷ later) c end
went r e later past c end is on =
    record {
      front = r ∷ on.front;
      left = on.left;
      events = e ∷ on.events;
      joined = ap (λ rs. r ∷ rs) on.joined;
      read = ap (λ x. x ∷ map (λ s. s.event) on.front) is ∙ ap (λ xs. Ok e ∷ xs) on.read;
      accepted = on.accepted;
      content = on.content;
      ends = on.ends;
    }

answered : (v : Verdict) (r : Reading) (e : Event) (later : List Reading) (t : Table) (past : List Named) (c : Content) (end : Ending)
    → ((u : Table) (more : List Named) → IsAccepted more → LeadsTo later u (summary more) c end → IsOfAccepted more later c end)
    → IsAccepted past → r.event ≡ Ok e → verdict (standing_of (summary past)) (next_named (summary past) e) ≡ v
    → Answered v t (summary past) e r.line (λ u d. LeadsTo later u d c end) c end → IsOfAccepted past (r ∷ later) c end
answered Accept r e later t past c end on ok is v h =
    ⊎_elim
    (λ next. went r e later past c end is
    (on h.0 (next_named (summary past) e ∷ past) (ok, v)
    (subst (λ (d : Content). LeadsTo later h.0 d c end) (sym (summary_step (next_named (summary past) e) past (ok, v))) next.1)))
    (λ full. stopped r later past c end ok full.1.0
    (subst (λ (x : Result Event LineFault). StopsAt x r.line c end) (sym is)
    (inr (ap (λ d. verdict (standing_of d) (next_named d e)) full.1.0 ∙ v, full.1.1))))
    h.1
answered (Duplicate n) r e later t past c end on ok is v h = absurd h
answered (Refuse x) r e later t past c end on ok is v h =
    stopped r later past c end ok h.0
    (subst (λ (y : Result Event LineFault). StopsAt y r.line c end) (sym is)
    (inl (x, ap (λ d. verdict (standing_of d) (next_named d e)) h.0 ∙ v, h.1)))

was_read : (event : Result Event LineFault) (r : Reading) (later : List Reading) (t : Table) (past : List Named) (c : Content) (end : Ending)
    → ((u : Table) (more : List Named) → IsAccepted more → LeadsTo later u (summary more) c end → IsOfAccepted more later c end)
    → IsAccepted past → r.event ≡ event → IsRead event t (summary past) r.line (λ u d. LeadsTo later u d c end) c end → IsOfAccepted past (r ∷ later) c end
was_read (Err fault) r later t past c end on ok is h =
    stopped r later past c end ok h.0 (subst (λ (y : Result Event LineFault). StopsAt y r.line c end) (sym is) h.1)
was_read (Ok e) r later t past c end on ok is h = answered (verdict (standing_of (summary past)) (next_named (summary past) e)) r e later t past c end on ok is refl h

pub of_accepted : (readings : List Reading) (t : Table) (past : List Named) (c : Content) (end : Ending) → IsAccepted past → LeadsTo readings t (summary past) c end → IsOfAccepted past readings c end
of_accepted [] t past c end ok h = record { front = []; left = []; events = []; joined = refl; read = refl; accepted = ok; content = h.0; ends = h.1 }
of_accepted (r ∷ later) t past c end ok h = was_read r.event r later t past c end (λ u more. of_accepted later u more c end) ok refl h
