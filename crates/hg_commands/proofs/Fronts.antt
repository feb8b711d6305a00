-- The lines of commits, as a front of what is due.
use Rattle.std.proofs.Common.{◌≡◌, ℕ, zero, suc, ◌+◌, ◌-◌, ◌%◌, ◌≤◌, nat_eq, Result, Ok, Err, List, [], ◌∷◌, ◌++◌, sym, ap, ◌∙◌, ⊎_elim, arith, if◌then◌else◌}
use Rattle.std.proofs.lemmas.Bool.{cases_lt}
use Rattle.std.proofs.lemmas.List.{append-nil, append_assoc}
use Rattle.hg_model.specs.declared.event.Event.{Event}
use Rattle.hg_model.specs.declared.event.Named.{Named}
use Rattle.hg_model.specs.declared.verdict.Verdict.{Verdict}
use Rattle.hg_model.specs.declared.verdict.Verdict.TheVariants.{Accept, Duplicate, Refuse}
use Rattle.hg_model.specs.Change.{after}
use Rattle.hg_model.specs.Contents.{Content}
use Rattle.hg_model.specs.Verdicts.{standing_of, verdict}
use Rattle.hg_sets.specs.Interning.{Table}
use Rattle.hg_disk.specs.declared.disk.Disk as disk
use Rattle.hg_wire.specs.declared.line.LineFault.{LineFault}
use Rattle.hg_wire.specs.declared.reader.Reading.{Reading}
use Rattle.hg_reading.specs.declared.ending.Ending.{Ending}
use Rattle.hg_streams.proofs.Printed.{front_more}
use Rattle.hg_streams.proofs.Fronts.{took_front}
use Rattle.hg_commands.specs.Feeding.{Answers, FeedsTo, IsOffered, ack_text, acks_text, sent}
use Rattle.hg_commands.specs.FeedRunning.{FrontFor, Place, content_at}

-- those of fewer events are a front
pub acks_front : (events n m : ℕ) → n ≤ m → (more : List ℕ) × (acks_text events n ++ more ≡ acks_text events m)
acks_front events n zero h = let none : n ≡ 0 = omega (arith, h) in ([], append-nil (acks_text events n) ∙ ap (λ (k : ℕ). acks_text events k) none)
acks_front events n (suc m) h =
    ⊎_elim
    (λ less. let on = acks_front events n m (omega (arith, less)) in
    let line = if nat_eq (suc m % 256) 0 then ack_text (events + suc m) else [] in
    (on.0 ++ line, sym (append_assoc (acks_text events n) on.0 line) ∙ ap (λ t. t ++ line) on.1))
    (λ all. let same : n ≡ suc m = omega (arith, h, all) in ([], append-nil (acks_text events n) ∙ ap (λ (k : ℕ). acks_text events k) same))
    (cases_lt n (suc m))

same_events : (c last : Content) → last ≡ c → c.events ≤ last.events
same_events c last is = let same : last.events ≡ c.events = ap (λ (x : Content). x.events) is in omega (arith, same)

answers_grow : (v : Verdict) (t : Table) (c last : Content) (n : Named) (line : ℕ) (later : Table → Content → Type 0) (end : Ending)
    → ((u : Table) (d : Content) → later u d → d.events ≤ last.events) → Answers v t c n line later last end → c.events ≤ last.events
answers_grow Accept t c last n line later end on h =
    ⊎_elim
    (λ room. ⊎_elim
    (λ went. let more : c.events + 1 ≤ last.events = on room.0 (after c n) went.1 in omega (arith, more))
    (λ full. same_events c last full.1.0)
    room.1)
    (λ none. same_events c last none.0)
    h
answers_grow (Duplicate k) t c last n line later end on h = on t c h
answers_grow (Refuse r) t c last n line later end on h = same_events c last h.0

offered_grows : (event : Result Event LineFault) (source : ℕ) (t : Table) (c last : Content) (lines line : ℕ) (later : Table → Content → Type 0) (end : Ending)
    → ((u : Table) (d : Content) → later u d → d.events ≤ last.events) → IsOffered event source t c lines line later last end → c.events ≤ last.events
offered_grows (Err fault) source t c last lines line later end on h = same_events c last h.0
offered_grows (Ok e) source t c last lines line later end on h = answers_grow (verdict (standing_of c) (sent source lines e)) t c last (sent source lines e) line later end on h

-- what is led to has the events of now at least
pub feeds_grow : (source : ℕ) (readings : List Reading) (t : Table) (c : Content) (lines : ℕ) (last : Content) (end : Ending) → FeedsTo source readings t c lines last end → c.events ≤ last.events
feeds_grow source [] t c lines last end h = same_events c last h.0
feeds_grow source (r ∷ later) t c lines last end h =
    offered_grows r.event source t c last lines r.line (λ u d. FeedsTo source later u d (lines + 1) last end) end (λ u d l. feeds_grow source later u d (lines + 1) last end l) h

-- what was printed is a front of what is due for a content that has as many events at least
pub printed_grown : {D : Type 0} (g : disk.Ghosts D) (p : Place D) (last : Content) → (content_at g p).events ≤ last.events → FrontFor g p p.output last
printed_grown g p last more first front events is =
    let on = acks_front events p.fed.accepted (last.events - events) (omega (arith, is.count, more)) in
    front_more first p.output (front ++ acks_text events p.fed.accepted) on.0 (front ++ acks_text events (last.events - events))
    (append_assoc front (acks_text events p.fed.accepted) on.0 ∙ ap (λ t. front ++ t) on.1)
    (took_front first p.output (front ++ acks_text events p.fed.accepted) is.printed)
