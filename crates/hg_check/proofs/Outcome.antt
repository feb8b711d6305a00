-- Each trace text leads to something.
use Rattle.std.proofs.Common.{◌≡◌, ℕ, ◌≤◌, List, [], ◌∷◌, length, Result, Ok, Err, refl, inl, inr, ⊎_elim, arith}
use Rattle.hg_model.specs.declared.event.Event.{Event}
use Rattle.hg_model.specs.declared.verdict.Refusal.TheVariants.{FullSets}
use Rattle.hg_model.specs.declared.verdict.Verdict.{Verdict}
use Rattle.hg_model.specs.declared.verdict.Verdict.TheVariants.{Accept, Duplicate, Refuse}
use Rattle.hg_model.specs.Change.{after, empty_content}
use Rattle.hg_model.specs.Contents.{Content}
use Rattle.hg_model.specs.Verdicts.{standing_of, verdict}
use Rattle.hg_sets.specs.Interning.{Table, first_table}
use Rattle.hg_detect.specs.Making.{sets_asked}
use Rattle.hg_wire.specs.declared.line.LineFault.{LineFault}
use Rattle.hg_wire.specs.declared.reader.Reading.{Reading}
use Rattle.hg_wire.specs.Streams.{readings}
use Rattle.hg_reading.specs.declared.ending.Ending.TheVariants.{Bad, Ended, Refused}
use Rattle.hg_check.specs.Checking.{Answered, ChecksTo, IsRead, LeadsTo, next_named}
use Rattle.hg_detect.proofs.AskingEnds.{asks_end}
use Rattle.hg_reading.proofs.Endings.{HasOutcome}
use Rattle.hg_check.proofs.Steps.{never_duplicate}

answered_end : (v : Verdict) (t : Table) (c : Content) (e : Event) (line : ℕ) (later : List Reading) → length t.sets ≤ t.limit → ((k : ℕ) → v ≡ Duplicate k → ⊥)
    → ((u : Table) (d : Content) → length u.sets ≤ u.limit → HasOutcome (LeadsTo later u d))
    → HasOutcome (λ last end. Answered v t c e line (λ u d. LeadsTo later u d last end) last end)
answered_end Accept t c e line later few never on =
    ⊎_elim
    (λ went. let rest = on went.0 (after c (next_named c e)) went.1.1 in (rest.0, (rest.1.0, (went.0, inl (went.1.0, rest.1.1)))))
    (λ full. (c, (Refused line FullSets, (full.0, inr (full.1, (refl, refl))))))
    (asks_end (sets_asked c e) t few)
answered_end (Duplicate k) t c e line later few never on = absurd (never k refl)
answered_end (Refuse r) t c e line later few never on = (c, (Refused line r, (refl, refl)))

read_end : (event : Result Event LineFault) (t : Table) (c : Content) (line : ℕ) (later : List Reading) → length t.sets ≤ t.limit
    → ((u : Table) (d : Content) → length u.sets ≤ u.limit → HasOutcome (LeadsTo later u d))
    → HasOutcome (λ last end. IsRead event t c line (λ u d. LeadsTo later u d last end) last end)
read_end (Err fault) t c line later few on = (c, (Bad line, (refl, refl)))
read_end (Ok e) t c line later few on =
    answered_end (verdict (standing_of c) (next_named c e)) t c e line later few (λ k. never_duplicate (standing_of c) (next_named c e) k refl) on

pub leads_somewhere : (readings : List Reading) (t : Table) (c : Content) → length t.sets ≤ t.limit → HasOutcome (LeadsTo readings t c)
leads_somewhere [] t c few = (c, (Ended, (refl, refl)))
leads_somewhere (r ∷ later) t c few = read_end r.event t c r.line later few (λ u d within. leads_somewhere later u d within)

pub checks_somewhere : (bytes : List ℕ) → HasOutcome (ChecksTo bytes)
checks_somewhere bytes = leads_somewhere (readings bytes) (first_table 262144) empty_content (omega arith)
