-- How the life of a word goes on behind lines that were accepted.
use Rattle.std.proofs.Common.{◌≡◌, ℕ, zero, suc, ◌+◌, ◌||◌, Bool, true, false, cond, List, [], ◌∷◌, ◌++◌, length, Result, Ok, Err, refl, sym, ap, ◌∙◌, ⊎_elim, arith}
use Rattle.std.proofs.lemmas.List.{append-nil, append_assoc}
use Rattle.hg_model.specs.declared.event.Event.{Event}
use Rattle.hg_model.specs.declared.verdict.Refusal.{Refusal}
use Rattle.hg_model.specs.declared.verdict.Refusal.TheVariants.{FullSets}
use Rattle.hg_model.specs.declared.verdict.Verdict.{Verdict}
use Rattle.hg_model.specs.declared.verdict.Verdict.TheVariants.{Accept, Duplicate, Refuse}
use Rattle.hg_model.specs.Contents.{Content}
use Rattle.hg_model.specs.Change.{after}
use Rattle.hg_model.specs.Verdicts.{standing_of, verdict}
use Rattle.hg_sets.specs.Interning.{Table}
use Rattle.hg_wire.specs.declared.line.LineFault.{LineFault}
use Rattle.hg_wire.specs.declared.reader.Reading.{Reading}
use Rattle.hg_reading.specs.declared.ending.Ending.TheVariants.{Bad, Ended, Refused}
use Rattle.hg_check.specs.Checking.{Answered, IsRead, LeadsTo, next_named}
use Rattle.hg_check.specs.declared.explain.form.Form.{Form}
use Rattle.hg_streams.specs.Texts.{line_text}
use Rattle.hg_check.specs.Life.{accesses, concerns, differs, event_line, life, look_of, more_text, told_line, told_of}
use Rattle.hg_check.specs.LifeLaws.{GoesOn}

not_bad : (line : ℕ) → Ended ≡ Bad line → ⊥
not_bad line h = absurd (cc)

not_refused : (line : ℕ) (r : Refusal) → Ended ≡ Refused line r → ⊥
not_refused line r h = absurd (cc)

-- an event whose line was passed leads to the rest
accepted_on : (v : Verdict) (t : Table) (c d : Content) (e : Event) (line : ℕ) (rest : List Reading)
    → Answered v t c e line (λ u x. LeadsTo rest u x d Ended) d Ended → (u : Table) × LeadsTo rest u (after c (next_named c e)) d Ended
accepted_on Accept t c d e line rest h = ⊎_elim (λ went. (h.0, went.1)) (λ full. absurd (not_refused line FullSets full.1.1)) h.1
accepted_on (Duplicate n) t c d e line rest h = absurd h
accepted_on (Refuse r) t c d e line rest h = absurd (not_refused line r h.1)

-- where each access has a line, none is hidden
none_hidden : (meets all differ : Bool) (text : List ℕ) (k m : ℕ) → all ≡ true → k ≡ 0
    → (cond {A = List ℕ × ℕ} meets (cond (all || differ) (text, 0) ([], k + m)) ([], k)).1 ≡ 0
none_hidden true true differ text k m is none = refl
none_hidden true false differ text k m is none = absurd (cc)
none_hidden false all differ text k m is none = none

read_on : (w : ℕ) (form : Form) (t : Table) (c d : Content) (k line : ℕ) (event : Result Event LineFault) (rest : List Reading)
    → ((u : Table) (x : Content) (j : ℕ) → LeadsTo rest u x d Ended → GoesOn w form x j rest d)
    → IsRead event t c line (λ u x. LeadsTo rest u x d Ended) d Ended → GoesOn w form c k (record { line = line; event = event } ∷ rest) d
read_on w form t c d k line (Err fault) rest on h = absurd (not_bad line h.1)
read_on w form t c d k line (Ok e) rest on h =
    let went = accepted_on (verdict (standing_of c) (next_named c e)) t c d e line rest h in
    let x = after c (next_named c e) in
    let told = told_of w form c x k line e in
    let goes = on went.0 x told.1 went.1 in
    record {
      front = told.0 ++ goes.front;
      hidden = goes.hidden;
      told = ap (λ t. told.0 ++ t) goes.told ∙ sym (append_assoc told.0 goes.front (more_text goes.hidden));
      on = λ n later.
          let count : suc (length rest) + n ≡ suc (length rest + n) = omega arith in
          ap (λ (m : ℕ). life w form c k m (record { line = line; event = Ok e } ∷ (rest ++ later))) count
          ∙ (ap (λ t. told.0 ++ t) (goes.on n later) ∙ sym (append_assoc told.0 goes.front (life w form d goes.hidden n later)));
      all = λ all none. goes.all all (none_hidden (concerns w e) form.all (differs (look_of (c.words w)) (look_of (x.words w))) _ k (accesses e) all none);
    }

pub life_goes_on : (w : ℕ) (form : Form) (t : Table) (c d : Content) (k : ℕ) (lines : List Reading) → LeadsTo lines t c d Ended → GoesOn w form c k lines d
life_goes_on w form t c d k [] h = record {
  front = [];
  hidden = k;
  told = refl;
  on = λ n later.
      let count : 0 + n ≡ n = omega arith in
      ap (λ (m : ℕ). life w form c k m later) count ∙ ap (λ (x : Content). life w form x k n later) (sym h.0);
  all = λ all none. none;
}
life_goes_on w form t c d k (r ∷ rest) h = read_on w form t c d k r.line r.event rest (λ u x j l. life_goes_on w form u x d j rest l) h

-- ---- what was hidden before

-- it only adds to the first count
abbrev Counts : (ℕ → List ℕ) → Type 0
Counts text = (first : ℕ) × ((rest : List ℕ) × ((k : ℕ) → text k ≡ more_text (k + first) ++ rest))

end_counted : Counts (λ k. more_text k)
end_counted = (0, ([], λ k. let same : k + 0 ≡ k = omega arith in sym (ap (λ (n : ℕ). more_text n ++ []) same ∙ append-nil (more_text k))))

told_counted : (meets shown : Bool) (line : List ℕ) (m : ℕ) (later : ℕ → List ℕ) → Counts later
    → Counts (λ k. (cond {A = List ℕ × ℕ} meets (cond shown (more_text k ++ line, 0) ([], k + m)) ([], k)).0
    ++ later (cond {A = List ℕ × ℕ} meets (cond shown (more_text k ++ line, 0) ([], k + m)) ([], k)).1)
told_counted true true line m later h = (
  0,
  (
    line ++ later 0,
    λ k. let same : k + 0 ≡ k = omega arith in
        append_assoc (more_text k) line (later 0) ∙ ap (λ (n : ℕ). more_text n ++ (line ++ later 0)) (sym same),
  ),
)
told_counted true false line m later h = (
  m + h.0,
  (
    h.1.0,
    λ k. let same : k + m + h.0 ≡ k + (m + h.0) = omega arith in
        h.1.1 (k + m) ∙ ap (λ (n : ℕ). more_text n ++ h.1.0) same,
  ),
)
told_counted false shown line m later h = h

read_counted : (w : ℕ) (form : Form) (c : Content) (n line : ℕ) (event : Result Event LineFault) (rest : List Reading)
    → ((x : Content) → Counts (λ k. life w form x k n rest)) → Counts (λ k. told_line w form c k line event (λ d j. life w form d j n rest))
read_counted w form c n line (Err fault) rest on = on c
read_counted w form c n line (Ok e) rest on =
    let x = after c (next_named c e) in
    told_counted (concerns w e) (form.all || differs (look_of (c.words w)) (look_of (x.words w)))
    (line_text (event_line w form (look_of (c.words w)) (length c.reports) x line e)) (accesses e) (λ k. life w form x k n rest) (on x)

pub hidden_counted : (w : ℕ) (form : Form) (c : Content) (n : ℕ) (lines : List Reading) → Counts (λ k. life w form c k n lines)
hidden_counted w form c n [] = end_counted
hidden_counted w form c zero (r ∷ rest) = end_counted
hidden_counted w form c (suc n) (r ∷ rest) = read_counted w form c n r.line r.event rest (λ x. hidden_counted w form x n rest)
