-- The laws of explaining a word.
use Rattle.std.specs.Prelude.{◌≡◌, ◌+◌, ◌-◌, ◌≤◌, ℕ, List, [], ◌∷◌, ◌++◌, length, Option, None, Result, Ok, Err, refl}
use Rattle.std.proofs.Common.{sym, ap, ◌∙◌, subst, ⊎_elim, arith}
use Rattle.std.proofs.lemmas.List.{append-nil, append_assoc}
use Rattle.hg_model.specs.declared.event.Event.{Event}
use Rattle.hg_model.specs.declared.verdict.Refusal.{Refusal}
use Rattle.hg_model.specs.declared.verdict.Verdict.{Verdict}
use Rattle.hg_model.specs.declared.verdict.Verdict.TheVariants.{Accept, Duplicate, Refuse}
use Rattle.hg_model.specs.Verdicts.{standing_of, verdict}
use Rattle.hg_model.specs.Contents.{Content}
use Rattle.hg_model.specs.Change.{after}
use Rattle.hg_sets.specs.Interning.{Table}
use Rattle.hg_detect.specs.Memory.{content_of}
use Rattle.hg_streams.specs.declared.call.WriteCall.{WriteCall}
use Rattle.hg_streams.specs.Told.{told}
use Rattle.hg_wire.specs.declared.line.LineFault.{LineFault}
use Rattle.hg_wire.specs.declared.reader.Reading.{Reading}
use Rattle.hg_reading.specs.declared.ending.Ending.{Ending}
use Rattle.hg_check.specs.Checking.{Answered, IsRead, LeadsTo, next_named}
use Rattle.hg_streams.specs.Holding.{IsDue}
use Rattle.hg_check.specs.Running.{LeadsFrom}
use Rattle.hg_check.specs.TakingLaws.{cause_on, steps_none, steps_on}
use Rattle.hg_streams.specs.Written.{TookFront}
use Rattle.hg_check.specs.declared.explain.explaining.Explaining.{Explaining}
use Rattle.hg_check.specs.declared.explain.form.Asked.{Asked}
use Rattle.hg_check.specs.declared.explain.form.Form.{Form}
use Rattle.hg_check.specs.Life.{life, more_text}
use Rattle.hg_check.specs.LifeTaking.{Adds, ExplainsLines, MayTake, WroteLifeFront}

answered_events : (v : Verdict) (t : Table) (c last : Content) (e : Event) (line : ℕ) (later : Table → Content → Type 0) (end : Ending)
    → ((u : Table) (d : Content) → later u d → d.events ≤ last.events) → Answered v t c e line later last end → c.events ≤ last.events
answered_events Accept t c last e line later end on h =
    ⊎_elim
    (λ went. let le = on h.0 (after c (next_named c e)) went.1 in omega (arith, le))
    (λ full. let same : last.events ≡ c.events = ap (λ (x : Content). x.events) full.1.0 in omega (arith, same))
    h.1
answered_events (Duplicate k) t c last e line later end on h = absurd h
answered_events (Refuse r) t c last e line later end on h = let same : last.events ≡ c.events = ap (λ (x : Content). x.events) h.0 in omega (arith, same)

read_events : (event : Result Event LineFault) (t : Table) (c last : Content) (line : ℕ) (later : Table → Content → Type 0) (end : Ending)
    → ((u : Table) (d : Content) → later u d → d.events ≤ last.events) → IsRead event t c line later last end → c.events ≤ last.events
read_events (Err fault) t c last line later end on h = let same : last.events ≡ c.events = ap (λ (x : Content). x.events) h.0 in omega (arith, same)
read_events (Ok e) t c last line later end on h = answered_events (verdict (standing_of c) (next_named c e)) t c last e line later end on h

-- what is led to has the events of now at least
pub events_grow : (readings : List Reading) (t : Table) (c last : Content) (end : Ending) → LeadsTo readings t c last end → c.events ≤ last.events
events_grow [] t c last end h = let same : last.events ≡ c.events = ap (λ (x : Content). x.events) h.0 in omega (arith, same)
events_grow (r ∷ later) t c last end h = read_events r.event t c last r.line (λ u d. LeadsTo later u d last end) end (λ u d l. events_grow later u d last end l) h

no_error : (x : Refusal) → ◌≡◌ {A = Result (Option Ending) Refusal} (Ok None) (Err x) → ⊥
no_error x h = absurd (cc)

pub adds_none : (w : ℕ) (form : Form) (c : Content) (k : ℕ) → Adds w form c k [] (Ok None) c k []
adds_none w form c k = record {
  count = 0;
  counted = λ fine. omega arith;
  on = λ is n later. let same : 0 + n ≡ n = omega arith in ap (λ (m : ℕ). life w form c k m later) same;
  ends = λ end is. absurd (cc);
}

adds_on : (w : ℕ) (form : Form) (a b c : Content) (i j k : ℕ) (first later : List Reading) (r : Result (Option Ending) Refusal) (told new : List ℕ) → Adds w form a i first (Ok None) b j told → Adds w form b j later r c k new
    → Adds w form a i (first ++ later) r c k (told ++ new)
adds_on w form a b c i j k first later r told new s t = record {
  count = s.count + t.count;
  counted = λ fine. omega (arith, s.counted no_error, t.counted fine);
  on = λ is n more.
      let count : s.count + t.count + n ≡ s.count + (t.count + n) = omega arith in
      ap (λ (m : ℕ). life w form a i m ((first ++ later) ++ more)) count
      ∙ (ap (λ xs. life w form a i (s.count + (t.count + n)) xs) (append_assoc first later more)
      ∙ (s.on refl (t.count + n) (later ++ more) ∙ (ap (λ x. told ++ x) (t.on is n more) ∙ sym (append_assoc told new (life w form c k n more)))));
  ends = λ end is more.
      ap (λ xs. life w form a i (s.count + t.count) xs) (append_assoc first later more)
      ∙ (s.on refl t.count (later ++ more) ∙ (ap (λ x. told ++ x) (t.ends end is more) ∙ sym (append_assoc told new (more_text k))));
}

pub takes_none : (s : Explaining) (calls : List WriteCall) → ExplainsLines s calls [] (Ok None) s calls
takes_none s calls = record {
  asked = refl;
  steps = steps_none s.detector;
  ready = λ is h. h;
  text = [];
  adds = adds_none s.asked.word s.asked.form (content_of s.detector) s.more;
  due = λ fine first goal h. subst (λ x. IsDue first calls s.held.items [] x) (sym (append-nil goal)) h;
  front = λ x is. absurd (no_error x is);
  cause = λ x is. absurd (no_error x is);
  failures = omega arith;
}

-- a front of what the later lines make due is a front of what all lines make due
front_on : (a b : Explaining) (at_a at_b at_c : List WriteCall) (first later : List Reading) → (s : ExplainsLines a at_a first (Ok None) b at_b) → WroteLifeFront b at_b later at_c → WroteLifeFront a at_a (first ++ later) at_c
front_on a b at_a at_b at_c first later s t start goal due n more last end leads counted =
    let w = a.asked.word in
    let form = a.asked.form in
    let led = s.steps.back refl (later ++ more) last end (subst (λ xs. LeadsFrom a.detector xs last end) (append_assoc first later more) leads) in
    let le = events_grow (later ++ more) b.detector.sets (content_of b.detector) last end led in
    let m = last.events - (content_of b.detector).events in
    let count : n ≡ s.adds.count + m = omega (arith, le, counted, s.adds.counted no_error) in
    let rest : last.events ≡ (content_of b.detector).events + m = omega (arith, le) in
    let took = subst (λ (q : Asked). TookFront start at_c ((goal ++ s.text) ++ life q.word q.form (content_of b.detector) b.more m (later ++ more))) s.asked
    (t start (goal ++ s.text) (s.due no_error start goal due) m more last end led rest) in
    subst (λ x. TookFront start at_c x)
    (append_assoc goal s.text (life w form (content_of b.detector) b.more m (later ++ more))
    ∙ ap (λ x. goal ++ x) (sym (ap (λ xs. life w form (content_of a.detector) a.more n xs) (append_assoc first later more)
    ∙ (ap (λ (k : ℕ). life w form (content_of a.detector) a.more k (first ++ (later ++ more))) count ∙ s.adds.on refl m (later ++ more)))))
    took

-- the same is asked, so that the same is added
same_asked : (q p : Asked) (c d : Content) (k j : ℕ) (lines : List Reading) (r : Result (Option Ending) Refusal) (text : List ℕ) → q ≡ p → Adds q.word q.form c k lines r d j text → Adds p.word p.form c k lines r d j text
same_asked q p c d k j lines r text same h = record {
  count = h.count;
  counted = h.counted;
  on = λ is n later. subst (λ (x : Asked). life x.word x.form c k (h.count + n) (lines ++ later) ≡ text ++ life x.word x.form d j n later) same (h.on is n later);
  ends = λ end is later. subst (λ (x : Asked). life x.word x.form c k h.count (lines ++ later) ≡ text ++ more_text j) same (h.ends end is later);
}

pub takes_on : (a b c : Explaining) (at_a at_b at_c : List WriteCall) (first later : List Reading) (r : Result (Option Ending) Refusal)
    → ExplainsLines a at_a first (Ok None) b at_b → ExplainsLines b at_b later r c at_c → ExplainsLines a at_a (first ++ later) r c at_c
takes_on a b c at_a at_b at_c first later r s t =
    let added = same_asked b.asked a.asked (content_of b.detector) (content_of c.detector) b.more c.more later r t.text s.asked t.adds in
    record {
      asked = t.asked ∙ s.asked;
      steps = steps_on a.detector b.detector c.detector first later r s.steps t.steps;
      ready = λ is h. t.ready is (s.ready refl h);
      text = s.text ++ t.text;
      adds = adds_on a.asked.word a.asked.form (content_of a.detector) (content_of b.detector) (content_of c.detector) a.more b.more c.more first later r s.text t.text s.adds added;
      due = λ fine start goal h. subst (λ x. IsDue start at_c c.held.items [] x) (append_assoc goal s.text t.text) (t.due fine start (goal ++ s.text) (s.due no_error start goal h));
      front = λ x is. front_on a b at_a at_b at_c first later s (t.front x is);
      cause = λ x is. cause_on at_a at_b at_c x s.failures (t.cause x is);
      failures = omega (arith, s.failures, t.failures);
    }

pub takes_room : (a b : Explaining) (at_a at_b : List WriteCall) (first : List Reading) (n : ℕ) → MayTake a (length first + n) → ExplainsLines a at_a first (Ok None) b at_b → MayTake b n
takes_room a b at_a at_b first n may s = (s.ready refl may.0, omega (arith, may.1, s.steps.counted))

pub takes_fewer : (s : Explaining) (n more : ℕ) → MayTake s (n + more) → MayTake s n
takes_fewer s n more may = (may.0, omega (arith, may.1))
