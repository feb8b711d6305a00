-- What lines lead to where one detector accepts them.
use Rattle.std.proofs.Common.{◌≡◌, ℕ, suc, ◌+◌, List, [], ◌∷◌, ◌++◌, length, take, map, slice_get, Option, Some, None, Result, Ok, Err, refl, sym, ap, ◌∙◌, subst, inl, inr, ⊎_elim, arith}
use Rattle.std.proofs.lemmas.List.{append-nil, map-append}
use Rattle.hg_model.specs.declared.event.Event.{Event}
use Rattle.hg_model.specs.declared.event.Named.{Named}
use Rattle.hg_model.specs.declared.verdict.Refusal.{Refusal}
use Rattle.hg_model.specs.declared.verdict.Verdict.{Verdict}
use Rattle.hg_model.specs.declared.verdict.Verdict.TheVariants.{Accept}
use Rattle.hg_model.specs.Contents.{Content}
use Rattle.hg_model.specs.Change.{after}
use Rattle.hg_model.specs.Verdicts.{standing_of}
use Rattle.hg_sets.specs.Interning.{Table}
use Rattle.hg_detect.specs.Making.{sets_asked}
use Rattle.hg_detect.proofs.Asking.{asks_not_both, asks_same}
use Rattle.hg_wire.specs.declared.line.LineFault.{LineFault}
use Rattle.hg_wire.specs.declared.reader.Reading.{Reading}
use Rattle.hg_reading.specs.declared.ending.Ending.{Ending}
use Rattle.hg_reading.specs.declared.ending.Ending.TheVariants.{Bad, Refused}
use Rattle.hg_shards.specs.declared.judge.Judge.{Judge}
use Rattle.hg_shards.specs.declared.shards.Cause.{Cause}
use Rattle.hg_shards.specs.declared.shards.Cause.TheVariants as causes
use Rattle.hg_shards.specs.declared.shards.Stop.{Stop}
use Rattle.hg_shards.specs.Following.{named}
use Rattle.hg_shards.specs.Judging.{Accepts, HasReports, LeadsBy, StopsAt, StopsFor}
use Rattle.hg_check.specs.Checking.{Answered, IsRead, LeadsTo, next_named}
use Rattle.hg_check.proofs.Steps.{never_duplicate}
use Rattle.hg_parts.specs.declared.line.EventLine.{EventLine}
use Rattle.hg_parts.proofs.Numbers.{behind}
use Rattle.hg_parts.specs.GoingLaws.{counts_on, events_at}
use Rattle.hg_parts.specs.Going.{At, Goes, Passes, PassesOne, Stops}

-- ---- what follows lines that are accepted

leads_one : (event : Result Event LineFault) (line : ℕ) (c : Content) (t : Table) (some : Content → Table → Type 0) (later : Table → Content → Type 0) (last : Content) (end : Ending)
    → ((d : Content) (u : Table) → some d u → later u d) → PassesOne event c t some → IsRead event t c line later last end
leads_one (Err fault) line c t some later last end on h = absurd h
leads_one (Ok e) line c t some later last end on h =
    subst (λ (v : Verdict). Answered v t c e line later last end) (sym h.0) (h.1, inl (h.2, on (after c (next_named c e)) h.1 h.3))

-- what follows them leads on
pub leads_behind : (first later : List Reading) (c d last : Content) (t u : Table) (end : Ending) → Passes first c t d u → LeadsTo later u d last end → LeadsTo (first ++ later) t c last end
leads_behind [] later c d last t u end h k = subst (λ (e : Content). LeadsTo later t e last end) h.0 (subst (λ (v : Table). LeadsTo later v d last end) h.1 k)
leads_behind (r ∷ first) later c d last t u end h k =
    leads_one r.event r.line c t (λ e v. Passes first e v d u) (λ v e. LeadsTo (first ++ later) v e last end) last end (λ e v g. leads_behind first later e d last v u end g k) h

back_one : (event : Result Event LineFault) (line : ℕ) (c : Content) (t : Table) (some : Content → Table → Type 0) (later : Table → Content → Type 0) (last : Content) (end : Ending) (P : Type 0)
    → ((d : Content) (u : Table) → some d u → later u d → P) → PassesOne event c t some → IsRead event t c line later last end → P
back_one (Err fault) line c t some later last end P on h k = absurd h
back_one (Ok e) line c t some later last end P on h k =
    let given : Answered Accept t c e line later last end = subst (λ (v : Verdict). Answered v t c e line later last end) h.0 k in
    ⊎_elim
    (λ went. on (after c (next_named c e)) h.1 h.3 (subst (λ (u : Table). later u (after c (next_named c e))) (asks_same (sets_asked c e) t given.0 h.1 went.0 h.2) went.1))
    (λ full. absurd (asks_not_both (sets_asked c e) t h.1 given.0 h.2 full.0))
    given.1

-- what all of them lead to is what is led to from behind them
pub leads_from_behind : (first later : List Reading) (c d last : Content) (t u : Table) (end : Ending) → Passes first c t d u → LeadsTo (first ++ later) t c last end → LeadsTo later u d last end
leads_from_behind [] later c d last t u end h k = subst (λ (e : Content). LeadsTo later u e last end) (sym h.0) (subst (λ (v : Table). LeadsTo later v c last end) (sym h.1) k)
leads_from_behind (r ∷ first) later c d last t u end h k =
    back_one r.event r.line c t (λ e v. Passes first e v d u) (λ v e. LeadsTo (first ++ later) v e last end) last end (LeadsTo later u d last end) (λ e v g l. leads_from_behind first later e d last v u end g l) h k

-- ---- a batch of events, offered to a judge

abbrev pub batch_of : Content → List EventLine → List Named
batch_of c xs = named 0 (c.last 0 + 1) (map (λ l. l.event) xs)

pub passes_by : (n : ℕ) (xs : List EventLine) (c last : Content) (t filled : Table) → Accepts (batch_of c xs) c t last filled → Passes (map (behind n) xs) c t last filled
passes_by n [] c last t filled h = h
passes_by n (x ∷ xs) c last t filled h = (h.0, h.1, h.2, passes_by n xs (after c (next_named c x.event)) last h.1 filled h.3)

-- the events in front of a place
pub take_batch : (first : ℕ) (front rest : List EventLine) → take (length front) (named 0 first (map (λ l. l.event) (front ++ rest))) ≡ named 0 first (map (λ l. l.event) front)
take_batch first [] rest = refl
take_batch first (x ∷ front) rest = ap (λ (ns : List Named). record { source = 0; number = first; event = x.event } ∷ ns) (take_batch (first + 1) front rest)

-- the event at a place
pub batch_at : (first : ℕ) (front rest : List EventLine) (x : EventLine) → slice_get (named 0 first (map (λ l. l.event) (front ++ x ∷ rest))) (length front) ≡ Some (record { source = 0; number = first + length front; event = x.event })
batch_at first [] rest x = let none : first ≡ first + 0 = omega arith in ap (λ (k : ℕ). Some (record { source = 0; number = k; event = x.event })) none
batch_at first (y ∷ front) rest x =
    let place : first + 1 + length front ≡ first + suc (length front) = omega arith in
    batch_at (first + 1) front rest x ∙ ap (λ (k : ℕ). Some (record { source = 0; number = k; event = x.event })) place

-- a line whose event is not accepted ends the run
pub stops_by : (line : ℕ) (e : Event) (rest : List Reading) (c : Content) (t : Table) (r : Refusal) → StopsFor c t (next_named c e) (causes.Refused r) → Stops (record { line = line; event = Ok e } ∷ rest) c t (Refused line r)
stops_by line e rest c t r h later =
    ⊎_elim
    (λ refused. subst (λ (v : Verdict). Answered v t c e line (λ u d. LeadsTo (rest ++ later) u d c (Refused line r)) c (Refused line r)) (sym refused) (refl, refl))
    (λ full. subst (λ (v : Verdict). Answered v t c e line (λ u d. LeadsTo (rest ++ later) u d c (Refused line r)) c (Refused line r)) (sym full.1.0)
    (full.1.1, inr (full.1.2, (refl, ap (λ (x : Refusal). Refused line x) full.0))))
    h

pub never_again : (c : Content) (t : Table) (e : Event) (k : ℕ) → StopsFor c t (next_named c e) (causes.Duplicate k) → ⊥
never_again c t e k h = never_duplicate (standing_of c) (next_named c e) k refl h

-- a bad line ends it too
pub stops_bad : (line : ℕ) (fault : LineFault) (rest : List Reading) (c : Content) (t : Table) → Stops (record { line = line; event = Err fault } ∷ rest) c t (Bad line)
stops_bad line fault rest c t later = (refl, refl)

-- ---- what a judge comes to

event_is : {x y : Named} → ◌≡◌ {A = Option Named} (Some x) (Some y) → x ≡ y
event_is h = cc

-- all events were accepted
pub goes_all : (n : ℕ) (xs : List EventLine) (c : Content) (t : Table) (old new : Judge) → At c t old → LeadsBy c t (batch_of c xs) None new → Goes c t (map (behind n) xs) (Ok None) [] new
goes_all n xs c t old new at h =
    let passes = passes_by n xs c h.last t h.filled h.accepts in
    let counts = counts_on (map (behind n) xs) c h.last t h.filled passes in
    record {
      judged = map (behind n) xs;
      left = [];
      last = h.last;
      filled = h.filled;
      joined = sym (append-nil (map (behind n) xs));
      passes = passes;
      comes = (refl, record { is_at = h.is_at; counted = omega (arith, counts.0, counts.1, at.counted) });
    }

-- The stop of a batch at a line: why one detector does not accept the line's event.
pub record StopsAtLine (c : Content) (t : Table) (front : List EventLine) (x : EventLine) (cause : Cause) (new : Judge) : Type 0 where
  pub last : Content
  pub filled : Table
  pub accepts : Accepts (batch_of c front) c t last filled
  pub stops : StopsFor last filled (next_named last x.event) cause
  pub reports : HasReports last new

pub stops_at_line : (c : Content) (t : Table) (front rest : List EventLine) (x : EventLine) (stop : Stop) (new : Judge) → length front ≡ stop.place → StopsAt c t (batch_of c (front ++ x ∷ rest)) stop new
    → StopsAtLine c t front x stop.cause new
stops_at_line c t front rest x stop new place h =
    let accepts : Accepts (batch_of c front) c t h.last h.filled =
    subst (λ (ns : List Named). Accepts ns c t h.last h.filled) (ap (λ (k : ℕ). take k (batch_of c (front ++ x ∷ rest))) (sym place) ∙ take_batch (c.last 0 + 1) front (x ∷ rest)) h.accepts in
    let counts = counts_on (map (behind 0) front) c h.last t h.filled (passes_by 0 front c h.last t h.filled accepts) in
    let number : c.last 0 + 1 + length front ≡ h.last.last 0 + 1 = (let many = length_map_behind front in omega (arith, counts.0, many)) in
    let next : h.next ≡ next_named h.last x.event =
    event_is (sym h.is_there ∙ ap (λ (k : ℕ). slice_get (batch_of c (front ++ x ∷ rest)) k) (sym place) ∙ batch_at (c.last 0 + 1) front rest x) ∙ ap (λ (k : ℕ). record { source = 0; number = k; event = x.event }) number in
    record {
      last = h.last;
      filled = h.filled;
      accepts = accepts;
      stops = subst (λ (m : Named). StopsFor h.last h.filled m stop.cause) next h.stops;
      reports = h.reports;
    }
  where
    length_map_behind : (xs : List EventLine) → length (map (behind 0) xs) ≡ length xs
    length_map_behind [] = refl
    length_map_behind (y ∷ xs) = let same = length_map_behind xs in omega (arith, same)

-- the event of a line was refused
pub goes_stop : (n : ℕ) (front rest : List EventLine) (x : EventLine) (c : Content) (t : Table) (cause : Cause) (r : Refusal) (new : Judge) → StopsAtLine c t front x cause new → cause ≡ causes.Refused r
    → Goes c t (map (behind n) (front ++ x ∷ rest)) (Ok (Some (Refused (n + x.line) r))) [] new
goes_stop n front rest x c t cause r new h is = record {
  judged = map (behind n) front;
  left = behind n x ∷ map (behind n) rest;
  last = h.last;
  filled = h.filled;
  joined = map-append (behind n) front (x ∷ rest);
  passes = passes_by n front c h.last t h.filled h.accepts;
  comes = (stops_by (n + x.line) x.event (map (behind n) rest) h.last h.filled r (subst (λ (y : Cause). StopsFor h.last h.filled (next_named h.last x.event) y) is h.stops), h.reports);
}

-- ---- from the state of a judge

pub first_at : (c : Content) (t : Table) (j : Judge) (first : ℕ) → At c t j → first ≡ j.events + 1 → first ≡ c.last 0 + 1
first_at c t j first at is = let same = events_at c t j at in omega (arith, is, same)
