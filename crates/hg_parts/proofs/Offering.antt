-- A batch that is offered to a judge.
use Rattle.std.proofs.Common.{◌≡◌, ℕ, ◌+◌, ◌<◌, ◌≤◌, ◌^◌, List, [], ◌∷◌, ◌++◌, length, map, Option, Some, None, Ok, refl, sym, ap, ◌∙◌, subst, arith}
use Rattle.std.proofs.lemmas.List.{length-map}
use Rattle.std.proofs.lemmas.Option.{slice_get_within}
use Rattle.hg_model.specs.declared.event.Event.{Event}
use Rattle.hg_model.specs.declared.verdict.Refusal.{Refusal}
use Rattle.hg_model.specs.Contents.{Content}
use Rattle.hg_sets.specs.Interning.{Table}
use Rattle.hg_wire.specs.declared.reader.Reading.{Reading}
use Rattle.hg_wire.specs.Streams.{numbered_on}
use Rattle.hg_reading.specs.declared.ending.Ending.{Ending}
use Rattle.hg_reading.specs.declared.ending.Ending.TheVariants.{Refused}
use Rattle.hg_shards.specs.declared.judge.Judge.{Judge}
use Rattle.hg_shards.specs.declared.routes.Routes.{Routes}
use Rattle.hg_shards.specs.declared.shards.Cause.{Cause}
use Rattle.hg_shards.specs.declared.shards.Cause.TheVariants as causes
use Rattle.hg_shards.specs.declared.shards.Stop.{Stop}
use Rattle.hg_shards.specs.Following.{named}
use Rattle.hg_shards.specs.Judging.{Judges, JudgesRoutes, LeadsBy, StopsAt, StopsFor}
use Rattle.hg_shards.specs.Pushing.{IsRouted}
use Rattle.hg_parts.specs.declared.line.EventLine.{EventLine}
use Rattle.hg_parts.specs.declared.runs.Run.{Run}
use Rattle.hg_parts.specs.Batches.{AreNumbered, events_in, readings_in}
use Rattle.hg_parts.specs.Going.{At, Goes, GoesFrom, IsSomewhere}
use Rattle.hg_parts.specs.Numbers.{number_at}
use Rattle.hg_check.specs.Checking.{next_named}
use Rattle.hg_parts.specs.Stopping.{TellsCause}
use Rattle.hg_parts.proofs.Going.{StopsAtLine, batch_of, first_at, goes_all, goes_stop, never_again, stops_at_line}
use Rattle.hg_parts.proofs.Numbers.{IsLineAt, behind, events_oldest, length_oldest, line_at_place, oldest, readings_oldest}

-- what one detector comes to from a content and a table where the judge stands
pub batch_leads : (old new : Judge) (routes : Routes) (lines : List EventLine) (stop : Option Stop) (first : ℕ) → JudgesRoutes old 0 first routes stop new → IsRouted (events_in lines) routes → first ≡ old.events + 1
    → old.events + length lines < 2 ^ 63 → (c : Content) (t : Table) → At c t old → LeadsBy c t (batch_of c (oldest lines)) stop new
batch_leads old new routes lines stop first judges routed is few c t at =
    let many : length (map (λ (l : EventLine). l.event) (oldest lines)) ≡ length lines = length-map (oldest lines) (λ l. l.event) ∙ length_oldest lines in
    let fits : first + length (map (λ (l : EventLine). l.event) (oldest lines)) ≤ 2 ^ 64 = omega (arith, is, few, many) in
    subst (λ (n : ℕ). LeadsBy c t (named 0 n (map (λ l. l.event) (oldest lines))) stop new) (first_at c t old first at is)
    (judges (map (λ l. l.event) (oldest lines)) (subst (λ (es : List Event). IsRouted es routes) (events_oldest lines) routed) fits c t at.is_at)

-- all lines were passed
pub batch_passed : (old new : Judge) (routes : Routes) (lines : List EventLine) (n first : ℕ) → JudgesRoutes old 0 first routes None new → IsRouted (events_in lines) routes → first ≡ old.events + 1
    → old.events + length lines < 2 ^ 63 → GoesFrom old (map (numbered_on n) (readings_in lines)) (Ok None) [] new
batch_passed old new routes lines n first judges routed is few c t at =
    subst (λ (rs : List Reading). Goes c t rs (Ok None) [] new) (sym (readings_oldest n lines)) (goes_all n (oldest lines) c t old new at (batch_leads old new routes lines None first judges routed is few c t at))

-- ---- a stop

length_named : (source first : ℕ) (events : List Event) → length (named source first events) ≡ length events
length_named source first [] = refl
length_named source first (e ∷ events) = let same = length_named source (first + 1) events in omega (arith, same)

pub stop_within : (old new : Judge) (routes : Routes) (lines : List EventLine) (stop : Stop) (first : ℕ) → JudgesRoutes old 0 first routes (Some stop) new → IsRouted (events_in lines) routes → first ≡ old.events + 1
    → old.events + length lines < 2 ^ 63 → IsSomewhere old → stop.place < length lines
stop_within old new routes lines stop first judges routed is few somewhere =
    let h = batch_leads old new routes lines (Some stop) first judges routed is few somewhere.0 somewhere.1 somewhere.2 in
    let lt = slice_get_within (batch_of somewhere.0 (oldest lines)) stop.place h.next h.is_there in
    let many = length_named 0 (somewhere.0.last 0 + 1) (map (λ (l : EventLine). l.event) (oldest lines)) ∙ length-map (oldest lines) (λ l. l.event) ∙ length_oldest lines in
    omega (arith, lt, many)

-- the stop, by the line at its place
pub stop_at : (old new : Judge) (routes : Routes) (lines : List EventLine) (stop : Stop) (first : ℕ) (runs : List Run) (greatest : ℕ) → JudgesRoutes old 0 first routes (Some stop) new → IsRouted (events_in lines) routes → first ≡ old.events + 1
    → old.events + length lines < 2 ^ 63 → (at_line : IsLineAt runs greatest stop.place lines) → (c : Content) (t : Table) → At c t old → StopsAt c t (batch_of c (at_line.front ++ at_line.line ∷ at_line.later)) stop new
stop_at old new routes lines stop first runs greatest judges routed is few at_line c t at =
    subst (λ (xs : List EventLine). StopsAt c t (batch_of c xs) stop new) at_line.joined (batch_leads old new routes lines (Some stop) first judges routed is few c t at)

pub stop_no_duplicate : (old new : Judge) (routes : Routes) (lines : List EventLine) (stop : Stop) (first : ℕ) (runs : List Run) (greatest : ℕ) → JudgesRoutes old 0 first routes (Some stop) new → IsRouted (events_in lines) routes → first ≡ old.events + 1
    → old.events + length lines < 2 ^ 63 → AreNumbered runs greatest lines → IsSomewhere old → (k : ℕ) → stop.cause ≡ causes.Duplicate k → ⊥
stop_no_duplicate old new routes lines stop first runs greatest judges routed is few numbered somewhere k cause =
    let at_line = line_at_place runs greatest stop.place lines (stop_within old new routes lines stop first judges routed is few somewhere) numbered in
    let h = stops_at_line somewhere.0 somewhere.1 at_line.front at_line.later at_line.line stop new at_line.count (stop_at old new routes lines stop first runs greatest judges routed is few at_line somewhere.0 somewhere.1 somewhere.2) in
    never_again h.last h.filled at_line.line.event k (subst (λ (x : Cause). StopsFor h.last h.filled (next_named h.last at_line.line.event) x) cause h.stops)

refused_or : (cause : Cause) → ((k : ℕ) → cause ≡ causes.Duplicate k → ⊥) → (r : Refusal) × (cause ≡ causes.Refused r)
refused_or (causes.Duplicate k) never = absurd (never k refl)
refused_or (causes.Refused r) never = (r, refl)

pub batch_stopped : (old new : Judge) (routes : Routes) (lines : List EventLine) (stop : Stop) (n first : ℕ) (runs : List Run) (greatest : ℕ) (end : Ending) → JudgesRoutes old 0 first routes (Some stop) new → IsRouted (events_in lines) routes
    → first ≡ old.events + 1 → old.events + length lines < 2 ^ 63 → AreNumbered runs greatest lines → IsSomewhere old → TellsCause (n + number_at runs stop.place) stop.cause end
    → GoesFrom old (map (numbered_on n) (readings_in lines)) (Ok (Some end)) [] new
batch_stopped old new routes lines stop n first runs greatest end judges routed is few numbered somewhere tells c t at =
    let at_line = line_at_place runs greatest stop.place lines (stop_within old new routes lines stop first judges routed is few somewhere) numbered in
    let h = stops_at_line c t at_line.front at_line.later at_line.line stop new at_line.count (stop_at old new routes lines stop first runs greatest judges routed is few at_line c t at) in
    let refused = refused_or stop.cause (stop_no_duplicate old new routes lines stop first runs greatest judges routed is few numbered somewhere) in
    let ending : Refused (n + at_line.line.line) refused.0 ≡ end = ap (λ (k : ℕ). Refused (n + k) refused.0) (sym at_line.number) ∙ sym (tells refused.0 refused.1) in
    subst (λ (rs : List Reading). Goes c t rs (Ok (Some end)) [] new) (sym (readings_oldest n lines ∙ ap (λ xs. map (behind n) xs) at_line.joined))
    (subst (λ (e : Ending). Goes c t (map (behind n) (at_line.front ++ at_line.line ∷ at_line.later)) (Ok (Some e)) [] new) ending
    (goes_stop n at_line.front at_line.later at_line.line c t stop.cause refused.0 new h refused.1))

-- ---- one event

pub line_leads : (old new : Judge) (e : Event) (stop : Option Stop) (number : ℕ) → Judges old (record { source = 0; number = number; event = e } ∷ []) stop new → number ≡ old.events + 1
    → (line : ℕ) (c : Content) (t : Table) → At c t old → LeadsBy c t (batch_of c (record { line = line; event = e } ∷ [])) stop new
line_leads old new e stop number judges is line c t at =
    subst (λ (n : ℕ). LeadsBy c t (record { source = 0; number = n; event = e } ∷ []) stop new) (first_at c t old number at is) (judges c t at.is_at)

reading_here : (line : ℕ) (e : Event) → map (behind 0) (record { line = line; event = e } ∷ []) ≡ record { line = line; event = Ok e } ∷ []
reading_here line e = let same : 0 + line ≡ line = omega arith in ap (λ (n : ℕ). record { line = n; event = Ok e } ∷ []) same

pub line_passed : (old new : Judge) (e : Event) (line number : ℕ) → Judges old (record { source = 0; number = number; event = e } ∷ []) None new → number ≡ old.events + 1
    → GoesFrom old (record { line = line; event = Ok e } ∷ []) (Ok None) [] new
line_passed old new e line number judges is c t at =
    subst (λ (rs : List Reading). Goes c t rs (Ok None) [] new) (reading_here line e)
    (goes_all 0 (record { line = line; event = e } ∷ []) c t old new at (line_leads old new e None number judges is line c t at))

at_first : (n : ℕ) → n < 1 → 0 ≡ n
at_first n lt = omega (arith, lt)

line_stop : (old new : Judge) (e : Event) (line number : ℕ) (stop : Stop) → Judges old (record { source = 0; number = number; event = e } ∷ []) (Some stop) new → number ≡ old.events + 1
    → (c : Content) (t : Table) → At c t old → StopsAtLine c t [] (record { line = line; event = e }) stop.cause new
line_stop old new e line number stop judges is c t at =
    let h = line_leads old new e (Some stop) number judges is line c t at in
    stops_at_line c t [] [] (record { line = line; event = e }) stop new (at_first stop.place (slice_get_within (batch_of c (record { line = line; event = e } ∷ [])) stop.place h.next h.is_there)) h

pub line_no_duplicate : (old new : Judge) (e : Event) (line number : ℕ) (stop : Stop) → Judges old (record { source = 0; number = number; event = e } ∷ []) (Some stop) new → number ≡ old.events + 1 → IsSomewhere old
    → (k : ℕ) → stop.cause ≡ causes.Duplicate k → ⊥
line_no_duplicate old new e line number stop judges is somewhere k cause =
    let h = line_stop old new e line number stop judges is somewhere.0 somewhere.1 somewhere.2 in
    never_again h.last h.filled e k (subst (λ (x : Cause). StopsFor h.last h.filled (next_named h.last e) x) cause h.stops)

pub line_stopped : (old new : Judge) (e : Event) (line number : ℕ) (stop : Stop) (end : Ending) → Judges old (record { source = 0; number = number; event = e } ∷ []) (Some stop) new → number ≡ old.events + 1 → IsSomewhere old → TellsCause line stop.cause end
    → GoesFrom old (record { line = line; event = Ok e } ∷ []) (Ok (Some end)) [] new
line_stopped old new e line number stop end judges is somewhere tells c t at =
    let h = line_stop old new e line number stop judges is c t at in
    let refused = refused_or stop.cause (line_no_duplicate old new e line number stop judges is somewhere) in
    let same : 0 + line ≡ line = omega arith in
    subst (λ (x : Ending). Goes c t (record { line = line; event = Ok e } ∷ []) (Ok (Some x)) [] new) (ap (λ (n : ℕ). Refused n refused.0) same ∙ sym (tells refused.0 refused.1))
    (subst (λ (rs : List Reading). Goes c t rs (Ok (Some (Refused (0 + line) refused.0))) [] new) (reading_here line e)
    (goes_stop 0 [] [] (record { line = line; event = e }) c t stop.cause refused.0 new h refused.1))
