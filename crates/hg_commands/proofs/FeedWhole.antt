-- What feeding a whole text leads to.
use Rattle.std.proofs.Common.{◌≡◌, ℕ, Bool, false, List, [], ◌++◌, length, Option, None, Some, Result, Ok, Err, IsTrue, refl, sym, ap, ◌∙◌, subst, inl, inr, ⊎_elim, arith}
use Rattle.std.proofs.lemmas.List.{append-nil, length-append}
use Rattle.hg_model.specs.declared.verdict.Refusal.{Refusal}
use Rattle.hg_model.specs.Contents.{Content}
use Rattle.hg_streams.specs.declared.call.ReadCall.{ReadCall}
use Rattle.hg_streams.specs.declared.call.WriteCall.{WriteCall}
use Rattle.hg_streams.specs.Calls.{MayBe, NoneRefused, failed_reads, given, failed_writes, refused_reads}
use Rattle.std.proofs.lemmas.Bool.{true≢false}
use Rattle.hg_store.specs.declared.devices.Devices.{Devices}
use Rattle.hg_streams.specs.Told.{told_refusal}
use Rattle.hg_sets.specs.Interning.{Table}
use Rattle.hg_disk.specs.declared.disk.Disk as disk
use Rattle.hg_wire.specs.declared.reader.Reading.{Reading}
use Rattle.hg_wire.specs.Streams.{ended_readings, readings}
use Rattle.hg_reading.specs.Taking.{AreDue, ReadBroke, Reads, Taking, WasRead}
use Rattle.hg_reading.specs.declared.ending.Ending.{Ending}
use Rattle.hg_reading.specs.declared.ending.Ending.TheVariants.{Ended}
use Rattle.hg_reading.specs.Endings.{ending_of}
use Rattle.hg_reading.proofs.Inputs.{begins_with}
use Rattle.hg_streams.proofs.Inputs.{failed_reads_on, none_refused, refused_reads_on}
use Rattle.hg_commands.specs.Feeding.{FeedsTo, LiesOnWay}
use Rattle.hg_commands.specs.FeedRunning.{FeedEndsBy, Feeds, HasFront, LeadsOn, LiesOnWayOfAny, Place, WentWell, content_at, table_at}
use Rattle.hg_commands.specs.Instants.{Instant}
use Rattle.hg_commands.specs.Keeping.{KeepsOn}
use Rattle.hg_commands.specs.FeedFaults.{FeedFails}
use Rattle.hg_commands.specs.Taking.{FeedsLines, IsFine, IsReadyAt}
use Rattle.hg_commands.proofs.Fronts.{feeds_grow, printed_grown}

no_error : (stop : Option Ending) → IsFine (Ok stop)
no_error stop x h = absurd (cc)

module _ {D : Type 0} (g : disk.Ghosts D) where
  -- from the first line of the source on
  from_start : (p : Place D) (lines : List Reading) (last : Content) (end : Ending) → p.fed.number ≡ 0 → LeadsOn g p lines last end → FeedsTo p.fed.source lines (table_at p) (content_at g p) 0 last end
  from_start p lines last end none h = subst (λ (n : ℕ). FeedsTo p.fed.source lines (table_at p) (content_at g p) n last end) none h

  at_start : (p : Place D) (lines : List Reading) (last : Content) (end : Ending) → p.fed.number ≡ 0 → FeedsTo p.fed.source lines (table_at p) (content_at g p) 0 last end → LeadsOn g p lines last end
  at_start p lines last end none h = subst (λ (n : ℕ). FeedsTo p.fed.source lines (table_at p) (content_at g p) n last end) (sym none) h

  passed_to : (p q : Place D) (early late : List (Instant D)) (lines : List Reading) → p.fed.number ≡ 0 → FeedsLines g p early lines (Ok None) q late → IsTrue g.is_honest
      → FeedsTo p.fed.source lines (table_at p) (content_at g p) 0 (content_at g q) Ended
  passed_to p q early late lines none t honest =
      from_start p lines (content_at g q) Ended none
      (subst (λ xs. LeadsOn g p xs (content_at g q) Ended) (append-nil lines) (t.leads refl honest [] (content_at g q) Ended (refl, refl)))

  ends_by : {S : Type 0} (takes : Taking S Ending) (p q : Place D) (early late : List (Instant D)) (reads : List ReadCall) (lines : List Reading) (stop : Option Ending) → p.fed.number ≡ 0 → FeedsLines g p early lines (Ok stop) q late
      → AreDue takes reads lines (Ok stop) → IsTrue g.is_honest → FeedEndsBy p.fed.source (table_at p) (content_at g p) reads (content_at g q) (ending_of stop)
  ends_by takes p q early late reads lines None none t due honest =
      ⊎_elim
      (λ met. inl (met.0, met.1, subst (λ xs. FeedsTo p.fed.source xs (table_at p) (content_at g p) 0 (content_at g q) Ended) met.2 (passed_to p q early late lines none t honest)))
      (λ stopped. absurd (stopped.0 refl))
      due
  ends_by takes p q early late reads lines (Some end) none t due honest =
      ⊎_elim
      (λ met. inl (
        met.0,
        met.1,
        subst (λ xs. FeedsTo p.fed.source xs (table_at p) (content_at g p) 0 (content_at g q) end) (append-nil lines ∙ met.2)
            (from_start p (lines ++ []) (content_at g q) end none (t.ends end refl honest [])),
      ))
      (λ stopped. inr (λ more. let rest = stopped.1 more in
      subst (λ xs. FeedsTo p.fed.source xs (table_at p) (content_at g p) 0 (content_at g q) end) (sym rest.1)
      (from_start p (lines ++ rest.0) (content_at g q) end none (t.ends end refl honest rest.0))))
      due

module _ {D S : Type 0} (g : disk.Ghosts D) (takes : Taking S Ending) (settled : S → Type 0) (at : S → List WriteCall → Place D) (moments : S → List (Instant D))
    (seen : (a b : S) (at_a at_b : List WriteCall) (lines : List Reading) (r : Result (Option Ending) Refusal) → takes a at_a lines r b at_b → FeedsLines g (at a at_a) (moments a) lines r (at b at_b) (moments b))
  where
    -- The feeding came to an end.
    pub feeds : (first now : List ReadCall) (s t : S) (o p : List WriteCall) (stop : Option Ending) → (at s o).fed.number ≡ 0 → WasRead takes settled first now s o (Ok stop) t p
        → Feeds g first now (at s o).fed.source (table_at (at s o)) (content_at g (at s o)) (content_at g (at t p)) (ending_of stop)
    feeds first now s t o p stop none w =
        let taken = seen s t o p w.lines (Ok stop) w.steps in
        let passed = seen s w.needed.now o w.needed.calls (ended_readings (given w.needed.earlier)) (Ok None) w.needed.passed in
        record {
          later = w.later;
          since = w.since;
          whole = w.intact;
          needed = record {
            last = w.needed.last;
            earlier = w.needed.earlier;
            newest = w.needed.newest;
            underway = w.needed.underway;
            passed = λ honest. (
              content_at g (at w.needed.now w.needed.calls),
              passed_to g (at s o) (at w.needed.now w.needed.calls) (moments s) (moments w.needed.now) (ended_readings (given w.needed.earlier)) none passed honest,
            );
          };
          leads = ends_by g takes (at s o) (at t p) (moments s) (moments t) w.later w.lines stop none taken w.due;
        }

    pub goes : (first now : List ReadCall) (s t : S) (o p : List WriteCall) (stop : Option Ending) → IsReadyAt (at s o) → WasRead takes settled first now s o (Ok stop) t p → WentWell g (at s o) (at t p)
    goes first now s t o p stop ready w = (seen s t o p w.lines (Ok stop) w.steps).goes (no_error stop) ready

    -- it was broken off
    front_read : (first now : List ReadCall) (s t : S) (o p : List WriteCall) (x : Refusal) → IsReadyAt (at s o) → (at s o).fed.number ≡ 0 → WasRead takes settled first now s o (Err x) t p
        → HasFront g first now (at s o).fed.source (table_at (at s o)) (content_at g (at s o)) (at s o) (at t p).output
    front_read first now s t o p x ready none w = record {
      later = w.later;
      since = w.since;
      front = λ honest input last end room m l.
          let rest = begins_with takes w.later w.lines (Err x) input w.due m in
          (seen s t o p w.lines (Err x) w.steps).front x refl ready honest rest.0 last end room
          (subst (λ xs. LeadsOn g (at s o) xs last end) rest.1 (at_start g (at s o) (readings input) last end none l));
    }

    front_broke : (first now : List ReadCall) (s t : S) (o p : List WriteCall) (x : Refusal) → IsReadyAt (at s o) → (at s o).fed.number ≡ 0 → ReadBroke takes settled first now s o x t p
        → HasFront g first now (at s o).fed.source (table_at (at s o)) (content_at g (at s o)) (at s o) (at t p).output
    front_broke first now s t o p x ready none w = record {
      later = w.later;
      since = w.since;
      front = λ honest input last end room m l begun text events printed.
          let taken = seen s t o p w.lines (Ok None) w.steps in
          let here = at t p in
          let rest = w.front m.more in
          let led = taken.back refl honest rest.0 last end room
          (subst (λ xs. LeadsOn g (at s o) xs last end) (ap readings m.joined ∙ rest.1) (at_start g (at s o) (readings input) last end none l)) in
          printed_grown g here last (feeds_grow here.fed.source rest.0 (table_at here) (content_at g here) here.fed.number last end led) begun text events
          ((taken.goes (no_error None) ready).printed honest begun text events printed);
    }

    pub front : (first now : List ReadCall) (s t : S) (o p : List WriteCall) (x : Refusal) → IsReadyAt (at s o) → (at s o).fed.number ≡ 0 → Reads takes settled first now s o (Err x) t p
        → HasFront g first now (at s o).fed.source (table_at (at s o)) (content_at g (at s o)) (at s o) (at t p).output
    front first now s t o p x ready none reads = ⊎_elim (λ w. front_read first now s t o p x ready none w) (λ w. front_broke first now s t o p x ready none w) reads

    -- Whatever the rest of the input is, the content lies on its way.
    way_of : (first now : List ReadCall) (s t : S) (o p : List WriteCall) (later : List ReadCall) (lines : List Reading) (r : Result (Option Ending) Refusal) → IsReadyAt (at s o) → (at s o).fed.number ≡ 0 → now ≡ later ++ first
        → takes s o lines r t p → ((input : List ℕ) → MayBe later input → (rest : List Reading) × (readings input ≡ lines ++ rest)) → IsTrue g.is_honest
        → LiesOnWayOfAny (at s o).fed.source (table_at (at s o)) (content_at g (at s o)) first now (content_at g (at t p))
    way_of first now s t o p later lines r ready none since steps begins honest = record {
      later = later;
      since = since;
      way = λ input last end room m l.
          let here = at s o in
          let rest = begins input m in
          subst (λ (xs : List Reading). LiesOnWay here.fed.source xs (table_at here) (content_at g here) 0 (content_at g (at t p)) last end) (sym rest.1)
          (subst (λ (n : ℕ). LiesOnWay here.fed.source (lines ++ rest.0) (table_at here) (content_at g here) n (content_at g (at t p)) last end) none
          ((seen s t o p lines r steps).way ready honest rest.0 last end room (subst (λ xs. LeadsOn g here xs last end) rest.1 (at_start g here (readings input) last end none l))));
    }

    way_read : (first now : List ReadCall) (s t : S) (o p : List WriteCall) (r : Result (Option Ending) Refusal) → IsReadyAt (at s o) → (at s o).fed.number ≡ 0 → WasRead takes settled first now s o r t p → IsTrue g.is_honest
        → LiesOnWayOfAny (at s o).fed.source (table_at (at s o)) (content_at g (at s o)) first now (content_at g (at t p))
    way_read first now s t o p r ready none w = way_of first now s t o p w.later w.lines r ready none w.since w.steps (λ input m. begins_with takes w.later w.lines r input w.due m)

    way_broke : (first now : List ReadCall) (s t : S) (o p : List WriteCall) (x : Refusal) → IsReadyAt (at s o) → (at s o).fed.number ≡ 0 → ReadBroke takes settled first now s o x t p → IsTrue g.is_honest
        → LiesOnWayOfAny (at s o).fed.source (table_at (at s o)) (content_at g (at s o)) first now (content_at g (at t p))
    way_broke first now s t o p x ready none w =
        way_of first now s t o p w.later w.lines (Ok None) ready none w.since w.steps (λ input m. let rest = w.front m.more in (rest.0, ap readings m.joined ∙ rest.1))

    pub way : (first now : List ReadCall) (s t : S) (o p : List WriteCall) (r : Result (Option Ending) Refusal) → IsReadyAt (at s o) → (at s o).fed.number ≡ 0 → Reads takes settled first now s o r t p → IsTrue g.is_honest
        → LiesOnWayOfAny (at s o).fed.source (table_at (at s o)) (content_at g (at s o)) first now (content_at g (at t p))
    way first now s t o p (Ok stop) ready none w = way_read first now s t o p (Ok stop) ready none w
    way first now s t o p (Err x) ready none reads = ⊎_elim (λ w. way_read first now s t o p (Err x) ready none w) (λ w. way_broke first now s t o p x ready none w) reads

    fails_read : (first now : List ReadCall) (s t : S) (o p : List WriteCall) (x : Refusal) → WasRead takes settled first now s o (Err x) t p
        → FeedFails g false (at s o).store.devices (at t p).store.devices first now (at s o).output (at t p).output x
    fails_read first now s t o p x w =
        let taken = seen s t o p w.lines (Err x) w.steps in
        record {
          is = inl (taken.cause x refl);
          failed = inl (omega (arith, taken.failures, w.intact, ap failed_reads w.since, failed_reads_on w.later first));
          memory = inr (none_refused first now w.later w.since w.intact);
        }

    fails_broke : (first now : List ReadCall) (s t : S) (o p : List WriteCall) (x : Refusal) → ReadBroke takes settled first now s o x t p
        → FeedFails g false (at s o).store.devices (at t p).store.devices first now (at s o).output (at t p).output x
    fails_broke first now s t o p x w =
        let taken = seen s t o p w.lines (Ok None) w.steps in
        ⊎_elim
        (λ memory. record {
          is = inl (inl (inl memory.0));
          failed = inl (omega (arith, taken.failures, ap told_refusal memory.0, ap failed_reads w.since, failed_reads_on w.later first, memory.1.0));
          memory = inl memory.0;
        })
        (λ device. record {
          is = inl (inl (inr device.0));
          failed = ⊎_elim
              (λ one. inl (omega (arith, taken.failures, ap told_refusal device.0, ap failed_reads w.since, failed_reads_on w.later first, one)))
              (λ many. inr (device.0, omega (arith, many, ap length w.since, length-append w.later first)))
              device.1.1;
          memory = inr (omega (arith, device.1.0, ap refused_reads w.since, refused_reads_on w.later first));
        })
        w.cause

    pub fails : (first now : List ReadCall) (s t : S) (o p : List WriteCall) (x : Refusal) → Reads takes settled first now s o (Err x) t p
        → FeedFails g false (at s o).store.devices (at t p).store.devices first now (at s o).output (at t p).output x
    fails first now s t o p x reads = ⊎_elim (λ w. fails_read first now s t o p x w) (λ w. fails_broke first now s t o p x w) reads

    pub kept : (first now : List ReadCall) (s t : S) (o p : List WriteCall) (r : Result (Option Ending) Refusal) → Reads takes settled first now s o r t p
        → KeepsOn g (at s o).store (at s o).output (moments s) (at t p).store (at t p).output (moments t)
    kept first now s t o p (Ok stop) w = (seen s t o p w.lines (Ok stop) w.steps).kept
    kept first now s t o p (Err x) reads = ⊎_elim (λ w. (seen s t o p w.lines (Err x) w.steps).kept) (λ w. (seen s t o p w.lines (Ok None) w.steps).kept) reads

-- reading broke a feeding off that had written a line before
pub fails_behind : {D : Type 0} (g : disk.Ghosts D) (asked : Bool) (old new : Devices D) (first now : List ReadCall) (o p q : List WriteCall) (r : Refusal) → failed_writes p ≡ failed_writes o
    → FeedFails g false old new first now p q r → FeedFails g asked old new first now o q r
fails_behind g asked old new first now o p q r same f = record {
  is = ⊎_elim (λ fault. inl fault) (λ due. absurd (true≢false (sym due.0))) f.is;
  failed = ⊎_elim (λ one. inl (omega (arith, one, same))) (λ many. inr many) f.failed;
  memory = f.memory;
}

-- no read of an input failed that was fed
pub reads_intact : {D : Type 0} (g : disk.Ghosts D) (first now : List ReadCall) (source : ℕ) (table : Table) (start last : Content) (end : Ending) → Feeds g first now source table start last end → failed_reads now ≡ failed_reads first
reads_intact g first now source table start last end f = ap failed_reads f.since ∙ omega (arith, failed_reads_on f.later first, f.whole)

-- nor was one refused memory
pub reads_served : {D : Type 0} (g : disk.Ghosts D) (first now : List ReadCall) (source : ℕ) (table : Table) (start last : Content) (end : Ending) → Feeds g first now source table start last end → NoneRefused first now
reads_served g first now source table start last end f = none_refused first now f.later f.since f.whole
