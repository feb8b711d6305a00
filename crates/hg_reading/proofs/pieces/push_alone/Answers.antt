use Rattle.std.proofs.Common.{◌≡◌, ℕ, ◌-◌, List, [], ◌∷◌, ◌∙◌, Ok, Err, Some, None, length, take, drop, sym, subst, arith}
use Rattle.std.proofs.lemmas.List.{length-drop, take_all}
use Rattle.hg_model.specs.Holding.{hold_event}
use Rattle.hg_wire.specs.Accesses.{event_of}
use Rattle.hg_wire.specs.Streams.{GivesReading}
use Rattle.hg_reading.specs.Taking.{Passes, Pushes}
use Rattle.hg_reading.proofs.Passing.{passes_on, room_for_one, stops_in}
use Rattle.hg_reading.proofs.pieces.push_alone.Goals as goal

rest_is : (k : ℕ) (rest : List ℕ) → take (length rest - k) (drop k rest) ≡ drop k rest
rest_is k rest = take_all (length rest - k) (drop k rest) (omega (arith, length-drop k rest))

pub offer_access-requires : goal.offer_access-requires
offer_access-requires g c = record {
  room = room_for_one g.S.Sink.takes g.S.Sink.may_take g.met.S.Sink.room g.met.S.Sink.fewer c.args.reader.now c.loop-found.reader c.take_access.new.self c.args.sink.now c.loop-found.sink
      c.args.output.now.calls c.loop-found.output.calls c.args.piece.now c.loop-found.rest.now _ c.in-Some.found.used c.loop-found.invariant c.in-Some.ensures.access c.requires.room;
}

pub offer_hold-requires : goal.offer_hold-requires
offer_hold-requires g c =
    let gives = subst (λ q. GivesReading q c.take_hold.new.self c.loop-found.rest.now (record { line = c.take_hold.new.self.lines; event = Ok (hold_event c.in-Some-take_hold.held.hold) }) c.in-Some-take_hold.held.used) c.in_default.ensures.none c.in-Some-take_hold.ensures.hold in record {
      room = room_for_one g.S.Sink.takes g.S.Sink.may_take g.met.S.Sink.room g.met.S.Sink.fewer c.args.reader.now c.loop-found.reader c.take_hold.new.self c.args.sink.now c.loop-found.sink
          c.args.output.now.calls c.loop-found.output.calls c.args.piece.now c.loop-found.rest.now _ c.in-Some-take_hold.held.used c.loop-found.invariant gives c.requires.room;
    }

pub offer-requires : goal.offer-requires
offer-requires g c =
    let gives = subst (λ q. GivesReading q c.take.new.self c.loop-found.rest.now c.in-Line.reading c.in-Line.used) (c.in_default-take_hold.ensures.none ∙ c.in_default.ensures.none) c.in-Line.ensures in record {
      room = room_for_one g.S.Sink.takes g.S.Sink.may_take g.met.S.Sink.room g.met.S.Sink.fewer c.args.reader.now c.loop-found.reader c.take.new.self c.args.sink.now c.loop-found.sink
          c.args.output.now.calls c.loop-found.output.calls c.args.piece.now c.loop-found.rest.now c.in-Line.reading c.in-Line.used c.loop-found.invariant gives c.requires.room;
    }

pub returns-in_err-end-clause-pushes : goal.returns-in_err-end-clause-pushes
returns-in_err-end-clause-pushes g c =
    let r = c.in_err-end.field-0.0 in
    let same : c.from_residual.result ≡ Err r = grind arith in
    let step = subst (λ (n : ℕ). g.S.Sink.takes c.loop-found.sink c.loop-found.output.calls (record { line = n; event = Ok (event_of c.in-Some.found) } ∷ []) (Err r) c.offer_access.new.self c.offer_access.new.output.calls) c.lines.ensures
    c.in_err-end.ensures.takes in
    subst (λ x. Pushes g.S.Sink.takes c.args.reader.now c.args.sink.now c.args.output.now.calls c.args.piece.now x c.take_access.new.self c.offer_access.new.self c.offer_access.new.output.calls) (sym same)
    (stops_in g.S.Sink.takes c.args.reader.now c.loop-found.reader c.take_access.new.self c.args.sink.now c.loop-found.sink c.offer_access.new.self
    c.args.output.now.calls c.loop-found.output.calls c.offer_access.new.output.calls c.args.piece.now c.loop-found.rest.now _ c.in-Some.found.used (Err r) c.loop-found.invariant c.in-Some.ensures.access
    (g.met.S.Sink.on c.args.sink.now c.loop-found.sink c.offer_access.new.self c.args.output.now.calls c.loop-found.output.calls c.offer_access.new.output.calls c.loop-found.invariant.lines _ (Err r) c.loop-found.invariant.steps step))

pub returns-in-Some-2-clause-pushes : goal.returns-in-Some-2-clause-pushes
returns-in-Some-2-clause-pushes g c =
    let end = c.in-Some-2.end in
    let same = c.in-Some-2.is in
    let step = subst (λ (n : ℕ). g.S.Sink.takes c.loop-found.sink c.loop-found.output.calls (record { line = n; event = Ok (event_of c.in-Some.found) } ∷ []) (Ok (Some end)) c.offer_access.new.self c.offer_access.new.output.calls) c.lines.ensures
    (subst (λ x. g.S.Sink.takes c.loop-found.sink c.loop-found.output.calls (record { line = c.lines.result; event = Ok (event_of c.in-Some.found) } ∷ []) (Ok x) c.offer_access.new.self c.offer_access.new.output.calls) same c.in_ok-end.ensures.takes) in
    stops_in g.S.Sink.takes c.args.reader.now c.loop-found.reader c.take_access.new.self c.args.sink.now c.loop-found.sink c.offer_access.new.self
    c.args.output.now.calls c.loop-found.output.calls c.offer_access.new.output.calls c.args.piece.now c.loop-found.rest.now _ c.in-Some.found.used (Ok (Some end)) c.loop-found.invariant c.in-Some.ensures.access
    (g.met.S.Sink.on c.args.sink.now c.loop-found.sink c.offer_access.new.self c.args.output.now.calls c.loop-found.output.calls c.offer_access.new.output.calls c.loop-found.invariant.lines _ (Ok (Some end)) c.loop-found.invariant.steps step)

pub loop-found-preserved-in-Some : goal.loop-found-preserved-in-Some
loop-found-preserved-in-Some g c =
    let none : c.in_ok-end.field-0 ≡ None = grind arith in
    let step = subst (λ (n : ℕ). g.S.Sink.takes c.loop-found.sink c.loop-found.output.calls (record { line = n; event = Ok (event_of c.in-Some.found) } ∷ []) (Ok None) c.offer_access.new.self c.offer_access.new.output.calls) c.lines.ensures
    (subst (λ x. g.S.Sink.takes c.loop-found.sink c.loop-found.output.calls (record { line = c.lines.result; event = Ok (event_of c.in-Some.found) } ∷ []) (Ok x) c.offer_access.new.self c.offer_access.new.output.calls) none c.in_ok-end.ensures.takes) in
    subst (λ rest. Passes g.S.Sink.takes c.args.reader.now c.args.sink.now c.args.output.now.calls c.args.piece.now c.take_access.new.self c.offer_access.new.self c.offer_access.new.output.calls rest)
    (sym (rest_is c.in-Some.found.used c.loop-found.rest.now))
    (passes_on g.S.Sink.takes c.args.reader.now c.loop-found.reader c.take_access.new.self c.args.sink.now c.loop-found.sink c.offer_access.new.self
    c.args.output.now.calls c.loop-found.output.calls c.offer_access.new.output.calls c.args.piece.now c.loop-found.rest.now _ c.in-Some.found.used c.loop-found.invariant c.in-Some.ensures.access
    (g.met.S.Sink.on c.args.sink.now c.loop-found.sink c.offer_access.new.self c.args.output.now.calls c.loop-found.output.calls c.offer_access.new.output.calls c.loop-found.invariant.lines _ (Ok None) c.loop-found.invariant.steps step))

pub returns-in_err-end-2-clause-pushes : goal.returns-in_err-end-2-clause-pushes
returns-in_err-end-2-clause-pushes g c =
    let gives = subst (λ q. GivesReading q c.take_hold.new.self c.loop-found.rest.now (record { line = c.take_hold.new.self.lines; event = Ok (hold_event c.in-Some-take_hold.held.hold) }) c.in-Some-take_hold.held.used) c.in_default.ensures.none c.in-Some-take_hold.ensures.hold in
    let r = c.in_err-end-2.field-0.0 in
    let same : c.from_residual-in_err-end-2.result ≡ Err r = grind arith in
    let step = subst (λ (n : ℕ). g.S.Sink.takes c.loop-found.sink c.loop-found.output.calls (record { line = n; event = Ok (hold_event c.in-Some-take_hold.held.hold) } ∷ []) (Err r) c.offer_hold.new.self c.offer_hold.new.output.calls) c.lines-in-Some-take_hold.ensures
    c.in_err-end-2.ensures.takes in
    subst (λ x. Pushes g.S.Sink.takes c.args.reader.now c.args.sink.now c.args.output.now.calls c.args.piece.now x c.take_hold.new.self c.offer_hold.new.self c.offer_hold.new.output.calls) (sym same)
    (stops_in g.S.Sink.takes c.args.reader.now c.loop-found.reader c.take_hold.new.self c.args.sink.now c.loop-found.sink c.offer_hold.new.self
    c.args.output.now.calls c.loop-found.output.calls c.offer_hold.new.output.calls c.args.piece.now c.loop-found.rest.now _ c.in-Some-take_hold.held.used (Err r) c.loop-found.invariant gives
    (g.met.S.Sink.on c.args.sink.now c.loop-found.sink c.offer_hold.new.self c.args.output.now.calls c.loop-found.output.calls c.offer_hold.new.output.calls c.loop-found.invariant.lines _ (Err r) c.loop-found.invariant.steps step))

pub returns-in-Some-3-clause-pushes : goal.returns-in-Some-3-clause-pushes
returns-in-Some-3-clause-pushes g c =
    let gives = subst (λ q. GivesReading q c.take_hold.new.self c.loop-found.rest.now (record { line = c.take_hold.new.self.lines; event = Ok (hold_event c.in-Some-take_hold.held.hold) }) c.in-Some-take_hold.held.used) c.in_default.ensures.none c.in-Some-take_hold.ensures.hold in
    let end = c.in-Some-3.end in
    let same = c.in-Some-3.is in
    let step = subst (λ (n : ℕ). g.S.Sink.takes c.loop-found.sink c.loop-found.output.calls (record { line = n; event = Ok (hold_event c.in-Some-take_hold.held.hold) } ∷ []) (Ok (Some end)) c.offer_hold.new.self c.offer_hold.new.output.calls) c.lines-in-Some-take_hold.ensures
    (subst (λ x. g.S.Sink.takes c.loop-found.sink c.loop-found.output.calls (record { line = c.lines-in-Some-take_hold.result; event = Ok (hold_event c.in-Some-take_hold.held.hold) } ∷ []) (Ok x) c.offer_hold.new.self c.offer_hold.new.output.calls) same c.in_ok-end-2.ensures.takes) in
    stops_in g.S.Sink.takes c.args.reader.now c.loop-found.reader c.take_hold.new.self c.args.sink.now c.loop-found.sink c.offer_hold.new.self
    c.args.output.now.calls c.loop-found.output.calls c.offer_hold.new.output.calls c.args.piece.now c.loop-found.rest.now _ c.in-Some-take_hold.held.used (Ok (Some end)) c.loop-found.invariant gives
    (g.met.S.Sink.on c.args.sink.now c.loop-found.sink c.offer_hold.new.self c.args.output.now.calls c.loop-found.output.calls c.offer_hold.new.output.calls c.loop-found.invariant.lines _ (Ok (Some end)) c.loop-found.invariant.steps step)

pub loop-found-preserved-in-Some-take_hold : goal.loop-found-preserved-in-Some-take_hold
loop-found-preserved-in-Some-take_hold g c =
    let gives = subst (λ q. GivesReading q c.take_hold.new.self c.loop-found.rest.now (record { line = c.take_hold.new.self.lines; event = Ok (hold_event c.in-Some-take_hold.held.hold) }) c.in-Some-take_hold.held.used) c.in_default.ensures.none c.in-Some-take_hold.ensures.hold in
    let none : c.in_ok-end-2.field-0 ≡ None = grind arith in
    let step = subst (λ (n : ℕ). g.S.Sink.takes c.loop-found.sink c.loop-found.output.calls (record { line = n; event = Ok (hold_event c.in-Some-take_hold.held.hold) } ∷ []) (Ok None) c.offer_hold.new.self c.offer_hold.new.output.calls) c.lines-in-Some-take_hold.ensures
    (subst (λ x. g.S.Sink.takes c.loop-found.sink c.loop-found.output.calls (record { line = c.lines-in-Some-take_hold.result; event = Ok (hold_event c.in-Some-take_hold.held.hold) } ∷ []) (Ok x) c.offer_hold.new.self c.offer_hold.new.output.calls) none c.in_ok-end-2.ensures.takes) in
    subst (λ rest. Passes g.S.Sink.takes c.args.reader.now c.args.sink.now c.args.output.now.calls c.args.piece.now c.take_hold.new.self c.offer_hold.new.self c.offer_hold.new.output.calls rest)
    (sym (rest_is c.in-Some-take_hold.held.used c.loop-found.rest.now))
    (passes_on g.S.Sink.takes c.args.reader.now c.loop-found.reader c.take_hold.new.self c.args.sink.now c.loop-found.sink c.offer_hold.new.self
    c.args.output.now.calls c.loop-found.output.calls c.offer_hold.new.output.calls c.args.piece.now c.loop-found.rest.now _ c.in-Some-take_hold.held.used c.loop-found.invariant gives
    (g.met.S.Sink.on c.args.sink.now c.loop-found.sink c.offer_hold.new.self c.args.output.now.calls c.loop-found.output.calls c.offer_hold.new.output.calls c.loop-found.invariant.lines _ (Ok None) c.loop-found.invariant.steps step))

pub loop-found-preserved : goal.loop-found-preserved
loop-found-preserved g c =
    let none : c.in_ok-end-3.field-0 ≡ None = grind arith in
    let gives = subst (λ q. GivesReading q c.take.new.self c.loop-found.rest.now c.in-Line.reading c.in-Line.used) (c.in_default-take_hold.ensures.none ∙ c.in_default.ensures.none) c.in-Line.ensures in
    let step = subst (λ x. g.S.Sink.takes c.loop-found.sink c.loop-found.output.calls (c.in-Line.reading ∷ []) (Ok x) c.offer.new.self c.offer.new.output.calls) none c.in_ok-end-3.ensures.takes in
    subst (λ rest. Passes g.S.Sink.takes c.args.reader.now c.args.sink.now c.args.output.now.calls c.args.piece.now c.take.new.self c.offer.new.self c.offer.new.output.calls rest)
    (sym (rest_is c.in-Line.used c.loop-found.rest.now))
    (passes_on g.S.Sink.takes c.args.reader.now c.loop-found.reader c.take.new.self c.args.sink.now c.loop-found.sink c.offer.new.self
    c.args.output.now.calls c.loop-found.output.calls c.offer.new.output.calls c.args.piece.now c.loop-found.rest.now c.in-Line.reading c.in-Line.used c.loop-found.invariant gives
    (g.met.S.Sink.on c.args.sink.now c.loop-found.sink c.offer.new.self c.args.output.now.calls c.loop-found.output.calls c.offer.new.output.calls c.loop-found.invariant.lines (c.in-Line.reading ∷ []) (Ok None) c.loop-found.invariant.steps step))

pub returns-in_err-end-3-clause-pushes : goal.returns-in_err-end-3-clause-pushes
returns-in_err-end-3-clause-pushes g c =
    let r = c.in_err-end-3.field-0.0 in
    let same : c.from_residual-in_err-end-3.result ≡ Err r = grind arith in
    let gives = subst (λ q. GivesReading q c.take.new.self c.loop-found.rest.now c.in-Line.reading c.in-Line.used) (c.in_default-take_hold.ensures.none ∙ c.in_default.ensures.none) c.in-Line.ensures in
    let step = c.in_err-end-3.ensures.takes in
    subst (λ x. Pushes g.S.Sink.takes c.args.reader.now c.args.sink.now c.args.output.now.calls c.args.piece.now x c.take.new.self c.offer.new.self c.offer.new.output.calls) (sym same)
    (stops_in g.S.Sink.takes c.args.reader.now c.loop-found.reader c.take.new.self c.args.sink.now c.loop-found.sink c.offer.new.self
    c.args.output.now.calls c.loop-found.output.calls c.offer.new.output.calls c.args.piece.now c.loop-found.rest.now c.in-Line.reading c.in-Line.used (Err r) c.loop-found.invariant gives
    (g.met.S.Sink.on c.args.sink.now c.loop-found.sink c.offer.new.self c.args.output.now.calls c.loop-found.output.calls c.offer.new.output.calls c.loop-found.invariant.lines (c.in-Line.reading ∷ []) (Err r) c.loop-found.invariant.steps step))

pub returns-in-Some-4-clause-pushes : goal.returns-in-Some-4-clause-pushes
returns-in-Some-4-clause-pushes g c =
    let end = c.in-Some-4.end in
    let same = c.in-Some-4.is in
    let gives = subst (λ q. GivesReading q c.take.new.self c.loop-found.rest.now c.in-Line.reading c.in-Line.used) (c.in_default-take_hold.ensures.none ∙ c.in_default.ensures.none) c.in-Line.ensures in
    let step = subst (λ x. g.S.Sink.takes c.loop-found.sink c.loop-found.output.calls (c.in-Line.reading ∷ []) (Ok x) c.offer.new.self c.offer.new.output.calls) same c.in_ok-end-3.ensures.takes in
    stops_in g.S.Sink.takes c.args.reader.now c.loop-found.reader c.take.new.self c.args.sink.now c.loop-found.sink c.offer.new.self
    c.args.output.now.calls c.loop-found.output.calls c.offer.new.output.calls c.args.piece.now c.loop-found.rest.now c.in-Line.reading c.in-Line.used (Ok (Some end)) c.loop-found.invariant gives
    (g.met.S.Sink.on c.args.sink.now c.loop-found.sink c.offer.new.self c.args.output.now.calls c.loop-found.output.calls c.offer.new.output.calls c.loop-found.invariant.lines (c.in-Line.reading ∷ []) (Ok (Some end)) c.loop-found.invariant.steps step)
