use Rattle.std.proofs.Common.{◌≡◌, ℕ, suc, ◌+◌, ◌-◌, ◌*◌, ◌^◌, ◌<◌, ◌≤◌, List, ◌∷◌, IfSome, Option, None, Some, Result, Ok, Err, length, take, refl, sym, ap, ◌∙◌, subst, inl, inr, arith}
use Rattle.std.proofs.Math.Nat.{mul-suc}
use Rattle.std.proofs.lemmas.List.{length-take}
use Rattle.hg_streams.specs.Calls.{got_call}
use Rattle.hg_streams.specs.declared.call.ReadCall.TheVariants.{Gave}
use Rattle.hg_wire.specs.Streams.{LinesRead}
use Rattle.hg_reading.specs.Taking.{Pushes, Reads}
use Rattle.hg_reading.proofs.Pushing.{pushes_pass}
use Rattle.hg_reading.proofs.Runs.{has_read_again, has_read_first, has_read_on, read_end, read_failed, read_stop, read_too_often, reads_all, room_behind}
use Rattle.hg_reading.proofs.groups.read_groups.Goals as goal

-- an error is no answer, and an end is not the answer without one
no_answer : {X E : Type 0} (d : E) (x : X) → Err d ≡ Ok x → ⊥
no_answer d x e = cc

no_end : {X E : Type 0} (r : Result (Option X) E) (x : X) → r ≡ Ok (Some x) → r ≡ Ok None → ⊥
no_end r x some none = cc

-- one read more takes the room of a piece
a_piece_left : (size reads : ℕ) → reads < 2 ^ 32 → size * (2 ^ 32 - reads) ≡ size + size * (2 ^ 32 - (reads + 1))
a_piece_left size reads fewer =
    let swap : (k : ℕ) → k + size ≡ size + k = λ k. omega arith in
    let next : 2 ^ 32 - reads ≡ suc (2 ^ 32 - (reads + 1)) = omega (arith, fewer) in
    ap (λ (k : ℕ). size * k) next ∙ (mul-suc size (2 ^ 32 - (reads + 1)) ∙ swap (size * (2 ^ 32 - (reads + 1))))

-- so many reads give at most so many lines
lines_more : (size reads old new : ℕ) → old ≤ size * reads → new ≤ old + size → new ≤ size * (reads + 1)
lines_more size reads old new before more =
    let next : reads + 1 ≡ suc reads = omega arith in
    let all : size * (reads + 1) ≡ size * reads + size = ap (λ (k : ℕ). size * k) next ∙ mul-suc size reads in
    omega (arith, before, more, all)

-- so many bytes of a buffer
taken_within : (count : ℕ) (buffer : List ℕ) (size : ℕ) → count ≤ length buffer → length buffer ≡ size → length (take count buffer) ≤ size
taken_within count buffer size within is = omega (arith, length-take count buffer, within, is)

taken_some : (count : ℕ) (buffer : List ℕ) → count ≤ length buffer → (count ≡ 0 → ⊥) → 0 < length (take count buffer)
taken_some count buffer within some = omega (arith, length-take count buffer, within, some)

pub loop-reads-init : goal.loop-reads-init
loop-reads-init g c =
    record {
      run = has_read_first g.S.Sink.takes g.met.S.Sink.on g.S.Sink.settled c.args.input.now.calls c.args.sink.now c.args.output.now.calls c.args.intake.reader c.requires.start c.requires.settled (g.met.S.Sink.none c.args.sink.now c.args.output.now.calls);
      lines = omega (arith, ap (λ (p : LinesRead). p.lines) c.requires.start);
      room = c.requires.room;
      size = ap length c.as_mut_slice-bytes.ensures.value;
      counted = omega arith;
    }

pub returns-in_err-count : goal.returns-in_err-count
returns-in_err-count g c =
    let same : c.from_residual.result ≡ Err c.in_err-count.field-0.0 = grind arith in
    let failed = c.in_err-count.ensures.failed in
    subst (λ x. Reads g.S.Sink.takes g.S.Sink.settled c.args.input.now.calls c.read.new.self.calls c.args.sink.now c.args.output.now.calls x c.loop-reads.sink c.loop-reads.output.calls) (sym same)
    (inr (read_failed g.S.Sink.takes g.met.S.Sink.on g.S.Sink.settled c.args.input.now.calls c.loop-reads.input.calls c.read.new.self.calls c.args.sink.now c.args.output.now.calls c.loop-reads.reader c.loop-reads.sink
    c.loop-reads.output.calls failed.0 c.in_err-count.field-0.0 failed.1 c.in_err-count.ensures.fault c.in_err-count.ensures.memory c.in_err-count.ensures.cause c.loop-reads.invariant.run))

pub loop-reads-preserved-in_default : goal.loop-reads-preserved-in_default
loop-reads-preserved-in_default g c =
    let size = length c.args.intake.buffer.items in
    let left = size * (2 ^ 32 - (c.loop-reads.reads + 1)) in
    let swap : size + left ≡ left + size = omega arith in
    let same : length c.read.new.buffer ≡ length c.loop-reads.bytes = grind arith in
    record {
      run = has_read_again g.S.Sink.takes g.met.S.Sink.on g.S.Sink.settled c.args.input.now.calls c.loop-reads.input.calls c.read.new.self.calls c.args.sink.now c.args.output.now.calls c.loop-reads.reader c.loop-reads.sink
          c.loop-reads.output.calls (c.in_ok-count.ensures.calls ∙ ap (λ x. got_call x c.read.new.buffer ∷ c.loop-reads.input.calls) c.in_default.is) c.loop-reads.invariant.run;
      lines = lines_more size c.loop-reads.reads c.loop-reads.reader.lines c.loop-reads.reader.lines c.loop-reads.invariant.lines (omega arith);
      room = g.met.S.Sink.fewer c.loop-reads.sink left size
          (subst (λ (n : ℕ). g.S.Sink.may_take c.loop-reads.sink n) (a_piece_left size c.loop-reads.reads c.loop-reads-test.true ∙ swap) c.loop-reads.invariant.room);
      size = same ∙ c.loop-reads.invariant.size;
      counted = omega (arith, c.in_ok-count.ensures.counted, c.loop-reads.invariant.counted);
    }

pub finish-requires-clause-room : goal.finish-requires-clause-room
finish-requires-clause-room g c =
    let size = length c.args.intake.buffer.items in
    let left = size * (2 ^ 32 - (c.loop-reads.reads + 1)) in
    let one : size * (2 ^ 32 - c.loop-reads.reads) ≡ 1 + (size - 1 + left) = omega (arith, a_piece_left size c.loop-reads.reads c.loop-reads-test.true, c.requires.size.0) in
    g.met.S.Sink.fewer c.loop-reads.sink 1 (size - 1 + left) (subst (λ (n : ℕ). g.S.Sink.may_take c.loop-reads.sink n) one c.loop-reads.invariant.room)

pub returns-then-count-eq0 : goal.returns-then-count-eq0
returns-then-count-eq0 g c =
    let zero : c.in-Some.count ≡ 0 = omega (arith, c.if-count-eq0.true) in
    reads_all g.S.Sink.takes g.met.S.Sink.on g.S.Sink.settled c.args.input.now.calls c.read.new.self.calls c.args.sink.now c.args.output.now.calls c.finish.result c.finish.new.sink c.finish.new.output.calls
    (read_end g.S.Sink.takes g.met.S.Sink.on g.S.Sink.settled c.args.input.now.calls c.loop-reads.input.calls c.read.new.self.calls c.args.sink.now c.args.output.now.calls c.loop-reads.reader c.loop-reads.sink c.finish.new.sink
    c.loop-reads.output.calls c.finish.new.output.calls c.finish.result
    (c.in_ok-count.ensures.calls ∙ (ap (λ x. got_call x c.read.new.buffer ∷ c.loop-reads.input.calls) c.in-Some.is ∙ ap (λ (n : ℕ). Gave (take n c.read.new.buffer) ∷ c.loop-reads.input.calls) zero))
    c.finish.ensures.takes c.finish.ensures.settled c.loop-reads.invariant.run)

pub take_group-requires-clause-room : goal.take_group-requires-clause-room
take_group-requires-clause-room g c κs within =
    let size = length c.args.intake.buffer.items in
    let left = size * (2 ^ 32 - (c.loop-reads.reads + 1)) in
    let same : length c.read.new.buffer ≡ length c.loop-reads.bytes = grind arith in
    let n = length (take c.in-Some.count c.read.new.buffer) in
    let fits : n ≤ size = taken_within c.in-Some.count c.read.new.buffer size (subst (λ x. IfSome x (λ n. n ≤ length c.read.new.buffer)) c.in-Some.is c.in_ok-count.ensures.within) (same ∙ c.loop-reads.invariant.size) in
    let split : size * (2 ^ 32 - c.loop-reads.reads) ≡ n + (size - n + left) = omega (arith, a_piece_left size c.loop-reads.reads c.loop-reads-test.true, fits) in
    g.met.S.Sink.fewer c.loop-reads.sink n (size - n + left) (subst (λ (k : ℕ). g.S.Sink.may_take c.loop-reads.sink k) split c.loop-reads.invariant.room)

pub returns-in_err-end : goal.returns-in_err-end
returns-in_err-end g c =
    let same : c.from_residual-in_err-end.result ≡ Err c.in_err-end.field-0.0 = grind arith in
    subst (λ x. Reads g.S.Sink.takes g.S.Sink.settled c.args.input.now.calls c.read.new.self.calls c.args.sink.now c.args.output.now.calls x c.take_group.new.sink c.take_group.new.output.calls) (sym same)
    (inl (read_stop g.S.Sink.takes g.met.S.Sink.on g.S.Sink.settled c.args.input.now.calls c.loop-reads.input.calls c.read.new.self.calls c.args.sink.now c.args.output.now.calls c.loop-reads.reader c.loop-reads.sink c.take_group.new.sink
    c.loop-reads.output.calls c.take_group.new.output.calls (take c.in-Some.count c.read.new.buffer) (Err c.in_err-end.field-0.0)
    (c.in_ok-count.ensures.calls ∙ ap (λ x. got_call x c.read.new.buffer ∷ c.loop-reads.input.calls) c.in-Some.is) (no_answer _ _) c.in_err-end.ensures.pushes c.loop-reads.invariant.run))

pub returns-in-Some-2 : goal.returns-in-Some-2
returns-in-Some-2 g c =
    let stopped = subst (λ x. Pushes g.S.Sink.takes c.loop-reads.reader c.loop-reads.sink c.loop-reads.output.calls (take c.in-Some.count c.read.new.buffer) (Ok x) c.take_group.new.reader c.take_group.new.sink
    c.take_group.new.output.calls) c.in-Some-2.is c.in_ok-end.ensures.pushes in
    read_stop g.S.Sink.takes g.met.S.Sink.on g.S.Sink.settled c.args.input.now.calls c.loop-reads.input.calls c.read.new.self.calls c.args.sink.now c.args.output.now.calls c.loop-reads.reader c.loop-reads.sink c.take_group.new.sink
    c.loop-reads.output.calls c.take_group.new.output.calls (take c.in-Some.count c.read.new.buffer) (Ok (Some c.in-Some-2.end))
    (c.in_ok-count.ensures.calls ∙ ap (λ x. got_call x c.read.new.buffer ∷ c.loop-reads.input.calls) c.in-Some.is) (no_end (Ok (Some c.in-Some-2.end)) _ refl) stopped c.loop-reads.invariant.run

pub loop-reads-preserved : goal.loop-reads-preserved
loop-reads-preserved g c =
    let none : c.in_ok-end.field-0 ≡ None = grind arith in
    let size = length c.args.intake.buffer.items in
    let left = size * (2 ^ 32 - (c.loop-reads.reads + 1)) in
    let same : length c.read.new.buffer ≡ length c.loop-reads.bytes = grind arith in
    let piece = take c.in-Some.count c.read.new.buffer in
    let fits = subst (λ x. IfSome x (λ n. n ≤ length c.read.new.buffer)) c.in-Some.is c.in_ok-count.ensures.within in
    let within = taken_within c.in-Some.count c.read.new.buffer size fits (same ∙ c.loop-reads.invariant.size) in
    let passes = pushes_pass g.S.Sink.takes c.loop-reads.reader c.loop-reads.sink c.loop-reads.output.calls piece (Ok c.in_ok-end.field-0) c.take_group.new.reader c.take_group.new.sink c.take_group.new.output.calls
    (ap Ok none) c.in_ok-end.ensures.pushes in
    record {
      run = has_read_on g.S.Sink.takes g.met.S.Sink.on g.S.Sink.settled c.args.input.now.calls c.loop-reads.input.calls c.read.new.self.calls c.args.sink.now c.args.output.now.calls c.loop-reads.reader c.take_group.new.reader
          c.loop-reads.sink c.take_group.new.sink c.loop-reads.output.calls c.take_group.new.output.calls piece
          (c.in_ok-count.ensures.calls ∙ ap (λ x. got_call x c.read.new.buffer ∷ c.loop-reads.input.calls) c.in-Some.is)
          (taken_some c.in-Some.count c.read.new.buffer fits c.if-count-eq0.false) passes (c.in_ok-end.ensures.none_left (ap Ok none)) (c.in_ok-end.ensures.settled (ap Ok none)) c.loop-reads.invariant.run;
      lines = lines_more size c.loop-reads.reads c.loop-reads.reader.lines c.take_group.new.reader.lines c.loop-reads.invariant.lines (omega (arith, passes.counted, within));
      room = room_behind g.S.Sink.takes g.met.S.Sink.on g.S.Sink.may_take g.met.S.Sink.room g.met.S.Sink.fewer c.loop-reads.reader c.take_group.new.reader c.loop-reads.sink c.take_group.new.sink
          c.loop-reads.output.calls c.take_group.new.output.calls piece size left within passes
          (subst (λ (n : ℕ). g.S.Sink.may_take c.loop-reads.sink n) (a_piece_left size c.loop-reads.reads c.loop-reads-test.true) c.loop-reads.invariant.room);
      size = same ∙ c.loop-reads.invariant.size;
      counted = omega (arith, c.in_ok-count.ensures.counted, c.loop-reads.invariant.counted);
    }

pub returns : goal.returns
returns g c =
    inr (read_too_often g.S.Sink.takes g.met.S.Sink.on g.S.Sink.settled c.args.input.now.calls c.loop-reads.input.calls c.args.sink.now c.args.output.now.calls c.loop-reads.reader c.loop-reads.sink c.loop-reads.output.calls
    c.loop-reads.reads c.loop-reads.invariant.counted (omega arith) c.loop-reads.invariant.run)
