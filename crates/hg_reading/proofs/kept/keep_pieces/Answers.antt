use Rattle.std.proofs.Common.{◌≡◌, ◌<◌, ◌≤◌, ◌∙◌, ℕ, true, List, ◌∷◌, ◌++◌, length, take, if◌then◌else◌, Option, IfSome, refl, sym, ap, subst, arith}
use Rattle.std.specs.Result.{is_ok}
use Rattle.std.proofs.lemmas.List.{length-take}
use Rattle.hg_model.specs.declared.verdict.Refusal.TheVariants.{OutOfMemory}
use Rattle.std.proofs.lemmas.Result.{err_from_is_err_and}
use Rattle.hg_streams.specs.Calls.{got_call}
use Rattle.hg_streams.specs.declared.call.ReadCall.TheVariants.{Gave}
use Rattle.hg_reading.specs.Whole.{HasKept}
use Rattle.hg_reading.proofs.Keeping.{cant_go_on, cant_hold, cant_read, kept_again, kept_all, kept_on}
use Rattle.hg_reading.proofs.kept.keep_pieces.Goals as goal

taken_some : (count : ℕ) (buffer : List ℕ) → count ≤ length buffer → (count ≡ 0 → ⊥) → 0 < length (take count buffer)
taken_some count buffer within some = omega (arith, length-take count buffer, within, some)

pub returns-in_err-count-clause-cause : goal.returns-in_err-count-clause-cause
returns-in_err-count-clause-cause g c =
    let q = err_from_is_err_and c.from_residual.result c.from_residual.ensures.1 in
    rw (q.1, q.2)
    (cant_read c.args.input.now.calls c.loop-reads.input.calls c.read.new.self.calls c.loop-reads.kept.items c.in_err-count.ensures.failed.0 c.in_err-count.field-0.0 c.in_err-count.ensures.failed.1 c.in_err-count.ensures.fault c.in_err-count.ensures.memory c.in_err-count.ensures.cause c.loop-reads.invariant.kept)

pub loop-reads-preserved-in_default : goal.loop-reads-preserved-in_default
loop-reads-preserved-in_default g c =
    let same : length c.read.new.buffer ≡ length c.loop-reads.piece = grind arith in
    record {
      kept = kept_again c.args.input.now.calls c.loop-reads.input.calls c.read.new.self.calls c.loop-reads.kept.items
          (c.in_ok-count.ensures.calls ∙ ap (λ x. got_call x c.read.new.buffer ∷ c.loop-reads.input.calls) c.in_default.is) c.loop-reads.invariant.kept;
      size = omega (arith, same, c.loop-reads.invariant.size);
      counted = omega (arith, c.in_ok-count.ensures.counted, c.loop-reads.invariant.counted);
    }

pub returns-then-is_err-clause-cause : goal.returns-then-is_err-clause-cause
returns-then-is_err-clause-cause g c =
    let piece = take c.in-Some.count c.read.new.buffer in
    let fits = subst (λ (x : Option ℕ). IfSome x (λ n. n ≤ length c.read.new.buffer)) c.in-Some.is c.in_ok-count.ensures.within in
    cant_hold c.args.input.now.calls c.read.new.self.calls (c.loop-reads.kept.items ++ piece) OutOfMemory refl
    (kept_on c.args.input.now.calls c.loop-reads.input.calls c.read.new.self.calls c.loop-reads.kept.items piece
    (c.in_ok-count.ensures.calls ∙ ap (λ x. got_call x c.read.new.buffer ∷ c.loop-reads.input.calls) c.in-Some.is)
    (taken_some c.in-Some.count c.read.new.buffer fits c.if-count-eq0.false) c.loop-reads.invariant.kept)

pub loop-reads-preserved : goal.loop-reads-preserved
loop-reads-preserved g c =
    let piece = take c.in-Some.count c.read.new.buffer in
    let fits = subst (λ (x : Option ℕ). IfSome x (λ n. n ≤ length c.read.new.buffer)) c.in-Some.is c.in_ok-count.ensures.within in
    let same : length c.read.new.buffer ≡ length c.loop-reads.piece = grind arith in
    let well : is_ok c.extend_from_slice.result ≡ true = c.if-is_err.ensures.negation in
    let all : c.extend_from_slice.new.self.items ≡ c.loop-reads.kept.items ++ piece = c.extend_from_slice.ensures.items ∙ ap (λ b. if b then c.loop-reads.kept.items ++ piece else c.loop-reads.kept.items) well in
    record {
      kept = subst (λ xs. HasKept c.args.input.now.calls c.read.new.self.calls xs) (sym all)
          (kept_on c.args.input.now.calls c.loop-reads.input.calls c.read.new.self.calls c.loop-reads.kept.items piece
          (c.in_ok-count.ensures.calls ∙ ap (λ x. got_call x c.read.new.buffer ∷ c.loop-reads.input.calls) c.in-Some.is)
          (taken_some c.in-Some.count c.read.new.buffer fits c.if-count-eq0.false) c.loop-reads.invariant.kept);
      size = omega (arith, same, c.loop-reads.invariant.size);
      counted = omega (arith, c.in_ok-count.ensures.counted, c.loop-reads.invariant.counted);
    }

pub returns-clause-cause : goal.returns-clause-cause
returns-clause-cause g c = cant_go_on c.args.input.now.calls c.loop-reads.input.calls c.loop-reads.kept.items c.loop-reads.reads c.loop-reads.invariant.counted c.loop-reads-test.false c.loop-reads.invariant.kept

pub returns-then-count-eq0-clause-kept : goal.returns-then-count-eq0-clause-kept
returns-then-count-eq0-clause-kept g c =
    kept_all c.args.input.now.calls c.loop-reads.input.calls c.read.new.self.calls c.loop-reads.kept.items
    (c.in_ok-count.ensures.calls
    ∙ (ap (λ x. got_call x c.read.new.buffer ∷ c.loop-reads.input.calls) c.in-Some.is ∙ ap (λ (n : ℕ). Gave (take n c.read.new.buffer) ∷ c.loop-reads.input.calls) c.if-count-eq0.true))
    c.loop-reads.invariant.kept
