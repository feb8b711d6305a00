use Rattle.std.proofs.Common.{sym, subst, arith}
use Rattle.hg_wire.specs.Bytes.{NoByte}
use Rattle.hg_wire.proofs.StreamLemmas.{no_byte_append, no_byte_stored, parted_at, not_parted}
use Rattle.hg_wire.proofs.SplitterLemmas.{ends_line, ends_no_line}
use Rattle.hg_wire.proofs.splitter.Splitter.take.Goals as goal

pub invariant_of-self : goal.invariant_of-self
invariant_of-self c =
    subst (NoByte 10) (sym c.push.ensures) (no_byte_stored 10 _ (λ e. omega arith) (no_byte_append 10 _ _ c.self.invariant (not_parted c.args.piece.now c.in-None.ensures)))

pub invariant_of-self-in-Some : goal.invariant_of-self-in-Some
invariant_of-self-in-Some c =
    let parted = parted_at c.args.piece.now c.in-Some.end c.in-Some.ensures in
    subst (NoByte 10) (sym c.push-in-Some.ensures) (no_byte_stored 10 _ (λ e. omega arith) (no_byte_append 10 _ _ c.self-in-Some.invariant parted.none))

pub returns-in-None-clause-none : goal.returns-in-None-clause-none
returns-in-None-clause-none c =
    rw (← c.self.view_is, c.push.ensures) (ends_no_line c.self.inside.lines c.self.inside.line _ _ c.args.piece.now c.self.invariant (not_parted c.args.piece.now c.in-None.ensures))

pub returns-in-Some-clause-line : goal.returns-in-Some-clause-line
returns-in-Some-clause-line c =
    let inside = c.self-in-Some.inside in
    let parted = parted_at c.args.piece.now c.in-Some.end c.in-Some.ensures in
    rw (← c.self-in-Some.view_is, c.end_line.ensures, c.push-in-Some.ensures) (ends_line inside.lines inside.line _ c.args.piece.now c.in-Some.end c.self-in-Some.invariant parted)
