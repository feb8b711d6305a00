use Rattle.std.proofs.Common.{◌≤◌, length, subst, sym, ◌∙◌, arith}
use Rattle.hg_records.proofs.Lengths.{HasUpperHalf, IsLongEnough, long_enough, record_long}
use Rattle.hg_records.proofs.record.record_len.Goals as goal

pub returns-then-bytes-lt15-clause-none : goal.returns-then-bytes-lt15-clause-none
returns-then-bytes-lt15-clause-none c n rest begins =
    let is = subst IsLongEnough (sym begins.1) (record_long n rest begins.0) in
    absurd (omega (arith, is.head, c.if-bytes-lt15.true))

pub returns-then-len-eq0-clause-none : goal.returns-then-len-eq0-clause-none
returns-then-len-eq0-clause-none c n rest begins =
    let is = subst IsLongEnough (sym begins.1) (record_long n rest begins.0) in
    absurd (omega (arith, is.some, c.len_of-len.ensures, c.if-len-eq0.true))

pub returns-then-bytes-len-clause-none : goal.returns-then-bytes-len-clause-none
returns-then-bytes-len-clause-none c n rest begins =
    let is = subst IsLongEnough (sym begins.1) (record_long n rest begins.0) in
    absurd (omega (arith, is.whole, c.len_of-len.ensures, c.if-bytes-len.true))

pub returns-then-upper_half-eq0-clause-none : goal.returns-then-upper_half-eq0-clause-none
returns-then-upper_half-eq0-clause-none c n rest begins =
    let is = subst IsLongEnough (sym begins.1) (record_long n rest begins.0) in
    let upper : HasUpperHalf c.args.bytes.now = is.upper (sym c.len_of-len.ensures ∙ c.if-len-ne-MAX_RECORD_LEN.false) in
    absurd (omega (arith, upper, c.from_be_bytes-upper_half.ensures, c.if-upper_half-eq0.true))

pub returns-then-len-ne-MAX_RECORD_LEN-clause-some : goal.returns-then-len-ne-MAX_RECORD_LEN-clause-some
returns-then-len-ne-MAX_RECORD_LEN-clause-some c =
    let bytes = c.args.bytes.now in
    let len = c.len_of-len.result in
    let some : 1 ≤ len = omega (arith, c.if-len-eq0.false) in
    let whole : len ≤ length bytes = omega (arith, c.if-bytes-len.false) in
    (some, whole, long_enough bytes len (λ i. omega (arith, c.type_inv.bytes i)) (omega (arith, c.if-bytes-lt15.false)) (sym c.len_of-len.ensures) some whole (λ is. absurd (c.if-len-ne-MAX_RECORD_LEN.true is)))

pub returns-clause-some : goal.returns-clause-some
returns-clause-some c =
    let bytes = c.args.bytes.now in
    let len = c.len_of-len.result in
    let some : 1 ≤ len = omega (arith, c.if-len-eq0.false) in
    let whole : len ≤ length bytes = omega (arith, c.if-bytes-len.false) in
    let upper : HasUpperHalf bytes = omega (arith, c.from_be_bytes-upper_half.ensures, c.if-upper_half-eq0.false) in
    (some, whole, long_enough bytes len (λ i. omega (arith, c.type_inv.bytes i)) (omega (arith, c.if-bytes-lt15.false)) (sym c.len_of-len.ensures) some whole (λ is. upper))
