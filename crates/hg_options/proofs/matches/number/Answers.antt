use Rattle.std.proofs.Common.{◌≡◌, inl, inr, arith, refl}
use Rattle.clap.specs.Words.{found_of, rows_of}
use Rattle.std.specs.declared.num.ParseIntError.{ParseIntError}
use Rattle.hg_options.proofs.Numbers.{not_spelled, one_number, spelled}
use Rattle.hg_options.proofs.matches.number.Goals as goal
use Rattle.hg_options.proofs.matches.number.Goals.{else-low-number-via-then-low-number+else-number-high, else-low-number-via-else-low-number}

pub returns-then-number-high : goal.returns-then-number-high
returns-then-number-high c =
    inl (spelled ParseIntError 16 (found_of c.args.given.now) c.args.id.now c.in-Some.number c.in-Some.ensures.none (λ t e. (c.in-Some.ensures.value t e).0), c.if-low-number.true, c.if-number-high.true)

pub returns-else-low-number : goal.returns-else-low-number
returns-else-low-number c =
    let is = spelled ParseIntError 16 (found_of c.args.given.now) c.args.id.now c.in-Some.number c.in-Some.ensures.none (λ t e. (c.in-Some.ensures.value t e).0) in
    inr (
      refl,
      λ m s above below. let same : m ≡ c.in-Some.number = one_number c.args.id.now (rows_of (found_of c.args.given.now)) m c.in-Some.number s is in elim c.else-low-number.branch [
        | else-low-number-via-then-low-number+else-number-high w ↦ absurd (omega (arith, w.if-number-high, same, below))
        | else-low-number-via-else-low-number w ↦ absurd (omega (arith, w.if-low-number, same, above))
      ],
    )

pub returns-in-None : goal.returns-in-None
returns-in-None c =
    inr (refl, λ m s above below. not_spelled ParseIntError 16 (found_of c.args.given.now) c.args.id.now m (λ t e. let r = c.in-None.ensures.value t e in (r.0, r.1.0)) s (omega (arith, c.ranges.high.fits)))
