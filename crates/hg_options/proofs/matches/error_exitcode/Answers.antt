use Rattle.std.proofs.Common.{◌≡◌, arith, codes}
use Rattle.clap.specs.Words.{found_of, rows_of}
use Rattle.std.specs.declared.num.ParseIntError.{ParseIntError}
use Rattle.hg_options.proofs.Numbers.{not_spelled, one_number, spelled}
use Rattle.hg_options.proofs.matches.error_exitcode.Goals as goal

pub returns : goal.returns
returns c =
    let some : c.in-Some.status ≡ 0 → ⊥ = c.if-status-eq0.false in
    (spelled ParseIntError 8 (found_of c.args.given.now) (codes "error-exitcode") c.in-Some.status c.in-Some.ensures.none (λ t e. (c.in-Some.ensures.value t e).0), omega (arith, some), omega arith)

pub returns-then-status-eq0 : goal.returns-then-status-eq0
returns-then-status-eq0 c m s above below =
    let is = spelled ParseIntError 8 (found_of c.args.given.now) (codes "error-exitcode") c.in-Some.status c.in-Some.ensures.none (λ t e. (c.in-Some.ensures.value t e).0) in
    let same : m ≡ c.in-Some.status = one_number (codes "error-exitcode") (rows_of (found_of c.args.given.now)) m c.in-Some.status s is in
    absurd (omega (arith, c.if-status-eq0.true, same, above))

pub returns-in_default : goal.returns-in_default
returns-in_default c m s above below =
    not_spelled ParseIntError 8 (found_of c.args.given.now) (codes "error-exitcode") m (λ t e. let r = c.in_default.ensures.value t e in (r.0, r.1.0)) s (omega (arith, below))
