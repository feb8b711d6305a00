use Rattle.std.proofs.Common.{◌≡◌, ◌+◌, ◌-◌, ◌/◌, Result, Ok, Err, true, is_some, subst, arith}
use Rattle.hg_cells.specs.Paged.{page_of}
use Rattle.hg_cells.proofs.Overlaps.{overlapped}
use Rattle.hg_cells.proofs.paged.PagedWordsWords.keep.Goals as goal

no_ok : {E : Type 0} (e : E) → ◌≡◌ {A = Result (Unit {0}) E} (Err e) (Ok tt) → ⊥
no_ok e is = absurd (cc)

pub returns-in_err-add-clause-again : goal.returns-in_err-add-clause-again
returns-in_err-add-clause-again c = λ kept.
    let at = c.args.at in
    let len = c.args.len in
    let some = c.requires.some in
    let number : at / 4 / 256 ≡ c.pages_of-first.result.0 = omega (arith, c.pages_of-first.ensures.first) in
    let present = subst (λ n. is_some (page_of c.args.self.now n) ≡ true) number (kept (at / 4) (overlapped at len (at / 4) some (omega arith) (omega arith))) in
    absurd (no_ok c.in_err-add.field-0.0 (c.in_err-add.ensures.again present))

pub returns-in_err-add-2-clause-again : goal.returns-in_err-add-2-clause-again
returns-in_err-add-2-clause-again c = λ kept.
    let at = c.args.at in
    let len = c.args.len in
    let some = c.requires.some in
    let word = (at + (len - 1)) / 4 in
    let number : word / 256 ≡ c.pages_of-first.result.1 = omega (arith, c.pages_of-first.ensures.last) in
    let present = subst (λ n. is_some (page_of c.args.self.now n) ≡ true) number (kept word (overlapped at len word some (omega arith) (omega arith))) in
    absurd (no_ok c.in_err-add-2.field-0.0 (c.in_err-add-2.ensures.again (c.in_ok-add.ensures.pages c.pages_of-first.result.1 present)))
