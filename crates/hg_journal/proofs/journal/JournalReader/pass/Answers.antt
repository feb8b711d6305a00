use Rattle.std.proofs.Common.{ℕ, List, drop, subst, sym, arith}
use Rattle.hg_records.specs.Lengths.{HasRecord}
use Rattle.hg_journal.specs.Reading.{rest_of}
use Rattle.hg_journal.proofs.Journaling.{pass_one}
use Rattle.hg_journal.proofs.journal.JournalReader.pass.Goals as goal

pub loop-count-preserved : goal.loop-count-preserved
loop-count-preserved c =
    let is = c.in-Some.ensures.some in
    let begins = subst (λ (l : List ℕ). HasRecord (rest_of c.loop-count.self) l) (sym c.pass.ensures.rest) (subst (λ (l : List ℕ). HasRecord l (drop c.in-Some.len l)) c.rest.ensures is.2) in (
      omega (arith, c.loop-count-test.true),
      pass_one c.loop-count.count _ (rest_of c.loop-count.self) _ c.loop-count.invariant.1 begins,
      λ seen left at. c.pass.ensures.stays seen left (c.loop-count.invariant.2 seen left at),
    )
