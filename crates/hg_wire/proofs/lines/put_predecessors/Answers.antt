use Rattle.std.proofs.Common.{◌≡◌, ◌∙◌, ◌++◌, List, ℕ, [], ◌∷◌, ◌≤◌, map, length, ap, refl, arith}
use Rattle.std.specs.Fmt.{decimal}
use Rattle.std.specs.List.{between, join_with_byte}
use Rattle.hg_wire.specs.Reports.{predecessors_text}
use Rattle.hg_wire.proofs.PieceLemmas.{appended_on, cut_back, numbers_joined, one_more}
use Rattle.hg_wire.proofs.lines.put_predecessors.Goals as goal

some_joined : (numbers : List ℕ) → 1 ≤ length numbers → join_with_byte 44 (map decimal numbers) ≡ predecessors_text numbers
some_joined [] h = absurd (omega arith)
some_joined (n ∷ numbers) h = refl

pub returns-clause-ok : goal.returns-clause-ok
returns-clause-ok c =
    numbers_joined c.args.out.now.items _ _ c.args.before.now c.loop-number.number-index c.in-len1-up.len_at_least (c.in_ok-put_number_after.ensures.ok ∙ ap (λ n. c.args.out.now.items ++ decimal n) c.from.ensures) (omega arith) c.loop-number.invariant.0
    ∙ ap (λ t. c.args.out.now.items ++ t) (some_joined c.args.before.now c.in-len1-up.len_at_least)

pub loop-number-preserved : goal.loop-number-preserved
loop-number-preserved c = (
  one_more (λ n. 44 ∷ decimal n) (between 1 (length c.args.before.now) c.args.before.now) c.loop-number.number-index _ c.put_number_after.new.out.items _ _ (omega (arith, c.loop-number-test.true)) c.loop-number.invariant.0
      (c.in_default-put_number_after.ensures.ok ∙ ap (λ n. c.loop-number.out.items ++ (44 ∷ decimal n)) c.from-in-loop-number.ensures),
  c.loop-number.invariant.1,
)

pub returns-in-Err-clause-err : goal.returns-in-Err-clause-err
returns-in-Err-clause-err c =
    cut_back c.args.out.now.items _ _ _ _
    (appended_on c.args.out.now.items _ _ _ _ c.in_ok-put_number_after.ensures.ok (c.in-Err.ensures.err ∙ c.loop-number.invariant.0)) c.loop-number.invariant.1 c.truncate.ensures.items
