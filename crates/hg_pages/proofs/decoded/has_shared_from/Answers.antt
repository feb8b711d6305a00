use Rattle.std.proofs.Common.{◌≡◌, ◌≤◌, ◌∙◌, ℕ, List, ap, sym, subst, arith}
use Rattle.hg_pages.specs.Numbers.{HaveThreadSets}
use Rattle.hg_pages.specs.Reading.{cell_bytes, number_at}
use Rattle.hg_pages.proofs.Reading.{neither, sets_more}
use Rattle.hg_pages.proofs.decoded.has_shared_from.Goals as goal

pub loop-word-init : goal.loop-word-init
loop-word-init c _ sets have = have

pub loop-word-preserved : goal.loop-word-preserved
loop-word-preserved c none sets have =
    let bytes = c.args.bytes.now in
    let word = c.loop-word.word in
    let head : c.numbers_in-numbers.result.0 ≡ number_at (cell_bytes bytes word) 0 = c.numbers_in-numbers.ensures.head ∙ ap (λ (l : List ℕ). number_at l 0) c.cell_part.ensures.bytes in
    let are = neither c.loop-word.has_shared c.are_of_shared-is_shared.result none in
    sets_more bytes sets word (c.loop-word.invariant are.0 sets have)
    (λ threads by. absurd (cc (sym (c.are_of_shared-is_shared.ensures.1 (subst (λ (n : ℕ). 33554432 ≤ n) (sym head) by.0)) ∙ are.1)))

pub returns : goal.returns
returns c = record {
  none = λ none sets. subst (λ (n : ℕ). HaveThreadSets sets c.args.from c.args.bytes.now → HaveThreadSets sets n c.args.bytes.now) (omega (arith, c.loop-word-test.false, c.loop-word.auto.word-end)) (c.loop-word.invariant none sets);
}
