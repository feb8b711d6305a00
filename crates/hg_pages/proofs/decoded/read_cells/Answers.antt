use Rattle.std.proofs.Common.{◌≡◌, ◌<◌, ◌≤◌, ◌∙◌, ℕ, List, false, ap, length, set, sym, subst, ⊎_elim, arith}
use Rattle.hg_pages.specs.Numbers.{AreRead, HasNoShared}
use Rattle.hg_pages.specs.Reading.{cell_bytes, number_at, text_of}
use Rattle.hg_pages.proofs.Reading.{both, either, neither, none_more, none_shared_more, read_more}
use Rattle.hg_pages.proofs.decoded.read_cells.Goals as goal

pub loop-word-preserved : goal.loop-word-preserved
loop-word-preserved c =
    let word = c.loop-word.word in
    let cells = c.loop-word.cells in
    let bytes = c.args.bytes.now in
    let inside : word < length cells = omega (arith, c.loop-word-test.true, c.loop-word.invariant.words) in
    let put : set cells word c.cell_from.result ≡ c.set.new.self = sym c.set.ensures.cells in
    let text : text_of c.numbers_in-numbers.result ≡ cell_bytes bytes word = c.numbers_in-numbers.ensures.text ∙ c.cell_part.ensures.bytes in
    let head : c.numbers_in-numbers.result.0 ≡ number_at (cell_bytes bytes word) 0 = c.numbers_in-numbers.ensures.head ∙ ap (λ (l : List ℕ). number_at l 0) c.cell_part.ensures.bytes in
    record {
      words = c.set.ensures.words;
      read = λ right.
          let are = both c.loop-word.are_right c.spell_within-is_right.result right in
          read_more bytes cells c.set.new.self c.args.segments c.args.sets word c.numbers_in-numbers.result c.cell_from.result inside put text c.cell_from.ensures (c.loop-word.invariant.read are.0) (c.spell_within-is_right.ensures.yes are.1);
      none = λ wrong.
          ⊎_elim (λ (before : c.loop-word.are_right ≡ false). c.loop-word.invariant.none before)
          (λ (here : c.spell_within-is_right.result ≡ false). none_more bytes c.args.segments c.args.sets word c.numbers_in-numbers.result c.loop-word-test.true text (c.spell_within-is_right.ensures.no here))
          (either c.loop-word.are_right c.spell_within-is_right.result wrong);
      shared = λ none.
          let are = neither c.loop-word.has_shared c.are_of_shared-is_shared.result none in
          none_shared_more bytes word (c.loop-word.invariant.shared are.0)
          (λ here. absurd (cc (sym (c.are_of_shared-is_shared.ensures.1 (subst (λ (n : ℕ). 33554432 ≤ n) (sym head) here)) ∙ are.1)));
    }

pub returns-clause-read : goal.returns-clause-read
returns-clause-read c right =
    subst (λ (n : ℕ). AreRead c.args.segments c.args.sets n c.args.bytes.now c.loop-word.cells) (omega (arith, c.loop-word-test.false, c.loop-word.auto.word-end)) (c.loop-word.invariant.read right)

pub returns-clause-shared : goal.returns-clause-shared
returns-clause-shared c none = subst (λ (n : ℕ). HasNoShared n c.args.bytes.now) (omega (arith, c.loop-word-test.false, c.loop-word.auto.word-end)) (c.loop-word.invariant.shared none)
