use Rattle.std.proofs.Common.{◌≡◌, ◌<◌, ◌∙◌, IsTrue, false, length, sym, ap, ⊎_elim, rules, arith}
use Rattle.hg_pages.specs.Slots.{cell_text}
use Rattle.hg_pages.proofs.Encoding.{fit_more, got}
use Rattle.hg_pages.proofs.Decoding.{compared, compared_more, text_at}
use Rattle.hg_pages.proofs.Reading.{both, either, truth}
use Rattle.hg_pages.proofs.encoded.is_text.Goals as goal

pub returns-clause-spelled : goal.returns-clause-spelled
returns-clause-spelled c = (
  λ yes. compared c.args.page c.loop-word.word c.args.bytes.now c.args.cells.now c.requires (omega (arith, c.loop-word-test.false, c.loop-word.auto.word-end)) c.get-lowest.ensures.words (search rules) (c.loop-word.invariant.spelled yes),
  λ same. truth c.loop-word.are_same (λ no. c.loop-word.invariant.other no same),
)

pub loop-word-preserved : goal.loop-word-preserved
loop-word-preserved c =
    let word = c.loop-word.word in
    let is = got c.args.cells.now word c.get.result c.get.ensures.cell in
    let inside : word < length c.args.cells.now = omega (arith, c.loop-word-test.true, c.get-lowest.ensures.words) in
    record {
      spelled = λ same.
          let are = both c.loop-word.are_same c.has_cell-is_same.result same in
          compared_more c.args.bytes.now c.args.cells.now word inside (c.loop-word.invariant.spelled are.0) (c.has_cell-is_same.ensures.spelled.0 are.1 ∙ ap cell_text (sym is));
      other = λ differs text.
          ⊎_elim (λ (before : c.loop-word.are_same ≡ false). c.loop-word.invariant.other before text)
          (λ (here : c.has_cell-is_same.result ≡ false).
          let has : IsTrue c.has_cell-is_same.result = c.has_cell-is_same.ensures.spelled.1 (text_at c.args.page c.args.cells.now c.args.bytes.now word c.loop-word-test.true c.get-lowest.ensures.words text ∙ ap cell_text is) in
          absurd (cc (sym has ∙ here)))
          (either c.loop-word.are_same c.has_cell-is_same.result differs);
      fit = fit_more c.args.cells.now word c.get.result inside is c.loop-word.invariant.fit c.has_cell-is_same.ensures.fits;
    }
