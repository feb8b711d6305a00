use Rattle.std.proofs.Common.{◌≡◌, ◌∙◌, ℕ, false, subst, sym, ⊎_elim, arith}
use Rattle.hg_pages.specs.Numbers.{HasThreads, HaveThreadSets}
use Rattle.hg_pages.proofs.Reading.{both, either, sets_more}
use Rattle.hg_pages.proofs.decoded.have_thread_sets_from.Goals as goal

pub loop-word-preserved : goal.loop-word-preserved
loop-word-preserved c =
    let bytes = c.args.bytes.now in
    let sets = c.args.sets.now.sets in
    record {
      yes = λ all have.
          let are = both c.loop-word.have_all c.has_threads-has_one.result all in
          sets_more bytes sets c.loop-word.word (c.loop-word.invariant.yes are.0 have)
          (subst (HasThreads sets) c.cell_part.ensures.bytes (c.has_threads-has_one.ensures.0 are.1));
      no = λ wrong.
          ⊎_elim (λ (before : c.loop-word.have_all ≡ false). c.loop-word.invariant.no before)
          (λ (here : c.has_threads-has_one.result ≡ false). (c.loop-word.word, omega (arith, c.loop-word-test.true), λ has. absurd (cc (sym (c.has_threads-has_one.ensures.1 (subst (HasThreads sets) (sym c.cell_part.ensures.bytes) has)) ∙ here))))
          (either c.loop-word.have_all c.has_threads-has_one.result wrong);
    }

pub returns-clause-yes : goal.returns-clause-yes
returns-clause-yes c all = subst (λ (n : ℕ). HaveThreadSets c.args.sets.now.sets c.args.from c.args.bytes.now → HaveThreadSets c.args.sets.now.sets n c.args.bytes.now) (omega (arith, c.loop-word-test.false, c.loop-word.auto.word-end)) (c.loop-word.invariant.yes all)
