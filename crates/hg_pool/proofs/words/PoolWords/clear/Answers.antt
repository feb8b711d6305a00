use Rattle.std.proofs.Common.{rules, ◌≡◌, ◌⊎◌, ◌+◌, ◌/◌, ◌<◌, ◌≤◌, ◌∙◌, ℕ, Bool, inl, inr, ⊎_elim, if◌then◌else◌, ap, arith}
use Rattle.std.proofs.lemmas.Bool.{cases_lt}
use Rattle.hg_cells.specs.declared.cell.Cell.TheVariants.{New}
use Rattle.hg_pool.specs.Maps.{live}
use Rattle.hg_pool.specs.OfWords.{went_on}
use Rattle.hg_pool.specs.Shown.{ShownPool}
use Rattle.hg_pool.proofs.Overlapping.{is_in_step, overlapped, steps, whole_page}
use Rattle.hg_pool.proofs.words.PoolWords.clear.Goals as goal

pub clear_page-requires-clause-present : goal.clear_page-requires-clause-present
clear_page-requires-clause-present g c =
    let h = c.loop-word.invariant in
    let word = c.loop-word.word in
    let some = c.requires.0.0 in
    let here = overlapped c.args.at c.args.len word (omega (arith, h.low)) (omega (arith, c.loop-word-test.true, c.from.ensures, some)) in
    ⊎_elim (λ brought. inl (h.present (word / 256) (omega arith) brought))
    (λ covered. inr (whole_page c.args.at c.args.len word ((c.args.at + c.from.result) / 4 + 1) c.min-count.result some (omega (arith, c.from.ensures)) c.loop-word-test.true h.begins c.min-count.ensures covered))
    (c.requires.1 word here).1

pub loop-word-preserved : goal.loop-word-preserved
loop-word-preserved g c =
    let h = c.loop-word.invariant in
    let mid = c.loop-word.self in
    let new = c.clear_page.new.self in
    let word = c.loop-word.word in
    let n = c.min-count.result in
    let did = c.clear_page.ensures in
    let step = steps word ((c.args.at + c.from.result) / 4 + 1) n c.loop-word-test.true c.min-count.ensures in
    let inside : (w : ℕ) → word ≤ w → w < word + n → live g.D.Disk new w ≡ New =
    λ w low high. did.cells w ∙ ap (λ (b : Bool). if b then New else live g.D.Disk mid w) (is_in_step word n w step.1 low high) in
    let outside : (w : ℕ) → (w < word) ⊎ (word + n ≤ w) → live g.D.Disk new w ≡ live g.D.Disk mid w = search rules in
    record {
      low = omega (arith, h.low);
      high = step.0;
      begins = inr step.2;
      cleared = λ w low high. ⊎_elim (λ before. outside w (inl before) ∙ h.cleared w low before) (λ after. inside w after high) (cases_lt w word);
      others = λ w out. outside w (⊎_elim (λ low. inl (omega (arith, h.low, low))) (λ high. inr high) out) ∙ h.others w (⊎_elim (λ low. inl low) (λ high. inr (omega (arith, high))) out);
      rest = did.rest ∙ ap (λ (p : ShownPool g.row.D.Denot). record p { live = new.live; frames = new.frames }) h.rest;
      present = λ q le was. did.present q (λ same. inr (omega (arith, le, same))) (h.present q (omega (arith, le)) was);
      lawful = λ k m was. did.within k m (h.lawful k m was);
      faithful = λ k m was. did.faithful k m tt (h.faithful k m was);
      went = went_on g.D.Disk c.args.self.now mid new h.went did.went;
    }
