use Rattle.std.proofs.Common.{rules, ◌≡◌, ◌⊎◌, ◌+◌, ◌/◌, ◌<◌, ◌≤◌, ◌∙◌, ℕ, inl, inr, ⊎_elim, sym, ap, subst, arith}
use Rattle.std.proofs.lemmas.Bool.{cases_lt}
use Rattle.hg_pool.specs.Maps.{disk_of, live}
use Rattle.hg_pool.specs.OfWords.{IsSettled, went_on}
use Rattle.hg_pool.specs.Shown.{ShownPool}
use Rattle.hg_pool.proofs.words.PoolWords.set_run.Goals as goal

pub loop-word-preserved : goal.loop-word-preserved
loop-word-preserved g c =
    let h = c.loop-word.invariant in
    let mid = c.loop-word.self in
    let new = c.fill_page.new.self in
    let word = c.loop-word.word in
    let n = c.min-count.result in
    let fills = c.fill_page.ensures in
    let inside : (w : ℕ) → word ≤ w → w < word + n → live g.D.Disk new w ≡ c.args.cell = search rules in
    let outside : (w : ℕ) → (w < word) ⊎ (word + n ≤ w) → live g.D.Disk new w ≡ live g.D.Disk mid w = search rules in (
      omega (arith, h.0),
      grind arith,
      λ w low high. ⊎_elim (λ before. outside w (inl before) ∙ h.2 w low before) (λ after. inside w after high) (cases_lt w word),
      λ w out. outside w (⊎_elim (λ low. inl (omega (arith, h.0))) (λ high. inr high) out) ∙ h.3 w (⊎_elim (λ low. inl low) (λ high. inr (omega arith)) out),
      λ w kept. let before = h.4 w kept in (fills.present (w / 256) before.0, subst (λ (p : ShownPool g.row.D.Denot). IsSettled p (w / 256)) (sym fills.rest) before.1),
      λ k m within before. fills.within k m within (h.5 k m within before),
      λ k m within before. fills.faithful k m within (h.6 k m within before),
      went_on g.D.Disk c.args.self.now mid new h.7 fills.went,
      ap (λ (p : ShownPool g.row.D.Denot). g.D.Disk.failures (disk_of p)) fills.rest ∙ h.8,
    )
