use Rattle.std.proofs.Common.{◌≡◌, ◌<◌, ◌+◌, ℕ, suc, List, ◌∷◌, length, drop, get_or, ap, sym, ◌∙◌, subst, add-one, drop-cons, arith}
use Rattle.std.specs.List.{AllByRecursion}
use Rattle.std.proofs.lemmas.List.{get_or-drop, get_or_read, length-drop}
use Rattle.hg_pages.specs.Marks.{ArePagesRising}
use Rattle.hg_pages.proofs.Rising.{above_next, each_weaker, rising_behind}
use Rattle.hg_pages.proofs.entries.place_of.Goals.{else-place-len-via-then-place-len+else-at-page, else-place-len-via-else-place-len}
use Rattle.hg_pages.proofs.entries.place_of.Goals as goal

pub returns-then-at-page : goal.returns-then-at-page
returns-then-at-page c =
    let entries = c.args.entries.now.items in
    let place = c.count_below-place.result in
    let inside : place < length entries = omega (arith, c.if-place-len.true, c.len.ensures) in
    let here : (d : ℕ × ℕ) → (get_or entries place d).0 ≡ c.args.page = λ d. ap (λ (e : ℕ × ℕ). e.0) (sym (get_or_read entries place c.at.result inside c.at.ensures d)) ∙ c.if-at-page.true in
    let behind : ArePagesRising (get_or entries place (0, 0) ∷ drop (suc place) entries) = subst (λ (l : List (ℕ × ℕ)). ArePagesRising l) (drop-cons entries place (0, 0) inside) (rising_behind place entries c.requires) in
    record {
      within = inside;
      here = here;
      below = c.count_below-place.ensures.below;
      above = subst (λ (n : ℕ). AllByRecursion (λ e. c.args.page < e.0) (drop n entries)) (sym (add-one place))
          (each_weaker (λ e. (get_or entries place (0, 0)).0 < e.0) (λ e. c.args.page < e.0) (λ e lt. omega (arith, lt, here (0, 0))) (drop (suc place) entries) behind.0);
    }

pub returns-else-place-len : goal.returns-else-place-len
returns-else-place-len c =
    let entries = c.args.entries.now.items in
    let place = c.count_below-place.result in
    record {
      within = c.count_below-place.ensures.within;
      below = c.count_below-place.ensures.below;
      above = above_next c.args.page (drop place entries) (rising_behind place entries c.requires) c.count_below-place.ensures.behind (λ d lt.
          let inside : place < length entries = omega (arith, lt, length-drop place entries) in
          elim c.else-place-len.branch [
            | else-place-len-via-then-place-len+else-at-page w ↦ (λ is.
                w.if-at-page.false (ap (λ (e : ℕ × ℕ). e.0) (get_or_read entries place w.at.result inside w.at.ensures d) ∙ there d ∙ is))
            | else-place-len-via-else-place-len w ↦ (λ is. absurd (omega (arith, inside, c.len.ensures, w.if-place-len.false)))
          ]);
    }
  where
    nothing : (n : ℕ) → n + 0 ≡ n
    nothing n = omega arith

    there : (d : ℕ × ℕ) → (get_or c.args.entries.now.items c.count_below-place.result d).0 ≡ (get_or (drop c.count_below-place.result c.args.entries.now.items) 0 d).0
    there d = ap (λ (n : ℕ). (get_or c.args.entries.now.items n d).0) (sym (nothing c.count_below-place.result)) ∙ ap (λ (e : ℕ × ℕ). e.0) (sym (get_or-drop c.count_below-place.result c.args.entries.now.items 0 d))
