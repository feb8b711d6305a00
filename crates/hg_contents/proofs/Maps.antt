-- The checkpoint that a root makes with a map of words.
use Rattle.std.proofs.Common.{◌≡◌, ◌∙◌, ◌<◌, ◌+◌, ◌*◌, ◌/◌, ◌%◌, ℕ, zero, suc, Bool, true, false, List, length, map, get_or, if◌then◌else◌, refl, sym, ap, subst, arith}
use Rattle.std.specs.List.{AllByRecursion}
use Rattle.std.proofs.Math.Nat.{div-add-mod}
use Rattle.hg_cells.specs.declared.cell.Cell.{Cell}
use Rattle.hg_cells.specs.declared.cell.Cell.TheVariants.{New}
use Rattle.hg_cells.specs.Cells.{meaning}
use Rattle.hg_detect.specs.Shown.{report_of}
use Rattle.hg_pages.specs.Slots.{HasSlot, IsKnown}
use Rattle.std.proofs.lemmas.List.{ext_get_or}
use Rattle.hg_root.specs.declared.parts.PageSlot.{PageSlot}
use Rattle.hg_root.specs.Parts.{Parts}
use Rattle.hg_contents.specs.Images.{cell_of, has_slot}
use Rattle.hg_contents.specs.Maps.{CheckpointsAreContents, HasPageOf, IsNewElsewhere, MapsAreStored, cells_from, checkpoint_of}

module _ (cells : ℕ → Cell) where
  count : (first n : ℕ) → length (cells_from cells first n) ≡ n
  unfolding cells_from
  count first zero = refl
  count first (suc n) = ap (λ (k : ℕ). suc k) (count (first + 1) n)

  there : (first n i : ℕ) → i < n → get_or (cells_from cells first n) i New ≡ cells (first + i)
  unfolding cells_from
  there first zero i lt = absurd (omega (arith, lt))
  there first (suc n) zero lt = let here : first ≡ first + 0 = omega arith in ap cells here
  there first (suc n) (suc i) lt = let here : first + 1 + i ≡ first + suc i = omega arith in there (first + 1) n i (omega (arith, lt)) ∙ ap cells here

  each_known : (segments : ℕ) (sets : List (List ℕ)) (first n : ℕ) → ((w : ℕ) → IsKnown segments sets (cells w)) → AllByRecursion (IsKnown segments sets) (cells_from cells first n)
  unfolding cells_from
  each_known segments sets first zero known = tt
  each_known segments sets first (suc n) known = (known first, each_known segments sets (first + 1) n known)

  same_page : (slots : List ℕ) (p : PageSlot) (page : HasPageOf cells slots p) → page.0 ≡ cells_from cells (256 * p.page) 256
  same_page slots p page =
      ext_get_or New page.0 (cells_from cells (256 * p.page) 256) (page.1.page_is.words ∙ sym (count (256 * p.page) 256)) (λ i lt.
      let inside : i < 256 = omega (arith, lt, page.1.page_is.words) in
      sym (page.2 i inside) ∙ sym (there (256 * p.page) 256 i inside))

pub stored : MapsAreStored
stored root cells slots known pages i d lt =
    let p = get_or root.pages i d in
    let page = pages i d lt in
    record {
      stands = subst (λ (l : List Cell). HasSlot p.slot p.page l slots) (same_page cells slots p page) page.1;
      known = each_known cells (length root.segments) root.sets (256 * p.page) 256 known;
    }

of_page : (b : Bool) (xs : List Cell) (k : ℕ) (c : Cell) → (b ≡ true → get_or xs k New ≡ c) → (b ≡ false → c ≡ New) → (if b then get_or xs k New else New) ≡ c
of_page true xs k c has none = has refl
of_page false xs k c has none = sym (none refl)

same_word : (root : Parts) (cells : ℕ → Cell) → IsNewElsewhere root cells → (w : ℕ) → cell_of (checkpoint_of root cells) w ≡ cells w
same_word root cells new w =
    of_page (has_slot root.pages (w / 256)) (cells_from cells (256 * (w / 256)) 256) (w % 256) (cells w)
    (λ has. there cells (256 * (w / 256)) 256 (w % 256) (omega arith) ∙ ap cells (div-add-mod w 256)) (λ none. new w none)

pub contents : CheckpointsAreContents
contents d root has new = λ i. record {
  events = has.events i;
  segments = has.segments i;
  threads = has.threads i;
  words = λ w. meaning (has.sets i) (same_word root d.words new w i);
  reports = map (report_of (has.sets i)) (has.reports i);
  total = has.total i;
  last = λ source. sym (has.last source) i;
}
