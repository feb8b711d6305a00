-- Each page of a root's table is looked up.
use Rattle.std.proofs.Common.{if◌then◌else◌, ◌==◌, ◌||◌, ◌/◌, ◌%◌, Bool, true, false, Option, None, ◌≡◌, ◌≢◌, ◌∙◌, ◌<◌, ◌≤◌, ◌+◌, ◌^◌, ◌++◌, ℕ, suc, List, [], ◌∷◌, length, map, take, get_or, Some, All, AllPairs, refl, sym, ap, subst, arith}
use Rattle.std.specs.List.{AllByRecursion}
use Rattle.std.specs.List.Sorted.{IsStrictlyIncreasing}
use Rattle.hg_root.specs.Grammar.{PageFits, PagesFit}
use Rattle.hg_root.specs.Lawful.{HaveSlots}
use Rattle.std.proofs.lemmas.List.{get_or-map, length-map, map_push, take_all, take_more}
use Rattle.std.proofs.lemmas.Option.{slice_get-get_or}
use Rattle.hg_pages.specs.Tables.{AreEntries, slot_in}
use Rattle.hg_pool.specs.Tables.{AreBelow, IsNameable}
use Rattle.hg_pages.proofs.Places.{found_at, in_order}
use Rattle.hg_root.specs.Parts.{Parts}
use Rattle.hg_root.specs.declared.parts.PageSlot.{PageSlot}
use Rattle.std.proofs.Math.Nat.{div-add-mod}
use Rattle.hg_cells.specs.declared.cell.Cell.{Cell}
use Rattle.hg_pool.specs.Kept.{SameMap}
use Rattle.hg_pool.specs.Maps.{GivesCells}
use Rattle.hg_contents.specs.Images.{has_slot}
use Rattle.hg_contents.specs.Maps.{IsNewElsewhere}
use Rattle.hg_checkpoint.specs.Standing.{root_with}
use Rattle.hg_checkpoint.specs.Tables.{HasTable, pages_of}

abbrev pub row : ℕ × ℕ → PageSlot
row e = record { page = e.0; slot = e.1 }

in_table : (table : List (ℕ × ℕ)) (i : ℕ) (d : PageSlot) → AreEntries table → i < length table → slot_in table (get_or (pages_of table) i d).page ≡ Some (get_or (pages_of table) i d).slot
in_table table i d entries lt =
    let e = get_or table i (0, 0) in
    let here : get_or (pages_of table) i d ≡ record { page = e.0; slot = e.1 } = get_or-map (λ (x : ℕ × ℕ). row x) table i (0, 0) d lt in
    subst (λ (p : PageSlot). slot_in table p.page ≡ Some p.slot) (sym here) (found_at table i e.0 e.1 (in_order table entries).rising (slice_get-get_or table i (0, 0) lt))

pub has_entry : (root : Parts) (table : List (ℕ × ℕ)) (i : ℕ) (d : PageSlot) → HasTable root table → i < length root.pages → slot_in table (get_or root.pages i d).page ≡ Some (get_or root.pages i d).slot
has_entry root table i d has lt =
    let same : length (pages_of table) ≡ length table = length-map table (λ (x : ℕ × ℕ). row x) in
    let inside : i < length table = omega (arith, lt, same, ap (λ (l : List PageSlot). length l) has.pages) in
    subst (λ (l : List PageSlot). slot_in table (get_or l i d).page ≡ Some (get_or l i d).slot) (sym has.pages) (in_table table i d has.entries inside)

-- one row more
pub row_more : (table : List (ℕ × ℕ)) (i : ℕ) (d : ℕ × ℕ) → i < length table → pages_of (take (i + 1) table) ≡ pages_of (take i table) ++ row (get_or table i d) ∷ []
row_more table i d lt = ap pages_of (take_more table i d lt) ∙ map_push row (take i table) (get_or table i d)

pub all_rows : (table : List (ℕ × ℕ)) (i : ℕ) → length table ≤ i → pages_of (take i table) ≡ pages_of table
all_rows table i all = ap pages_of (take_all i table all)

-- ---- what holds of the pages of a table

same_pages : (table : List (ℕ × ℕ)) → map (λ p. p.page) (pages_of table) ≡ map (λ e. e.0) table
same_pages [] = refl
same_pages (e ∷ table) = ap (λ (l : List ℕ). e.0 ∷ l) (same_pages table)

same_slots : (table : List (ℕ × ℕ)) → map (λ p. p.slot) (pages_of table) ≡ map (λ e. e.1) table
same_slots [] = refl
same_slots (e ∷ table) = ap (λ (l : List ℕ). e.1 ∷ l) (same_slots table)

same_length : (table : List (ℕ × ℕ)) → length (pages_of table) ≡ length table
same_length table = length-map table row

fit_each : (slots : ℕ) (table : List (ℕ × ℕ)) → slots ≤ 1048576 → AreBelow slots table → AllByRecursion PageFits (pages_of table)
fit_each slots [] most all = tt
fit_each slots (e ∷ table) most all =
    let here = all 0 e (omega arith) in
    ((omega (arith, here.0), omega (arith, here.1, most)), fit_each slots table most (λ i d lt. all (suc i) d (omega (arith, lt))))

pub fit : (slots : ℕ) (table : List (ℕ × ℕ)) → IsNameable slots table → PagesFit (pages_of table)
fit slots table nameable = record { count = omega (arith, nameable.few, nameable.most, same_length table); each = fit_each slots table nameable.most nameable.below }

within_each : (slots : ℕ) (table : List (ℕ × ℕ)) → slots ≤ 1048576 → AreBelow slots table → All (λ p. (p.page < 2 ^ 54) × (p.slot < 1048576)) (pages_of table)
within_each slots table most all i d lt =
    let inside : i < length table = omega (arith, lt, same_length table) in
    let here : get_or (pages_of table) i d ≡ row (get_or table i (0, 0)) = get_or-map row table i (0, 0) d inside in
    let below = all i (0, 0) inside in
    subst (λ (p : PageSlot). (p.page < 2 ^ 54) × (p.slot < 1048576)) (sym here) (below.0, omega (arith, below.1, most))

pub have_slots : (slots : ℕ) (table : List (ℕ × ℕ)) → IsNameable slots table → HaveSlots (pages_of table)
have_slots slots table nameable = record {
  rising = subst IsStrictlyIncreasing (sym (same_pages table)) nameable.entries.rising;
  each = within_each slots table nameable.most nameable.below;
  distinct = subst (AllPairs ◌≢◌) (sym (same_slots table)) nameable.entries.distinct;
}

-- ---- the words of pages that it does not have

either_has : (a b : Bool) (slot : ℕ) (rest : Option ℕ) → (a || b) ≡ false → (b ≡ false → rest ≡ None) → (if a then Some slot else rest) ≡ None
either_has false b slot rest none later = later none
either_has true b slot rest none later = absurd (cc none)

right_none : (a b : Bool) → (a || b) ≡ false → b ≡ false
right_none false b none = none
right_none true b none = absurd (cc none)

no_entry : (table : List (ℕ × ℕ)) (page : ℕ) → has_slot (pages_of table) page ≡ false → slot_in table page ≡ None
no_entry [] page none = refl
no_entry (e ∷ table) page none = either_has (e.0 == page) (has_slot (pages_of table) page) e.1 (slot_in table page) none (λ later. no_entry table page later)

pub new_elsewhere : (parts : Parts) (table : List (ℕ × ℕ)) (cells given : ℕ → Cell) (image : List ℕ) → GivesCells table given image → SameMap cells given → IsNewElsewhere (root_with parts table) cells
new_elsewhere parts table cells given image gives same w none =
    sym (same w) ∙ ap given (sym (div-add-mod w 256)) ∙ gives.unnamed (w / 256) (w % 256) (omega arith) (no_entry table (w / 256) none)
