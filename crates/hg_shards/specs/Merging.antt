-- Reports by event and then by word, and the reports of several lists in that order.
use Rattle.std.specs.Prelude.{◌≡◌, ℕ, ◌<◌, Bool, true, false, ◌&&◌, ◌||◌, ◌==◌, nat_lt, List, [], ◌∷◌, length, map, slice_index_or, slice_set, drop, Option, Some, None, Vec, fold, if◌then◌else◌}
use Rattle.std.specs.Borrow.{Bor}
use Rattle.std.specs.List.{AllByRecursion, flat_map}
use Rattle.hg_model.specs.declared.report.Report.{Report}
use Rattle.hg_shards.specs.declared.merge.Place.{Place}

-- where a report stands
abbrev pub place_of : Report → Place
place_of r = record { event = r.event; word = r.word }

-- the first place is before the second: its event is less, or they have one event and its word is less
abbrev pub comes_before : Place → Place → Bool
comes_before p q = nat_lt p.event q.event || ((p.event == q.event) && nat_lt p.word q.word)

-- the first report stands before the second, as a test
abbrev pub is_before : Report → Report → Bool
is_before r s = comes_before (place_of r) (place_of s)

-- the first report stands before the second
abbrev pub IsBefore : Report → Report → Type 0
IsBefore r s = is_before r s ≡ true

-- Each report stands before all that come behind it.
abbrev pub Rises : List Report → Type 0
Rises [] = Unit {0}
Rises (r ∷ reports) = AllByRecursion (IsBefore r) reports × Rises reports

-- the reports with one more, put in front of the first that it stands before
abbrev pub with_report : List Report → Report → List Report
with_report [] r = r ∷ []
with_report (s ∷ reports) r = if is_before r s then r ∷ s ∷ reports else s ∷ with_report reports r

-- the reports, sorted by event and then by word
abbrev pub sorted : List Report → List Report
sorted reports = fold with_report [] reports

-- the reports of all lists, sorted by event and then by word
abbrev pub merged : List (List Report) → List Report
merged lists = sorted (flat_map (λ reports. reports) lists)

-- where the first report of a list stands, if there is one
abbrev pub head_of : List Report → Option Place
head_of [] = None
head_of (r ∷ reports) = Some (place_of r)

-- a list with the first head is to be taken before one with the second
abbrev pub wins : Option Place → Option Place → Bool
wins None other = false
wins (Some p) None = true
wins (Some p) (Some q) = comes_before p q

-- The first report of list k comes first in what is merged of the lists, and what is merged of the rest comes behind it.
pub record TakesNext (lists : List (List Report)) (k : ℕ) : Type 0 where
  pub report : Report
  pub rest : List Report
  pub within : k < length lists
  pub is_there : slice_index_or lists k [] ≡ report ∷ rest
  pub comes_first : merged lists ≡ report ∷ merged (slice_set lists k rest)

-- The list whose first report comes next in what is merged of the lists. There is none where there is no report.
abbrev pub IsNext : List (List Report) → Option ℕ → Type 0
IsNext lists None = merged lists ≡ []
IsNext lists (Some k) = TakesNext lists k

-- The list that comes next, where lists have these heads and each of them rises.
abbrev pub IsNextByHeads : List (Option Place) → Option ℕ → Type 0
IsNextByHeads heads found = (lists : List (List Report)) → AllByRecursion Rises lists → map head_of lists ≡ heads → IsNext lists found

-- what is left of lists where so many reports of each were given
abbrev pub left : {Z : Type 0} → List ℕ → List (Vec Report Z) → List (List Report)
left [] lists = []
left (n ∷ given) [] = []
left (n ∷ given) (list ∷ lists) = drop n list.items ∷ left given lists

-- A merge of these lists is under way, where so many reports of each were given, and these are the heads of what is left.
pub record IsUnderWay {Z : Type 0} (lists : List (Vec Report Z)) (given : List ℕ) (heads : List (Option Place)) : Type 0 where
  pub counts : length given ≡ length lists
  pub heads_are : heads ≡ map head_of (left given lists)
  pub rise : AllByRecursion Rises (left given lists)

-- What came is the next report of a merge of the lists and leaves these, or there was none.
abbrev pub ComesNext : List (List Report) → Option (Bor Report) → List (List Report) → Type 0
ComesNext old None new = (merged old ≡ []) × (new ≡ old)
ComesNext old (Some r) new = merged old ≡ r.now ∷ merged new
