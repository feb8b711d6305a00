-- What a look-up, a set and a removal make of entries: by the parts before and behind a page.
use Rattle.std.proofs.Common.{if◌then◌else◌, ◌≡◌, ◌≢◌, ◌<◌, ◌≤◌, ◌+◌, ◌==◌, ◌||◌, ℕ, zero, suc, Bool, true, false, List, [], ◌∷◌, ◌++◌, length, take, drop, set, get_or, Option, Some, None, refl, sym, ◌∙◌, ap, subst, arith, rules, add-one, drop-cons, length-append, take-append-drop, is_some}
use Rattle.std.specs.List.{AllByRecursion, insert, remove}
use Rattle.std.proofs.lemmas.List.{get_or_past, get_or-set_other, get_or-set_same, set_split}
use Rattle.hg_pages.specs.Marks.{AreMarks, AreSlotsDistinct, BelongsAt, IsInOrder, Parts, Puts, StandsAt, cleared, entry_of, is_named, marked}
use Rattle.hg_pages.specs.Tables.{slot_in}
use Rattle.hg_pages.proofs.Rising.{distinct_with, distinct_without, named_by, named_with, none_around, page_of, rising_with, rising_without, slot_with}

pub parts_standing : (page slot place : ℕ) (es : List (ℕ × ℕ)) (d : ℕ × ℕ) → StandsAt page es place → (get_or es place d).1 ≡ slot → Parts page (Some slot) es
parts_standing page slot place es d at is = record {
  before = take place es;
  behind = drop (place + 1) es;
  whole = sym (take-append-drop place es) ∙ ap (λ (l : List (ℕ × ℕ)). take place es ++ l) (drop-cons es place d at.within ∙ (λ i. (at.here d i, is i) ∷ drop (sym (add-one place) i) es));
  below = at.below;
  above = at.above;
}

pub parts_missing : (page place : ℕ) (es : List (ℕ × ℕ)) → BelongsAt page es place → Parts page None es
parts_missing page place es at = record { before = take place es; behind = drop place es; whole = sym (take-append-drop place es); below = at.below; above = at.above }

pub put_standing : (page former slot place : ℕ) (es : List (ℕ × ℕ)) (d : ℕ × ℕ) → StandsAt page es place → (get_or es place d).1 ≡ former → Puts page (Some former) (Some slot) es (set es place (page, slot))
unfolding parts_standing
put_standing page former slot place es d at is = record {
  parts = parts_standing page former place es d at is;
  whole = set_split es place (page, slot) at.within ∙ ap (λ (n : ℕ). take place es ++ ((page, slot) ∷ drop n es)) (sym (add-one place));
}

pub put_missing : (page slot place : ℕ) (es : List (ℕ × ℕ)) → BelongsAt page es place → Puts page None (Some slot) es (insert es place (page, slot))
unfolding parts_missing
put_missing page slot place es at = record { parts = parts_missing page place es at; whole = refl }

pub taken_standing : (page former place : ℕ) (es : List (ℕ × ℕ)) (d : ℕ × ℕ) → StandsAt page es place → (get_or es place d).1 ≡ former → Puts page (Some former) None es (remove es place)
unfolding parts_standing
taken_standing page former place es d at is = record {
  parts = parts_standing page former place es d at is;
  whole = ap (λ (n : ℕ). take place es ++ drop n es) (sym (add-one place));
}

pub taken_missing : (page place : ℕ) (es : List (ℕ × ℕ)) → BelongsAt page es place → Puts page None None es es
unfolding parts_missing
taken_missing page place es at = record { parts = parts_missing page place es at; whole = sym (take-append-drop place es) }

same_test : (n : ℕ) → (n == n) ≡ true
same_test n = grind rules

equal : (a b : ℕ) → (a == b) ≡ true → a ≡ b
equal a b is = grind rules

not_equal : (a b : ℕ) → a ≢ b → (a == b) ≡ false
not_equal a b apart = grind rules

if_none : (page other : ℕ) (here : Bool) (es : List (ℕ × ℕ)) → (page == other) ≡ here → slot_in es page ≡ None → slot_in es other ≡ (if here then None else slot_in es other)
if_none page other true es test none = ap (λ (n : ℕ). slot_in es n) (sym (equal page other test)) ∙ none
if_none page other false es test none = refl

-- a page in the middle, or none
pub look_entry : (page : ℕ) (slot : Option ℕ) (before behind : List (ℕ × ℕ)) (other : ℕ) → AllByRecursion (λ e. e.0 < page) before → AllByRecursion (λ e. page < e.0) behind
    → slot_in (before ++ (entry_of page slot ++ behind)) other ≡ (if page == other then slot else slot_in (before ++ behind) other)
look_entry page None before behind other below above = if_none page other (page == other) (before ++ behind) refl (none_around page before behind below above)
look_entry page (Some slot) before behind other below above = slot_with page slot before behind other below

if_here : (b : Bool) (x y : Option ℕ) → b ≡ true → (if b then x else y) ≡ x
if_here true x y is = refl
if_here false x y is = absurd (cc is)

if_elsewhere : (b : Bool) (x y : Option ℕ) → b ≡ false → (if b then x else y) ≡ y
if_elsewhere true x y is = absurd (cc is)
if_elsewhere false x y is = refl

pub looked : (page : ℕ) (slot : Option ℕ) (es : List (ℕ × ℕ)) → Parts page slot es → slot_in es page ≡ slot
looked page slot es parts =
    ap (λ (l : List (ℕ × ℕ)). slot_in l page) parts.whole ∙ look_entry page slot parts.before parts.behind page parts.below parts.above
    ∙ if_here (page == page) slot (slot_in (parts.before ++ parts.behind) page) (same_test page)

merged : (b : Bool) (x y r o : Option ℕ) → o ≡ (if b then y else r) → (if b then x else r) ≡ (if b then x else o)
merged true x y r o is = refl
merged false x y r o is = sym is

pub look_put : (page : ℕ) (former slot : Option ℕ) (old new : List (ℕ × ℕ)) → Puts page former slot old new → (other : ℕ) → slot_in new other ≡ (if page == other then slot else slot_in old other)
look_put page former slot old new puts other =
    let parts = puts.parts in
    ap (λ (l : List (ℕ × ℕ)). slot_in l other) puts.whole ∙ look_entry page slot parts.before parts.behind other parts.below parts.above
    ∙ merged (page == other) slot former (slot_in (parts.before ++ parts.behind) other) (slot_in old other)
    (ap (λ (l : List (ℕ × ℕ)). slot_in l other) parts.whole ∙ look_entry page former parts.before parts.behind other parts.below parts.above)

-- what is left without the page
without : (page : ℕ) (former : Option ℕ) (before behind : List (ℕ × ℕ)) → IsInOrder (before ++ (entry_of page former ++ behind)) → IsInOrder (before ++ behind)
without page None before behind are = are
without page (Some slot) before behind are =
    record { rising = rising_without before (page, slot) behind are.rising; distinct = (distinct_without (page, slot) before behind are.distinct).0 }

pub rest_of : (page : ℕ) (former : Option ℕ) (es : List (ℕ × ℕ)) (parts : Parts page former es) → IsInOrder es → IsInOrder (parts.before ++ parts.behind)
rest_of page former es parts are = without page former parts.before parts.behind (subst (λ (l : List (ℕ × ℕ)). IsInOrder l) parts.whole are)

-- a slot in which no other page lies
pub not_true : (b : Bool) → (b ≡ true → ⊥) → b ≡ false
not_true true h = absurd (h refl)
not_true false h = refl

other_page : (page p slot : ℕ) (former : Option ℕ) (es : List (ℕ × ℕ)) (parts : Parts page former es) → ((other : ℕ) → slot_in es other ≡ Some slot → other ≡ page)
    → slot_in (parts.before ++ parts.behind) p ≡ Some slot → (here : Bool) → (page == p) ≡ here → p ≡ page
other_page page p slot former es parts free found true test = sym (equal page p test)
other_page page p slot former es parts free found false test =
    free p (ap (λ (l : List (ℕ × ℕ)). slot_in l p) parts.whole ∙ look_entry page former parts.before parts.behind p parts.below parts.above ∙ if_elsewhere (page == p) former (slot_in (parts.before ++ parts.behind) p) test ∙ found)

pub slot_free : (page slot : ℕ) (former : Option ℕ) (es : List (ℕ × ℕ)) (parts : Parts page former es) → IsInOrder es → ((other : ℕ) → slot_in es other ≡ Some slot → other ≡ page)
    → is_named (parts.before ++ parts.behind) slot ≡ false
slot_free page slot former es parts are free =
    let rest = parts.before ++ parts.behind in
    not_true (is_named rest slot) (λ named.
    let found = page_of rest slot (rest_of page former es parts are).rising named in
    let same : found.0 ≡ page = other_page page found.0 slot former es parts free found.1 (page == found.0) refl in
    absurd (cc (sym found.1 ∙ ap (λ (n : ℕ). slot_in rest n) same ∙ none_around page parts.before parts.behind parts.below parts.above)))

pub entries_put : (page slot : ℕ) (former : Option ℕ) (old new : List (ℕ × ℕ)) → Puts page former (Some slot) old new → IsInOrder old → ((other : ℕ) → slot_in old other ≡ Some slot → other ≡ page) → IsInOrder new
entries_put page slot former old new puts are free =
    let parts = puts.parts in
    let rest = rest_of page former old parts are in
    subst (λ (l : List (ℕ × ℕ)). IsInOrder l) (sym puts.whole) (record {
      rising = rising_with parts.before (page, slot) parts.behind rest.rising parts.below parts.above;
      distinct = distinct_with (page, slot) parts.before parts.behind rest.distinct (slot_free page slot former old parts are free);
    })

pub entries_taken : (page : ℕ) (former : Option ℕ) (old new : List (ℕ × ℕ)) → Puts page former None old new → IsInOrder old → IsInOrder new
entries_taken page former old new puts are = subst (λ (l : List (ℕ × ℕ)). IsInOrder l) (sym puts.whole) (rest_of page former old puts.parts are)

-- marks
past : (marks : List Bool) (slot : ℕ) → length marks ≤ slot → get_or marks slot false ≡ false
past marks slot le = get_or_past marks slot false le

pub within : (marks : List Bool) (slot : ℕ) → get_or marks slot false ≡ true → slot < length marks
within [] slot is = absurd (cc is)
within (m ∷ marks) slot is = grind (arith, past (m ∷ marks) slot)

pub former_within : (page slot : ℕ) (es : List (ℕ × ℕ)) (marks : List Bool) → Parts page (Some slot) es → AreMarks marks es → slot < length marks
former_within page slot es marks parts are = within marks slot (are slot ∙ named_by es page slot (looked page (Some slot) es parts))

cleared_here : (marks : List Bool) (slot : ℕ) → get_or (set marks slot false) slot false ≡ false
cleared_here [] slot = refl
cleared_here (m ∷ marks) zero = refl
cleared_here (m ∷ marks) (suc slot) = cleared_here marks slot

clear_one : (page slot other : ℕ) (here : Bool) (before behind : List (ℕ × ℕ)) (marks : List Bool) → (slot == other) ≡ here → AreSlotsDistinct (before ++ ((page, slot) ∷ behind)) → AreMarks marks (before ++ ((page, slot) ∷ behind))
    → get_or (set marks slot false) other false ≡ is_named (before ++ behind) other
clear_one page slot other true before behind marks test distinct are =
    let same : other ≡ slot = sym (equal slot other test) in
    subst (λ (n : ℕ). get_or (set marks slot false) n false ≡ is_named (before ++ behind) n) (sym same) (cleared_here marks slot ∙ sym (distinct_without (page, slot) before behind distinct).1)
clear_one page slot other false before behind marks test distinct are =
    get_or-set_other marks slot other false false (λ (same : other ≡ slot). absurd (cc (sym test ∙ ap (λ (n : ℕ). slot == n) same ∙ same_test slot)))
    ∙ are other ∙ named_with (page, slot) before behind other ∙ ap (λ (b : Bool). b || is_named (before ++ behind) other) test

clear_marks : (page : ℕ) (former : Option ℕ) (before behind : List (ℕ × ℕ)) (marks : List Bool) → IsInOrder (before ++ (entry_of page former ++ behind)) → AreMarks marks (before ++ (entry_of page former ++ behind))
    → AreMarks (cleared former marks) (before ++ behind)
clear_marks page None before behind marks entries are = are
clear_marks page (Some slot) before behind marks entries are = λ other. clear_one page slot other (slot == other) before behind marks refl entries.distinct are

pub marks_rest : (page : ℕ) (former : Option ℕ) (es : List (ℕ × ℕ)) (marks : List Bool) (parts : Parts page former es) → IsInOrder es → AreMarks marks es → AreMarks (cleared former marks) (parts.before ++ parts.behind)
marks_rest page former es marks parts entries are =
    clear_marks page former parts.before parts.behind marks (subst (λ (l : List (ℕ × ℕ)). IsInOrder l) parts.whole entries) (subst (λ (l : List (ℕ × ℕ)). AreMarks marks l) parts.whole are)

pub marks_taken : (page : ℕ) (former : Option ℕ) (old new : List (ℕ × ℕ)) (marks : List Bool) → Puts page former None old new → IsInOrder old → AreMarks marks old → AreMarks (cleared former marks) new
marks_taken page former old new marks puts entries are = subst (λ (l : List (ℕ × ℕ)). AreMarks (cleared former marks) l) (sym puts.whole) (marks_rest page former old marks puts.parts entries are)

pub set_one : (page slot other : ℕ) (here : Bool) (before behind : List (ℕ × ℕ)) (marks : List Bool) → (slot == other) ≡ here → slot < length marks → AreMarks marks (before ++ behind)
    → get_or (set marks slot true) other false ≡ is_named (before ++ ((page, slot) ∷ behind)) other
set_one page slot other true before behind marks test lt are =
    let same : slot ≡ other = equal slot other test in
    ap (λ (n : ℕ). get_or (set marks slot true) n false) (sym same) ∙ get_or-set_same marks slot true false lt ∙ sym (named_with (page, slot) before behind other ∙ ap (λ (b : Bool). b || is_named (before ++ behind) other) test)
set_one page slot other false before behind marks test lt are =
    get_or-set_other marks slot other true false (λ (same : other ≡ slot). absurd (cc (sym test ∙ ap (λ (n : ℕ). slot == n) same ∙ same_test slot)))
    ∙ are other ∙ sym (named_with (page, slot) before behind other ∙ ap (λ (b : Bool). b || is_named (before ++ behind) other) test)

cleared_length : (former : Option ℕ) (marks : List Bool) → length (cleared former marks) ≡ length marks
cleared_length None marks = refl
cleared_length (Some slot) marks = grind (arith, rules)

pub marks_put : (page slot : ℕ) (former : Option ℕ) (old new : List (ℕ × ℕ)) (marks : List Bool) → Puts page former (Some slot) old new → slot < length marks → IsInOrder old → AreMarks marks old → AreMarks (marked former slot marks) new
marks_put page slot former old new marks puts lt entries are =
    let parts = puts.parts in
    subst (λ (l : List (ℕ × ℕ)). AreMarks (marked former slot marks) l) (sym puts.whole)
    (λ other. set_one page slot other (slot == other) parts.before parts.behind (cleared former marks) refl (omega (arith, lt, cleared_length former marks)) (marks_rest page former old marks parts entries are))

-- how many entries there are
size_put : (page slot : ℕ) (former : Option ℕ) (before behind : List (ℕ × ℕ)) → length (before ++ ((page, slot) ∷ behind)) ≡ length (before ++ (entry_of page former ++ behind)) + (if is_some former then 0 else 1)
size_put page slot None before behind = omega (arith, length-append before ((page, slot) ∷ behind), length-append before behind)
size_put page slot (Some was) before behind = omega (arith, length-append before ((page, slot) ∷ behind), length-append before ((page, was) ∷ behind))

pub length_put : (page slot : ℕ) (former : Option ℕ) (old new : List (ℕ × ℕ)) → Puts page former (Some slot) old new → length new ≡ length old + (if is_some (slot_in old page) then 0 else 1)
length_put page slot former old new puts =
    let parts = puts.parts in
    ap length puts.whole ∙ size_put page slot former parts.before parts.behind
    ∙ (λ i. length (sym parts.whole i) + (if is_some (sym (looked page former old parts) i) then 0 else 1))
