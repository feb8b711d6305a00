-- A slot is read: one cell more, and all of them.
use Rattle.std.proofs.Common.{◌≡◌, ◌⊎◌, inl, inr, ◌<◌, ◌≤◌, ◌+◌, ◌^◌, ◌&&◌, ◌||◌, ◌∙◌, ℕ, suc, Bool, true, false, IsTrue, List, [], ◌∷◌, length, take, set, get_or, refl, sym, ap, subst, rules, arith, ⊎_elim}
use Rattle.std.specs.List.{flat_map, AllByRecursion}
use Rattle.hg_cells.specs.declared.cell.Cell.{Cell}
use Rattle.hg_cells.specs.declared.cell.Cell.TheVariants.{New, Exclusive, SharedRead, SharedModified}
use Rattle.hg_cells.specs.Cells.{IsWithin}
use Rattle.hg_pages.specs.Reading.{cell_bytes, number_at, text_of}
use Rattle.hg_pages.specs.Numbers.{AreOfNoneWithin, AreRead, HasThreadSet, HasThreads, HaveThreadSets, HasNoShared, IsSharedBy, LacksThreadSet, SpellsNoneWithin, SpellsWithin, cell_by}
use Rattle.hg_pages.specs.Slots.{AreKnown, CellFits, IsKnown, IsNoKnownSlot, IsSlot, IsThreadSet, cell_text}
use Rattle.std.proofs.lemmas.Nat.{from_be_bytes-to_be_bytes_4}
use Rattle.std.specs.Int.{w64, to_be_bytes}
use Rattle.std.proofs.lemmas.List.{take_all}
use Rattle.hg_pages.proofs.Decoding.{cell_bytes_are, compared, each_at, each_set, spelled_more}
use Rattle.hg_pages.proofs.Searching.{less_or_last}

pub both : (a b : Bool) → IsTrue (a && b) → IsTrue a × IsTrue b
both true b is = (search rules, is)
both false b is = absurd (cc is)

pub either : (a b : Bool) → (a && b) ≡ false → (a ≡ false) ⊎ (b ≡ false)
either true b is = inr is
either false b is = inl refl

pub neither : (a b : Bool) → (a || b) ≡ false → (a ≡ false) × (b ≡ false)
neither true b is = absurd (cc is)
neither false b is = (refl, is)

pub truth : (b : Bool) → (b ≡ false → ⊥) → IsTrue b
truth true never = search rules
truth false never = absurd (never refl)

pub read_more : (bytes : List ℕ) (cells new : List Cell) (segments sets word : ℕ) (numbers : ℕ × ℕ × ℕ) (c : Cell) → word < length cells → set cells word c ≡ new → text_of numbers ≡ cell_bytes bytes word → c ≡ cell_by numbers
    → AreRead segments sets word bytes cells → SpellsWithin segments sets numbers → AreRead segments sets (word + 1) bytes new
read_more bytes cells new segments sets word numbers c inside put text is was spells = record {
  spelled = spelled_more bytes cells word c inside was.spelled (sym text ∙ spells.0 ∙ ap cell_text (sym is)) ∙ ap (λ (l : List Cell). flat_map cell_text (take (word + 1) l)) put;
  fit = subst (λ (l : List Cell). AllByRecursion CellFits (take (word + 1) l)) put (each_set CellFits cells word c inside was.fit (subst CellFits (sym is) spells.1));
  within = subst (λ (l : List Cell). AllByRecursion (IsWithin segments sets) (take (word + 1) l)) put (each_set (IsWithin segments sets) cells word c inside was.within (subst (IsWithin segments sets) (sym is) spells.2));
}

pub none_more : (bytes : List ℕ) (segments sets word : ℕ) (numbers : ℕ × ℕ × ℕ) → word < 256 → text_of numbers ≡ cell_bytes bytes word → SpellsNoneWithin segments sets numbers → AreOfNoneWithin segments sets bytes
none_more bytes segments sets word numbers lt text none page cells is each =
    let inside : word < length cells = omega (arith, lt, is.page_is.words) in
    none (get_or cells word New) (each_at CellFits cells word inside is.page_is.fit) (text ∙ cell_bytes_are page cells bytes word lt is) (each_at (IsWithin segments sets) cells word inside each)

-- what is known of a cell, in two parts
pub within_known : (segments : ℕ) (sets : List (List ℕ)) (c : Cell) → IsKnown segments sets c → IsWithin segments (length sets) c
within_known segments sets New known = tt
within_known segments sets (Exclusive segment) known = known
within_known segments sets (SharedRead threads locks) known = (known.0.known, known.1)
within_known segments sets (SharedModified threads locks) known = (known.0.known, known.1)

joined : (segments : ℕ) (sets : List (List ℕ)) (c : Cell) → IsWithin segments (length sets) c → HasThreadSet sets c → IsKnown segments sets c
joined segments sets New within has = tt
joined segments sets (Exclusive segment) within has = within
joined segments sets (SharedRead threads locks) within has = (has, within.1)
joined segments sets (SharedModified threads locks) within has = (has, within.1)

pub each_of : (P : Cell → Type 0) (cells : List Cell) → ((i : ℕ) → i < length cells → P (get_or cells i New)) → AllByRecursion P cells
each_of P [] each = tt
each_of P (c ∷ cells) each = (each 0 (omega arith), each_of P cells (λ i lt. each (suc i) (omega (arith, lt))))

pub each_within : (segments : ℕ) (sets : List (List ℕ)) (cells : List Cell) → AreKnown segments sets cells → AllByRecursion (IsWithin segments (length sets)) cells
each_within segments sets [] known = tt
each_within segments sets (c ∷ cells) known = (within_known segments sets c known.0, each_within segments sets cells known.1)

-- the threads of a shared cell, by its bytes
has_set : (sets : List (List ℕ)) (c : Cell) (bytes : List ℕ) → bytes ≡ cell_text c → CellFits c → HasThreads sets bytes → HasThreadSet sets c
has_set sets New bytes text fits each = tt
has_set sets (Exclusive segment) bytes text fits each = tt
has_set sets (SharedRead threads locks) bytes text fits each = each threads (subst (IsSharedBy threads) (sym text) (omega arith, from_be_bytes-to_be_bytes_4 threads fits.0))
has_set sets (SharedModified threads locks) bytes text fits each = each threads (subst (IsSharedBy threads) (sym text) (omega arith, from_be_bytes-to_be_bytes_4 threads fits.0))

pub all_known : (bytes : List ℕ) (page segments : ℕ) (sets : List (List ℕ)) (cells : List Cell) → IsSlot page cells bytes → AllByRecursion (IsWithin segments (length sets)) cells → HaveThreadSets sets 256 bytes → AreKnown segments sets cells
all_known bytes page segments sets cells is within have =
    each_of (IsKnown segments sets) cells (λ i lt.
    let below : i < 256 = omega (arith, lt, is.page_is.words) in
    let inside = each_at (IsWithin segments (length sets)) cells i lt within in
    joined segments sets (get_or cells i New) inside
    (has_set sets (get_or cells i New) (cell_bytes bytes i) (cell_bytes_are page cells bytes i below is) (each_at CellFits cells i lt is.page_is.fit) (have i below)))

-- a cell with these bytes is not known if its threads can't be shared
no_set : (sets : List (List ℕ)) (segments threads : ℕ) (c : Cell) (bytes : List ℕ) → bytes ≡ cell_text c → CellFits c → IsSharedBy threads bytes → IsKnown segments sets c → IsThreadSet sets threads
no_set sets segments threads c bytes text fits by known = here c fits known (subst (IsSharedBy threads) text by)
  where
    here : (x : Cell) → CellFits x → IsKnown segments sets x → IsSharedBy threads (cell_text x) → IsThreadSet sets threads
    here New fits known by = absurd (omega (arith, by.0))
    here (Exclusive segment) fits known by = absurd (omega (arith, by.0))
    here (SharedRead others locks) fits known by = subst (IsThreadSet sets) (sym (from_be_bytes-to_be_bytes_4 others fits.0) ∙ by.1) known.0
    here (SharedModified others locks) fits known by = subst (IsThreadSet sets) (sym (from_be_bytes-to_be_bytes_4 others fits.0) ∙ by.1) known.0

pub none_known : (bytes : List ℕ) (page segments : ℕ) (sets : List (List ℕ)) → LacksThreadSet sets bytes → IsNoKnownSlot page segments sets bytes
none_known bytes page segments sets lacks cells is known =
    let word = lacks.0 in
    let inside : word < length cells = omega (arith, lacks.1, is.page_is.words) in
    lacks.2 (λ threads by. no_set sets segments threads (get_or cells word New) (cell_bytes bytes word) (cell_bytes_are page cells bytes word lacks.1 is) (each_at CellFits cells word inside is.page_is.fit) by (each_at (IsKnown segments sets) cells word inside known))

-- all cells are read
pub slot_read : (bytes : List ℕ) (page segments : ℕ) (sets : List (List ℕ)) (cells : List Cell) → page < 2 ^ 54 → length bytes ≡ 3080 → length cells ≡ 256 → to_be_bytes w64 page ≡ take 8 bytes → AreRead segments (length sets) 256 bytes cells
    → HaveThreadSets sets 256 bytes → IsSlot page cells bytes × AreKnown segments sets cells
slot_read bytes page segments sets cells below size words number read have =
    let all : take 256 cells ≡ cells = take_all 256 cells (omega (arith, words)) in
    let is : IsSlot page cells bytes = record {
      page_is = record { number = below; words = words; fit = subst (λ (l : List Cell). AllByRecursion CellFits l) all read.fit };
      spelling = compared page 256 bytes cells size refl words number read.spelled;
    } in
    (is, all_known bytes page segments sets cells is (subst (λ (l : List Cell). AllByRecursion (IsWithin segments (length sets)) l) all read.within) have)

-- of one cell more it is known whether its threads can be
pub sets_more : (bytes : List ℕ) (sets : List (List ℕ)) (word : ℕ) → HaveThreadSets sets word bytes → HasThreads sets (cell_bytes bytes word) → HaveThreadSets sets (word + 1) bytes
sets_more bytes sets word have here other lt =
    ⊎_elim (λ (less : other < word). have other less)
    (λ (last : other ≡ word). subst (λ (n : ℕ). HasThreads sets (cell_bytes bytes n)) (sym last) here)
    (less_or_last other word lt)

-- and whether it is shared
pub none_shared_more : (bytes : List ℕ) (word : ℕ) → HasNoShared word bytes → (33554432 ≤ number_at (cell_bytes bytes word) 0 → ⊥) → HasNoShared (word + 1) bytes
none_shared_more bytes word before here other lt shared =
    ⊎_elim (λ (less : other < word). before other less shared)
    (λ (last : other ≡ word). here (subst (λ (n : ℕ). 33554432 ≤ number_at (cell_bytes bytes n) 0) last shared))
    (less_or_last other word lt)

-- where none is shared, the threads of each can be
pub sets_of_none : (bytes : List ℕ) (sets : List (List ℕ)) → HasNoShared 256 bytes → HaveThreadSets sets 256 bytes
sets_of_none bytes sets none word lt threads by = absurd (none word lt by.0)
