-- An access to words that all have one cell.
use Rattle.std.proofs.Common.{◌≡◌, ℕ, zero, suc, ◌+◌, ◌-◌, ◌*◌, ◌<◌, ◌≤◌, Bool, true, false, not, ◌&&◌, cond, List, [], ◌∷◌, ◌++◌, length, replicate, Option, Some, None, Ok, Err, refl, sym, ap, ◌∙◌, subst, ◌⊎◌, inl, inr, ⊎_elim, arith}
use Rattle.std.specs.List.{All, range_with_len}
use Rattle.std.proofs.lemmas.Bool.{cases_eq, cases_lt, eq-eqb, ne_eqb}
use Rattle.std.proofs.lemmas.List.{length_push, length-replicate, get_or_append_left, get_or-append_right}
use Rattle.std.proofs.lemmas.List.Elements.{All-head}
use Rattle.hg_model.specs.declared.segment.Segment.{Segment}
use Rattle.hg_cells.specs.declared.cell.Cell.{Cell}
use Rattle.hg_cells.specs.declared.cell.Cell.TheVariants.{Exclusive, New, SharedRead, SharedModified}
use Rattle.hg_cells.specs.Cells.{meaning, IsWithin}
use Rattle.hg_model.specs.declared.word.WordState.TheVariants as state
use Rattle.hg_model.specs.Change.{is_racy}
use Rattle.hg_model.specs.Sets.{common, with_member}
use Rattle.hg_model.specs.Sharing.{shared}
use Rattle.hg_model.proofs.Reaching.{reaches_itself}
use Rattle.hg_sets.specs.Interning.{Table, Interns, KeepsNumbers, StandsAt, set_at}
use Rattle.hg_sets.specs.declared.fault.SetFault.{SetFault}
use Rattle.hg_sets.specs.declared.fault.SetFault.TheVariants as fault
use Rattle.hg_model.specs.declared.verdict.Refusal.{Refusal}
use Rattle.hg_model.specs.declared.verdict.Refusal.TheVariants as refusal
use Rattle.hg_detect.specs.declared.plan.Planned.{Planned}
use Rattle.hg_detect.specs.Making.{Asks, AsksBy, sets_in}
use Rattle.hg_detect.specs.Planning.{Actor, ArePlanned, IsPlanned, touched_by, wanted}
use Rattle.hg_detect.specs.Shown.{found, given, threads_number}
use Rattle.hg_detect.proofs.Plans.{kept_twice, owned_asked, owned_new, owned_on, shared_already, stands_on}
use Rattle.hg_detect.proofs.Sequences.{asks_more, refused_more}
use Rattle.hg_detect.proofs.Stepping.{given_outside}

-- what is planned for words that a segment owns afterwards
abbrev pub owned : ℕ → Planned
owned g = record { cell = Exclusive g; reported = false }

-- a segment that owns the words goes on owning them
pub stays_owned : (segments : List Segment) (sets : List (List ℕ)) (a : Actor) → a.segment < length segments → IsPlanned segments sets sets a (Exclusive a.segment) (owned a.segment)
stays_owned segments sets a within =
    record {
      state = sym (owned_on segments sets a (Exclusive a.segment) a.segment refl (reaches_itself segments a.segment));
      report = refl;
      within = within;
    }

-- and asks for no set
pub owned_asks_none : (segments : List Segment) (old : Table) (a : Actor) → Asks old (sets_in (touched_by segments a (meaning old.sets (Exclusive a.segment)))) None old
owned_asks_none segments old a = owned_asked old (touched_by segments a (meaning old.sets (Exclusive a.segment))) a.segment (owned_on segments old.sets a (Exclusive a.segment) a.segment refl (reaches_itself segments a.segment))

-- the segment owns new words from now on
pub new_owned : (segments : List Segment) (sets : List (List ℕ)) (a : Actor) → a.segment < length segments → IsPlanned segments sets sets a New (owned a.segment)
new_owned segments sets a within =
    record {
      state = sym (owned_new segments sets a New refl);
      report = refl;
      within = within;
    }

-- so it does of words that pass to it
pub passing_planned : (segments : List Segment) (sets : List (List ℕ)) (a : Actor) (cell : Cell) → a.segment < length segments → touched_by segments a (meaning sets cell) ≡ state.Exclusive a.segment → IsPlanned segments sets sets a cell (owned a.segment)
passing_planned segments sets a cell within passes =
    record {
      state = sym passes;
      report = refl;
      within = within;
    }

-- one plan serves each of the words
pub alike_planned : (segments : List Segment) (old new : List (List ℕ)) (a : Actor) (cell_of : ℕ → Cell) (cell : Cell) (p : Planned) (first n : ℕ) → IsPlanned segments old new a cell p → ((w : ℕ) → first ≤ w → w < first + n → cell_of w ≡ cell)
    → ArePlanned segments old new a cell_of first (replicate n p)
alike_planned segments old new a cell_of cell p first zero h alike = tt
alike_planned segments old new a cell_of cell p first (suc n) h alike =
    (subst (λ (c : Cell). IsPlanned segments old new a c p) (sym (alike first (omega arith) (omega arith))) h, alike_planned segments old new a cell_of cell p (first + 1) n h (λ w low high. alike w (omega arith) (omega arith)))

-- what the words are given by it
given_inside : (cell_of : ℕ → Cell) (p : Planned) (first n w : ℕ) → first ≤ w → w < first + n → given cell_of first (replicate n p) w ≡ p.cell
given_inside cell_of p first zero w low high = absurd (omega arith)
given_inside cell_of p first (suc n) w low high =
    ⊎_elim
    (λ same. ap (λ b. cond b p.cell (given cell_of (first + 1) (replicate n p) w)) (eq-eqb w first same))
    (λ other. ap (λ b. cond b p.cell (given cell_of (first + 1) (replicate n p) w)) (ne_eqb w first other) ∙ given_inside cell_of p (first + 1) n w (omega arith) (omega arith))
    (cases_eq w first)

pub alike_given : (before after : ℕ → Cell) (p : Planned) (first n : ℕ) → ((w : ℕ) → first ≤ w → w < first + n → after w ≡ p.cell) → ((w : ℕ) → (w < first) ⊎ (first + n ≤ w) → after w ≡ before w)
    → (w : ℕ) → after w ≡ given before first (replicate n p) w
alike_given before after p first n inside outside w =
    ⊎_elim (λ low. out (inl low)) (λ above. ⊎_elim (λ in_range. inside w above in_range ∙ sym (given_inside before p first n w above in_range)) (λ high. out (inr high)) (cases_lt w (first + n))) (cases_lt w first)
  where
    out : (w < first) ⊎ (first + n ≤ w) → after w ≡ given before first (replicate n p) w
    out h = outside w h ∙ sym (given_outside before first (first + n) (replicate n p) (ap (λ (k : ℕ). first + k) (length-replicate n p)) w h)

pub quiet : (b : Bool) → not b ≡ true → b ≡ false
quiet true h = sym h
quiet false h = refl

-- nothing is reported
pub alike_found : (event : ℕ) (write : Bool) (thread word : ℕ) (p : Planned) (n : ℕ) → p.reported ≡ false → found event write thread word (replicate n p) ≡ []
alike_found event write thread word p zero none = refl
alike_found event write thread word p (suc n) none = ap (λ (b : Bool). cond b (record { event = event; write = write; thread = thread; word = 4 * word; threads = threads_number p.cell } ∷ found event write thread (word + 1) (replicate n p)) (found event write thread (word + 1) (replicate n p))) none
    ∙ alike_found event write thread (word + 1) p n none

-- a set that was asked for keeps its number
interned : (old new : Table) (set : List ℕ) (id : ℕ) → Interns old set (Ok id) new → KeepsNumbers old new × ((n : ℕ) × StandsAt new.sets set n)
interned old new set id h =
    ⊎_elim
    (λ there. (
      record { limit = ap (λ (t : Table). t.limit) there.3; sets = λ n lt. subst (λ (t : Table). StandsAt t.sets (set_at old.sets n) n) (sym there.3) (lt, refl) },
      (there.0, subst (λ (t : Table). StandsAt t.sets set there.0) (sym there.3) there.1),
    ))
    (λ added. let is = added.1.2 in let none_left : length old.sets - length old.sets ≡ 0 = omega arith in (
      record { limit = ap (λ (t : Table). t.limit) is; sets = λ n lt. subst (λ (t : Table). StandsAt t.sets (set_at old.sets n) n) (sym is) (omega (arith, length_push old.sets set), get_or_append_left old.sets (set ∷ []) [] n lt) },
      (length old.sets, subst (λ (t : Table). StandsAt t.sets set (length old.sets)) (sym is) (omega (arith, length_push old.sets set), get_or-append_right old.sets (set ∷ []) (length old.sets) (length old.sets) [] refl (omega arith) ∙ ap (λ (k : ℕ). set_at (set ∷ []) k) none_left)),
    ))
    h

-- what was asked for stands in the table
asks_keeps : (sets : List (List ℕ)) (old new : Table) → Asks old sets None new → KeepsNumbers old new
asks_keeps [] old new h = record { limit = ap (λ (t : Table). t.limit) h; sets = λ n lt. subst (λ (t : Table). StandsAt t.sets (set_at old.sets n) n) (sym h) (lt, refl) }
asks_keeps (set ∷ sets) old new h =
    ⊎_elim
    (λ one. kept_twice old one.1 new (interned old one.1 set one.0 one.2).0 (asks_keeps sets one.1 new one.3))
    (λ refused. absurd (none_is_not_some refused.0 refused.2))
    h
  where
    none_is_not_some : (fault : SetFault) → ◌≡◌ {A = Option SetFault} None (Some fault) → ⊥
    none_is_not_some fault e = absurd (cc)

abbrev pub Stand : Table → List (List ℕ) → Type 0
Stand t [] = Unit {0}
Stand t (set ∷ sets) = ((n : ℕ) × StandsAt t.sets set n) × Stand t sets

pub asks_stand : (sets : List (List ℕ)) (old new : Table) → Asks old sets None new → Stand new sets
asks_stand [] old new h = tt
asks_stand (set ∷ sets) old new h =
    ⊎_elim
    (λ one. let at = (interned old one.1 set one.0 one.2).1 in ((at.0, stands_on one.1 new set at.0 (asks_keeps sets one.1 new one.3) at.1), asks_stand sets one.1 new one.3))
    (λ refused. absurd (none_is_not_some refused.0 refused.2))
    h
  where
    none_is_not_some : (fault : SetFault) → ◌≡◌ {A = Option SetFault} None (Some fault) → ⊥
    none_is_not_some fault e = absurd (cc)

-- and is found when it is asked for again
pub asks_again : (sets : List (List ℕ)) (t : Table) → Stand t sets → Asks t sets None t
asks_again [] t h = refl
asks_again (set ∷ sets) t h = inl (h.0.0, t, inl (h.0.0, h.0.1, refl, refl), asks_again sets t h.1)

-- the sets that the words want are those of the first, again and again
wants_again : (segments : List Segment) (old new : Table) (a : Actor) (cell_of : ℕ → Cell) (cell : Cell) (first n : ℕ) → Asks new (sets_in (touched_by segments a (meaning old.sets cell))) None new → ((w : ℕ) → first ≤ w → w < first + n → cell_of w ≡ cell)
    → Asks new (wanted segments old.sets a cell_of (range_with_len first n)) None new
wants_again segments old new a cell_of cell first zero again alike = refl
wants_again segments old new a cell_of cell first (suc n) again alike =
    subst (λ (c : Cell). Asks new (sets_in (touched_by segments a (meaning old.sets c)) ++ wanted segments old.sets a cell_of (range_with_len (first + 1) n)) None new) (sym (alike first (omega arith) (omega arith)))
    (asks_more new new new (sets_in (touched_by segments a (meaning old.sets cell))) (wanted segments old.sets a cell_of (range_with_len (first + 1) n)) None again
    (wants_again segments old new a cell_of cell (first + 1) n again (λ w low high. alike w (omega arith) (omega arith))))

pub alike_asked : (segments : List Segment) (old new : Table) (a : Actor) (cell_of : ℕ → Cell) (cell : Cell) (first n : ℕ) (refused : Option SetFault) → 0 < n → Asks old (sets_in (touched_by segments a (meaning old.sets cell))) refused new
    → ((w : ℕ) → first ≤ w → w < first + n → cell_of w ≡ cell) → Asks old (wanted segments old.sets a cell_of (range_with_len first n)) refused new
alike_asked segments old new a cell_of cell first zero refused some h alike = absurd (omega arith)
alike_asked segments old new a cell_of cell first (suc n) None some h alike =
    let sets = sets_in (touched_by segments a (meaning old.sets cell)) in
    subst (λ (c : Cell). Asks old (sets_in (touched_by segments a (meaning old.sets c)) ++ wanted segments old.sets a cell_of (range_with_len (first + 1) n)) None new) (sym (alike first (omega arith) (omega arith)))
    (asks_more old new new sets (wanted segments old.sets a cell_of (range_with_len (first + 1) n)) None h
    (wants_again segments old new a cell_of cell (first + 1) n (asks_again sets new (asks_stand sets old new h)) (λ w low high. alike w (omega arith) (omega arith))))
alike_asked segments old new a cell_of cell first (suc n) (Some f) some h alike =
    subst (λ (c : Cell). Asks old (sets_in (touched_by segments a (meaning old.sets c)) ++ wanted segments old.sets a cell_of (range_with_len (first + 1) n)) (Some f) new) (sym (alike first (omega arith) (omega arith)))
    (refused_more old new (sets_in (touched_by segments a (meaning old.sets cell))) (wanted segments old.sets a cell_of (range_with_len (first + 1) n)) f h)

-- what every cell of the plan names
pub alike_within : (s m : ℕ) (p : Planned) (n : ℕ) → 0 < n → All (λ (q : Planned). IsWithin s m q.cell) (replicate n p) → IsWithin s m p.cell
alike_within s m p zero some each = absurd (omega arith)
alike_within s m p (suc n) some each = All-head (λ (q : Planned). IsWithin s m q.cell) p (replicate n p) each

pub alike_refused : (segments : List Segment) (old new : Table) (a : Actor) (cell_of : ℕ → Cell) (cell : Cell) (first n : ℕ) (r : Refusal) → 0 < n → ((w : ℕ) → first ≤ w → w < first + n → cell_of w ≡ cell)
    → (r ≡ refusal.FullSets) ⊎ (r ≡ refusal.OutOfMemory) → AsksBy old (sets_in (touched_by segments a (meaning old.sets cell))) (Err r) new → AsksBy old (wanted segments old.sets a cell_of (range_with_len first n)) (Err r) new
alike_refused segments old new a cell_of cell first n r some alike cause h =
    ⊎_elim
    (λ full. subst (λ (x : Refusal). AsksBy old all (Err x) new) (sym full) (each (Some fault.Full) (subst (λ (x : Refusal). AsksBy old one (Err x) new) full h)))
    (λ out. subst (λ (x : Refusal). AsksBy old all (Err x) new) (sym out) (without (subst (λ (x : Refusal). AsksBy old one (Err x) new) out h)))
    cause
  where
    one : List (List ℕ)
    one = sets_in (touched_by segments a (meaning old.sets cell))

    all : List (List ℕ)
    all = wanted segments old.sets a cell_of (range_with_len first n)

    each : (refused : Option SetFault) → Asks old one refused new → Asks old all refused new
    each = λ refused asked. alike_asked segments old new a cell_of cell first n refused some asked alike

    without : AsksBy old one (Err refusal.OutOfMemory) new → AsksBy old all (Err refusal.OutOfMemory) new
    without = λ k. ⊎_elim (λ same. inl same) (λ asked. inr (asked.0, ⊎_elim (λ done. inl (each None done)) (λ short. inr (each (Some fault.OutOfMemory) short)) asked.1)) k

-- each of the words is new or the segment's own
abbrev pub AreOwnable : (ℕ → Cell) → ℕ → ℕ → ℕ → Type 0
AreOwnable cell_of g first n = (w : ℕ) → first ≤ w → w < first + n → (cell_of w ≡ New) ⊎ (cell_of w ≡ Exclusive g)

-- the segment owns them all from now on
pub ownable_planned : (segments : List Segment) (sets : List (List ℕ)) (a : Actor) (cell_of : ℕ → Cell) (first n : ℕ) → a.segment < length segments → AreOwnable cell_of a.segment first n
    → ArePlanned segments sets sets a cell_of first (replicate n (owned a.segment))
ownable_planned segments sets a cell_of first zero within each = tt
ownable_planned segments sets a cell_of first (suc n) within each = (
  ⊎_elim
      (λ is. subst (λ (c : Cell). IsPlanned segments sets sets a c (owned a.segment)) (sym is) (new_owned segments sets a within))
      (λ is. subst (λ (c : Cell). IsPlanned segments sets sets a c (owned a.segment)) (sym is) (stays_owned segments sets a within))
      (each first (omega arith) (omega arith)),
  ownable_planned segments sets a cell_of (first + 1) n within (λ w low high. each w (omega arith) (omega arith)),
)

-- and they ask for no set
pub ownable_asked : (segments : List Segment) (old : Table) (a : Actor) (cell_of : ℕ → Cell) (first n : ℕ) → AreOwnable cell_of a.segment first n → Asks old (wanted segments old.sets a cell_of (range_with_len first n)) None old
ownable_asked segments old a cell_of first zero each = refl
ownable_asked segments old a cell_of first (suc n) each =
    let none : sets_in (touched_by segments a (meaning old.sets (cell_of first))) ≡ [] =
    ⊎_elim
    (λ is. ap sets_in (owned_new segments old.sets a (cell_of first) is))
    (λ is. ap sets_in (owned_on segments old.sets a (cell_of first) a.segment is (reaches_itself segments a.segment)))
    (each first (omega arith) (omega arith))
    in
    subst (λ (xs : List (List ℕ)). Asks old (xs ++ wanted segments old.sets a cell_of (range_with_len (first + 1) n)) None old) (sym none)
    (ownable_asked segments old a cell_of (first + 1) n (λ w low high. each w (omega arith) (omega arith)))

-- what is planned for words that stay as they are
abbrev pub unchanged : Cell → Planned
unchanged cell = record { cell = cell; reported = false }

never : (b : Bool) → false ≡ (b && not b)
never true = refl
never false = refl

-- a shared word whose sets stay keeps its state
pub modified_stays : (segments : List Segment) (sets : List (List ℕ)) (a : Actor) (threads locks : ℕ) → with_member (set_at sets threads) a.thread ≡ set_at sets threads → common (set_at sets locks) a.locks ≡ set_at sets locks
    → meaning sets (SharedModified threads locks) ≡ touched_by segments a (meaning sets (SharedModified threads locks))
modified_stays segments sets a threads locks more fewer = λ i. state.SharedModified (sym more i) (sym fewer i)

pub read_stays : (segments : List Segment) (sets : List (List ℕ)) (a : Actor) (threads locks : ℕ) → a.write ≡ false → with_member (set_at sets threads) a.thread ≡ set_at sets threads → common (set_at sets locks) a.locks ≡ set_at sets locks
    → meaning sets (SharedRead threads locks) ≡ touched_by segments a (meaning sets (SharedRead threads locks))
read_stays segments sets a threads locks reads more fewer =
    (λ i. state.SharedRead (sym more i) (sym fewer i)) ∙ ap (λ (b : Bool). shared b (with_member (set_at sets threads) a.thread) (common (set_at sets locks) a.locks)) (sym reads)

pub stays_planned : (segments : List Segment) (sets : List (List ℕ)) (a : Actor) (before cell : Cell) → before ≡ cell → IsWithin (length segments) (length sets) before → meaning sets cell ≡ touched_by segments a (meaning sets cell)
    → IsPlanned segments sets sets a before (unchanged before)
stays_planned segments sets a before cell is within stays =
    record {
      state = subst (λ (c : Cell). meaning sets c ≡ touched_by segments a (meaning sets c)) (sym is) stays;
      report = never (is_racy (meaning sets before));
      within = within;
    }

-- and asks for sets that stand in the table
pub stays_asked : (segments : List Segment) (old : Table) (a : Actor) (cell : Cell) (threads locks : ℕ) → (cell ≡ SharedRead threads locks) ⊎ (cell ≡ SharedModified threads locks) → threads < length old.sets → locks < length old.sets
    → with_member (set_at old.sets threads) a.thread ≡ set_at old.sets threads → common (set_at old.sets locks) a.locks ≡ set_at old.sets locks → Asks old (sets_in (touched_by segments a (meaning old.sets cell))) None old
stays_asked segments old a cell threads locks is in_threads in_locks more fewer =
    let asked = with_member (set_at old.sets threads) a.thread ∷ common (set_at old.sets locks) a.locks ∷ [] in
    let stand : Stand old asked = ((threads, (in_threads, sym more)), ((locks, (in_locks, sym fewer)), tt)) in
    subst (λ (s : List (List ℕ)). Asks old s None old) (sym (shared_already segments old.sets a cell threads locks is)) (asks_again asked old stand)
