-- A plan for words by runs of one cell.
use Rattle.std.proofs.Common.{◌≡◌, ℕ, zero, suc, ◌+◌, ◌<◌, ◌≤◌, List, [], ◌∷◌, ◌++◌, length, replicate, None, Result, Ok, IfOk, refl, sym, ◌∙◌, subst, append_assoc, arith}
use Rattle.std.proofs.lemmas.List.{append-nil}
use Rattle.std.specs.Result.{result_err}
use Rattle.hg_model.specs.declared.segment.Segment.{Segment}
use Rattle.hg_model.specs.declared.word.WordState.{WordState}
use Rattle.hg_sets.specs.Interning.{Table, AreSets, KeepsNumbers}
use Rattle.hg_sets.specs.declared.fault.SetFault.{SetFault}
use Rattle.hg_cells.specs.declared.cell.Cell.{Cell}
use Rattle.hg_cells.specs.Cells.{meaning, IsWithin}
use Rattle.hg_detect.specs.declared.plan.Planned.{Planned}
use Rattle.hg_detect.specs.Planning.{Actor, IsPlanned, touched_by}
use Rattle.hg_detect.specs.Making.{Asks, sets_in}
use Rattle.hg_detect.proofs.Plans.{from_before, kept_twice, meaning_kept}
use Rattle.hg_detect.proofs.Sequences.{IsUnderway, underway_next}
use Rattle.hg_detect.proofs.Alike.{asks_again, asks_stand}

-- the cell of a run, word by word
abbrev pub AreAlike : (ℕ → Cell) → Cell → ℕ → ℕ → Type 0
AreAlike cell_of cell word n = (w : ℕ) → word ≤ w → w < word + n → cell_of w ≡ cell

stays : (t : Table) → KeepsNumbers t t
stays t = record { limit = refl; sets = λ id h. (h, refl) }

-- the words of a run whose plan asks for nothing new
underway_on : (segments : List Segment) (old now : Table) (a : Actor) (cell_of : ℕ → Cell) (first word end n : ℕ) (plan : List Planned) (cell : Cell) (p : Planned)
    → IsUnderway segments old now a cell_of first word end plan → word + n ≤ end → AreAlike cell_of cell word n → IsWithin (length segments) (length old.sets) cell
    → Asks now (sets_in (touched_by segments a (meaning now.sets cell))) None now → IsPlanned segments now.sets now.sets a cell p
    → IsUnderway segments old now a cell_of first (word + n) end (plan ++ replicate n p)
underway_on segments old now a cell_of first word end zero plan cell p u le alike within asked planned =
    let same : word + 0 ≡ word = omega arith in
    subst (λ (x : List Planned). IsUnderway segments old now a cell_of first (word + 0) end x) (sym (append-nil plan))
    (subst (λ (x : ℕ). IsUnderway segments old now a cell_of first x end plan) (sym same) u)
underway_on segments old now a cell_of first word end (suc n) plan cell p u le alike within asked planned =
    let is : cell_of word ≡ cell = alike word (omega arith) (omega arith) in
    let next : word + 1 + n ≡ word + suc n = omega arith in
    let one : IsUnderway segments old now a cell_of first (word + 1) end (plan ++ p ∷ []) =
    underway_next segments old now now a cell_of first word end plan p u (omega arith)
    (subst (λ (c : Cell). IsWithin (length segments) (length old.sets) c) (sym is) within) (stays now) u.sets
    (subst (λ (c : Cell). Asks now (sets_in (touched_by segments a (meaning now.sets c))) None now) (sym is) asked)
    (subst (λ (c : Cell). IsPlanned segments now.sets now.sets a c p) (sym is) planned)
    in
    subst (λ (x : List Planned). IsUnderway segments old now a cell_of first (word + suc n) end x) (append_assoc plan (p ∷ []) (replicate n p))
    (subst (λ (x : ℕ). IsUnderway segments old now a cell_of first x end ((plan ++ p ∷ []) ++ replicate n p)) next
    (underway_on segments old now a cell_of first (word + 1) end n (plan ++ p ∷ []) cell p one (omega arith) (λ w low high. alike w (omega arith) (omega arith)) within asked planned))

-- a run is planned by the plan for its first word
pub underway_run : (segments : List Segment) (old now new : Table) (a : Actor) (cell_of : ℕ → Cell) (first word end n : ℕ) (plan : List Planned) (cell : Cell) (p : Planned)
    → IsUnderway segments old now a cell_of first word end plan → 0 < n → word + n ≤ end → AreAlike cell_of cell word n → IsWithin (length segments) (length old.sets) cell
    → KeepsNumbers now new → AreSets new → Asks now (sets_in (touched_by segments a (meaning now.sets cell))) None new → IsPlanned segments now.sets new.sets a cell p
    → IsUnderway segments old new a cell_of first (word + n) end (plan ++ replicate n p)
underway_run segments old now new a cell_of first word end zero plan cell p u some le alike within kept sets asked planned = absurd (omega arith)
underway_run segments old now new a cell_of first word end (suc n) plan cell p u some le alike within kept sets asked planned =
    let is : cell_of word ≡ cell = alike word (omega arith) (omega arith) in
    let next : word + 1 + n ≡ word + suc n = omega arith in
    let one : IsUnderway segments old new a cell_of first (word + 1) end (plan ++ p ∷ []) =
    underway_next segments old now new a cell_of first word end plan p u (omega arith)
    (subst (λ (c : Cell). IsWithin (length segments) (length old.sets) c) (sym is) within) kept sets
    (subst (λ (c : Cell). Asks now (sets_in (touched_by segments a (meaning now.sets c))) None new) (sym is) asked)
    (subst (λ (c : Cell). IsPlanned segments now.sets new.sets a c p) (sym is) planned)
    in
    let same : meaning new.sets cell ≡ meaning now.sets cell =
    meaning_kept (length segments) old new cell (kept_twice old now new u.kept kept) within ∙ sym (meaning_kept (length segments) old now cell u.kept within)
    in
    let again : Asks new (sets_in (touched_by segments a (meaning new.sets cell))) None new =
    subst (λ (s : WordState). Asks new (sets_in (touched_by segments a s)) None new) (sym same)
    (asks_again (sets_in (touched_by segments a (meaning now.sets cell))) new (asks_stand (sets_in (touched_by segments a (meaning now.sets cell))) now new asked))
    in
    subst (λ (x : List Planned). IsUnderway segments old new a cell_of first (word + suc n) end x) (append_assoc plan (p ∷ []) (replicate n p))
    (subst (λ (x : ℕ). IsUnderway segments old new a cell_of first x end ((plan ++ p ∷ []) ++ replicate n p)) next
    (underway_on segments old new a cell_of first (word + 1) end n (plan ++ p ∷ []) cell p one (omega arith) (λ w low high. alike w (omega arith) (omega arith)) within again
    (from_before segments new.sets now.sets new.sets a cell p (sym same) planned)))

-- A run is planned, seen from where it was read and the answer was given.
pub run_planned : (segments : List Segment) (old now new : Table) (a : Actor) (cell_of : ℕ → Cell) (first word end n : ℕ) (plan after : List Planned) (cell : Cell) (p : Planned) (answer : Result Planned SetFault)
    → IsUnderway segments old now a cell_of first word end plan → 0 < n → word + n ≤ end → AreAlike cell_of cell word n → IsWithin (length segments) (length old.sets) cell
    → KeepsNumbers now new → AreSets new → answer ≡ Ok p → Asks now (sets_in (touched_by segments a (meaning now.sets cell))) (result_err answer) new → IfOk answer (IsPlanned segments now.sets new.sets a cell)
    → after ≡ plan ++ replicate n p → IsUnderway segments old new a cell_of first (word + n) end after
run_planned segments old now new a cell_of first word end n plan after cell p answer u some le alike within kept sets ok asked planned added =
    subst (λ (x : List Planned). IsUnderway segments old new a cell_of first (word + n) end x) (sym added)
    (underway_run segments old now new a cell_of first word end n plan cell p u some le alike within kept sets
    (subst (λ (r : Result Planned SetFault). Asks now (sets_in (touched_by segments a (meaning now.sets cell))) (result_err r) new) ok asked)
    (subst (λ (r : Result Planned SetFault). IfOk r (IsPlanned segments now.sets new.sets a cell)) ok planned))
