-- Memory runs out only where something may grow.
use Rattle.std.proofs.Common.{◌≡◌, ◌⊎◌, ℕ, zero, suc, ◌+◌, ◌-◌, ◌*◌, ◌/◌, ◌<◌, Bool, true, false, cond, ◌||◌, List, [], ◌∷◌, ◌++◌, length, Some, Result, Ok, Err, All, Contains, sym, ap, ◌∙◌, subst, inl, inr, ⊎_elim, arith}
use Rattle.std.specs.List.{range_with_len}
use Rattle.std.proofs.lemmas.List.{length-map}
use Rattle.std.proofs.lemmas.List.Elements.{All-cons, All-head, All-tail}
use Rattle.hg_model.specs.declared.event.Access.{Access}
use Rattle.hg_model.specs.declared.event.Block.{Block}
use Rattle.hg_model.specs.declared.event.Event.{Event}
use Rattle.hg_model.specs.declared.event.Event.TheVariants as event
use Rattle.hg_model.specs.declared.report.Report.{Report}
use Rattle.hg_model.specs.Change.{new_reports}
use Rattle.hg_model.specs.Contents.{Content}
use Rattle.hg_sets.specs.Interning.{Table}
use Rattle.hg_sets.specs.declared.fault.SetFault.{SetFault}
use Rattle.hg_cells.specs.declared.cell.Cell.{Cell}
use Rattle.hg_cells.specs.declared.report.KeptReport.{KeptReport}
use Rattle.hg_cells.specs.declared.words.Words as words
use Rattle.hg_cells.specs.Cells.{meaning}
use Rattle.hg_cells.specs.Words.{SameCells, StayWords}
use Rattle.hg_detect.specs.declared.plan.Planned.{Planned}
use Rattle.hg_detect.specs.Accessing.{access_event}
use Rattle.hg_detect.specs.Growing.{AccessMayGrow, LacksSets, LacksWords, MayGrow}
use Rattle.hg_detect.specs.Making.{Asks, sets_asked, sets_in}
use Rattle.hg_detect.specs.Planning.{Actor, ArePlanned, touched_by, wanted}
use Rattle.hg_detect.specs.Shown.{ShownDetector, content, found, report_of, reports_some, threads_number}
use Rattle.hg_detect.proofs.Accesses.{acting, asked_is_wanted, reports_new}

-- A table that refuses one of these sets lacks one of them.
pub asks_lacks : (sets : List (List ℕ)) (old new : Table) (fault : SetFault) → Asks old sets (Some fault) new → All (Contains old.sets) sets → ⊥
asks_lacks [] old new fault h all = h
asks_lacks (set ∷ sets) old new fault h all =
    let has = All-head (Contains old.sets) set sets all in
    ⊎_elim
    (λ one. ⊎_elim
    (λ found. asks_lacks sets old new fault (subst (λ (t : Table). Asks t sets (Some fault) new) found.3 one.3) (All-tail (Contains old.sets) set sets all))
    (λ added. absurd (added.0 has))
    one.2)
    (λ refused. ⊎_elim
    (λ found. err_is_not_ok refused.0 found.0 found.2)
    (λ lacks. absurd (lacks.0 has))
    refused.1)
    h
  where
    err_is_not_ok : (f : SetFault) (id : ℕ) → ◌≡◌ {A = Result ℕ SetFault} (Err f) (Ok id) → ⊥
    err_is_not_ok f id e = absurd (cc)

-- A set that the plan of an access lacks is one that the access asks for.
pub lacks_sets : {W : Type 0} (g : words.Ghosts W) (d : ShownDetector W) (e : Event) (write : Bool) (a : Access) (actor : Actor) (first end : ℕ) (fault : SetFault) (mid : ℕ → Cell) (new : Table)
    → e ≡ access_event write a → 0 < a.len → actor ≡ acting (content g.cell_of d) a write → first ≡ a.at / 4 → end ≡ (a.at + a.len + 3) / 4 → SameCells (g.cell_of d.words) mid
    → Asks d.sets (wanted d.segments d.sets.sets actor mid (range_with_len first (end - first))) (Some fault) new → LacksSets g d e
lacks_sets {W} g d e write a actor first end fault mid new is some acts starts ends same asked all =
    asks_lacks (sets_asked (content g.cell_of d) e) d.sets new fault here all
  where
    there : Asks d.sets (wanted d.segments d.sets.sets actor (g.cell_of d.words) (range_with_len (a.at / 4) ((a.at + a.len + 3) / 4 - a.at / 4))) (Some fault) new
    there =
        subst (λ (f : ℕ → Cell). Asks d.sets (wanted d.segments d.sets.sets actor f (range_with_len (a.at / 4) ((a.at + a.len + 3) / 4 - a.at / 4))) (Some fault) new) (λ i w. same w i)
        (subst (λ (x : ℕ). Asks d.sets (wanted d.segments d.sets.sets actor mid (range_with_len (a.at / 4) (x - a.at / 4))) (Some fault) new) ends
        (subst (λ (x : ℕ). Asks d.sets (wanted d.segments d.sets.sets actor mid (range_with_len x (end - x))) (Some fault) new) starts asked))

    here : Asks d.sets (sets_asked (content g.cell_of d) e) (Some fault) new
    here = subst (λ (sets : List (List ℕ)). Asks d.sets sets (Some fault) new) (sym (asked_is_wanted g.cell_of d e write a actor is some acts)) there

-- the first ones of a list of which it holds
first_ones : {X : Type 0} (P : X → Type 0) (xs ys : List X) → All P (xs ++ ys) → All P xs
first_ones P [] ys all = λ k d lt. absurd (omega arith)
first_ones P (x ∷ xs) ys all =
    All-cons P x xs (All-head P x (xs ++ ys) all) (first_ones P xs ys (All-tail P x (xs ++ ys) all))

-- A set that words with one cell lack is one that the access asks for.
pub lacks_alike : {W : Type 0} (g : words.Ghosts W) (d : ShownDetector W) (e : Event) (write : Bool) (a : Access) (actor : Actor) (cell : Cell)
    → e ≡ access_event write a → 0 < a.len → actor ≡ acting (content g.cell_of d) a write → g.cell_of d.words (a.at / 4) ≡ cell
    → (All (Contains d.sets.sets) (sets_in (touched_by d.segments actor (meaning d.sets.sets cell))) → ⊥) → LacksSets g d e
lacks_alike {W} g d e write a actor cell is some acts here lacks all =
    lacks (subst (λ (x : Cell). All (Contains d.sets.sets) (sets_in (touched_by d.segments actor (meaning d.sets.sets x)))) here
    (of_first ((a.at + a.len + 3) / 4 - a.at / 4) (omega arith) (subst (λ (sets : List (List ℕ)). All (Contains d.sets.sets) sets) (asked_is_wanted g.cell_of d e write a actor is some acts) all)))
  where
    of_first : (n : ℕ) → 0 < n → All (Contains d.sets.sets) (wanted d.segments d.sets.sets actor (g.cell_of d.words) (range_with_len (a.at / 4) n))
        → All (Contains d.sets.sets) (sets_in (touched_by d.segments actor (meaning d.sets.sets (g.cell_of d.words (a.at / 4)))))
    of_first zero lt each = absurd (omega arith)
    of_first (suc n) lt each =
        first_ones (Contains d.sets.sets) (sets_in (touched_by d.segments actor (meaning d.sets.sets (g.cell_of d.words (a.at / 4)))))
        (wanted d.segments d.sets.sets actor (g.cell_of d.words) (range_with_len (a.at / 4 + 1) n)) each

-- a report more, or none
one_more : (b : Bool) (r : KeptReport) (rest : List KeptReport) (any : Bool) → (b || any) ≡ true → (any ≡ true → 0 < length rest) → 0 < length (cond b (r ∷ rest) rest)
one_more true r rest any told more = omega arith
one_more false r rest any told more = more told

-- a plan that reports a word makes a report
some_found : (event : ℕ) (write : Bool) (thread word : ℕ) (plan : List Planned) → reports_some plan ≡ true → 0 < length (found event write thread word plan)
some_found event write thread word [] any = absurd (cc)
some_found event write thread word (p ∷ plan) any =
    one_more p.reported (record { event = event; write = write; thread = thread; word = 4 * word; threads = threads_number p.cell }) (found event write thread (word + 1) plan) (reports_some plan) any
    (some_found event write thread (word + 1) plan)

-- The access makes a report where its plan does.
pub makes_reports : {W : Type 0} (g : words.Ghosts W) (d : ShownDetector W) (e : Event) (write : Bool) (a : Access) (actor : Actor) (mid : ℕ → Cell) (new : List (List ℕ)) (plan : List Planned)
    → e ≡ access_event write a → 0 < a.len → actor ≡ acting (content g.cell_of d) a write → SameCells (g.cell_of d.words) mid
    → ArePlanned d.segments d.sets.sets new actor mid (a.at / 4) plan → length plan ≡ (a.at + a.len + 3) / 4 - a.at / 4 → reports_some plan ≡ true → 0 < length (new_reports (content g.cell_of d) e)
makes_reports {W} g d e write a actor mid new plan is some acts same planned len any =
    let planned_here : ArePlanned d.segments d.sets.sets new (acting (content g.cell_of d) a write) (g.cell_of d.words) (a.at / 4) plan =
    subst (λ (f : ℕ → Cell). ArePlanned d.segments d.sets.sets new (acting (content g.cell_of d) a write) f (a.at / 4) plan) (λ i w. same w i)
    (subst (λ (x : Actor). ArePlanned d.segments d.sets.sets new x mid (a.at / 4) plan) acts planned)
    in
    let made = found (d.parts.events + 1) write a.t (a.at / 4) plan in
    let lengths : length made ≡ length (new_reports (content g.cell_of d) e) =
    sym (length-map made (report_of new)) ∙ ap (λ (rs : List Report). length rs) (reports_new g.cell_of d new e write a plan is some planned_here len)
    in
    omega (arith, lengths, some_found (d.parts.events + 1) write a.t (a.at / 4) plan any)

-- what an access may make grow is what its event may
pub access_grows : {W : Type 0} (g : words.Ghosts W) (d : ShownDetector W) (write : Bool) (a : Access) → AccessMayGrow g d a.at a.len (access_event write a) → MayGrow g d (access_event write a)
access_grows g d true a h = h
access_grows g d false a h = h

-- and so for a block
pub block_grows : {W : Type 0} (g : words.Ghosts W) (d : ShownDetector W) (e : Event) (b : Block) → (e ≡ event.Alloc b) ⊎ (e ≡ event.Free b) → LacksWords g d b.at b.len → MayGrow g d e
block_grows g d e b is h = ⊎_elim (λ alloc. subst (λ (x : Event). MayGrow g d x) (sym alloc) h) (λ free. subst (λ (x : Event). MayGrow g d x) (sym free) h) is

-- an access that may make something grow after the map was asked may do so before
access_from : {W : Type 0} (g : words.Ghosts W) (d : ShownDetector W) (mid : W) (at len : ℕ) (e : Event)
    → StayWords (g.is_brought d.words) (g.is_brought mid) → StayWords (g.is_kept d.words) (g.is_kept mid) → content g.cell_of (record d { words = mid }) ≡ content g.cell_of d
    → AccessMayGrow g (record d { words = mid }) at len e → AccessMayGrow g d at len e
access_from g d mid at len e brought kept same h =
    ⊎_elim
    (λ lacks. inl (λ ready. lacks (λ w is. let r = ready w is in (brought w r.0, kept w r.1))))
    (λ more. ⊎_elim
    (λ sets. inr (inl (subst (λ (c : Content). All (Contains d.sets.sets) (sets_asked c e) → ⊥) same sets)))
    (λ reports. inr (inr (subst (λ (c : Content). 0 < length (new_reports c e)) same reports.0, reports.1)))
    more)
    h

-- and so for each event
pub grows_from : {W : Type 0} (g : words.Ghosts W) (d : ShownDetector W) (mid : W) (e : Event)
    → StayWords (g.is_brought d.words) (g.is_brought mid) → StayWords (g.is_kept d.words) (g.is_kept mid) → content g.cell_of (record d { words = mid }) ≡ content g.cell_of d
    → MayGrow g (record d { words = mid }) e → MayGrow g d e
grows_from g d mid (event.Read a) brought kept same h = access_from g d mid a.at a.len (event.Read a) brought kept same h
grows_from g d mid (event.Write a) brought kept same h = access_from g d mid a.at a.len (event.Write a) brought kept same h
grows_from g d mid (event.Alloc b) brought kept same h = λ ready. h (λ w is. let r = ready w is in (brought w r.0, kept w r.1))
grows_from g d mid (event.Free b) brought kept same h = λ ready. h (λ w is. let r = ready w is in (brought w r.0, kept w r.1))
grows_from g d mid (event.Fork p c) brought kept same h = h
grows_from g d mid (event.Join p c) brought kept same h = h
grows_from g d mid (event.Send t k) brought kept same h = h
grows_from g d mid (event.Recv t k) brought kept same h = h
grows_from g d mid (event.Lock t l) brought kept same h = h
grows_from g d mid (event.RdLock t l) brought kept same h = h
grows_from g d mid (event.Unlock t l) brought kept same h = h
