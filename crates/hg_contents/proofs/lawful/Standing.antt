-- A segment behind lawful ones.
use Rattle.std.proofs.Common.{◌≡◌, ◌⊎◌, inl, inr, ℕ, zero, suc, ◌+◌, ◌≤◌, ◌<◌, Bool, true, false, cond, ◌||◌, nat_eq, nat_lt, List, [], ◌∷◌, ◌++◌, length, take, slice_get, Some, None, refl, sym, ap, ◌∙◌, ⊎_elim, arith, length-append, add-zero, zero-add}
use Rattle.std.proofs.Math.Seq.{take-append_seam}
use Rattle.std.proofs.lemmas.Bool.{and_from, cases_lt, eq-eqb, eqb-true, false≢true, lt-ltb, ltb-false, ne_eqb, or_cases, or_left, or_parts, or_right}
use Rattle.std.proofs.lemmas.List.{take-append-le}
use Rattle.std.proofs.lemmas.Option.{slice_get_within}
use Rattle.std.specs.List.{list_any}
use Rattle.hg_model.specs.declared.segment.Segment.{Segment}
use Rattle.hg_model.specs.declared.segment.Mark.{Mark}
use Rattle.hg_model.specs.declared.segment.Mark.TheVariants.{Plain}
use Rattle.hg_model.specs.Restoring.{marks_lawfully}
use Rattle.hg_model.specs.Segments.{last_of, of_message, of_thread, present, rising, thread_at}
use Rattle.hg_model.proofs.Graph.{last_of_lt}
use Rattle.hg_model.proofs.Owners.{present_push}
use Rattle.hg_graph.specs.Graph.{names}
use Rattle.hg_graph.specs.Restoring.{AreSegments, are_predecessors, former, has_former, has_thread, stands_behind}

get_left : {X : Type 0} (xs ys : List X) (k : ℕ) → k < length xs → slice_get (xs ++ ys) k ≡ slice_get xs k
get_left [] ys k lt = absurd (omega arith)
get_left (x ∷ xs) ys zero lt = refl
get_left (x ∷ xs) ys (suc k) lt = get_left xs ys k (omega (arith, lt))

get_last : {X : Type 0} (xs : List X) (x : X) → slice_get (xs ++ x ∷ []) (length xs) ≡ Some x
get_last [] x = refl
get_last (y ∷ xs) x = get_last xs x

some_is : (x y : Segment) → Some x ≡ Some y → x ≡ y
some_is x y e = cc

-- one more segment, which may stand behind the others
pub one_behind : (segments : List Segment) (s : Segment) → AreSegments segments → stands_behind segments s ≡ true → AreSegments (segments ++ s ∷ [])
one_behind segments s are stands k x at = pick (cases_lt k (length segments))
  where
    last : k ≡ length segments → stands_behind (take k (segments ++ s ∷ [])) x ≡ true
    last same =
        let is : s ≡ x = some_is s x (sym (get_last segments s) ∙ ap (slice_get (segments ++ s ∷ [])) (sym same) ∙ at) in
        ap (λ (n : ℕ). stands_behind (take n (segments ++ s ∷ [])) x) same
        ∙ ap (λ xs. stands_behind xs x) (take-append_seam segments (s ∷ []))
        ∙ ap (stands_behind segments) (sym is) ∙ stands

    pick : (k < length segments) ⊎ (length segments ≤ k) → stands_behind (take k (segments ++ s ∷ [])) x ≡ true
    pick (inl before) =
        ap (λ xs. stands_behind xs x) (take-append-le k segments (s ∷ []) (omega (arith, before)))
        ∙ are k x (sym (get_left segments (s ∷ []) k before) ∙ at)
    pick (inr behind) =
        let lt = slice_get_within (segments ++ s ∷ []) k x at in
        last (omega (arith, lt, behind, length-append segments (s ∷ [])))

-- what lets a segment stand there
pub stands_marked : (mark : Mark) (earlier : List Segment) (t : ℕ) (xs : List ℕ) → marks_lawfully earlier mark (of_message mark t xs) ≡ true → 1 ≤ length earlier → t ≤ 1023 → are_predecessors (length earlier) xs ≡ true
    → has_former (former earlier t) xs ≡ true → stands_behind earlier (of_message mark t xs) ≡ true
stands_marked mark earlier t xs lawful some small preceding own =
    and_from (has_thread (length earlier) t) _
    (ap (λ b. nat_lt t (cond b 1 1024)) (ne_eqb (length earlier) 0 (λ e. omega (arith, e, some))) ∙ lt-ltb t 1024 (omega (arith, small)))
    (and_from (are_predecessors (length earlier) xs) _ preceding (and_from (has_former (former earlier t) xs) _ own lawful))

-- and one without a mark
pub stands : (earlier : List Segment) (t : ℕ) (xs : List ℕ) → 1 ≤ length earlier → t ≤ 1023 → are_predecessors (length earlier) xs ≡ true → has_former (former earlier t) xs ≡ true → stands_behind earlier (of_thread t xs) ≡ true
stands earlier t xs = stands_marked Plain earlier t xs refl

pub present_below : (segments : List Segment) (t : ℕ) → 1 ≤ length segments → present segments t < length segments
present_below segments t some = last_of_lt t 0 0 (length segments) segments (omega (arith, some)) (omega arith)

-- no segment of the thread stands there yet
pub new_thread : (segments : List Segment) (t : ℕ) (xs : List ℕ) → names segments t ≡ false → has_former (former segments t) xs ≡ true
new_thread segments t xs none = ap (λ b. has_former (cond b (Some (present segments t)) None) xs) none

-- the last one is among the predecessors
pub old_thread : (segments : List Segment) (t : ℕ) (xs : List ℕ) → list_any (λ k. nat_eq k (present segments t)) xs ≡ true → has_former (former segments t) xs ≡ true
old_thread segments t xs has = pick (names segments t)
  where
    pick : (b : Bool) → has_former (cond b (Some (present segments t)) None) xs ≡ true
    pick true = has
    pick false = refl

-- two numbers, the lesser first
pub rising_precede : (n a b : ℕ) → a < n → b < n → (a ≡ b → ⊥) → are_predecessors n (rising a b) ≡ true
rising_precede n a b first second apart = pick (nat_lt a b) refl
  where
    pick : (c : Bool) → nat_lt a b ≡ c → are_predecessors n (cond c (a ∷ b ∷ []) (b ∷ a ∷ [])) ≡ true
    pick true less = and_from (nat_lt a b) (nat_lt b n) less (lt-ltb b n second)
    pick false more = let le = ltb-false a b more in and_from (nat_lt b a) (nat_lt a n) (lt-ltb b a (omega (arith, le, apart))) (lt-ltb a n first)

pub rising_has : (a b : ℕ) → list_any (λ k. nat_eq k a) (rising a b) ≡ true
rising_has a b = pick (nat_lt a b)
  where
    pick : (c : Bool) → list_any (λ k. nat_eq k a) (cond c (a ∷ b ∷ []) (b ∷ a ∷ [])) ≡ true
    pick true = or_left (nat_eq a a) (nat_eq b a || false) (eq-eqb a a refl)
    pick false = or_right (nat_eq b a) (nat_eq a a || false) (or_left (nat_eq a a) false (eq-eqb a a refl))

-- ---- the present segment of a thread that has one is its own

last_none : (t n k : ℕ) (segments : List Segment) → names segments t ≡ false → last_of t n k segments ≡ n
last_none t n k [] h = refl
last_none t n k (s ∷ segments) h =
    let parts = or_parts (nat_eq s.thread t) (names segments t) h in
    ap (λ b. last_of t (cond b k n) (k + 1) segments) parts.0 ∙ last_none t n (k + 1) segments parts.1

last_found : (t n k : ℕ) (segments : List Segment) → names segments t ≡ true → (i : ℕ) × (i < length segments) × (last_of t n k segments ≡ k + i) × (thread_at segments i ≡ t)
last_found t n k [] h = absurd (false≢true h)
last_found t n k (s ∷ segments) h = from (last_found t (cond (nat_eq s.thread t) k n) (k + 1) segments) (names segments t) refl
  where
    from : (names segments t ≡ true → (i : ℕ) × (i < length segments) × (last_of t (cond (nat_eq s.thread t) k n) (k + 1) segments ≡ k + 1 + i) × (thread_at segments i ≡ t)) → (b : Bool) → names segments t ≡ b
        → (i : ℕ) × (i < length (s ∷ segments)) × (last_of t n k (s ∷ segments) ≡ k + i) × (thread_at (s ∷ segments) i ≡ t)
    from rest true later = let f = rest later in let is = f.2 in (suc f.0, (let lt = f.1 in omega arith), omega arith, f.3)
    from rest false none =
        let here : nat_eq s.thread t ≡ true = ⊎_elim (λ yes. yes) (λ later. absurd (false≢true (sym none ∙ later))) (or_cases (nat_eq s.thread t) (names segments t) h) in
        (0, omega arith, (last_none t (cond (nat_eq s.thread t) k n) (k + 1) segments none ∙ ap (λ b. cond b k n) here ∙ sym (add-zero k)), eqb-true s.thread t here)

pub present_own : (segments : List Segment) (t : ℕ) → names segments t ≡ true → thread_at segments (present segments t) ≡ t
present_own segments t h = let f = last_found t 0 0 segments h in ap (thread_at segments) (f.2 ∙ zero-add f.0) ∙ f.3

pub present_apart : (segments : List Segment) (p c : ℕ) → names segments p ≡ true → names segments c ≡ true → (p ≡ c → ⊥) → present segments p ≡ present segments c → ⊥
present_apart segments p c one other apart same = apart (sym (present_own segments p one) ∙ ap (thread_at segments) same ∙ present_own segments c other)

pub present_stays : (segments : List Segment) (p c : ℕ) (xs : List ℕ) → (c ≡ p → ⊥) → present (segments ++ of_thread c xs ∷ []) p ≡ present segments p
present_stays segments p c xs other = present_push segments (of_thread c xs) p ∙ ap (λ b. cond b (length segments) (present segments p)) (ne_eqb c p other)
