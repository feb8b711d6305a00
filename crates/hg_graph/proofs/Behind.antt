-- The first segment of a thread that another segment reaches: what holds at each turn of the search.
use Rattle.std.proofs.Common.{◌≡◌, ℕ, zero, suc, ◌+◌, ◌-◌, ◌<◌, ◌≤◌, Bool, true, false, cond, ◌&&◌, nat_eq, nat_le, List, [], ◌∷◌, ◌++◌, length, get_or, refl, sym, ap, ◌∙◌, subst, ⊎_elim, arith, eqb-true}
use Rattle.std.proofs.lemmas.Bool.{or_cases, or_left, or_right, and_parts, and_from, and_right, le-leb, leb-true, cases_eq, eq-eqb, false_from_ne_true, ne_eqb}
use Rattle.std.proofs.Math.Seq.{get_or-append_seam}
use Rattle.std.proofs.lemmas.List.{get_or_append_left, length-append}
use Rattle.std.proofs.lemmas.List.Folds.{Any-from_list_any, list_any_at}
use Rattle.hg_model.specs.declared.segment.Segment.{Segment}
use Rattle.hg_model.specs.Segments.{thread_at}
use Rattle.hg_model.specs.Paths.{before, HasEdge, IsRising, reaches}
use Rattle.hg_model.proofs.Graph.{member_below}
use Rattle.hg_model.proofs.Reaching.{reaches_itself, reaches_le, reaches_last, reaches_on}
use Rattle.hg_graph.proofs.Sweeping.{before_read, thread_read}
use Rattle.hg_graph.specs.Entering.{entry, goes_on, is_behind, least}

-- numbers at which the test does not hold are passed over
pub least_skip : (n m k j l : ℕ) (holds : ℕ → Bool) → l ≡ n + m → j ≡ k + n → ((i : ℕ) → k ≤ i → i < k + n → holds i ≡ false) → least k l holds ≡ least j m holds
least_skip zero m k j l holds whole at none =
    let all : l ≡ m = omega (arith, whole) in
    let here : k ≡ j = omega (arith, at) in
    ap (λ x. least k x holds) all ∙ ap (λ x. least x m holds) here
least_skip (suc n) m k j l holds whole at none =
    let all : l ≡ suc (n + m) = omega (arith, whole) in
    ap (λ x. least k x holds) all
    ∙ ap (λ b. cond b k (least (suc k) (n + m) holds)) (none k (omega arith) (omega arith))
    ∙ least_skip n m (suc k) j (n + m) holds refl (omega (arith, at)) (λ i more less. none i (omega (arith, more)) (omega (arith, less)))

pub least_found : (k l : ℕ) (holds : ℕ → Bool) → 0 < l → holds k ≡ true → least k l holds ≡ k
least_found k zero holds some found = let no : ⊥ = omega (arith, some) in absurd no
least_found k (suc n) holds some found = ap (λ b. cond b k (least (suc k) n holds)) found

-- segments before s are not reached
unreached : (segments : List Segment) → IsRising segments → (s g i : ℕ) → i < s → is_behind segments s g i ≡ false
unreached segments rising s g i less =
    and_right (nat_eq (thread_at segments i) (thread_at segments g)) (reaches segments s i)
    (false_from_ne_true _ (λ h. let le = reaches_le segments rising s i h in omega (arith, le, less)))

pub entry_early : (segments : List Segment) → IsRising segments → (s g : ℕ) → g ≤ s → g ≡ entry segments s g
entry_early segments rising s g le =
    sym (least_skip g 0 0 g g (is_behind segments s g) (omega arith) (omega arith) (λ i _ less. unreached segments rising s g i (omega (arith, less, le))))

-- The segments before h are no entry. The row says of those from s on whether s reaches them.
pub record Enters (segments : List Segment) (s g h : ℕ) (reached : List Bool) : Type 0 where
  pub upto : h ≤ g
  pub len : length reached + s ≡ h
  pub each : (i : ℕ) → s ≤ i → i < h → get_or reached (i - s) false ≡ reaches segments s i
  pub rest : entry segments s g ≡ least h (g - h) (is_behind segments s g)

pub enters : (segments : List Segment) → IsRising segments → (s g : ℕ) (reached : List Bool) → s ≤ g → reached ≡ [] → Enters segments s g s reached
enters segments rising s g reached le none =
    record {
      upto = le;
      len = let zero_len : length reached ≡ 0 = ap (λ (xs : List Bool). length xs) none in omega (arith, zero_len);
      each = λ i more less. let no : ⊥ = omega (arith, more, less) in absurd no;
      rest = least_skip s (g - s) 0 s g (is_behind segments s g) (omega (arith, le)) (omega arith) (λ i _ less. unreached segments rising s g i (omega (arith, less)));
    }

same_bool : (a b : Bool) → (a ≡ true → b ≡ true) → (b ≡ true → a ≡ true) → a ≡ b
same_bool true b on back = sym (on refl)
same_bool false true on back = back refl
same_bool false false on back = refl

-- whether s reaches the next segment, by those right before it
pub next_reached : (segments : List Segment) → IsRising segments → (s g h : ℕ) (reached : List Bool) → Enters segments s g h reached → goes_on reached s (before segments h) ≡ reaches segments s h
next_reached segments rising s g h reached w = same_bool _ _ on back
  where
    test : ℕ → Bool
    test x = nat_le s x && get_or reached (x - s) false

    on : goes_on reached s (before segments h) ≡ true → reaches segments s h ≡ true
    on given =
        ⊎_elim
        (λ none. let zero_len = eqb-true (length reached) 0 none in let len = w.len in
        let same : s ≡ h = omega (arith, zero_len, len) in subst (λ n. reaches segments s n ≡ true) same (reaches_itself segments s))
        (λ some. let found = Any-from_list_any test (before segments h) some in
        let edge : HasEdge segments found.1 h = (found.0, found.2, found.3) in
        let parts = and_parts (nat_le s found.1) _ found.4 in
        let low = leb-true s found.1 parts.0 in
        reaches_on segments rising s found.1 h (sym (w.each found.1 low (member_below segments rising found.1 h edge)) ∙ parts.1) edge)
        (or_cases (nat_eq (length reached) 0) _ given)

    back : reaches segments s h ≡ true → goes_on reached s (before segments h) ≡ true
    back given =
        ⊎_elim
        (λ same. or_left (nat_eq (length reached) 0) _ (let len = w.len in eq-eqb (length reached) 0 (omega (arith, same, len))))
        (λ other. let last = reaches_last segments rising s h given other in
        let low = reaches_le segments rising s last.0 last.2 in
        let less = member_below segments rising last.0 h last.1 in
        let holds : test last.0 ≡ true = and_from (nat_le s last.0) _ (le-leb s last.0 low) (w.each last.0 low less ∙ last.2) in
        or_right (nat_eq (length reached) 0) _ (list_any_at test (before segments h) last.1.0 last.0 last.1.1 (ap test last.1.2 ∙ holds)))
        (cases_eq s h)

-- a segment that is no entry is passed over
pub enters_next : (segments : List Segment) → IsRising segments → (s g h : ℕ) (reached : List Bool) (is_reached : Bool) → Enters segments s g h reached → h < g → is_reached ≡ reaches segments s h
    → is_behind segments s g h ≡ false → Enters segments s g (h + 1) (reached ++ is_reached ∷ [])
enters_next segments rising s g h reached is_reached w less is none =
    record {
      upto = omega (arith, less);
      len = let len = w.len in omega (arith, len, length-append reached (is_reached ∷ []));
      each = λ i more before. ⊎_elim
          (λ same. let len = w.len in let place : i - s ≡ length reached = omega (arith, same, len) in
          ap (λ n. get_or (reached ++ is_reached ∷ []) n false) place ∙ get_or-append_seam reached is_reached [] false ∙ is ∙ ap (λ n. reaches segments s n) (sym same))
          (λ other. let len = w.len in get_or_append_left reached (is_reached ∷ []) false (i - s) (omega (arith, len, more, before, other)) ∙ w.each i more (omega (arith, before, other)))
          (cases_eq i h);
      rest = w.rest ∙ least_skip 1 (g - (h + 1)) h (h + 1) (g - h) (is_behind segments s g) (omega (arith, less)) refl (λ i more before. let same : i ≡ h = omega (arith, more, before) in ap (is_behind segments s g) same ∙ none);
    }

-- the entry is found
pub entry_found : (segments : List Segment) (s g h : ℕ) (reached : List Bool) → Enters segments s g h reached → h < g → is_behind segments s g h ≡ true → h ≡ entry segments s g
entry_found segments s g h reached w less found = sym (w.rest ∙ least_found h (g - h) (is_behind segments s g) (omega (arith, less)) found)

-- there is none before g
pub entry_last : (segments : List Segment) (s g h : ℕ) (reached : List Bool) → Enters segments s g h reached → g ≤ h → g ≡ entry segments s g
entry_last segments s g h reached w end =
    let upto = w.upto in
    let none : g - h ≡ 0 = omega (arith, end) in
    let at : h ≡ g = omega (arith, upto, end) in
    sym (w.rest ∙ ap (λ n. least h n (is_behind segments s g)) none ∙ at)

-- of the two tests one fails
pub not_behind_thread : (segments : List Segment) (s g h : ℕ) → nat_eq (thread_at segments h) (thread_at segments g) ≡ false → is_behind segments s g h ≡ false
not_behind_thread segments s g h other = ap (λ b. b && reaches segments s h) other

pub not_behind_reached : (segments : List Segment) (s g h : ℕ) → reaches segments s h ≡ false → is_behind segments s g h ≡ false
not_behind_reached segments s g h other = and_right (nat_eq (thread_at segments h) (thread_at segments g)) _ other

pub behind_both : (segments : List Segment) (s g h : ℕ) → nat_eq (thread_at segments h) (thread_at segments g) ≡ true → reaches segments s h ≡ true → is_behind segments s g h ≡ true
behind_both segments s g h same reached = and_from (nat_eq (thread_at segments h) (thread_at segments g)) _ same reached

-- whether the next segment is reached, as it was read
pub reached_is : (segments : List Segment) → IsRising segments → (s g h : ℕ) (reached row : List Bool) (d : Segment) (xs : List ℕ) (is_reached : Bool) → Enters segments s g h reached → h < length segments → row ≡ reached → xs ≡ (get_or segments h d).before
    → is_reached ≡ goes_on row s xs → is_reached ≡ reaches segments s h
reached_is segments rising s g h reached row d xs is_reached w lt same given is =
    is ∙ ap (λ r. goes_on r s xs) same ∙ ap (goes_on reached s) (before_read segments h d xs lt given) ∙ next_reached segments rising s g h reached w

pub same_thread : (segments : List Segment) (h g : ℕ) (d e : Segment) → h < length segments → g < length segments → (get_or segments h d).thread ≡ (get_or segments g e).thread → nat_eq (thread_at segments h) (thread_at segments g) ≡ true
same_thread segments h g d e lt within same = eq-eqb _ _ (sym (thread_read segments h d _ lt refl) ∙ same ∙ thread_read segments g e _ within refl)

pub other_thread : (segments : List Segment) (h g : ℕ) (d e : Segment) → h < length segments → g < length segments → ((get_or segments h d).thread ≡ (get_or segments g e).thread → ⊥) → nat_eq (thread_at segments h) (thread_at segments g) ≡ false
other_thread segments h g d e lt within other = ne_eqb _ _ (λ same. other (thread_read segments h d _ lt refl ∙ same ∙ sym (thread_read segments g e _ within refl)))
