-- A table that was asked for sets has each of them once, and the empty set.
use Rattle.std.proofs.Common.{◌≡◌, ◌⊎◌, ℕ, zero, suc, get_or, inl, inr, ◌<◌, ◌≤◌, Bool, true, false, ◌||◌, List, [], ◌∷◌, ◌++◌, length, Contains, Some, None, Ok, Err, refl, sym, ap, ◌∙◌, subst, ⊎_elim, arith, append_assoc, append-nil, length-append}
use Rattle.std.proofs.lemmas.Bool.{false≢true, or_left, or_right, or_cases, cases_lt}
use Rattle.std.proofs.lemmas.List.{get_or_default}
use Rattle.std.specs.Cmp.Lexicographic.{pointwise}
use Rattle.std.proofs.Common.{nat_eq}
use Rattle.hg_sets.specs.Interning.{Table, Interns, Adds, StandsAt, first_table, with_set}
use Rattle.hg_sets.specs.declared.fault.SetFault.{SetFault}
use Rattle.hg_sets.specs.declared.fault.SetFault.TheVariants.{Full, OutOfMemory}
use Rattle.hg_detect.specs.Making.{Asks}
use Rattle.hg_shards.specs.Asking.{AnswersBySets, HasSets, has_set, size_with}
use Rattle.hg_shards.proofs.Counting.{contains_set, set_at_place, absent_set, alike_member, distinct_push, distinct_one, counted, at_least, has_both}

-- a table that takes no set stays
pub refused_stays : (set : List ℕ) (old new : Table) (fault : SetFault) → Interns old set (Err fault) new → new ≡ old
refused_stays set old new fault h =
    ⊎_elim
    (λ (there : (id : ℕ) × StandsAt old.sets set id × (Err fault ≡ Ok id) × (new ≡ old)). there.3)
    (λ (absent : (Contains old.sets set → ⊥) × Adds old set (Err fault) new). by fault absent.1)
    h
  where
    by : (f : SetFault) → Adds old set (Err f) new → new ≡ old
    by Full a = a.1
    by OutOfMemory a = a.1

pub first_has : (limit : ℕ) → 0 < limit → HasSets limit [] (first_table limit)
first_has limit some = record { limit_is = refl; within = omega arith; distinct = distinct_one []; members = λ q. refl }

or_twice : (a b c : Bool) → (c ≡ true → (a || b) ≡ true) → (a || b) ≡ (a || (b || (c || false)))
or_twice true b c h = refl
or_twice false true c h = refl
or_twice false false true h = absurd (false≢true (h refl))
or_twice false false false h = refl

or_more : (a b c : Bool) → ((a || b) || c) ≡ (a || (b || c))
or_more true b c = refl
or_more false b c = refl

module _ (limit : ℕ) where
  found : (sets : List (List ℕ)) (set : List ℕ) (id : ℕ) (t : Table) → HasSets limit sets t → StandsAt t.sets set id → HasSets limit (sets ++ set ∷ []) t
  found sets set id t h at =
      record {
        limit_is = h.limit_is;
        within = h.within;
        distinct = h.distinct;
        members = λ q.
            h.members q
            ∙ or_twice (pointwise nat_eq q []) (has_set sets q) (pointwise nat_eq q set) (λ is. sym (h.members q) ∙ alike_member t.sets set q is (set_at_place t.sets set id at.0 at.1))
            ∙ ap (λ b. pointwise nat_eq q [] || b) (sym (has_both sets (set ∷ []) q));
      }

  added : (sets : List (List ℕ)) (set : List ℕ) (t : Table) → HasSets limit sets t → (Contains t.sets set → ⊥) → length t.sets < t.limit → HasSets limit (sets ++ set ∷ []) (with_set t set)
  added sets set t h absent lt =
      record {
        limit_is = h.limit_is;
        within = let e = h.limit_is in omega (arith, length-append t.sets (set ∷ []));
        distinct = distinct_push t.sets set h.distinct (absent_set t.sets set absent);
        members = λ q.
            has_both t.sets (set ∷ []) q
            ∙ ap (λ b. b || has_set (set ∷ []) q) (h.members q)
            ∙ or_more (pointwise nat_eq q []) (has_set sets q) (has_set (set ∷ []) q)
            ∙ ap (λ b. pointwise nat_eq q [] || b) (sym (has_both sets (set ∷ []) q));
      }

  pub interned : (sets : List (List ℕ)) (set : List ℕ) (id : ℕ) (old new : Table) → HasSets limit sets old → Interns old set (Ok id) new → HasSets limit (sets ++ set ∷ []) new
  interned sets set id old new h i =
      ⊎_elim
      (λ (there : (k : ℕ) × StandsAt old.sets set k × (Ok id ≡ Ok k) × (new ≡ old)). subst (HasSets limit (sets ++ set ∷ [])) (sym there.3) (found sets set there.0 old h there.1))
      (λ (absent : (Contains old.sets set → ⊥) × Adds old set (Ok id) new). subst (HasSets limit (sets ++ set ∷ [])) (sym absent.1.2) (added sets set old h absent.0 absent.1.0))
      i

  pub asks_none : (before asked : List (List ℕ)) (old new : Table) → HasSets limit before old → Asks old asked None new → HasSets limit (before ++ asked) new
  asks_none before [] old new h a = subst (λ (sets : List (List ℕ)). HasSets limit sets new) (sym (append-nil before)) (subst (HasSets limit before) (sym a) h)
  asks_none before (set ∷ asked) old new h a =
      ⊎_elim
      (λ (went : (id : ℕ) × (mid : Table) × Interns old set (Ok id) mid × Asks mid asked None new).
      subst (λ (sets : List (List ℕ)). HasSets limit sets new) (append_assoc before (set ∷ []) asked)
      (asks_none (before ++ set ∷ []) asked went.1 new (interned before set went.0 old went.1 h went.2) went.3))
      (λ (refused : (fault : SetFault) × Interns old set (Err fault) new × (None ≡ Some fault)). absurd (cc refused.2))
      a

  -- one set more than there is room for
  too_many : (before rest : List (List ℕ)) (set : List ℕ) (t : Table) → HasSets limit before t → (Contains t.sets set → ⊥) → length t.sets ≡ t.limit → limit < size_with (before ++ set ∷ rest)
  too_many before rest set t h absent full =
      let e = h.limit_is in
      let more = at_least (t.sets ++ set ∷ []) ([] ∷ (before ++ set ∷ rest)) (distinct_push t.sets set h.distinct (absent_set t.sets set absent)) all in
      omega (arith, length-append t.sets (set ∷ []))
    where
      last : (q : List ℕ) → has_set (set ∷ []) q ≡ true → has_set (before ++ set ∷ rest) q ≡ true
      last q has = has_both before (set ∷ rest) q ∙ or_right (has_set before q) _ (⊎_elim (λ is. or_left (pointwise nat_eq q set) _ is) (λ none. absurd (false≢true none)) (or_cases (pointwise nat_eq q set) false has))

      old : (q : List ℕ) → has_set ([] ∷ before) q ≡ true → has_set ([] ∷ (before ++ set ∷ rest)) q ≡ true
      old q has =
          ⊎_elim
          (λ empty. or_left (pointwise nat_eq q []) _ empty)
          (λ known. or_right (pointwise nat_eq q []) _ (has_both before (set ∷ rest) q ∙ or_left (has_set before q) _ known))
          (or_cases (pointwise nat_eq q []) (has_set before q) has)

      all : (q : List ℕ) → has_set (t.sets ++ set ∷ []) q ≡ true → has_set ([] ∷ (before ++ set ∷ rest)) q ≡ true
      all q has =
          ⊎_elim
          (λ known. old q (sym (h.members q) ∙ known))
          (λ new. or_right (pointwise nat_eq q []) _ (last q new))
          (or_cases (has_set t.sets q) (has_set (set ∷ []) q) (sym (has_both t.sets (set ∷ []) q) ∙ has))

  pub refused_full : (before rest : List (List ℕ)) (set : List ℕ) (old new : Table) (fault : SetFault) → HasSets limit before old → Interns old set (Err fault) new → Some Full ≡ Some fault → limit < size_with (before ++ set ∷ rest)
  refused_full before rest set old new fault h i is =
      ⊎_elim
      (λ (there : (k : ℕ) × StandsAt old.sets set k × (Err Full ≡ Ok k) × (new ≡ old)). absurd (cc there.2))
      (λ (absent : (Contains old.sets set → ⊥) × Adds old set (Err Full) new). too_many before rest set old h absent.0 absent.1.0)
      (subst (λ (f : SetFault). Interns old set (Err f) new) (let e : fault ≡ Full = cc is in e) i)

  pub asks_full : (before asked : List (List ℕ)) (old new : Table) → HasSets limit before old → Asks old asked (Some Full) new → limit < size_with (before ++ asked)
  asks_full before [] old new h a = absurd a
  asks_full before (set ∷ asked) old new h a =
      ⊎_elim
      (λ (went : (id : ℕ) × (mid : Table) × Interns old set (Ok id) mid × Asks mid asked (Some Full) new).
      subst (λ (sets : List (List ℕ)). limit < size_with sets) (append_assoc before (set ∷ []) asked)
      (asks_full (before ++ set ∷ []) asked went.1 new (interned before set went.0 old went.1 h went.2) went.3))
      (λ (refused : (fault : SetFault) × Interns old set (Err fault) new × (Some Full ≡ Some fault)). refused_full before asked set old new refused.0 h refused.1 refused.2)
      a

  pub size_is : (sets : List (List ℕ)) (t : Table) → HasSets limit sets t → length t.sets ≡ size_with sets
  size_is sets t h = counted t.sets ([] ∷ sets) h.distinct h.members

  -- ---- what a table answers

  at_default : (sets : List (List ℕ)) (set : List ℕ) → Contains sets set → (id : ℕ) × StandsAt sets set id
  at_default [] set has = let lt = has.1 in absurd (omega arith)
  at_default (x ∷ sets) set has = by has.0 has.1 has.2
    where
      later : (k : ℕ) → k < length sets → get_or sets k set ≡ set → get_or sets k [] ≡ set
      later k lt is = sym (get_or_default sets k set [] lt) ∙ is

      by : (k : ℕ) → k < suc (length sets) → get_or (x ∷ sets) k set ≡ set → (id : ℕ) × StandsAt (x ∷ sets) set id
      by zero lt is = (0, (omega arith, is))
      by (suc k) lt is = (suc k, (lt, later k (omega arith) is))

  -- a set that stands in the table is found, and one that does not is added where there is room
  asked_once : (sets : List (List ℕ)) (set : List ℕ) (t : Table) → HasSets limit sets t →
      ((id : ℕ) × (new : Table) × Interns t set (Ok id) new × HasSets limit (sets ++ set ∷ []) new) ⊎ ((Contains t.sets set → ⊥) × (length t.sets ≡ t.limit))
  asked_once sets set t h = by (has_set t.sets set) refl
    where
      full : (Contains t.sets set → ⊥) → (length t.sets < t.limit) ⊎ (t.limit ≤ length t.sets) →
          ((id : ℕ) × (new : Table) × Interns t set (Ok id) new × HasSets limit (sets ++ set ∷ []) new) ⊎ ((Contains t.sets set → ⊥) × (length t.sets ≡ t.limit))
      full absent room =
          ⊎_elim
          (λ (lt : length t.sets < t.limit). inl (length t.sets, with_set t set, inr (absent, (lt, refl, refl)), added sets set t h absent lt))
          (λ (le : t.limit ≤ length t.sets). let most = h.within in let e = h.limit_is in inr (absent, omega arith))
          room

      by : (b : Bool) → has_set t.sets set ≡ b →
          ((id : ℕ) × (new : Table) × Interns t set (Ok id) new × HasSets limit (sets ++ set ∷ []) new) ⊎ ((Contains t.sets set → ⊥) × (length t.sets ≡ t.limit))
      by true has =
          let at = at_default t.sets set (contains_set t.sets set has) in
          inl (at.0, t, inl (at.0, at.1, refl, refl), found sets set at.0 t h at.1)
      by false none =
          full (λ has. let at = at_default t.sets set has in false≢true (sym none ∙ set_at_place t.sets set at.0 at.1.0 at.1.1)) (cases_lt (length t.sets) t.limit)

  room_for : (sets more : List (List ℕ)) (t : Table) → HasSets limit sets t → size_with (sets ++ more) ≤ limit → (new : Table) × Asks t more None new × HasSets limit (sets ++ more) new
  room_for sets [] t h le = (t, refl, subst (λ (all : List (List ℕ)). HasSets limit all t) (sym (append-nil sets)) h)
  room_for sets (set ∷ more) t h le =
      ⊎_elim
      (λ (went : (id : ℕ) × (new : Table) × Interns t set (Ok id) new × HasSets limit (sets ++ set ∷ []) new).
      let rest = room_for (sets ++ set ∷ []) more went.1 went.3 (subst (λ (all : List (List ℕ)). size_with all ≤ limit) (sym (append_assoc sets (set ∷ []) more)) le) in
      (rest.0, inl (went.0, went.1, went.2, rest.1), subst (λ (all : List (List ℕ)). HasSets limit all rest.0) (append_assoc sets (set ∷ []) more) rest.2))
      (λ (full : (Contains t.sets set → ⊥) × (length t.sets ≡ t.limit)). let lt = too_many sets more set t h full.0 full.1 in absurd (omega (arith, lt, le)))
      (asked_once sets set t h)

  no_room_for : (sets more : List (List ℕ)) (t : Table) → HasSets limit sets t → limit < size_with (sets ++ more) → (new : Table) × Asks t more (Some Full) new
  no_room_for sets [] t h lt = let e = size_is sets t h in let le = h.within in let same = ap size_with (append-nil sets) in absurd (omega (arith, e, le, same, lt))
  no_room_for sets (set ∷ more) t h lt =
      ⊎_elim
      (λ (went : (id : ℕ) × (new : Table) × Interns t set (Ok id) new × HasSets limit (sets ++ set ∷ []) new).
      let rest = no_room_for (sets ++ set ∷ []) more went.1 went.3 (subst (λ (all : List (List ℕ)). limit < size_with all) (sym (append_assoc sets (set ∷ []) more)) lt) in
      (rest.0, inl (went.0, went.1, went.2, rest.1)))
      (λ (full : (Contains t.sets set → ⊥) × (length t.sets ≡ t.limit)). (t, inr (Full, inr (full.0, (full.1, refl)), refl)))
      (asked_once sets set t h)

  pub answers : (sets more : List (List ℕ)) (t : Table) → HasSets limit sets t → AnswersBySets limit sets more t
  answers sets more t h = record { room = room_for sets more t h; none = no_room_for sets more t h }

pub tables_answer_lem : (limit : ℕ) → 0 < limit → HasSets limit [] (first_table limit) × ((sets more : List (List ℕ)) (t : Table) → HasSets limit sets t → AnswersBySets limit sets more t)
tables_answer_lem limit some = (first_has limit some, answers limit)
