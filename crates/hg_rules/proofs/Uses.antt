-- The table of locks agrees with the threads, before and after a change of one thread.
use Rattle.std.proofs.Common.{◌≡◌, ◌≢◌, ℕ, ◌<◌, ◌≤◌, Bool, true, false, cond, ◌&&◌, ◌||◌, ◌==◌, nat_eq, nat_lt, List, [], ◌∷◌, filter, set, get_or, count_by, Option, Some, None, refl, sym, ap, ◌∙◌, subst, ⊎_elim, arith, length-set, get_or-set_same, get_or-set_other}
use Rattle.std.proofs.lemmas.Bool.{ne_eqb, eqb-false, lt-ltb, ltb-true, ltb-false, cases_eq, or_parts, and_parts, or_right, or_left}
use Rattle.std.proofs.lemmas.List.Sums.{sum_by-cons}
use Rattle.std.specs.List.{list_any}
use Rattle.hg_model.specs.declared.held.HeldLock.{HeldLock}
use Rattle.hg_model.specs.declared.thread.ThreadState.{ThreadState}
use Rattle.hg_rules.specs.declared.table.LockUse.{LockUse}
use Rattle.hg_rules.specs.declared.table.LockUse.TheVariants.{Reading, Writing}
use Rattle.hg_model.specs.Locks.{with_hold, has_lock, has_lock_for_writing}
use Rattle.hg_model.specs.Verdicts.{has_thread}
use Rattle.hg_rules.specs.Tables.{started, holders, writers, use_of, TablesAgree}
use Rattle.hg_rules.proofs.Slots.{number_at, numbered_set, one_if, count_set, count_added, any_is_count}

abbrev pub has : ℕ → ThreadState → Bool
has l x = has_lock x.held l

abbrev pub writes : ℕ → ThreadState → Bool
writes l x = has_lock_for_writing x.held l

pub any_weaker : {X : Type 0} (p q : X → Bool) → ((x : X) → p x ≡ true → q x ≡ true) → (xs : List X) → list_any p xs ≡ true → list_any q xs ≡ true
any_weaker p q h [] e = e
any_weaker p q h (x ∷ xs) e =
    elim (p x) as (λ b. p x ≡ b → (b || list_any p xs) ≡ true → (q x || list_any q xs) ≡ true) [
      | true ↦ λ yes _. or_left (q x) _ (h x yes)
      | false ↦ λ _ later. or_right (q x) _ (any_weaker p q h xs later)
    ] refl e

pub count_weaker : {X : Type 0} (p q : X → Bool) → ((x : X) → p x ≡ true → q x ≡ true) → (xs : List X) → count_by p xs ≤ count_by q xs
count_weaker p q h [] = omega arith
count_weaker p q h (x ∷ xs) =
    let rest = count_weaker p q h xs in
    let ps = sum_by-cons (λ y. one_if (p y)) x xs in
    let qs = sum_by-cons (λ y. one_if (q y)) x xs in
    let here : one_if (p x) ≤ one_if (q x) = below (p x) (q x) (h x) in
    omega arith
  where
    below : (a b : Bool) → (a ≡ true → b ≡ true) → one_if a ≤ one_if b
    below false b k = omega arith
    below true b k = rw (k refl) (omega arith)

writes_has : (l : ℕ) (x : ThreadState) → writes l x ≡ true → has l x ≡ true
writes_has l x h = any_weaker (λ (k : HeldLock). nat_eq k.lock l && k.write) (λ (k : HeldLock). nat_eq k.lock l) (λ k b. (and_parts (nat_eq k.lock l) k.write b).0) x.held h

pub writers_le_holders : (threads : List ThreadState) (l : ℕ) → writers threads l ≤ holders threads l
writers_le_holders threads l = count_weaker (writes l) (has l) (writes_has l) threads

pub reading_means : (threads : List ThreadState) (l n : ℕ) → use_of threads l ≡ Reading n → (writers threads l ≡ 0) × (holders threads l ≡ n)
reading_means threads l n h = elim (nat_lt 0 (writers threads l)) as (λ b. nat_lt 0 (writers threads l) ≡ b → cond b Writing (Reading (holders threads l)) ≡ Reading n → (writers threads l ≡ 0) × (holders threads l ≡ n)) [
  | true ↦ λ _ e. absurd (cc)
  | false ↦ λ none e. (let z = ltb-false 0 (writers threads l) none in omega arith, cc)
] refl h

pub writing_means : (threads : List ThreadState) (l : ℕ) → use_of threads l ≡ Writing → 0 < writers threads l
writing_means threads l h = elim (nat_lt 0 (writers threads l)) as (λ b. nat_lt 0 (writers threads l) ≡ b → cond b Writing (Reading (holders threads l)) ≡ Writing → 0 < writers threads l) [
  | true ↦ λ some _. ltb-true 0 (writers threads l) some
  | false ↦ λ _ e. absurd (cc)
] refl h

-- what an entry says of a lock
pub any_reading : (threads : List ThreadState) (l n : ℕ) → use_of threads l ≡ Reading n → (list_any (has l) threads ≡ nat_lt 0 n) × (list_any (writes l) threads ≡ false)
any_reading threads l n h =
    let m = reading_means threads l n h in
    (any_is_count (has l) threads ∙ ap (λ (k : ℕ). nat_lt 0 k) m.1, any_is_count (writes l) threads ∙ ap (λ (k : ℕ). nat_lt 0 k) m.0)

pub any_writing : (threads : List ThreadState) (l : ℕ) → use_of threads l ≡ Writing → (list_any (has l) threads ≡ true) × (list_any (writes l) threads ≡ true)
any_writing threads l h =
    let m = writing_means threads l h in
    (any_is_count (has l) threads ∙ lt-ltb 0 (holders threads l) (omega (arith, writers_le_holders threads l)), any_is_count (writes l) threads ∙ lt-ltb 0 (writers threads l) m)

-- the entries of a lock that an event leaves alone
same_use : (slots : List (Option ThreadState)) (t k : ℕ) (x y : ThreadState) → get_or slots t None ≡ Some x → has k y ≡ has k x → writes k y ≡ writes k x →
    (holders (started (set slots t (Some y))) k ≡ holders (started slots) k) × (writers (started (set slots t (Some y))) k ≡ writers (started slots) k)
same_use slots t k x y e h w =
    let hs = count_set (has k) t slots x y e in
    let ws = count_set (writes k) t slots x y e in
    let a = ap one_if h in
    let b = ap one_if w in
    (omega arith, omega arith)

-- one thread changes, and with it the use of one lock
pub agree_changed : (slots : List (Option ThreadState)) (uses : List LockUse) (t l : ℕ) (x y : ThreadState) (u : LockUse) →
    TablesAgree slots uses → get_or slots t None ≡ Some x → y.number ≡ x.number →
    ((k : ℕ) → k ≢ l → has k y ≡ has k x) → ((k : ℕ) → k ≢ l → writes k y ≡ writes k x) →
    l < 65536 → u ≡ use_of (started (set slots t (Some y))) l → (0 < writers (started (set slots t (Some y))) l → holders (started (set slots t (Some y))) l ≡ 1) →
    TablesAgree (set slots t (Some y)) (set uses l u)
agree_changed slots uses t l x y u ag e n hs ws lt entry one =
    record {
      slots_len = length-set slots t (Some y) ∙ ag.slots_len;
      uses_len = length-set uses l u ∙ ag.uses_len;
      numbered = numbered_set 0 t slots y ag.numbered (n ∙ number_at 0 t slots x ag.numbered e);
      each_use = λ k small. ⊎_elim
          (λ same. subst (λ (m : ℕ). get_or (set uses l u) m Writing ≡ use_of (started (set slots t (Some y))) m) (sym same) (get_or-set_same uses l u Writing (let len = ag.uses_len in omega arith) ∙ entry))
          (λ other.
          let s = same_use slots t k x y e (hs k other) (ws k other) in
          get_or-set_other uses l k u Writing other ∙ ag.each_use k small ∙ (λ i. cond (nat_lt 0 (sym s.1 i)) Writing (Reading (sym s.0 i))))
          (cases_eq k l);
      one_writer = λ k some. ⊎_elim
          (λ same. subst (λ (m : ℕ). 0 < writers (started (set slots t (Some y))) m → holders (started (set slots t (Some y))) m ≡ 1) (sym same) one some)
          (λ other.
          let s = same_use slots t k x y e (hs k other) (ws k other) in
          s.0 ∙ ag.one_writer k (subst (λ (m : ℕ). 0 < m) s.1 some))
          (cases_eq k l);
    }

-- one thread changes, and no lock
pub agree_same : (slots : List (Option ThreadState)) (uses : List LockUse) (t : ℕ) (x y : ThreadState) →
    TablesAgree slots uses → get_or slots t None ≡ Some x → y.number ≡ x.number → y.held ≡ x.held → TablesAgree (set slots t (Some y)) uses
agree_same slots uses t x y ag e n held =
    record {
      slots_len = length-set slots t (Some y) ∙ ag.slots_len;
      uses_len = ag.uses_len;
      numbered = numbered_set 0 t slots y ag.numbered (n ∙ number_at 0 t slots x ag.numbered e);
      each_use = λ k small. let s = same_use slots t k x y e (ap (λ hs. has_lock hs k) held) (ap (λ hs. has_lock_for_writing hs k) held) in ag.each_use k small ∙ (λ i. cond (nat_lt 0 (sym s.1 i)) Writing (Reading (sym s.0 i)));
      one_writer = λ k some. let s = same_use slots t k x y e (ap (λ hs. has_lock hs k) held) (ap (λ hs. has_lock_for_writing hs k) held) in s.0 ∙ ag.one_writer k (subst (λ (m : ℕ). 0 < m) s.1 some);
    }

-- a thread that holds nothing is added
pub agree_added : (slots : List (Option ThreadState)) (uses : List LockUse) (t : ℕ) (y : ThreadState) →
    TablesAgree slots uses → get_or slots t None ≡ None → t < 1024 → y.number ≡ t → y.held ≡ [] → TablesAgree (set slots t (Some y)) uses
agree_added slots uses t y ag e lt n held =
    record {
      slots_len = length-set slots t (Some y) ∙ ag.slots_len;
      uses_len = ag.uses_len;
      numbered = numbered_set 0 t slots y ag.numbered (omega arith);
      each_use = λ k small. let s = added k in ag.each_use k small ∙ (λ i. cond (nat_lt 0 (sym s.1 i)) Writing (Reading (sym s.0 i)));
      one_writer = λ k some. let s = added k in s.0 ∙ ag.one_writer k (subst (λ (m : ℕ). 0 < m) s.1 some);
    }
  where
    added : (k : ℕ) → (holders (started (set slots t (Some y))) k ≡ holders (started slots) k) × (writers (started (set slots t (Some y))) k ≡ writers (started slots) k)
    added k =
        let len = ag.slots_len in
        let hs = count_added (has k) t slots y (omega arith) e in
        let ws = count_added (writes k) t slots y (omega arith) e in
        let a = ap (λ h. one_if (has_lock h k)) held in
        let b = ap (λ h. one_if (has_lock_for_writing h k)) held in
        (omega arith, omega arith)

-- a test of the locks with one more, which was absent
pub any_with_hold : (p : HeldLock → Bool) (h : HeldLock) (hs : List HeldLock) → has_lock hs h.lock ≡ false → list_any p (with_hold h hs) ≡ (p h || list_any p hs)
any_with_hold p h [] absent = refl
any_with_hold p h (x ∷ hs) absent =
    let parts = or_parts (nat_eq x.lock h.lock) (has_lock hs h.lock) absent in
    elim (nat_lt h.lock x.lock) as (λ b. list_any p (cond b (h ∷ x ∷ hs) (cond (nat_eq h.lock x.lock) (h ∷ hs) (x ∷ with_hold h hs))) ≡ (p h || (p x || list_any p hs))) [
      | true ↦ refl
      | false ↦ rw (ne_eqb h.lock x.lock (λ s. eqb-false x.lock h.lock parts.0 (sym s))) (ap (λ b. p x || b) (any_with_hold p h hs parts.1) ∙ swap_or (p x) (p h) (list_any p hs))
    ]
  where
    swap_or : (a b d : Bool) → (a || (b || d)) ≡ (b || (a || d))
    swap_or true true d = refl
    swap_or true false d = refl
    swap_or false b d = refl

-- a filter that keeps what passes a test
pub any_filter_keeps : (p keep : HeldLock → Bool) → ((h : HeldLock) → keep h ≡ false → p h ≡ false) → (hs : List HeldLock) → list_any p (filter keep hs) ≡ list_any p hs
any_filter_keeps p keep k [] = refl
any_filter_keeps p keep k (x ∷ hs) =
    elim (keep x) as (λ b. keep x ≡ b → list_any p (cond b (x ∷ filter keep hs) (filter keep hs)) ≡ (p x || list_any p hs)) [
      | true ↦ λ _. ap (λ b. p x || b) (any_filter_keeps p keep k hs)
      | false ↦ λ no. any_filter_keeps p keep k hs ∙ ap (λ b. b || list_any p hs) (sym (k x no))
    ] refl

-- a filter that drops what passes a test
pub any_filter_drops : (p keep : HeldLock → Bool) → ((h : HeldLock) → keep h ≡ true → p h ≡ false) → (hs : List HeldLock) → list_any p (filter keep hs) ≡ false
any_filter_drops p keep k [] = refl
any_filter_drops p keep k (x ∷ hs) =
    elim (keep x) as (λ b. keep x ≡ b → list_any p (cond b (x ∷ filter keep hs) (filter keep hs)) ≡ false) [
      | true ↦ λ yes. ap (λ b. b || list_any p (filter keep hs)) (k x yes) ∙ any_filter_drops p keep k hs
      | false ↦ λ _. any_filter_drops p keep k hs
    ] refl

-- what is true of no thread is not true of one
pub none_of_any : (threads : List ThreadState) (t : ℕ) (test : ThreadState → Bool) → list_any test threads ≡ false → has_thread threads t test ≡ false
none_of_any [] t test h = refl
none_of_any (x ∷ xs) t test h =
    let parts = or_parts (test x) (list_any test xs) h in
    (λ j. ((x.number == t) && parts.0 j) || none_of_any xs t test parts.1 j) ∙ neither (x.number == t)
  where
    neither : (b : Bool) → ((b && false) || false) ≡ false
    neither true = refl
    neither false = refl
